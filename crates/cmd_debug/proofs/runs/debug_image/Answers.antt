use Rattle.std.proofs.Common.{ℕ, List, Option, refl, ap, ◌∙◌}
use Rattle.cmd_answer.specs.Answer.{Answer}
use Rattle.mx_io.specs.Shelves.{Told, Counts}
use Rattle.cmd_answer.specs.Protocol.{Protocol, Answers, Performed}
use Rattle.cmd_answer.specs.Replies.{reply_answer}
use Rattle.cmd_answer.proofs.Replies.{reply_fails}
use Rattle.cmd_options.specs.Options.{seen_files}
use Rattle.cmd_simulate.specs.Machines.{if_asked, files_protocol}
use Rattle.cmd_simulate.proofs.Readings.{FilesRefused}
use Rattle.cmd_debug.specs.Sessions.{image_answer}
use Rattle.cmd_debug.proofs.runs.debug_image.Goals as goal

pub returns-in_err-inputs-clause-performed : goal.returns-in_err-inputs-clause-performed
returns-in_err-inputs-clause-performed g c =
    let told : Told = g.S.Shelf.told c.args.shelf.now in
    let before : Counts = g.S.Shelf.counts c.args.shelf.now in
    let between : Counts = g.S.Shelf.counts c.read_run_files.new.shelf in
    let image = c.args.image.now in
    let next : List ℕ → List ℕ → Protocol =
    λ requests bytes. Answers (image_answer image.code.items image.user_data.items (if_asked c.args.asks bytes) requests c.args.address c.args.limits.now) in
    reply_fails c.from_residual.result c.in_err-inputs.field-0.0 (FilesRefused told (seen_files c.args.files.now) before between)
    (Performed told (files_protocol (seen_files c.args.files.now) next) before between) c.from_residual.ensures.1 c.in_err-inputs.ensures.refused
    (λ answer refused. refused next)

pub returns-clause-performed : goal.returns-clause-performed
returns-clause-performed g c =
    let after : Counts = g.S.Shelf.counts c.read_run_files.new.shelf in
    let image = c.args.image.now in
    let inputs = c.in_ok-inputs.inputs in
    let answered : Option (List ℕ)
    → Answer = λ input. image_answer image.code.items image.user_data.items input inputs.requests c.args.address c.args.limits.now in
    let next : List ℕ → List ℕ → Protocol =
    λ requests bytes. Answers (image_answer image.code.items image.user_data.items (if_asked c.args.asks bytes) requests c.args.address c.args.limits.now) in
    c.in_ok-inputs.ensures.given next after (reply_answer c.in_ok-reply.reply)
    (refl, c.in_ok-reply.ensures ∙ ap answered c.if_asked-input.ensures ∙ ap (λ bytes. answered (if_asked c.args.asks bytes)) c.as_slice.ensures.value)
