use Rattle.std.proofs.Common.{ℕ, List, Option, option_map}
use Rattle.mx_io.specs.Shelves.{Told, Counts}
use Rattle.cmd_answer.specs.Protocol.{Protocol, Answers, Performed}
use Rattle.cmd_answer.proofs.Replies.{reply_fails}
use Rattle.mx_tasks.specs.Sharing.{shared}
use Rattle.cmd_simulate.specs.Machines.{requests_protocol}
use Rattle.cmd_simulate.proofs.Readings.{RequestsRefused}
use Rattle.cmd_share.specs.Runs.{shared_answer}
use Rattle.cmd_share.proofs.runs.run_shared.Goals as goal

pub returns-in_err-requests-clause-performed : goal.returns-in_err-requests-clause-performed
returns-in_err-requests-clause-performed g c =
    let told : Told = g.S.Shelf.told c.args.shelf.now in
    let before : Counts = g.S.Shelf.counts c.args.shelf.now in
    let between : Counts = g.S.Shelf.counts c.read_requests.new.shelf in
    let interrupts : Option (List ℕ) = option_map (λ s. s.now) c.args.interrupts in
    let next : List ℕ → Protocol =
    λ requests. Answers (shared_answer (shared c.args.image.now.code.items c.args.image.now.user_data.items) requests c.args.budget) in
    reply_fails c.from_residual.result c.in_err-requests.field-0.0 (RequestsRefused told interrupts before between)
    (Performed told (requests_protocol interrupts next) before between) c.from_residual.ensures.1 c.in_err-requests.ensures.refused
    (λ answer refused. refused next)
