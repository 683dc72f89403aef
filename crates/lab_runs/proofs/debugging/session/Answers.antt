-- The session reads a shelf in memory, which holds what it is given and counts no fault.
use Rattle.std.proofs.Common.{Some, Ok, refl, ap, ◌∙◌}
use Rattle.mx_io.specs.Shelves.{Told, Counts}
use Rattle.cmd_answer.specs.Answer.{Answer}
use Rattle.cmd_answer.specs.Protocol.{Performed}
use Rattle.cmd_answer.proofs.Replies.{reply_weaker, replied_is}
use Rattle.cmd_debug.specs.Sessions.{session_protocol}
use Rattle.lab_runs.specs.QuietFiles.{told_of, counts_of}
use Rattle.lab_runs.specs.Sessions.{session_files, IsSessionOf}
use Rattle.lab_runs.proofs.debugging.session.Goals as goal

pub returns-clause-answered : goal.returns-clause-answered
returns-clause-answered c =
    let code = c.args.image.now.code.items in
    let user_data = c.args.image.now.user_data.items in
    let asks = c.args.asks in
    let address = c.args.address in
    let stimulus = c.args.stimulus.now in
    let limits = c.args.limits.now in
    let told : Told = told_of c.in_ok-shelf.shelf in
    let before : Counts = counts_of c.in_ok-shelf.shelf in
    let after : Counts = counts_of c.debug_image-outcome.new.shelf in
    let is : Answer → Type 0 = IsSessionOf code user_data asks address stimulus.cycles.items stimulus.input.items limits in
    replied_is c.debug_image-outcome.result (Ok c.in_ok-reply.reply) is c.in_ok-reply.ensures
    (reply_weaker c.debug_image-outcome.result
    (Performed told (session_protocol session_files limits code user_data asks address) before after) is c.debug_image-outcome.ensures.performed
    (λ answer ran. record {
      told = told;
      before = before;
      after = after;
      tells = refl;
      cycles_held = c.in_ok-shelf.ensures.interrupts ∙ ap Some c.as_slice-cycles.ensures.value;
      input_held = c.in_ok-shelf.ensures.input ∙ ap Some c.as_slice-input.ensures.value;
      quiet = refl;
      performed = ran;
    }))
