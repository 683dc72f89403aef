use Rattle.mx_layout.specs.Layout.{IsLayout}
use Rattle.mx_layout.specs.Overlong.{Overlong, IsOverlong}
use Rattle.mx_validate.specs.Validity.{Valid}
use Rattle.mx_reorg.specs.Greedy.{IsGreedy}
use Rattle.mx_isa.specs.Board.{board}
use Rattle.cmd_source.proofs.sources.linked_source.Goals as goal

pub returns-in_ok-overlong_reply-in-Err-Displacement-clause-refused : goal.returns-in_ok-overlong_reply-in-Err-Displacement-clause-refused
returns-in_ok-overlong_reply-in-Err-Displacement-clause-refused c =
    let step = c.in-Err-Displacement in
    let source = c.args.source.now in
    let found : Overlong = record { line = step.line; from = step.from; to = step.to } in
    let refusal = rw step.field-0-is at step.ensures.refused in
    let layout : IsLayout Valid source board refusal.sites = record
    { blocks = refusal.layout.blocks; stand = refusal.layout.stand; plans = refusal.layout.plans } in
    let too_long : IsOverlong IsGreedy source board found =
    record { sites = refusal.sites; proposals = refusal.proposals; rejected = refusal.rejected; layout = layout; kept = refusal.kept; is = refusal.is } in
    (found, too_long, c.in_ok-overlong_reply-in-Err-Displacement.ensures)
