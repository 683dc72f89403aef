use Rattle.std.proofs.Common.{sym, ap, ◌∙◌, arith}
use Rattle.cmd_answer.specs.Protocol.{Answers}
use Rattle.mx_tasks.specs.Places.{lower, upper}
use Rattle.mx_command.proofs.Pairs.{fitting_few, pair_linked, pair_far}
use Rattle.mx_command.proofs.share.joined_image.Goals as goal

pub share-requires-clause-first_few : goal.share-requires-clause-first_few
share-requires-clause-first_few c = (fitting_few lower (omega arith) c.args.first.now c.requires.first).0

pub share-requires-clause-second_few : goal.share-requires-clause-second_few
share-requires-clause-second_few c = (fitting_few upper (omega arith) c.args.second.now c.requires.second).0

pub share-requires-clause-first_data : goal.share-requires-clause-first_data
share-requires-clause-first_data c = let within = (fitting_few lower (omega arith) c.args.first.now c.requires.first).1 in omega (arith, within)

pub share-requires-clause-second_data : goal.share-requires-clause-second_data
share-requires-clause-second_data c = let within = (fitting_few upper (omega arith) c.args.second.now c.requires.second).1 in omega (arith, within)

pub returns-in-Ok-clause-given : goal.returns-in-Ok-clause-given
returns-in-Ok-clause-given c = λ layout_of is interrupts budget.
    pair_linked layout_of is c.args.first.now c.args.second.now interrupts budget c.in-Ok.shared c.in-Ok.ensures.shared

pub returns-in_ok-reply-in-Err-Displacement-clause-refused : goal.returns-in_ok-reply-in-Err-Displacement-clause-refused
returns-in_ok-reply-in-Err-Displacement-clause-refused c = λ layout_of is interrupts budget.
    let step = c.in-Err-Displacement in
    let refusal = rw step.field-0-is at step.ensures.refused in
    pair_far layout_of is c.args.first.now c.args.second.now interrupts budget step.program step.line step.from step.to refusal
    ∙ ap Answers (sym c.in_ok-reply-in-Err-Displacement.ensures)
