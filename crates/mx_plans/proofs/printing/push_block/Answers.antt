use Rattle.std.proofs.Common.{◌++◌, ◌∷◌, [], true, ap, ◌∙◌, append_assoc}
use Rattle.mx_plans.specs.Printed.{words_from, marks_of_plan}
use Rattle.mx_plans.proofs.Greedy.{line_is}
use Rattle.mx_plans.proofs.printing.push_block.Goals as goal

pub returns : goal.returns
returns c =
    let words = words_from true (marks_of_plan c.args.block.now c.propose-plan.result) in
    c.in_ok-push.ensures.items
    ∙ ap (λ l. l ++ 10 ∷ []) c.in_ok-push_plan.ensures
    ∙ append_assoc c.args.text.now.items words (10 ∷ [])
    ∙ ap (λ l. c.args.text.now.items ++ l) (line_is c.args.block.now c.propose-plan.result c.propose-plan.ensures.proposes)
