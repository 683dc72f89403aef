use Rattle.std.proofs.Common.{◌≡◌, ◌++◌, true, drop}
use Rattle.std.specs.Prelude.{◌==◌}
use Rattle.mx_plans.specs.Printed.{words_from, marks_from, marks_of_plan}
use Rattle.mx_plans.proofs.printing.push_plan.Given as goal

-- what is appended and what is left to append
abbrev pub invariant-loop-p : goal.invariant-loop-p
invariant-loop-p l =
    l.text.items ++ words_from (l.p == 0) (marks_from l.ends l.place l.p (drop l.p l.items))
    ≡ l.fn.text.items ++ words_from true (marks_of_plan l.block l.plan)
