use Rattle.std.proofs.Common.{◌≡◌, List, Some, Result, Ok, Err, sym, ap, ◌∙◌, subst}
use Rattle.std.specs.Prelude.{IfOk, IfErr}
use Rattle.mx_plans.specs.declared.Mark.{Mark}
use Rattle.mx_plans.specs.declared.PlanFault.{PlanFault}
use Rattle.lab_certify.specs.Said.{said_of}
use Rattle.lab_certify.specs.Texts.{with_marks}
use Rattle.lab_certify.proofs.Items.{line_marks_words}
use Rattle.lab_certify.proofs.reading.with_marks.Goals as goal

pub returns-in-Ok-clause-read : goal.returns-in-Ok-clause-read
returns-in-Ok-clause-read c =
    subst (λ (r : Result (List Mark) PlanFault). IfOk c.with_plan.result (λ l. with_marks c.args.address c.args.copies r ≡ Ok (Some (said_of l))))
    (sym (line_marks_words c.args.line.now ∙ c.in-Ok.ensures.read)) c.with_plan.ensures.read

pub returns-in-Ok-clause-fault : goal.returns-in-Ok-clause-fault
returns-in-Ok-clause-fault c =
    subst (λ (r : Result (List Mark) PlanFault). IfErr c.with_plan.result (λ fault. with_marks c.args.address c.args.copies r ≡ Err fault))
    (sym (line_marks_words c.args.line.now ∙ c.in-Ok.ensures.read)) c.with_plan.ensures.fault

pub returns-in-Err-clause-fault : goal.returns-in-Err-clause-fault
returns-in-Err-clause-fault c =
    ap (with_marks c.args.address c.args.copies) (line_marks_words c.args.line.now ∙ c.in-Err.ensures.fault)
    ∙ ap (λ fault. Err fault) (sym c.plan_fault.ensures)
