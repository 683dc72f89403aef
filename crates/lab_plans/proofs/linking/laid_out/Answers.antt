use Rattle.std.proofs.Common.{List, sym, subst}
use Rattle.std.specs.Prelude.{IfOk, IfErr}
use Rattle.mx_isa.specs.Board.{board}
use Rattle.mx_layout.specs.Kept.{AreKept}
use Rattle.mx_layout.specs.Overlong.{IsRefusal}
use Rattle.mx_link.specs.Parts.{sites_of}
use Rattle.mx_plans.specs.declared.Mark.{Mark}
use Rattle.mx_plans.specs.Says.{IsProposed}
use Rattle.mx_plans.proofs.Picked.{marks_said}
use Rattle.lab_plans.proofs.linking.laid_out.Goals as goal

pub returns-clause-kept : goal.returns-clause-kept
returns-clause-kept c =
    subst (λ (marks : List (List Mark)).
    IfOk c.laid_by.result (λ l. AreKept (IsProposed c.args.source.now marks) l.rejected (sites_of l) l.proposals.items))
    (sym (marks_said c.args.plans.now)) c.laid_by.ensures.kept

pub returns-clause-refused : goal.returns-clause-refused
returns-clause-refused c =
    subst (λ (marks : List (List Mark)). IfErr c.laid_by.result (IsRefusal (IsProposed c.args.source.now marks) c.args.source.now board))
    (sym (marks_said c.args.plans.now)) c.laid_by.ensures.refused
