use Rattle.std.proofs.Common.{IfOk, IfErr, sym, subst}
use Rattle.lab_options.specs.declared.options.Scheduler.{Scheduler}
use Rattle.lab_sources.specs.Schedulers.{board, proposes, fills, IsLinked, IsRefusal}
use Rattle.lab_sources.proofs.schedulers.linked_by.Goals as goal

pub returns-in-Padded-clause-linked : goal.returns-in-Padded-clause-linked
returns-in-Padded-clause-linked c =
    subst (λ (s : Scheduler). IfOk c.linked_with.result (IsLinked (proposes s) (fills s) c.args.source.now board))
    (sym c.in-Padded.is) c.linked_with.ensures.linked

pub returns-in-Padded-clause-refused : goal.returns-in-Padded-clause-refused
returns-in-Padded-clause-refused c =
    subst (λ (s : Scheduler). IfErr c.linked_with.result (IsRefusal (proposes s) c.args.source.now board))
    (sym c.in-Padded.is) c.linked_with.ensures.refused

pub returns-in-List-clause-linked : goal.returns-in-List-clause-linked
returns-in-List-clause-linked c =
    subst (λ (s : Scheduler). IfOk c.linked_with-in-List.result (IsLinked (proposes s) (fills s) c.args.source.now board))
    (sym c.in-List.is) c.linked_with-in-List.ensures.linked

pub returns-in-List-clause-refused : goal.returns-in-List-clause-refused
returns-in-List-clause-refused c =
    subst (λ (s : Scheduler). IfErr c.linked_with-in-List.result (IsRefusal (proposes s) c.args.source.now board))
    (sym c.in-List.is) c.linked_with-in-List.ensures.refused

pub returns-in-Copies-clause-linked : goal.returns-in-Copies-clause-linked
returns-in-Copies-clause-linked c =
    subst (λ (s : Scheduler). IfOk c.linked_with-in-Copies.result (IsLinked (proposes s) (fills s) c.args.source.now board))
    (sym c.in-Copies.is) c.linked_with-in-Copies.ensures.linked

pub returns-in-Copies-clause-refused : goal.returns-in-Copies-clause-refused
returns-in-Copies-clause-refused c =
    subst (λ (s : Scheduler). IfErr c.linked_with-in-Copies.result (IsRefusal (proposes s) c.args.source.now board))
    (sym c.in-Copies.is) c.linked_with-in-Copies.ensures.refused

pub returns-in-Best-clause-linked : goal.returns-in-Best-clause-linked
returns-in-Best-clause-linked c =
    subst (λ (s : Scheduler). IfOk c.linked_with-in-Best.result (IsLinked (proposes s) (fills s) c.args.source.now board))
    (sym c.in-Best.is) c.linked_with-in-Best.ensures.linked

pub returns-in-Best-clause-refused : goal.returns-in-Best-clause-refused
returns-in-Best-clause-refused c =
    subst (λ (s : Scheduler). IfErr c.linked_with-in-Best.result (IsRefusal (proposes s) c.args.source.now board))
    (sym c.in-Best.is) c.linked_with-in-Best.ensures.refused
