use Rattle.std.proofs.Common.{sym, subst}
use Rattle.lab_options.specs.declared.options.Scheduler.{Scheduler}
use Rattle.lab_sources.specs.Schedulers.{IsLinkedBy}
use Rattle.lab_sources.proofs.schedulers.program_by.Goals as goal

pub returns-in-Copies-clause-linked : goal.returns-in-Copies-clause-linked
returns-in-Copies-clause-linked c = subst (λ (s : Scheduler). IsLinkedBy s c.args.program) (sym c.in-Copies.is) c.requires
