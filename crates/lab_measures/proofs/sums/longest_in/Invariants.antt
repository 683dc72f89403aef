use Rattle.std.proofs.Common.{◌≡◌, [], IfOk, IfSome, IfNone, length, ℕ, ◌+◌, ◌-◌, ◌*◌, ◌<◌, ◌≤◌, take}
use Rattle.std.specs.Prelude.{Some}
use Rattle.lab_measures.proofs.Leads.{Leads}
use Rattle.lab_measures.proofs.sums.longest_in.Given as goal

abbrev pub invariant-loop-row : goal.invariant-loop-row
invariant-loop-row l = Leads (take l.row-index l.rows) l.longest l.most
