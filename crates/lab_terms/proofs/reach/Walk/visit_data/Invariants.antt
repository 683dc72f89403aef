use Rattle.std.proofs.Common.{◌≡◌, ◌<◌, ℕ, Some}
use Rattle.std.specs.Prelude.{slice_get}
use Rattle.mx_source.specs.declared.statement.Value.TheVariants.{Code}
use Rattle.lab_terms.specs.Flow.{IsSeen, HasCome, IsAmongWords}
use Rattle.lab_terms.proofs.reach.Walk.visit_data.Given as goal

-- the code addresses among the words so far were come to, and nothing else
abbrev pub invariant-loop-word : goal.invariant-loop-word
invariant-loop-word l =
    HasCome (IsAmongWords l.words) l.fn.self.seen.items l.fn.self.order.items l.self.seen.items l.self.order.items
    × ((k index : ℕ) → k < l.word-index → slice_get l.words k ≡ Some (Code index) → IsSeen l.self.seen.items index)
