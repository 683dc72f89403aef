use Rattle.std.proofs.Common.{◌≡◌, ◌⊎◌, ◌<◌, ◌≤◌, ℕ, Some, false, slice_get}
use Rattle.cc_plan.specs.declared.knowledge.Known.{Known}
use Rattle.cc_plan.specs.declared.knowledge.Known.TheVariants.{Nothing}
use Rattle.cc_plan.specs.Knowing.{has}
use Rattle.cc_plan.proofs.knowledge.forget_set.Given as goal

-- those that were passed are as before or forgotten, and the others are as before
abbrev pub invariant-loop-number : goal.invariant-loop-number
invariant-loop-number l = ((k : ℕ) → l.number ≤ k → slice_get l.known k ≡ slice_get l.initial.known k)
    × ((k : ℕ) (one : Known) → k < l.number → slice_get l.known k ≡ Some one
    → (one ≡ Nothing) ⊎ ((slice_get l.initial.known k ≡ Some one) × (has l.set k ≡ false)))
