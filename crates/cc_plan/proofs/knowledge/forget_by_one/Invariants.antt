use Rattle.std.proofs.Common.{◌≡◌, ◌⊎◌, ◌<◌, ◌≤◌, ℕ, Some, false, slice_get}
use Rattle.cc_plan.specs.declared.knowledge.Known.{Known}
use Rattle.cc_plan.specs.declared.knowledge.Known.TheVariants.{Nothing}
use Rattle.cc_plan.specs.Knowing.{is_by_one}
use Rattle.cc_plan.proofs.knowledge.forget_by_one.Given as goal

-- those that were passed are as before or forgotten, and the others are as before
abbrev pub invariant-loop-one : goal.invariant-loop-one
invariant-loop-one l = ((k : ℕ) → l.one-index ≤ k → slice_get l.known k ≡ slice_get l.initial.known k)
    × ((k : ℕ) (one : Known) → k < l.one-index → slice_get l.known k ≡ Some one
    → (one ≡ Nothing) ⊎ ((slice_get l.initial.known k ≡ Some one) × (is_by_one l.points l.clobbered one ≡ false)))
