use Rattle.std.proofs.Common.{◌≡◌, ℕ, ◌/◌, ◌^◌, ◌<◌, ◌≤◌, Some, length, slice_get}
use Rattle.lab_cache.proofs.alike.bits_of.Given as goal

abbrev pub invariant-loop-word : goal.invariant-loop-word
invariant-loop-word l = (length l.bits.items ≡ l.word)
    × (l.fn.line ≤ 64 → 0 < l.brings → (w : ℕ) → w < l.word → slice_get l.bits.items w ≡ Some (2 ^ (w / l.brings)))
