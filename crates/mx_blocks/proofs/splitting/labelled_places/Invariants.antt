use Rattle.std.proofs.Common.{◌≡◌, ℕ, ◌+◌, ◌≤◌, ◌||◌, false, length, slice_index_or}
use Rattle.std.specs.List.{list_any}
use Rattle.mx_source.specs.Labels.{is_labelled, names_index}
use Rattle.mx_blocks.proofs.splitting.labelled_places.Given as goal

abbrev pub invariant-loop-label : goal.invariant-loop-label
invariant-loop-label l =
    (length l.marks.items ≡ length l.source.statements + 1)
    × ((i : ℕ) → i ≤ length l.source.statements
    → (slice_index_or l.marks.items i false || list_any (names_index i) l.label-iterator) ≡ is_labelled l.source.labels i)
