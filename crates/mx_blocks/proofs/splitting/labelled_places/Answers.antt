use Rattle.std.proofs.Common.{◌≡◌, ◌+◌, ◌||◌, false, length, slice_index_or, replicate, ap, ◌∙◌, arith}
use Rattle.std.specs.List.{list_any}
use Rattle.std.proofs.lemmas.List.{length-replicate, get_or-replicate}
use Rattle.mx_source.specs.Labels.{is_labelled, names_index}
use Rattle.mx_blocks.proofs.Splits.{any_named}
use Rattle.mx_blocks.proofs.splitting.labelled_places.Goals as goal

pub loop-label-init : goal.loop-label-init
loop-label-init c =
    let count = c.statements-count.result.now in
    let same : length count ≡ length c.args.source.now.statements = ap length c.statements-count.ensures.value in
    let marks : c.in_ok-marks.marks.items ≡ replicate (length count + 1) false = c.in_ok-marks.ensures in (
      ap length marks ∙ length-replicate (length count + 1) false ∙ ap (λ n. n + 1) same,
      λ i l.
          let none : slice_index_or c.in_ok-marks.marks.items i false ≡ false =
          ap (λ xs. slice_index_or xs i false) marks ∙ get_or-replicate (length count + 1) i false false (omega arith) in
          ap (λ b. b || list_any (names_index i) c.into_iter-label-iterator.result) none
          ∙ ap (list_any (names_index i)) (c.into_iter-label-iterator.ensures.into_iter_gives ∙ c.values-label-items.ensures.rest)
          ∙ any_named i c.labels.result.now.entries
          ∙ ap (λ labels. is_labelled labels i) c.labels.ensures.value,
    )
