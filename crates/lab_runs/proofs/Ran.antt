-- How often statements, and the blocks that begin with them, were executed.
use Rattle.std.proofs.Common.{◌≡◌, ℕ, zero, suc, ◌+◌, ◌<◌, List, [], ◌∷◌, length, map, refl, ap, ◌∙◌, arith}
use Rattle.std.specs.Prelude.{slice_index}
use Rattle.mx_link.specs.declared.linked.Origin.{Origin}
use Rattle.mx_link.specs.Gathered.{gathered}
use Rattle.mx_source.specs.SourceValue.{SourceValue}
use Rattle.mx_blocks.specs.declared.block.Block.{Block}
use Rattle.mx_blocks.specs.Leaders.{size, BlocksFrom}
use Rattle.lab_profile.specs.declared.lines.LineCost.{LineCost}
use Rattle.lab_profile.specs.Lines.{saturated, executed_of}

-- how often statement i was executed, by a list of these numbers alone
pub count_of : (costs : List LineCost) (i : ℕ) → slice_index (map (λ (cost : LineCost). cost.executed) costs) i ≡ executed_of costs i
count_of [] i = refl
count_of (cost ∷ costs) zero = refl
count_of (cost ∷ costs) (suc i) = count_of costs i

-- numbers that are the same at each word are the same together
pub gathered_same : (f h : ℕ → ℕ) (i : ℕ) (origins : List Origin) → ((k : ℕ) → f k ≡ h k)
    → saturated (gathered f i 0 origins) ≡ saturated (gathered h i 0 origins)
gathered_same f h i origins same = λ j. saturated (gathered (λ k. same k j) i 0 origins)

-- blocks begin with statements of their source
pub runs_same : (source : SourceValue) (i j : ℕ) (blocks : List Block) (f h : ℕ → ℕ) → BlocksFrom source i j blocks
    → ((k : ℕ) → k < length source.statements → f k ≡ h k)
    → map (λ (block : Block). f block.first) blocks ≡ map (λ (block : Block). h block.first) blocks
runs_same source i j [] f h are same = refl
runs_same source i j (block ∷ blocks) f h (first, is, more) same =
    let here : f block.first ≡ h block.first = same block.first (omega (arith, is.some, is.within)) in
    let rest = runs_same source (i + size block) j blocks f h more same in
    ap (λ n. n ∷ map (λ (b : Block). f b.first) blocks) here ∙ ap (λ ns. h block.first ∷ ns) rest
