-- A source has no more blocks than statements.
use Rattle.std.proofs.Common.{◌≤◌, ◌+◌, ℕ, List, [], ◌∷◌, length, arith}
use Rattle.mx_source.specs.SourceValue.{SourceValue, IsSource}
use Rattle.mx_blocks.specs.declared.block.Block.{Block}
use Rattle.mx_blocks.specs.Leaders.{BlocksFrom, AreBlocks, size}

few_from : (source : SourceValue) (i j : ℕ) (blocks : List Block) → BlocksFrom source i j blocks → length blocks + i ≤ j
few_from source i j [] e = omega arith
few_from source i j (block ∷ blocks) h =
    let some = h.1.some in
    let rest = few_from source (i + size block) j blocks h.2 in
    omega arith

pub few_blocks : (source : SourceValue) (blocks : List Block) → IsSource source → AreBlocks source blocks → length blocks ≤ 20000
few_blocks source blocks kept are =
    let most = kept.few_statements in
    let few = few_from source 0 (length source.statements) blocks are in
    omega arith
