-- How many words plans have.
use Rattle.std.proofs.Common.{◌≡◌, ℕ, suc, ◌+◌, ◌*◌, ◌≤◌, Bool, true, false, cond, List, [], ◌∷◌, length, length-append, map, sum, sum_by, All, arith}
use Rattle.std.proofs.lemmas.List.Sums.{sum_by-cons}
use Rattle.mx_isa.specs.declared.inst.Inst.{Inst}
use Rattle.mx_isa.specs.Views.{is_load, is_transfer}
use Rattle.mx_source.specs.SourceValue.{SourceValue}
use Rattle.mx_blocks.specs.declared.block.Block.{Block}
use Rattle.mx_blocks.specs.declared.block.Plan.{Plan}
use Rattle.mx_blocks.specs.declared.block.Item.TheVariants.{Nop}
use Rattle.mx_blocks.specs.Leaders.{BlocksFrom, size}
use Rattle.mx_validate.specs.Padded.{insts_of, no_ops_after, padded_from, padded_place}
use Rattle.mx_validate.specs.Validity.{Valid, end_count}
use Rattle.mx_validate.proofs.PaddedLists.{tail_of}
use Rattle.mx_squash.specs.Copies.{Site}
use Rattle.mx_layout.specs.Layout.{plan_size, end_of, blocks_in}
use Rattle.mx_layout.specs.Overlong.{padded_size}

abbrev pub AreValid : List Site → Type 0
AreValid list = All (λ (s : Site). Valid s.block s.plan) list

pub first_valid : (s : Site) (list : List Site) → AreValid (s ∷ list) → Valid s.block s.plan
first_valid s list v = v 0 s (omega arith)

pub others_valid : (s : Site) (list : List Site) → AreValid (s ∷ list) → AreValid list
others_valid s list v k d l = v (suc k) d (omega arith)

pub padded_whole : (b : Block) → padded_size b ≡ padded_place b + end_count b.end
padded_whole b = tail_of b.end (insts_of b) b.last

few_no_ops : (l t : Bool) → length (cond l (Nop ∷ []) (cond t (Nop ∷ Nop ∷ []) [])) ≤ 2
few_no_ops true t = omega arith
few_no_ops false true = omega arith
few_no_ops false false = omega arith

padded_short : (k : ℕ) (insts : List Inst) → length (padded_from k insts) ≤ 3 * length insts
padded_short k [] = omega arith
padded_short k (i ∷ insts) =
    let rest = padded_short (suc k) insts in
    let few = few_no_ops (is_load i) (is_transfer i) in
    let both = length-append (no_ops_after i) (padded_from (suc k) insts) in
    omega arith

pub padded_size_short : (b : Block) → padded_size b ≤ 3 * size b
padded_size_short b = padded_short 0 (insts_of b)

-- a valid plan has no more words than the padded one
pub valid_short : (b : Block) (p : Plan) → Valid b p → plan_size p ≤ padded_size b
valid_short b p v =
    let whole = padded_whole b in
    let tail = v.tail in
    let room = v.room in
    omega arith

pub padded_sizes_short : (blocks : List Block) → sum (map padded_size blocks) ≤ 3 * sum_by size blocks
padded_sizes_short [] = omega arith
padded_sizes_short (b ∷ blocks) =
    let rest = padded_sizes_short blocks in
    let own = padded_size_short b in
    let words = sum_by-cons (λ x. x) (padded_size b) (map padded_size blocks) in
    let count = sum_by-cons size b blocks in
    omega arith

pub end_short : (at : ℕ) (list : List Site) → AreValid list → end_of at list ≤ at + 3 * sum_by size (blocks_in list)
end_short at [] v = omega arith
end_short at (s ∷ list) v =
    let rest = end_short (at + plan_size s.plan) list (others_valid s list v) in
    let own = valid_short s.block s.plan (first_valid s list v) in
    let padded = padded_size_short s.block in
    let count = sum_by-cons size s.block (blocks_in list) in
    omega arith

-- blocks cover their statements
pub covered : (source : SourceValue) (i j : ℕ) (blocks : List Block) → BlocksFrom source i j blocks → i + sum_by size blocks ≡ j
covered source i j [] h = let same : i ≡ j = h in omega arith
covered source i j (b ∷ blocks) h =
    let rest = covered source (i + size b) j blocks h.2 in
    let count = sum_by-cons size b blocks in
    omega arith

-- each of them has a statement
pub blocks_few : (source : SourceValue) (i j : ℕ) (blocks : List Block) → BlocksFrom source i j blocks → i + length blocks ≤ j
blocks_few source i j [] h = let same : i ≡ j = h in omega arith
blocks_few source i j (b ∷ blocks) h =
    let rest = blocks_few source (i + size b) j blocks h.2 in
    let some = h.1.some in
    omega arith
