-- A source has blocks in one way.
use Rattle.std.proofs.Common.{◌≡◌, ℕ, ◌+◌, ◌-◌, ◌<◌, Bool, true, List, [], ◌∷◌, length, map, refl, sym, ap, ◌∙◌, subst, ⊎_elim, arith}
use Rattle.std.specs.Prelude.{slice_get, slice_range}
use Rattle.std.specs.Option.{option_map}
use Rattle.std.proofs.lemmas.Bool.{false≢true, cases_lt}
use Rattle.std.proofs.lemmas.Option.{same_Some}
use Rattle.std.proofs.Props.{props}
use Rattle.mx_isa.specs.declared.inst.Inst.{Inst}
use Rattle.mx_source.specs.SourceValue.{SourceValue}
use Rattle.mx_blocks.specs.declared.block.Block.{Block}
use Rattle.mx_blocks.specs.declared.block.End.{End}
use Rattle.mx_blocks.specs.Ends.{GoesOn, ends_as}
use Rattle.mx_blocks.specs.Leaders.{is_leader, inst_of, end_of, size, IsBlockOf, BlocksFrom}
use Rattle.mx_blocks.specs.Splitting.{BlocksUnique}

-- what a block keeps to has one proof at most
kept_once : (end : End) (insts : List Inst) → IsProp ((ends_as end insts ≡ true) × GoesOn insts)
kept_once end insts = hlevel props

abbrev Kept : End → List Inst → Type 0
Kept end insts = (ends_as end insts ≡ true) × GoesOn insts

abbrev block_with : (first : ℕ) (insts : List Inst) (end : End) (input : Bool) → Kept end insts → Block
block_with first insts end input kept = record { first = first; insts = record { items = insts }; end = end; input = input; last = kept.0; body = kept.1 }

with_same : (first : ℕ) (xs ys : List Inst) (a b : End) (input : Bool) (k : Kept a xs) (l : Kept b ys) → xs ≡ ys → a ≡ b
    → block_with first xs a input k ≡ block_with first ys b input l
with_same first xs ys a b input k l e f = (subst P f (subst Q e (λ l. ap (block_with first xs a input) (kept_once a xs k l)))) l
  where
    Q : List Inst → Type 0
    Q zs = (l : Kept a zs) → block_with first xs a input k ≡ block_with first zs a input l

    P : End → Type 0
    P c = (l : Kept c ys) → block_with first xs a input k ≡ block_with first ys c input l

-- a block is what its instructions, its place and its end are
pub same_block : (b c : Block) → b.first ≡ c.first → b.insts.items ≡ c.insts.items → b.end ≡ c.end → b.input ≡ c.input → b ≡ c
same_block b c first insts end input =
    with_same b.first b.insts.items c.insts.items b.end c.end b.input (b.last, b.body) (c.last, c.body) insts end
    ∙ (λ i. block_with (first i) c.insts.items c.end (input i) (c.last, c.body))

-- no block ends before another that begins where it does
not_shorter : (source : SourceValue) (b c : Block) → b.first ≡ c.first → IsBlockOf source b → IsBlockOf source c → size b < size c → ⊥
not_shorter source b c first h g less =
    let at : c.first + size b ≡ b.first + size b = omega arith in
    let quiet = g.inner (size b) h.some less in
    let within = g.within in
    ⊎_elim
    (λ leads. false≢true (sym quiet ∙ ap (is_leader source) at ∙ leads))
    (λ ends. absurd (omega arith))
    h.next

same_size : (source : SourceValue) (b c : Block) → b.first ≡ c.first → IsBlockOf source b → IsBlockOf source c → size b ≡ size c
same_size source b c first h g = ⊎_elim
    (λ less. absurd (not_shorter source b c first h g less))
    (λ more. ⊎_elim
    (λ less. absurd (not_shorter source c b (sym first) g h less))
    (λ also. omega arith)
    (cases_lt (size c) (size b)))
    (cases_lt (size b) (size c))

-- one block at most begins at a statement
pub block_unique : (source : SourceValue) (b c : Block) → b.first ≡ c.first → IsBlockOf source b → IsBlockOf source c → b ≡ c
block_unique source b c first h g =
    let count = same_size source b c first h g in
    let stop : b.first + size b ≡ c.first + size c = omega arith in
    let insts : b.insts.items ≡ c.insts.items =
    h.insts ∙ ap (λ n. map inst_of (slice_range source.statements n (b.first + size b))) first
    ∙ ap (λ n. map inst_of (slice_range source.statements c.first n)) stop ∙ sym g.insts in
    let end : b.end ≡ c.end = same_Some b.end c.end (sym h.end ∙ ap (λ n. option_map end_of (slice_get source.statements (n - 1))) stop ∙ g.end) in
    same_block b c first insts end (h.input ∙ sym g.input)

unique_from : (source : SourceValue) (i j : ℕ) (bs cs : List Block) → i ≡ j → BlocksFrom source i (length source.statements) bs
    → BlocksFrom source j (length source.statements) cs → bs ≡ cs
unique_from source i j [] [] e h g = refl
unique_from source i j [] (c ∷ cs) e h g = absurd (let at = g.0 in let some = g.1.some in let within = g.1.within in omega arith)
unique_from source i j (b ∷ bs) [] e h g = absurd (let at = h.0 in let some = h.1.some in let within = h.1.within in omega arith)
unique_from source i j (b ∷ bs) (c ∷ cs) e h g =
    let first : b.first ≡ c.first = h.0 ∙ e ∙ sym g.0 in
    let block = block_unique source b c first h.1 g.1 in
    let count = ap size block in
    let rest = unique_from source (i + size b) (j + size c) bs cs (omega arith) h.2 g.2 in
    λ k. block k ∷ rest k

pub blocks_unique : BlocksUnique
blocks_unique source blocks others = unique_from source 0 0 blocks others refl
