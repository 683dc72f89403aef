-- Blocks of known sizes at addresses one directly behind the other.
use Rattle.std.proofs.Common.{◌≡◌, ℕ, suc, ◌+◌, ◌-◌, ◌<◌, ◌≤◌, true, false, cond, leb, ltb, ◌&&◌, List, [], ◌∷◌, ◌++◌, length, length-append, map, sum, replicate, slice_index, slice_index_or, All, subst, refl, sym, ap, ◌∙◌, ⊎_elim, arith}
use Rattle.std.proofs.lemmas.Bool.{cases_Bool}
use Rattle.std.proofs.lemmas.Bool.Decides.{nat_tests}
use Rattle.std.proofs.lemmas.List.{length-replicate, get_or_append_left, get_or-replicate, get_or-append_right}
use Rattle.std.proofs.lemmas.List.Sums.{sum_by-cons}
use Rattle.std.proofs.lemmas.List.Elements.{All-nil, All-cons}
use Rattle.mx_source.specs.SourceValue.{SourceValue}
use Rattle.mx_blocks.specs.declared.block.Block.{Block}
use Rattle.mx_blocks.specs.declared.block.Plan.{Plan}
use Rattle.mx_blocks.specs.Leaders.{BlocksFrom, AreBlocks, IsBlockOf, size}
use Rattle.mx_squash.specs.Copies.{sites}
use Rattle.mx_layout.specs.Layout.{plan_size, StandFrom, end_of, blocks_in, has_statement, link_of}
use Rattle.mx_layout.specs.Overlong.{padded_size, padded_link}
use Rattle.mx_layout.specs.Addresses.{starts_from, statement_starts}

-- the link map of blocks of these sizes
abbrev pub link_at : ℕ → List Block → List ℕ → ℕ → ℕ
link_at at (block ∷ blocks) (n ∷ sizes) i = cond (has_statement i block) at (link_at (at + n) blocks sizes i)
link_at at _ _ i = at

pub link_of-sites :
    (at : ℕ) (blocks : List Block) (plans : List Plan) (starts : List ℕ) (i : ℕ) → length plans ≡ length blocks → length starts ≡ length blocks
    → link_of at (sites blocks plans starts) i ≡ link_at at blocks (map plan_size plans) i
link_of-sites at [] plans starts i e f = refl
link_of-sites at (b ∷ blocks) [] starts i e f = absurd (omega arith)
link_of-sites at (b ∷ blocks) (p ∷ plans) [] i e f = absurd (omega arith)
link_of-sites at (b ∷ blocks) (p ∷ plans) (s ∷ starts) i e f =
    ap (λ r. cond (has_statement i b) at r) (link_of-sites (at + plan_size p) blocks plans starts i (omega arith) (omega arith))

pub padded_link-sizes : (at : ℕ) (blocks : List Block) (i : ℕ) → padded_link at blocks i ≡ link_at at blocks (map padded_size blocks) i
padded_link-sizes at [] i = refl
padded_link-sizes at (b ∷ blocks) i = ap (λ r. cond (has_statement i b) at r) (padded_link-sizes (at + padded_size b) blocks i)

pub blocks_in-sites :
    (blocks : List Block) (plans : List Plan) (starts : List ℕ) → length plans ≡ length blocks → length starts ≡ length blocks
    → blocks_in (sites blocks plans starts) ≡ blocks
blocks_in-sites [] plans starts e f = refl
blocks_in-sites (b ∷ blocks) [] starts e f = absurd (omega arith)
blocks_in-sites (b ∷ blocks) (p ∷ plans) [] e f = absurd (omega arith)
blocks_in-sites (b ∷ blocks) (p ∷ plans) (s ∷ starts) e f = ap (λ r. b ∷ r) (blocks_in-sites blocks plans starts (omega arith) (omega arith))

pub length-starts : (at : ℕ) (sizes : List ℕ) → length (starts_from at sizes) ≡ length sizes
length-starts at [] = refl
length-starts at (n ∷ sizes) = ap (λ k. suc k) (length-starts (at + n) sizes)

pub starts_stand :
    (at : ℕ) (blocks : List Block) (plans : List Plan) → length plans ≡ length blocks
    → StandFrom at (sites blocks plans (starts_from at (map plan_size plans)))
starts_stand at [] plans e = tt
starts_stand at (b ∷ blocks) [] e = absurd (omega arith)
starts_stand at (b ∷ blocks) (p ∷ plans) e = (refl, starts_stand (at + plan_size p) blocks plans (omega arith))

pub end_of-sites :
    (at : ℕ) (blocks : List Block) (plans : List Plan) (starts : List ℕ) → length plans ≡ length blocks → length starts ≡ length blocks
    → end_of at (sites blocks plans starts) ≡ at + sum (map plan_size plans)
end_of-sites at [] [] starts e f = omega arith
end_of-sites at [] (p ∷ plans) starts e f = absurd (omega arith)
end_of-sites at (b ∷ blocks) [] starts e f = absurd (omega arith)
end_of-sites at (b ∷ blocks) (p ∷ plans) [] e f = absurd (omega arith)
end_of-sites at (b ∷ blocks) (p ∷ plans) (s ∷ starts) e f =
    let rest = end_of-sites (at + plan_size p) blocks plans starts (omega arith) (omega arith) in
    let whole = sum_by-cons (λ x. x) (plan_size p) (map plan_size plans) in
    omega arith

pub length-links :
    (source : SourceValue) (i j at : ℕ) (blocks : List Block) (sizes : List ℕ) → BlocksFrom source i j blocks → length sizes ≡ length blocks
    → length (statement_starts at blocks sizes) + i ≡ j + 1
length-links source i j at [] sizes h e = let same : i ≡ j = h in omega arith
length-links source i j at (b ∷ blocks) [] h e = absurd (omega arith)
length-links source i j at (b ∷ blocks) (n ∷ sizes) h e =
    let rest = length-links source (i + size b) j (at + n) blocks sizes h.2 (omega arith) in
    let both = length-append (replicate (size b) at) (statement_starts (at + n) blocks sizes) in
    let own = length-replicate (size b) at in
    omega arith

inside : (t : ℕ) (b : Block) → has_statement t b ≡ true → (b.first ≤ t) × (t < b.first + size b)
inside t b e = parts b.first (b.first + size b) e
  where
    parts : (low high : ℕ) → (leb low t && ltb t high) ≡ true → (low ≤ t) × (t < high)
    parts low high e = grind (arith, nat_tests)

outside : (t : ℕ) (b : Block) → has_statement t b ≡ false → b.first ≤ t → b.first + size b ≤ t
outside t b e l = high b.first (b.first + size b) e l
  where
    high : (low up : ℕ) → (leb low t && ltb t up) ≡ false → low ≤ t → up ≤ t
    high low up e l = grind (arith, nat_tests)

-- of a block's links and the links behind them, the one u statements behind the block's first
link_in :
    (b : Block) (at i t u : ℕ) (rest : List ℕ) (next : ℕ) → b.first ≡ i → t ≡ i + u → (size b ≤ u → slice_index rest (u - size b) ≡ next)
    → slice_index (replicate (size b) at ++ rest) u ≡ cond (has_statement t b) at next
link_in b at i t u rest next first f later = ⊎_elim here there (cases_Bool (has_statement t b))
  where
    here : has_statement t b ≡ true → slice_index (replicate (size b) at ++ rest) u ≡ cond (has_statement t b) at next
    here c =
        let low = inside t b c in
        let count = length-replicate (size b) at in
        let within : u < size b = omega arith in
        get_or_append_left (replicate (size b) at) rest 0 u (omega arith)
        ∙ get_or-replicate (size b) u at 0 within
        ∙ sym (ap (λ x. cond x at next) c)

    there : has_statement t b ≡ false → slice_index (replicate (size b) at ++ rest) u ≡ cond (has_statement t b) at next
    there c =
        let high = outside t b c (omega arith) in
        let past : size b ≤ u = omega arith in
        get_or-append_right (replicate (size b) at) rest (size b) u 0 (length-replicate (size b) at) past
        ∙ later past
        ∙ sym (ap (λ x. cond x at next) c)

-- the list of links holds the link map, u statements behind the first one
pub links_hold :
    (source : SourceValue) (i j at : ℕ) (blocks : List Block) (sizes : List ℕ) (t u : ℕ) → BlocksFrom source i j blocks
    → length sizes ≡ length blocks → t ≡ i + u → t ≤ j → slice_index (statement_starts at blocks sizes) u ≡ link_at at blocks sizes t
links_hold source i j at [] sizes t u h e f l =
    let same : i ≡ j = h in
    let none : u ≡ 0 = omega arith in
    ap (λ k. slice_index (at ∷ []) k) none
links_hold source i j at (b ∷ blocks) [] t u h e f l = absurd (omega arith)
links_hold source i j at (b ∷ blocks) (n ∷ sizes) t u h e f l =
    link_in b at i t u (statement_starts (at + n) blocks sizes) (link_at (at + n) blocks sizes t) h.0 f
    (λ past. links_hold source (i + size b) j (at + n) blocks sizes t (u - size b) h.2 (omega arith) (omega arith) l)

pub all_blocks : (source : SourceValue) (i j : ℕ) (blocks : List Block) → BlocksFrom source i j blocks → All (IsBlockOf source) blocks
all_blocks source i j [] h = All-nil (IsBlockOf source)
all_blocks source i j (b ∷ blocks) h = All-cons (IsBlockOf source) b blocks h.1 (all_blocks source (i + size b) j blocks h.2)

pub block_read :
    (source : SourceValue) (blocks : List Block) (k : ℕ) (b : Block) → AreBlocks source blocks → k < length blocks → b ≡ slice_index_or blocks k b
    → IsBlockOf source b
block_read source blocks k b h l e =
    subst (λ (x : Block). IsBlockOf source x) (sym e) (all_blocks source 0 (length source.statements) blocks h k b l)
