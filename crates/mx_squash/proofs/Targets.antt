-- The sites of the blocks of a source, and the first that a transfer goes to.
use Rattle.std.proofs.Common.{◌≡◌, ℕ, zero, suc, ◌+◌, ◌≤◌, Bool, true, false, cond, List, [], ◌∷◌, length, Some, None, refl, sym, ap, ◌∙◌, arith}
use Rattle.std.specs.Prelude.{slice_get}
use Rattle.std.proofs.lemmas.Option.{same_Some, none-some}
use Rattle.mx_source.specs.SourceValue.{SourceValue}
use Rattle.mx_blocks.specs.declared.block.Block.{Block}
use Rattle.mx_blocks.specs.declared.block.Plan.{Plan}
use Rattle.mx_blocks.specs.Leaders.{BlocksFrom, size}
use Rattle.mx_squash.specs.Copies.{Site, sites, site_of}
use Rattle.mx_squash.specs.Ordered.{Ascends, IsFound, AreOfOneSource}

same_first : (b c : Block) → Some b ≡ Some c → b.first ≡ c.first
same_first b c e = ap (λ (x : Block). x.first) (same_Some b c e)

from_low : (source : SourceValue) (i j : ℕ) (blocks : List Block) → BlocksFrom source i j blocks → (k : ℕ) (b : Block) → slice_get blocks k ≡ Some b
    → i ≤ b.first
from_low source i j [] h k b e = absurd (none-some b e)
from_low source i j (c ∷ blocks) h zero b e = let s = same_first c b e in let f = h.0 in omega arith
from_low source i j (c ∷ blocks) h (suc k) b e = let low = from_low source (i + size c) j blocks h.2 k b e in omega arith

ascends_from : (source : SourceValue) (i j : ℕ) (blocks : List Block) → BlocksFrom source i j blocks → Ascends blocks
ascends_from source i j [] h k m b c l e f = absurd (none-some b e)
ascends_from source i j (d ∷ blocks) h k zero b c l e f = absurd (omega arith)
ascends_from source i j (d ∷ blocks) h zero (suc m) b c l e f =
    let s = same_first d b e in
    let first = h.0 in
    let some = h.1.some in
    let low = from_low source (i + size d) j blocks h.2 m c f in
    omega arith
ascends_from source i j (d ∷ blocks) h (suc k) (suc m) b c l e f = ascends_from source (i + size d) j blocks h.2 k m b c (omega arith) e f

pub ascends : (blocks : List Block) → AreOfOneSource blocks → Ascends blocks
ascends blocks h = ascends_from h.source 0 (length h.source.statements) blocks h.all

abbrev pub site : Block → Plan → ℕ → Site
site b p s = record { block = b; plan = p; start = s }

pub sites_get : (blocks : List Block) (plans : List Plan) (starts : List ℕ) (i : ℕ) (b : Block) (p : Plan) (s : ℕ) → slice_get blocks i ≡ Some b
    → slice_get plans i ≡ Some p → slice_get starts i ≡ Some s → slice_get (sites blocks plans starts) i ≡ Some (site b p s)
sites_get [] plans starts i b p s e f g = absurd (none-some b e)
sites_get (b' ∷ blocks) [] starts i b p s e f g = absurd (none-some p f)
sites_get (b' ∷ blocks) (p' ∷ plans) [] i b p s e f g = absurd (none-some s g)
sites_get (b' ∷ blocks) (p' ∷ plans) (s' ∷ starts) zero b p s e f g =
    let x : b' ≡ b = same_Some b' b e in
    let y : p' ≡ p = same_Some p' p f in
    let z : s' ≡ s = same_Some s' s g in
    λ k. Some (site (x k) (y k) (z k))
sites_get (b' ∷ blocks) (p' ∷ plans) (s' ∷ starts) (suc i) b p s e f g = sites_get blocks plans starts i b p s e f g

pub site_found : (test : Block → Bool) (blocks : List Block) (plans : List Plan) (starts : List ℕ) (i : ℕ) (p : Plan) (s : ℕ) (found : IsFound test blocks i)
    → slice_get plans i ≡ Some p → slice_get starts i ≡ Some s → site_of test (sites blocks plans starts) ≡ Some (site found.block p s)
site_found test [] plans starts i p s found f g = absurd (none-some found.block found.is)
site_found test (b ∷ blocks) [] starts i p s found f g = absurd (none-some p f)
site_found test (b ∷ blocks) (p' ∷ plans) [] i p s found f g = absurd (none-some s g)
site_found test (b ∷ blocks) (p' ∷ plans) (s' ∷ starts) zero p s found f g =
    let x : b ≡ found.block = same_Some b found.block found.is in
    let passes : test b ≡ true = ap test x ∙ found.passes in
    ap (λ t. cond t (Some (site b p' s')) (site_of test (sites blocks plans starts))) passes
    ∙ sites_get (b ∷ blocks) (p' ∷ plans) (s' ∷ starts) 0 found.block p s found.is f g
site_found test (b ∷ blocks) (p' ∷ plans) (s' ∷ starts) (suc i) p s found f g =
    let fails : test b ≡ false = found.first 0 b (omega arith) refl in
    let rest : IsFound test blocks i = record {
      block = found.block;
      is = found.is;
      passes = found.passes;
      first = λ j c l e. found.first (suc j) c (omega arith) e;
    } in
    ap (λ t. cond t (Some (site b p' s')) (site_of test (sites blocks plans starts))) fails
    ∙ site_found test blocks plans starts i p s rest f g

pub site_none : (test : Block → Bool) (blocks : List Block) (plans : List Plan) (starts : List ℕ)
    → ((i : ℕ) (b : Block) → slice_get blocks i ≡ Some b → test b ≡ false) → site_of test (sites blocks plans starts) ≡ None
site_none test [] plans starts h = refl
site_none test (b ∷ blocks) [] starts h = refl
site_none test (b ∷ blocks) (p ∷ plans) [] h = refl
site_none test (b ∷ blocks) (p ∷ plans) (s ∷ starts) h =
    ap (λ t. cond t (Some (site b p s)) (site_of test (sites blocks plans starts))) (h 0 b refl)
    ∙ site_none test blocks plans starts (λ i c e. h (suc i) c e)

-- the site of the first block that passes, by what stands at its number
pub goal_is : (test : Block → Bool) (blocks : List Block) (plans : List Plan) (starts : List ℕ) (i : ℕ) (b : Block) (p : Plan) (s : ℕ) → IsFound test blocks i
    → slice_get blocks i ≡ Some b → slice_get plans i ≡ Some p → slice_get starts i ≡ Some s → site_of test (sites blocks plans starts) ≡ Some (site b p s)
goal_is test blocks plans starts i b p s found e f g =
    let same : found.block ≡ b = same_Some found.block b (sym found.is ∙ e) in
    site_found test blocks plans starts i p s found f g ∙ ap (λ x. Some (site x p s)) same
