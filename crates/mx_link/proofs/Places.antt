-- Where the sites of a layout end, and how many there are.
use Rattle.std.proofs.Common.{◌≡◌, ℕ, zero, suc, ◌+◌, ◌≤◌, List, [], ◌∷◌, length, All, Some, sym, ap, ◌∙◌, subst, arith}
use Rattle.std.specs.Prelude.{slice_get}
use Rattle.std.proofs.lemmas.List.{length-map}
use Rattle.std.proofs.lemmas.Option.{none-some, same_Some, slice_get_within, get_or_from_slice_get, slice_get-get_or}
use Rattle.mx_blocks.specs.declared.Block.{Block}
use Rattle.mx_blocks.specs.declared.Plan.{Plan}
use Rattle.mx_squash.specs.Copies.{Site, sites}
use Rattle.mx_layout.specs.Layout.{plan_size, StandFrom, end_of}
use Rattle.mx_layout.proofs.Sited.{blocks_in-sites}
use Rattle.mx_layout.proofs.Links.{end_high}

pub at_place : {A : Type 0} (P : A → Type 0) (xs : List A) (i : ℕ) (x : A) → All P xs → slice_get xs i ≡ Some x → P x
at_place P xs i x h e = subst P (get_or_from_slice_get xs i x x e) (h i x (slice_get_within xs i x e))

-- each site ends at or before the end
pub site_below :
    (at : ℕ) (all : List Site) → StandFrom at all → (k : ℕ) (s : Site) → slice_get all k ≡ Some s → s.start + plan_size s.plan ≤ end_of at all
site_below at [] h k s e = absurd (none-some s e)
site_below at (t ∷ all) h zero s e =
    let same : t ≡ s = same_Some t s e in
    let start : t.start ≡ at = h.0 in
    let above = end_high (at + plan_size t.plan) all in
    let P : Site → Type 0 = λ x. x.start + plan_size x.plan ≤ end_of (at + plan_size t.plan) all in
    subst P same (omega arith)
site_below at (t ∷ all) h (suc k) s e = site_below (at + plan_size t.plan) all h.1 k s e

pub sites_below : (at : ℕ) (all : List Site) → StandFrom at all → All (λ (s : Site). s.start + plan_size s.plan ≤ end_of at all) all
sites_below at all h k d low = site_below at all h k _ (slice_get-get_or all k d low)

pub length-sites :
    (blocks : List Block) (plans : List Plan) (starts : List ℕ) → length plans ≡ length blocks → length starts ≡ length blocks
    → length (sites blocks plans starts) ≡ length blocks
length-sites blocks plans starts h k =
    sym (length-map (sites blocks plans starts) (λ (s : Site). s.block)) ∙ ap length (blocks_in-sites blocks plans starts h k)
