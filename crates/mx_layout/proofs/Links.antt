-- The link map of a layout.
use Rattle.std.proofs.Common.{◌≡◌, ℕ, zero, suc, ◌+◌, ◌-◌, ◌<◌, ◌≤◌, Bool, true, false, cond, eqb, leb, ltb, ◌&&◌, List, [], ◌∷◌, length, Some, None, slice_index_or, refl, sym, ap, ◌∙◌, subst, ⊎_elim, All, arith}
use Rattle.std.proofs.lemmas.Bool.{cases_Bool, cases_lt, false≢true}
use Rattle.std.proofs.lemmas.Bool.Decides.{nat_tests}
use Rattle.std.proofs.lemmas.Option.{none-some, same_Some}
use Rattle.std.proofs.lemmas.List.Elements.{All-head, All-tail}
use Rattle.mx_isa.specs.declared.Place.{Place}
use Rattle.mx_source.specs.SourceValue.{SourceValue}
use Rattle.mx_blocks.specs.declared.block.Block.{Block}
use Rattle.mx_blocks.specs.declared.block.Plan.{Plan}
use Rattle.mx_blocks.specs.Leaders.{BlocksFrom, IsBlockOf, is_leader, size}
use Rattle.mx_blocks.specs.declared.block.End.TheVariants.{Branches, Calls}
use Rattle.mx_squash.specs.Copies.{Site, site_of, is_target}
use Rattle.mx_layout.specs.Layout.{IsLayout, plan_size, StandFrom, end_of, blocks_in, has_statement, link_of}

has : (t low high : ℕ) → low ≤ t → t < high → (leb low t && ltb t high) ≡ true
has t low high l m = grind (arith, nat_tests)

has_low : (t low high : ℕ) → (leb low t && ltb t high) ≡ true → low ≤ t
has_low t low high e = grind (arith, nat_tests)

has_not : (t low high : ℕ) → high ≤ t → (leb low t && ltb t high) ≡ false
has_not t low high l = grind (arith, nat_tests)

-- no block begins before the first
pub first_low :
    (source : SourceValue) (i j : ℕ) (list : List Site) (k : ℕ) (d : Site) → BlocksFrom source i j (blocks_in list) → k < length list
    → i ≤ (slice_index_or list k d).block.first
first_low source i j [] k d h l = absurd (omega arith)
first_low source i j (s ∷ list) zero d h l = let first = h.0 in omega arith
first_low source i j (s ∷ list) (suc k) d h l = let later = first_low source (i + size s.block) j list k d h.2 (omega arith) in omega arith

link_in :
    (source : SourceValue) (i j at : ℕ) (list : List Site) (k : ℕ) (d : Site) (t : ℕ) → BlocksFrom source i j (blocks_in list) → StandFrom at list
    → k < length list → has_statement t (slice_index_or list k d).block ≡ true → link_of at list t ≡ (slice_index_or list k d).start
link_in source i j at [] k d t h st l e = absurd (omega arith)
link_in source i j at (s ∷ list) zero d t h st l e = ap (λ c. cond c at (link_of (at + plan_size s.plan) list t)) e ∙ sym st.0
link_in source i j at (s ∷ list) (suc k) d t h st l e =
    let b = (slice_index_or list k d).block in
    let low = first_low source (i + size s.block) j list k d h.2 (omega arith) in
    let own = has_low t b.first (b.first + size b) e in
    let first = h.0 in
    ap (λ c. cond c at (link_of (at + plan_size s.plan) list t)) (has_not t s.block.first (s.block.first + size s.block) (omega arith))
    ∙ link_in source (i + size s.block) j (at + plan_size s.plan) list k d t h.2 st.1 (omega arith) e

-- the link of a statement is the start of the site whose block it is in
pub statement_link :
    (Takes : Block → Plan → Type 0) (source : SourceValue) (place : Place) (list : List Site) → IsLayout Takes source place list
    → All (λ (s : Site). (t : ℕ) → has_statement t s.block ≡ true → link_of place.code list t ≡ s.start) list
statement_link Takes source place list h k d l t e = link_in source 0 (length source.statements) place.code list k d t h.blocks h.stand l e

blocks_of :
    (source : SourceValue) (i j : ℕ) (list : List Site) (k : ℕ) (d : Site) → BlocksFrom source i j (blocks_in list) → k < length list
    → IsBlockOf source (slice_index_or list k d).block
blocks_of source i j [] k d h l = absurd (omega arith)
blocks_of source i j (s ∷ list) zero d h l = h.1
blocks_of source i j (s ∷ list) (suc k) d h l = blocks_of source (i + size s.block) j list k d h.2 (omega arith)

-- each site has a block of the source, so that it has a statement
pub site_blocks :
    (Takes : Block → Plan → Type 0) (source : SourceValue) (place : Place) (list : List Site) → IsLayout Takes source place list
    → All (λ (s : Site). IsBlockOf source s.block) list
site_blocks Takes source place list h k d l = blocks_of source 0 (length source.statements) list k d h.blocks l

-- the link of a block's first statement is its start
pub first_link :
    (Takes : Block → Plan → Type 0) (source : SourceValue) (place : Place) (list : List Site) → IsLayout Takes source place list
    → All (λ (s : Site). link_of place.code list s.block.first ≡ s.start) list
first_link Takes source place list h k d l =
    let b = (slice_index_or list k d).block in
    let some = (site_blocks Takes source place list h k d l).some in
    statement_link Takes source place list h k d l b.first (has b.first b.first (b.first + size b) (omega arith) (omega arith))

-- what holds of all sites holds of the one that is found, and its block passes
pub site_found :
    (P : Site → Type 0) (test : Block → Bool) (list : List Site) (s : Site) → All P list → site_of test list ≡ Some s
    → P s × (test s.block ≡ true)
site_found P test [] s h e = absurd (none-some s e)
site_found P test (r ∷ list) s h e =
    let later : site_of test list ≡ Some s → P s × (test s.block ≡ true) = λ f. site_found P test list s (All-tail P r list h) f in
    at_first (test r.block) refl e later
  where
    at_first :
        (c : Bool) → test r.block ≡ c → cond (test r.block) (Some r) (site_of test list) ≡ Some s
        → (site_of test list ≡ Some s → P s × (test s.block ≡ true)) → P s × (test s.block ≡ true)
    at_first true f g later =
        let same : r ≡ s = same_Some r s (sym (ap (λ c. cond c (Some r) (site_of test list)) f) ∙ g) in
        (subst P same (All-head P r list h), subst (λ (x : Site). test x.block ≡ true) same f)
    at_first false f g later = later (sym (ap (λ c. cond c (Some r) (site_of test list)) f) ∙ g)

-- the site that is found for a target begins at the target's link
pub target_link :
    (Takes : Block → Plan → Type 0) (source : SourceValue) (place : Place) (list : List Site) (target : ℕ) (s : Site) → IsLayout Takes source place list
    → site_of (λ b. eqb b.first target) list ≡ Some s → link_of place.code list target ≡ s.start
target_link Takes source place list target s h e =
    let found = site_found (λ (r : Site). link_of place.code list r.block.first ≡ r.start) (λ b. eqb b.first target) list s
    (first_link Takes source place list h) e in
    let same : s.block.first ≡ target = equal s.block.first found.1 in
    ap (λ t. link_of place.code list t) (sym same) ∙ found.0
  where
    equal : (a : ℕ) → eqb a target ≡ true → a ≡ target
    equal a f = grind (arith, nat_tests)

past :
    (source : SourceValue) (i j at : ℕ) (list : List Site) (t : ℕ) → BlocksFrom source i j (blocks_in list) → length source.statements ≤ t
    → link_of at list t ≡ end_of at list
past source i j at [] t h l = refl
past source i j at (s ∷ list) t h l =
    let within = h.1.within in
    ap (λ c. cond c at (link_of (at + plan_size s.plan) list t)) (has_not t s.block.first (s.block.first + size s.block) (omega arith))
    ∙ past source (i + size s.block) j (at + plan_size s.plan) list t h.2 l

-- the link of the number of statements is the address after the last word
pub end_link :
    (Takes : Block → Plan → Type 0) (source : SourceValue) (place : Place) (list : List Site) → IsLayout Takes source place list
    → link_of place.code list (length source.statements) ≡ end_of place.code list
end_link Takes source place list h = past source 0 (length source.statements) place.code list (length source.statements) h.blocks (omega arith)

pub end_high : (at : ℕ) (list : List Site) → at ≤ end_of at list
end_high at [] = omega arith
end_high at (s ∷ list) = let rest = end_high (at + plan_size s.plan) list in omega arith

-- links are no further than the end
pub link_within : (at : ℕ) (list : List Site) (t : ℕ) → (at ≤ link_of at list t) × (link_of at list t ≤ end_of at list)
link_within at [] t = (omega arith, omega arith)
link_within at (s ∷ list) t =
    let rest = link_within (at + plan_size s.plan) list t in
    by_case (has_statement t s.block) (link_of (at + plan_size s.plan) list t) rest.0 rest.1
  where
    by_case :
        (c : Bool) (l : ℕ) → at + plan_size s.plan ≤ l → l ≤ end_of (at + plan_size s.plan) list
        → (at ≤ cond c at l) × (cond c at l ≤ end_of (at + plan_size s.plan) list)
    by_case true l p q = (omega arith, omega arith)
    by_case false l p q = (omega arith, q)

not_inside :
    (source : SourceValue) (b : Block) (i t : ℕ) → IsBlockOf source b → b.first ≡ i → i ≤ t → is_leader source t ≡ true
    → eqb b.first t ≡ false → i + size b ≤ t
not_inside source b i t h first l e f = ⊎_elim
    (λ inside.
    let apart = differs b.first t f in
    let quiet : is_leader source (b.first + (t - i)) ≡ false = h.inner (t - i) (omega arith) (omega arith) in
    let same : b.first + (t - i) ≡ t = omega arith in
    absurd (false≢true (sym quiet ∙ ap (is_leader source) same ∙ e)))
    (λ behind. behind)
    (cases_lt t (i + size b))
  where
    differs : (a c : ℕ) → eqb a c ≡ false → a ≡ c → ⊥
    differs a c f g = grind (arith, nat_tests)

-- each leader but the end begins a block
leads :
    (source : SourceValue) (i j : ℕ) (list : List Site) (t : ℕ) → BlocksFrom source i j (blocks_in list) → i ≤ t → t < j
    → is_leader source t ≡ true → (s : Site) × (site_of (λ b. eqb b.first t) list ≡ Some s)
leads source i j [] t h l m e = let same : i ≡ j = h in absurd (omega arith)
leads source i j (s ∷ list) t h l m e = ⊎_elim
    (λ f. (s, ap (λ c. cond c (Some s) (site_of (λ b. eqb b.first t) list)) f))
    (λ f.
    let found = leads source (i + size s.block) j list t h.2 (not_inside source s.block i t h.1 h.0 l e f) m e in
    (found.0, ap (λ c. cond c (Some s) (site_of (λ b. eqb b.first t) list)) f ∙ found.1))
    (cases_Bool (eqb s.block.first t))

-- the site of a leader's block is found
pub leader_site :
    (Takes : Block → Plan → Type 0) (source : SourceValue) (place : Place) (list : List Site) (t : ℕ) → IsLayout Takes source place list
    → is_leader source t ≡ true → t < length source.statements → (s : Site) × (site_of (λ b. eqb b.first t) list ≡ Some s)
leader_site Takes source place list t h e l = leads source 0 (length source.statements) list t h.blocks (omega arith) l e

pub branch_link :
    (Takes : Block → Plan → Type 0) (source : SourceValue) (place : Place) (list : List Site) (target : ℕ) (s : Site) → IsLayout Takes source place list
    → site_of (is_target (Branches target)) list ≡ Some s → link_of place.code list target ≡ s.start
branch_link Takes source place list target s h e = target_link Takes source place list target s h e

pub call_link :
    (Takes : Block → Plan → Type 0) (source : SourceValue) (place : Place) (list : List Site) (target : ℕ) (s : Site) → IsLayout Takes source place list
    → site_of (is_target (Calls target)) list ≡ Some s → link_of place.code list target ≡ s.start
call_link Takes source place list target s h e = target_link Takes source place list target s h e

-- a leader with no site is the end
pub no_site :
    (Takes : Block → Plan → Type 0) (source : SourceValue) (place : Place) (list : List Site) (t : ℕ) → IsLayout Takes source place list
    → is_leader source t ≡ true → t ≤ length source.statements → site_of (λ b. eqb b.first t) list ≡ None
    → (t ≡ length source.statements) × (link_of place.code list t ≡ end_of place.code list)
no_site Takes source place list t h e l none = ⊎_elim
    (λ below. let found = leader_site Takes source place list t h e below in absurd (none-some found.0 (sym none ∙ found.1)))
    (λ past.
    let same : t ≡ length source.statements = omega arith in
    (same, ap (λ i. link_of place.code list i) same ∙ end_link Takes source place list h))
    (cases_lt t (length source.statements))
