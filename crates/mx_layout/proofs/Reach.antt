-- A branch that reaches its target in the padded layout reaches it in each layout of valid plans.
use Rattle.std.proofs.Common.{◌≡◌, ℕ, zero, suc, ◌+◌, ◌-◌, ◌<◌, ◌≤◌, ◌⊎◌, Bool, true, false, cond, List, [], ◌∷◌, length, drop, Option, Some, None, slice_index_or, refl, sym, ap, ◌∙◌, subst, inl, inr, ⊎_elim, All, arith}
use Rattle.std.specs.Prelude.{slice_index}
use Rattle.std.proofs.lemmas.Bool.Decides.{nat_tests}
use Rattle.std.proofs.lemmas.List.{drop_more}
use Rattle.std.proofs.lemmas.Option.{none-some, same_Some}
use Rattle.mx_isa.specs.declared.Place.{Place}
use Rattle.mx_source.specs.declared.statement.Statement.{Statement}
use Rattle.mx_source.specs.declared.statement.Statement.TheVariants.{Branch}
use Rattle.mx_source.specs.SourceValue.{SourceValue, IsSource}
use Rattle.mx_source.specs.Labels.{IsPlace}
use Rattle.mx_source.specs.Statements.{StatementFits}
use Rattle.mx_blocks.specs.declared.block.Block.{Block}
use Rattle.mx_blocks.specs.Leaders.{IsBlockOf, size, end_of as statement_end}
use Rattle.mx_validate.specs.Padded.{padded_place}
use Rattle.mx_validate.specs.Validity.{end_count}
use Rattle.mx_squash.specs.Copies.{Site, reaches}
use Rattle.mx_layout.specs.declared.error.LinkError.{LinkError}
use Rattle.mx_layout.specs.declared.error.LinkError.TheVariants.{Displacement, Memory}
use Rattle.mx_layout.specs.Layout.{plan_size, StandFrom, blocks_in, has_statement, link_of}
use Rattle.mx_layout.specs.Overlong.{Overlong, padded_size, padded_link, branch_target, unless_reached, overlong_to, or_else, overlong_from, overlong, IsReported}
use Rattle.mx_layout.proofs.Places.{last_of}
use Rattle.mx_layout.proofs.Sizes.{AreValid, first_valid, others_valid, padded_whole, valid_short}

-- two addresses are no further apart than two others, on the same side
abbrev IsNearer : ℕ → ℕ → ℕ → ℕ → Type 0
IsNearer from to from' to' = ((from ≤ to) × (to + from' ≤ to' + from)) ⊎ ((to ≤ from) × (from + to' ≤ from' + to))

reaches_nearer : (from to from' to' : ℕ) → IsNearer from to from' to' → reaches from' to' ≡ true → reaches from to ≡ true
reaches_nearer from to from' to' n r = ⊎_elim
    (λ k. join (omega (arith, k.0, k.1, (limits r).0)) (omega (arith, k.0)))
    (λ k. join (omega (arith, k.0)) (omega (arith, k.0, k.1, (limits r).1)))
    n
  where
    limits : reaches from' to' ≡ true → (to' ≤ from' + 32767) × (from' ≤ to' + 32768)
    limits r = grind (arith, nat_tests)

    join : to ≤ from + 32767 → from ≤ to + 32768 → reaches from to ≡ true
    join l m = grind (arith, nat_tests)

-- the address of a padded block
abbrev padded_start : ℕ → List Block → ℕ → ℕ
padded_start at [] k = at
padded_start at (b ∷ blocks) zero = at
padded_start at (b ∷ blocks) (suc k) = padded_start (at + padded_size b) blocks k

grow_by :
    (c : Bool) (at at' a b l l' : ℕ) → a ≤ b → at + a ≤ l → l + (at' + b) ≤ l' + (at + a)
    → (at ≤ cond c at l) × (cond c at l + at' ≤ cond c at' l' + at)
grow_by true at at' a b l l' p q r = (omega arith, omega arith)
grow_by false at at' a b l l' p q r = (omega arith, omega arith)

links_grow :
    (at at' : ℕ) (list : List Site) (t : ℕ) → AreValid list
    → (at ≤ link_of at list t) × (link_of at list t + at' ≤ padded_link at' (blocks_in list) t + at)
links_grow at at' [] t v = (omega arith, omega arith)
links_grow at at' (s ∷ list) t v =
    let rest = links_grow (at + plan_size s.plan) (at' + padded_size s.block) list t (others_valid s list v) in
    grow_by (has_statement t s.block) at at' (plan_size s.plan) (padded_size s.block) _ _
    (valid_short s.block s.plan (first_valid s list v)) rest.0 rest.1

starts_grow :
    (at at' : ℕ) (list : List Site) (k : ℕ) (d : Site) → StandFrom at list → AreValid list → k < length list
    → (at ≤ (slice_index_or list k d).start + (slice_index_or list k d).plan.place)
    × ((slice_index_or list k d).start + (slice_index_or list k d).plan.place + at' ≤ padded_start at' (blocks_in list) k + padded_place
    (slice_index_or list k d).block + at)
starts_grow at at' [] k d st v l = absurd (omega arith)
starts_grow at at' (s ∷ list) zero d st v l =
    let here = st.0 in
    let valid = first_valid s list v in
    let room = valid.room in
    (omega arith, omega arith)
starts_grow at at' (s ∷ list) (suc k) d st v l =
    let rest = starts_grow (at + plan_size s.plan) (at' + padded_size s.block) list k d st.1 (others_valid s list v) (omega arith) in
    let short = valid_short s.block s.plan (first_valid s list v) in
    let low = rest.0 in
    let high = rest.1 in
    (omega arith, omega arith)

first_near :
    (c : Bool) (at at' start place place' a b e l l' : ℕ) → start ≡ at → a ≡ place + e → b ≡ place' + e → place ≤ place' → at + a ≤ l
    → l + (at' + b) ≤ l' + (at + a) → IsNearer (start + place) (cond c at l) (at' + place') (cond c at' l')
first_near true at at' start place place' a b e l l' p q r s t u = inr (omega arith, omega arith)
first_near false at at' start place place' a b e l l' p q r s t u = inl (omega arith, omega arith)

other_near :
    (c : Bool) (at at' a b from from' l l' : ℕ) → a ≤ b → at + a ≤ from → from + (at' + b) ≤ from' + (at + a) → IsNearer from l from' l'
    → IsNearer from (cond c at l) from' (cond c at' l')
other_near true at at' a b from from' l l' p q r n = inr (omega arith, omega arith)
other_near false at at' a b from from' l l' p q r n = n

near :
    (at at' : ℕ) (list : List Site) (t k : ℕ) (d : Site) → StandFrom at list → AreValid list → k < length list
    → IsNearer ((slice_index_or list k d).start + (slice_index_or list k d).plan.place) (link_of at list t)
    (padded_start at' (blocks_in list) k + padded_place (slice_index_or list k d).block) (padded_link at' (blocks_in list) t)
near at at' [] t k d st v l = absurd (omega arith)
near at at' (s ∷ list) t zero d st v l =
    let valid = first_valid s list v in
    let later = links_grow (at + plan_size s.plan) (at' + padded_size s.block) list t (others_valid s list v) in
    first_near (has_statement t s.block) at at' s.start s.plan.place (padded_place s.block) (plan_size s.plan) (padded_size s.block) (end_count s.block.end) _ _
    st.0 valid.tail (padded_whole s.block) valid.room later.0 later.1
near at at' (s ∷ list) t (suc k) d st v l =
    let short = valid_short s.block s.plan (first_valid s list v) in
    let others = others_valid s list v in
    let starts = starts_grow (at + plan_size s.plan) (at' + padded_size s.block) list k d st.1 others (omega arith) in
    let rest = near (at + plan_size s.plan) (at' + padded_size s.block) list t k d st.1 others (omega arith) in
    other_near (has_statement t s.block) at at' (plan_size s.plan) (padded_size s.block) _ _ _ _ short starts.0 starts.1 rest

first_none : (o p : Option Overlong) → or_else o p ≡ None → o ≡ None
first_none None p e = refl
first_none (Some x) p e = absurd (none-some x (sym e))

other_none : (o p : Option Overlong) → or_else o p ≡ None → p ≡ None
other_none None p e = e
other_none (Some x) p e = absurd (none-some x (sym e))

reached : (c : Bool) (x : Overlong) → cond c None (Some x) ≡ None → c ≡ true
reached true x e = refl
reached false x e = absurd (none-some x (sym e))

reached_at :
    (source : SourceValue) (link : ℕ → ℕ) (at : ℕ) (b : Block) (o : Option ℕ) (t : ℕ) → overlong_to source link at b o ≡ None → o ≡ Some t
    → reaches (at + padded_place b) (link t) ≡ true
reached_at source link at b None t e f = absurd (none-some t f)
reached_at source link at b (Some u) t e f =
    let same = same_Some u t f in
    ap (λ x. reaches (at + padded_place b) (link x)) (sym same) ∙ reached (reaches (at + padded_place b) (link u)) _ e

all_reached :
    (source : SourceValue) (link : ℕ → ℕ) (at : ℕ) (list : List Site) (k : ℕ) (d : Site) (t : ℕ)
    → overlong_from source link at (blocks_in list) ≡ None → k < length list → branch_target (slice_index_or list k d).block.end ≡ Some t
    → reaches (padded_start at (blocks_in list) k + padded_place (slice_index_or list k d).block) (link t) ≡ true
all_reached source link at [] k d t e l f = absurd (omega arith)
all_reached source link at (s ∷ list) zero d t e l f =
    reached_at source link at s.block (branch_target s.block.end) t (first_none _ _ e) f
all_reached source link at (s ∷ list) (suc k) d t e l f =
    all_reached source link (at + padded_size s.block) list k d t (other_none _ _ e) (omega arith) f

pub layout_reaches :
    (source : SourceValue) (place : Place) (list : List Site) → StandFrom place.code list → AreValid list
    → overlong source place (blocks_in list) ≡ None → All
    (λ (s : Site). (target : ℕ) → branch_target s.block.end ≡ Some target
    → reaches (s.start + s.plan.place) (link_of place.code list target) ≡ true) list
layout_reaches source place list st v e k d l target f =
    reaches_nearer _ _ _ _ (near place.code place.code list target k d st v l)
    (all_reached source (padded_link place.code (blocks_in list)) place.code list k d target e l f)

split :
    (source : SourceValue) (link : ℕ → ℕ) (at : ℕ) (blocks : List Block) (k : ℕ) (b : Block) → k < length blocks → b ≡ slice_index_or blocks k b
    → overlong_from source link at (drop k blocks) ≡ or_else (overlong_to source link at b (branch_target b.end))
    (overlong_from source link (at + padded_size b) (drop (k + 1) blocks))
split source link at blocks k b l here =
    ap (overlong_from source link at) (drop_more blocks k b l ∙ ap (λ x. x ∷ drop (k + 1) blocks) (sym here))

-- the target of a branch is a statement or the end
target_of : (P : ℕ → Type 0) (s : Statement) (t : ℕ) → StatementFits P s → branch_target (statement_end s) ≡ Some t → P t
target_of P (Branch a b c target) t h e = subst P (same_Some target t e) h
target_of P _ t h e = absurd (none-some t e)

pub target_within :
    (source : SourceValue) (b : Block) (t : ℕ) → IsSource source → IsBlockOf source b → branch_target b.end ≡ Some t
    → t ≤ length source.statements
target_within source b t h k e =
    let last = last_of source b h k in
    let place = target_of (IsPlace source.labels (length source.statements)) last.statement t last.fits (ap branch_target last.ends ∙ e) in
    place.within

-- the branch of a block by two link maps that agree on what branches may name
pub overlong_to-same :
    (source : SourceValue) (link link' : ℕ → ℕ) (at : ℕ) (b : Block) → IsSource source → IsBlockOf source b
    → ((t : ℕ) → t ≤ length source.statements → link t ≡ link' t)
    → overlong_to source link at b (branch_target b.end) ≡ overlong_to source link' at b (branch_target b.end)
overlong_to-same source link link' at b h k e = by_target (branch_target b.end) refl
  where
    by_target : (o : Option ℕ) → branch_target b.end ≡ o → overlong_to source link at b o ≡ overlong_to source link' at b o
    by_target None f = refl
    by_target (Some t) f =
        ap (unless_reached (slice_index source.lines (b.first + size b - 1)) (at + padded_place b)) (e t (target_within source b t h k f))

-- the branches from block k on, where the one of block k reaches its target
pub reached_more :
    (source : SourceValue) (link : ℕ → ℕ) (at : ℕ) (blocks : List Block) (k n : ℕ) (b : Block) → k < length blocks
    → b ≡ slice_index_or blocks k b → n ≡ padded_size b → overlong_to source link at b (branch_target b.end) ≡ None
    → overlong_from source link (at + n) (drop (k + 1) blocks) ≡ overlong_from source link at (drop k blocks)
reached_more source link at blocks k n b l here same e =
    ap (λ x. overlong_from source link (at + x) (drop (k + 1) blocks)) same
    ∙ sym (ap (λ o. or_else o (overlong_from source link (at + padded_size b) (drop (k + 1) blocks))) e)
    ∙ sym (split source link at blocks k b l here)

-- and where it does not
pub reported_more :
    (source : SourceValue) (link : ℕ → ℕ) (at : ℕ) (blocks : List Block) (k : ℕ) (b : Block) (error : LinkError) → k < length blocks
    → b ≡ slice_index_or blocks k b → IsReported (overlong_to source link at b (branch_target b.end)) error
    → IsReported (overlong_from source link at (drop k blocks)) error
reported_more source link at blocks k b Memory l here h = tt
reported_more source link at blocks k b (Displacement line from to) l here h =
    split source link at blocks k b l here
    ∙ ap (λ o. or_else o (overlong_from source link (at + padded_size b) (drop (k + 1) blocks))) h
