-- The gap to the last leader says where the leaders stand.
use Rattle.std.proofs.Common.{◌≡◌, ◌≢◌, ℕ, zero, suc, ◌+◌, ◌-◌, ◌<◌, ◌≤◌, Bool, true, false, cond, eqb, ◌||◌, ◌⊎◌, List, refl, sym, ap, ◌∙◌, subst, ⊎_elim, inl, inr, arith}
use Rattle.std.specs.Prelude.{slice_get}
use Rattle.std.proofs.lemmas.Bool.{false≢true, eq-eqb}
use Rattle.std.proofs.lemmas.Bool.Decides.{nat_tests}
use Rattle.mx_source.specs.declared.statement.Statement.{Statement}
use Rattle.mx_source.specs.Labels.{is_labelled}
use Rattle.mx_source.specs.SourceValue.{SourceValue}
use Rattle.mx_blocks.specs.declared.block.Block.{Block}
use Rattle.mx_blocks.specs.Leaders.{ends_there, gap, is_leader, size, IsBlockOf}
use Rattle.mx_blocks.specs.Splitting.{Begins, LeadersBegin}
use Rattle.mx_blocks.specs.Splitting.Begins.{First, Labelled, Behind, Far}
use Rattle.mx_blocks.proofs.Splits.{gap_small, gap_grows}

is_zero : (n : ℕ) → eqb n 0 ≡ true → n ≡ 0
is_zero n h = grind (arith, nat_tests)

is_not : (n : ℕ) → n ≢ 0 → eqb n 0 ≡ false
is_not n h = grind (arith, nat_tests)

not_zero : (n : ℕ) → eqb n 0 ≡ false → n ≢ 0
not_zero n h e = false≢true (sym h ∙ eq-eqb n 0 e)

-- a gap is one more at each statement since the leader
back : (labelled : ℕ → Bool) (statements : List Statement) (k j i : ℕ) → j + k ≡ i → k ≤ gap labelled statements i
    → gap labelled statements j + k ≡ gap labelled statements i
back labelled statements zero j i e h = let at : j ≡ i = omega arith in subst (λ n. gap labelled statements j + 0 ≡ gap labelled statements n) at (omega arith)
back labelled statements (suc k) j i e h =
    let later = back labelled statements k (suc j) i (omega arith) (omega arith) in
    let apart : gap labelled statements (suc j) ≢ 0 = λ z. (absurd (omega arith)) in
    let grows = gap_grows labelled statements j apart in
    omega arith

-- behind a leader a gap counts the statements as long as none of them leads
pub behind_leader : (source : SourceValue) (j d : ℕ) → is_leader source j ≡ true → ((k : ℕ) → j < k → k ≤ j + d → is_leader source k ≡ false)
    → gap (is_labelled source.labels) source.statements (j + d) ≡ d
behind_leader source j zero leader quiet =
    let at : j ≡ j + 0 = omega arith in
    subst (λ n. gap (is_labelled source.labels) source.statements n ≡ 0) at (is_zero _ leader)
behind_leader source j (suc d) leader quiet =
    let before = behind_leader source j d leader (λ k low high. quiet k low (omega arith)) in
    let next : suc (j + d) ≡ j + suc d = omega arith in
    let apart = not_zero _ (quiet (suc (j + d)) (omega arith) (omega arith)) in
    subst (λ n. gap (is_labelled source.labels) source.statements n ≡ suc d) next
    (gap_grows (is_labelled source.labels) source.statements (j + d) apart ∙ ap suc before)

-- a block has at most 64 statements
pub block_small : (source : SourceValue) (block : Block) → IsBlockOf source block → size block ≤ 64
block_small source block is =
    let some = is.some in
    let last = behind_leader source block.first (size block - 1) is.leader (λ k low high.
    (let at : block.first + (k - block.first) ≡ k = omega arith in
    subst (λ n. is_leader source n ≡ false) at (is.inner (k - block.first) (omega arith) (omega arith)))) in
    let small = gap_small (is_labelled source.labels) source.statements (block.first + (size block - 1)) in
    omega arith

-- what makes a gap 0
why : (a b : Bool) (g : ℕ) → cond (a || (b || eqb g 63)) 0 (suc g) ≡ 0 → (a ≡ true) ⊎ ((b ≡ true) ⊎ (g ≡ 63))
why a b g h = grind (arith, nat_tests)

leads : (a b : Bool) (g : ℕ) → (a ≡ true) ⊎ ((b ≡ true) ⊎ (g ≡ 63)) → cond (a || (b || eqb g 63)) 0 (suc g) ≡ 0
leads a b g h = grind (arith, nat_tests)

gap_within : (labelled : ℕ → Bool) (statements : List Statement) (i : ℕ) → gap labelled statements i ≤ i
gap_within labelled statements zero = omega arith
gap_within labelled statements (suc i) =
    step (labelled (suc i) || (ends_there (slice_get statements i) || eqb (gap labelled statements i) 63)) (gap_within labelled statements i)
  where
    step : (b : Bool) → gap labelled statements i ≤ i → cond b 0 (suc (gap labelled statements i)) ≤ suc i
    step true h = omega arith
    step false h = omega arith

far : (source : SourceValue) (m : ℕ) → gap (is_labelled source.labels) source.statements m ≡ 63 → Begins source (suc m)
far source m full =
    let labelled = is_labelled source.labels in
    let within = gap_within labelled source.statements m in
    let j = m - 63 in
    let at : j + 63 ≡ m = omega arith in
    let first = back labelled source.statements 63 j m at (omega arith) in
    Far j (omega arith) (eq-eqb _ 0 (omega arith)) (λ k low high.
    (let d = m - k in
    let here = back labelled source.statements d k m (omega arith) (omega arith) in
    is_not _ (λ z. (absurd (omega arith)))))

begins : (source : SourceValue) (i : ℕ) → is_leader source i ≡ true → Begins source i
begins source zero h = First refl
begins source (suc m) h = ⊎_elim
    (λ labelled. Labelled labelled)
    (λ other. ⊎_elim (λ ends. Behind m refl ends) (λ full. far source m full) other)
    (why (is_labelled source.labels (suc m)) (ends_there (slice_get source.statements m)) (gap (is_labelled source.labels) source.statements m) (is_zero _ h))

-- statement suc m is a leader where one of the three holds
leader_where : (source : SourceValue) (m : ℕ)
    → (is_labelled source.labels (suc m) ≡ true)
    ⊎ ((ends_there (slice_get source.statements m) ≡ true) ⊎ (gap (is_labelled source.labels) source.statements m ≡ 63))
    → is_leader source (suc m) ≡ true
leader_where source m h =
    eq-eqb _ 0 (leads (is_labelled source.labels (suc m)) (ends_there (slice_get source.statements m)) (gap (is_labelled source.labels) source.statements m) h)

is_begun : (source : SourceValue) (i : ℕ) → Begins source i → is_leader source i ≡ true
is_begun source zero h = refl
is_begun source (suc m) (First e) = absurd (omega arith)
is_begun source (suc m) (Labelled e) = leader_where source m (inl e)
is_begun source (suc m) (Behind before at e) =
    let same : before ≡ m = omega arith in
    leader_where source m (inr (inl (subst (λ n. ends_there (slice_get source.statements n) ≡ true) same e)))
is_begun source (suc m) (Far j at leader quiet) =
    let same : j + 63 ≡ m = omega arith in
    let full = behind_leader source j 63 leader (λ k low high. quiet k low (omega arith)) in
    leader_where source m (inr (inr (subst (λ n. gap (is_labelled source.labels) source.statements n ≡ 63) same full)))

pub leaders_begin : LeadersBegin
leaders_begin source i = (begins source i, is_begun source i)
