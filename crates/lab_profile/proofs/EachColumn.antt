-- The columns of costs: numbers that add up when costs do.
use Rattle.std.proofs.Common.{◌≡◌, ℕ, zero, suc, ◌+◌, ◌<◌, ◌≤◌, Bool, true, false, cond, eqb, List, [], ◌∷◌, length, drop, refl, sym, ap, ◌∙◌, subst, arith, replicate}
use Rattle.std.specs.Prelude.{min, ◌-◌, ◌^◌, slice_index, slice_index_or}
use Rattle.std.proofs.lemmas.Bool.Decides.{nat_tests}
use Rattle.std.proofs.lemmas.List.{at_drop_more, drop_all, get_or_default}
use Rattle.mx_link.specs.declared.linked.Origin.{Origin}
use Rattle.lab_profile.specs.declared.lines.LineCost.{LineCost}
use Rattle.lab_profile.specs.declared.tally.Tally.{Tally}
use Rattle.lab_profile.specs.Charges.{sum_below}
use Rattle.lab_profile.specs.Lines.{saturated, no_cost, plus, cost_of, word_cost, owner_at, payer, charged, on_line, HasColumns}

-- a column is 0 where there is no cost, and adds up
pub record IsColumn (column : LineCost → ℕ) : Type 0 where
  pub none : column no_cost ≡ 0
  pub adds : (a b : LineCost) → column (plus a b) ≡ saturated (column a + column b)

-- what holds of each column holds of the eight that there are
pub all_columns : (sum_in : (LineCost → ℕ) → ℕ) (c : LineCost)
    → ((column : LineCost → ℕ) → IsColumn column → column c ≡ saturated (sum_in column)) → HasColumns sum_in c
all_columns sum_in c each = record {
  executed = each (λ x. x.executed) (record { none = refl; adds = λ a b. refl });
  cycles = each (λ x. x.cycles) (record { none = refl; adds = λ a b. refl });
  stalls = each (λ x. x.stalls) (record { none = refl; adds = λ a b. refl });
  noops = each (λ x. x.noops) (record { none = refl; adds = λ a b. refl });
  cancelled = each (λ x. x.cancelled) (record { none = refl; adds = λ a b. refl });
  killed = each (λ x. x.killed) (record { none = refl; adds = λ a b. refl });
  squashes = each (λ x. x.squashes) (record { none = refl; adds = λ a b. refl });
  penalty = each (λ x. x.penalty) (record { none = refl; adds = λ a b. refl });
}

saturated_more : (n w : ℕ) → saturated (saturated n + w) ≡ saturated (n + w)
saturated_more n w = grind (arith, nat_tests)

-- one more cost, where it is added
pub column_more : (column : LineCost → ℕ) → IsColumn column → (is : Bool) (n : ℕ) (old new more : LineCost)
    → new ≡ cond is (plus old more) old → column old ≡ saturated n → column new ≡ saturated (n + cond is (column more) 0)
column_more column h true n old new more e f = ap column e ∙ h.adds old more ∙ ap (λ m. saturated (m + column more)) f ∙ saturated_more n (column more)
column_more column h false n old new more e f = ap column e ∙ f ∙ ap saturated (let m : n ≡ n + 0 = omega arith in m)

module _ (column : LineCost → ℕ) (t : Tally) (i : ℕ) (origins : List Origin) where
  -- a column of statement i, and what the words from number k on add to it, make what all words do
  abbrev pub Charges : ℕ → ℕ → List LineCost → Type 0
  Charges k owner costs =
      (n : ℕ) × (column (cost_of costs i) ≡ saturated n) × (n + charged column t i k owner (drop k origins) ≡ charged column t i 0 0 origins)

  charges_on : IsColumn column → (k owner : ℕ) (d : Origin) (costs new : List LineCost) → k < length origins
      → (let from = slice_index_or origins k d in
      cost_of new i ≡ cond (eqb (payer (owner_at owner from) from) i) (plus (cost_of costs i) (word_cost t k from)) (cost_of costs i))
      → Charges k owner costs → Charges (k + 1) (owner_at owner (slice_index_or origins k d)) new
  charges_on h k owner d costs new l e (n, f, g) =
      let from = slice_index_or origins k d in
      let o = owner_at owner from in
      let is = eqb (payer o from) i in
      let w = cond is (column (word_cost t k from)) 0 in
      let rest = drop (k + 1) origins in
      let more =
      at_drop_more (charged column t i k owner) origins k d l
      ∙ ap (λ m. w + charged column t i m o rest) (let m : suc k ≡ k + 1 = omega arith in m) in
      (n + w, column_more column h is n (cost_of costs i) (cost_of new i) (word_cost t k from) e f, omega (arith, g, more))

  -- one more word, after which this statement owns no-ops
  pub charges_more : IsColumn column → (k owner next : ℕ) (d : Origin) (costs new : List LineCost) → k < length origins
      → next ≡ owner_at owner (slice_index_or origins k d)
      → (let from = slice_index_or origins k d in
      cost_of new i ≡ cond (eqb (payer next from) i) (plus (cost_of costs i) (word_cost t k from)) (cost_of costs i))
      → Charges k owner costs → Charges (k + 1) next new
  charges_more h k owner next d costs new l same e given =
      let from = slice_index_or origins k d in
      subst (λ (m : ℕ). Charges (k + 1) m new) (sym same)
      (charges_on h k owner d costs new l
      (subst (λ (m : ℕ). cost_of new i ≡ cond (eqb (payer m from) i) (plus (cost_of costs i) (word_cost t k from)) (cost_of costs i)) same e)
      given)

  pub charges_all : (k owner : ℕ) (costs : List LineCost) → length origins ≤ k → Charges k owner costs
      → column (cost_of costs i) ≡ saturated (charged column t i 0 0 origins)
  charges_all k owner costs l (n, e, f) =
      let none = ap (charged column t i k owner) (drop_all k origins l) in
      e ∙ ap saturated (let m : n ≡ charged column t i 0 0 origins = omega (arith, f, none) in m)

-- one more cost of all, and one more of those of a line
pub total_more : (column : LineCost → ℕ) → IsColumn column → (costs : List LineCost) (k : ℕ) (d old new : LineCost) → k < length costs
    → new ≡ plus old (slice_index_or costs k d) → column old ≡ saturated (sum_below (λ i. column (cost_of costs i)) k)
    → column new ≡ saturated (sum_below (λ i. column (cost_of costs i)) (k + 1))
total_more column h costs k d old new l e f =
    let sum = sum_below (λ i. column (cost_of costs i)) in
    column_more column h true (sum k) old new (cost_of costs k) (e ∙ ap (plus old) (get_or_default costs k d no_cost l)) f
    ∙ ap (λ m. saturated (sum m)) (let m : suc k ≡ k + 1 = omega arith in m)

pub line_more : (column : LineCost → ℕ) → IsColumn column → (lines : List ℕ) (costs : List LineCost) (n k : ℕ) (d old new : LineCost) → k < length costs
    → new ≡ cond (eqb (slice_index lines k) n) (plus old (slice_index_or costs k d)) old → column old ≡ saturated (on_line column n lines costs k)
    → column new ≡ saturated (on_line column n lines costs (k + 1))
line_more column h lines costs n k d old new l e f =
    let is = eqb (slice_index lines k) n in
    column_more column h is (on_line column n lines costs k) old new (cost_of costs k)
    (e ∙ ap (λ c. cond is (plus old c) old) (get_or_default costs k d no_cost l)) f
    ∙ ap (λ m. saturated (on_line column n lines costs m)) (let m : suc k ≡ k + 1 = omega arith in m)

none_there : (n i : ℕ) → cost_of (replicate n no_cost) i ≡ no_cost
none_there zero i = refl
none_there (suc n) zero = refl
none_there (suc n) (suc i) = none_there n i

-- nothing is charged yet
pub none_yet : (column : LineCost → ℕ) → IsColumn column → (costs : List LineCost) (n i : ℕ) → costs ≡ replicate n no_cost
    → column (cost_of costs i) ≡ saturated 0
none_yet column h costs n i e = ap (λ cs. column (cost_of cs i)) e ∙ ap column (none_there n i) ∙ h.none ∙ (let z : 0 ≡ saturated 0 = refl in z)
