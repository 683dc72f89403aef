-- Words that need not be looked up in the cache.
use Rattle.std.proofs.Common.{arith, ◌≡◌, ◌<◌, ◌≤◌, ◌+◌, ◌-◌, ℕ, true, List, ◌∷◌, sym, ap, ◌∙◌, subst}
use Rattle.std.specs.Prelude.{nat_lt}
use Rattle.std.proofs.lemmas.Bool.Decides.{nat_tests}
use Rattle.mx_icache.specs.Residency.{resident}
use Rattle.mx_lane.specs.declared.window.Window.{Window}
use Rattle.mx_lane.specs.declared.queue.Queue.{Queue}
use Rattle.mx_lane.specs.Lanes.{IsKnown, AreKnown}

-- of an empty window nothing is to be known
pub known_empty : {C : Type 0} (holds : C → List ℕ → Type 0) (w : Window) (cache : C) → w.words ≡ 0 → IsKnown holds w cache
known_empty holds w cache none = record {
  here = λ past h j lt. absurd (omega (arith, none, lt));
  kept = λ past h j lt. absurd (omega (arith, none, lt));
}

-- nor of two
pub none_known : {C : Type 0} (holds : C → List ℕ → Type 0) (q : Queue) (cache : C) → q.window.words ≡ 0 → q.other.words ≡ 0 → AreKnown holds q cache
none_known holds q cache window other = record {
  window = known_empty holds q.window cache window;
  other = known_empty holds q.other cache other;
  missed = λ e. window;
}

module _ {C : Type 0} (holds : C → List ℕ → Type 0) (w : Window) (cache : C) (known : IsKnown holds w cache) (a : ℕ) (low : w.low ≤ a)
    (within : a - w.low < w.words) (past : List ℕ) (h : holds cache past) where
  same : w.low + (a - w.low) ≡ a
  same = omega (arith, low)

  pub has_here : resident past a ≡ true
  has_here = sym (ap (resident past) same) ∙ known.here past h (a - w.low) within

  pub has_kept : holds cache (a ∷ past)
  has_kept = subst (λ x. holds cache (x ∷ past)) same (known.kept past h (a - w.low) within)

pub less : (a b : ℕ) → nat_lt a b ≡ true → a < b
less a b e = grind (arith, nat_tests)
