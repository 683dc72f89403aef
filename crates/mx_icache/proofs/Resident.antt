-- A fetch of a resident word changes no cache, and makes no other word resident.
use Rattle.std.proofs.Common.{◌≡◌, ◌≢◌, ℕ, true, false, eqb, ◌&&◌, List, ◌∷◌, refl, arith}
use Rattle.std.proofs.lemmas.Bool.{and_parts}
use Rattle.std.proofs.lemmas.Bool.Decides.{nat_tests}
use Rattle.mx_icache.specs.declared.line_set.Set.{Set}
use Rattle.mx_icache.specs.declared.line_cache.LineCache.{LineCache}
use Rattle.mx_icache.specs.declared.plain_set.PlainSet.{PlainSet}
use Rattle.mx_icache.specs.declared.plain_cache.PlainCache.{PlainCache}
use Rattle.mx_icache.specs.Residency.{line_of, set_of, is_among_last, allocated, is_held, missed_since, resident}
use Rattle.mx_icache.specs.LineSets.{line_in, word_in, SetHolds, CacheHolds}
use Rattle.mx_icache.specs.PlainSets.{line_at, word_at, PlainSetHolds, PlainHolds}
use Rattle.mx_icache.proofs.Steps.{allocated-held, missed_since-resident}
use Rattle.mx_icache.proofs.Lines.{words_hit}
use Rattle.mx_icache.proofs.SetSteps.{set_inside, set_other}
use Rattle.mx_icache.proofs.PlainSteps.{plain_inside, plain_other}

module _ (past : List ℕ) (a : ℕ) (here : resident past a ≡ true) where
  held_here : is_held past (line_of a) ≡ true
  held_here = (and_parts (is_held past (line_of a)) (missed_since past a) here).0

  missed_here : missed_since past a ≡ true
  missed_here = (and_parts (is_held past (line_of a)) (missed_since past a) here).1

  allocated_still : (s : ℕ) → allocated (a ∷ past) s ≡ allocated past s
  allocated_still s = allocated-held a past s held_here

  -- the words that are resident stay
  pub resident_still : (b : ℕ) → resident (a ∷ past) b ≡ resident past b
  resident_still b = λ k. is_among_last (allocated_still (set_of (line_of b)) k) (line_of b) && missed_since-resident a past b held_here missed_here k

  set_keeps : (set : Set) → SetHolds set past (set_of (line_of a)) → SetHolds set (a ∷ past) (set_of (line_of a))
  set_keeps set h = record {
    ring = rw (allocated_still (set_of (line_of a))) h.ring;
    apart = h.apart;
    words = words_hit (line_in set) (word_in set) a past (set_of (line_of a)) held_here missed_here (set_inside set past (set_of (line_of a)) h) h.words;
  }

  plain_set_keeps : (set : PlainSet) → PlainSetHolds set past (set_of (line_of a)) → PlainSetHolds set (a ∷ past) (set_of (line_of a))
  plain_set_keeps set h = record {
    lines = rw (allocated_still (set_of (line_of a))) h.lines;
    apart = h.apart;
    words = words_hit (line_at set) (word_at set) a past (set_of (line_of a)) held_here missed_here (plain_inside set past (set_of (line_of a)) h) h.words;
  }

  -- in any set, by what holds of the address's own and of the others
  each_set : {X : Type 0} (Holds : X → List ℕ → ℕ → Type 0) (one : X) (s : ℕ)
      → (Holds one past (set_of (line_of a)) → Holds one (a ∷ past) (set_of (line_of a)))
      → (set_of (line_of a) ≢ s → Holds one past s → Holds one (a ∷ past) s) → Holds one past s → Holds one (a ∷ past) s
  each_set Holds one s own other h =
      elim (eqb (set_of (line_of a)) s) as (λ t. eqb (set_of (line_of a)) s ≡ t → Holds one (a ∷ past) s) [
        | true ↦ λ e. let same : set_of (line_of a) ≡ s = grind (arith, nat_tests) in rw same at (own (rw same h))
        | false ↦ λ e. let apart : set_of (line_of a) ≢ s = grind (arith, nat_tests) in other apart h
      ] refl

pub cache_keeps : (cache : LineCache) (past : List ℕ) (a : ℕ) → CacheHolds cache past → resident past a ≡ true → CacheHolds cache (a ∷ past)
cache_keeps cache past a h here = λ s set at.
    each_set past a here SetHolds set s (set_keeps past a here set) (λ ne. set_other set a past s ne) (h s set at)

pub plain_keeps : (cache : PlainCache) (past : List ℕ) (a : ℕ) → PlainHolds cache past → resident past a ≡ true → PlainHolds cache (a ∷ past)
plain_keeps cache past a h here = λ s set at.
    each_set past a here PlainSetHolds set s (plain_set_keeps past a here set) (λ ne. plain_other set a past s ne) (h s set at)
