-- A fetched word is resident.
use Rattle.std.proofs.Common.{◌≡◌, ℕ, Bool, true, false, eqb, not, ◌&&◌, ◌||◌, List, ◌∷◌, refl, arith}
use Rattle.std.proofs.lemmas.Bool.Decides.{nat_tests}
use Rattle.mx_icache.specs.Residency.{line_of, set_of, is_held, missed_since, resident}
use Rattle.mx_icache.proofs.Steps.{near, missed_since-cons, allocated-held, allocated-missed}

same : (a : ℕ) → eqb a a ≡ true
same a = grind (arith, nat_tests)

near_self : (a : ℕ) → near a a ≡ true
near_self a = rw (same a) refl

either : (missed : Bool) → (not missed && true || missed) ≡ true
either true = refl
either false = refl

pub resident_once_fetched : (past : List ℕ) (a : ℕ) → resident (a ∷ past) a ≡ true
resident_once_fetched past a =
    elim (is_held past (line_of a)) as (λ v. is_held past (line_of a) ≡ v → resident (a ∷ past) a ≡ true) [
      | true ↦ λ h. rw (allocated-held a past (set_of (line_of a)) h, missed_since-cons a past a) (rw (h, near_self a) (either (missed_since past a)))
      | false ↦ λ h. rw (allocated-missed a past h, missed_since-cons a past a) (rw (h, near_self a, same (line_of a)) refl)
    ] refl
