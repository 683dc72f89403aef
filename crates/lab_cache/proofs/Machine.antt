-- The cache of the machine is a cache of its geometry.
use Rattle.std.proofs.Common.{◌≡◌, ◌≢◌, ℕ, ◌/◌, ◌%◌, Bool, true, false, cond, eqb, not, ◌&&◌, ◌||◌, List, [], ◌∷◌, refl, sym, ◌∙◌, ap, arith}
use Rattle.std.proofs.lemmas.Bool.Decides.{nat_tests}
use Rattle.lab_terms.specs.declared.geometry.TheConstants.{SHIPPED_CACHE}
use Rattle.mx_icache.specs.Residency as machine
use Rattle.mx_icache.proofs.Steps.{near, missed_since-cons, missed_since-other}
use Rattle.lab_cache.specs.Misses.{allocated, is_held, fetched_since, MachineAgrees}

-- the same lines are allocated
same_lines : (past : List ℕ) (s : ℕ) → allocated SHIPPED_CACHE past s ≡ machine.allocated past s
unfolding allocated machine.allocated
same_lines [] s = refl
same_lines (a ∷ past) s =
    ap (λ before. cond (eqb (a / 16 % 4) s && not (machine.is_among_last before (a / 16))) (a / 16 ∷ before) before) (same_lines past s)

same_held : (past : List ℕ) (l : ℕ) → is_held SHIPPED_CACHE past l ≡ machine.is_held past l
same_held past l = ap (λ lines. machine.is_among_last lines l) (same_lines past (l % 4))

-- an address or its pair is of the same group of the same line
near-group : (a b : ℕ) → a / 16 ≡ b / 16 → near a b ≡ eqb (a % 16 / 2) (b % 16 / 2)
near-group a b same = grind (arith, nat_tests)

-- of one line: what missed since is what was fetched since
same_word : (held together before now : Bool) → (held ≡ true → together ≡ true → before ≡ now)
    → cond (not held && true) ((not held || not before) && together) (((not held || not before) && together) || now) ≡ (together || held && now)
same_word false true before now h = refl
same_word false false before now h = refl
same_word true false before now h = grind (arith, nat_tests)
same_word true true true now h = let e : true ≡ now = h refl refl in rw (sym e) refl
same_word true true false now h = refl

of_line : (past : List ℕ) (b a : ℕ) → b / 16 ≡ a / 16
    → (eqb (b % 16 / 2) (a % 16 / 2) ≡ true → machine.missed_since past b ≡ machine.missed_since past a)
    → machine.missed_since (b ∷ past) a ≡ (eqb (b % 16 / 2) (a % 16 / 2) || machine.is_held past (a / 16) && machine.missed_since past a)
of_line past b a line agrees =
    let test : eqb (b / 16) (a / 16) ≡ true = grind (arith, nat_tests) in
    let held : machine.is_held past (b / 16) ≡ machine.is_held past (a / 16) = ap (λ l. machine.is_held past l) line in
    rw missed_since-cons (rw (test, held, near-group b a line)
    (same_word (machine.is_held past (a / 16)) (eqb (b % 16 / 2) (a % 16 / 2)) (machine.missed_since past b) (machine.missed_since past a) (λ h t. agrees t)))

same_fetched : (past : List ℕ) (a : ℕ) → fetched_since SHIPPED_CACHE past (a / 16) (a % 16 / 2) ≡ machine.missed_since past a
unfolding fetched_since machine.missed_since
same_fetched [] a = refl
same_fetched (b ∷ past) a =
    elim (eqb (b / 16) (a / 16)) as (λ v. eqb (b / 16) (a / 16) ≡ v
    → cond v (eqb (b % 16 / 2) (a % 16 / 2) || (is_held SHIPPED_CACHE past (a / 16) && fetched_since SHIPPED_CACHE past (a / 16) (a % 16 / 2)))
    (fetched_since SHIPPED_CACHE past (a / 16) (a % 16 / 2)) ≡ machine.missed_since (b ∷ past) a) [
      | true ↦ λ e.
          let line : b / 16 ≡ a / 16 = grind (arith, nat_tests) in
          ap (λ t. eqb (b % 16 / 2) (a % 16 / 2) || (t && fetched_since SHIPPED_CACHE past (a / 16) (a % 16 / 2))) (same_held past (a / 16))
          ∙ ap (λ t. eqb (b % 16 / 2) (a % 16 / 2) || (machine.is_held past (a / 16) && t)) (same_fetched past a)
          ∙ sym (of_line past b a line (λ t. let group : b % 16 / 2 ≡ a % 16 / 2 = grind (arith, nat_tests) in
          sym (same_fetched past b) ∙ (λ k. fetched_since SHIPPED_CACHE past (line k) (group k)) ∙ same_fetched past a))
      | false ↦ λ e.
          let line : b / 16 ≢ a / 16 = grind (arith, nat_tests) in
          same_fetched past a ∙ sym (missed_since-other b past a line)
    ] refl

pub machine_agrees : MachineAgrees
machine_agrees past a = ap (λ t. t && fetched_since SHIPPED_CACHE past (a / 16) (a % 16 / 2)) (same_held past (a / 16))
    ∙ ap (λ t. machine.is_held past (a / 16) && t) (same_fetched past a)
