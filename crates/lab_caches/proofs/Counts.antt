-- What a machine counts of the addresses that it fetches.
use Rattle.std.proofs.Common.{◌≡◌, ◌≤◌, ◌+◌, ℕ, zero, suc, Bool, true, false, cond, not, List, [], ◌∷◌, length, refl, sym, ap, ◌∙◌, subst, arith, ⊎_elim, Option}
use Rattle.std.specs.Prelude.{eqb, ◌-◌}
use Rattle.std.proofs.lemmas.Bool.{cases_Bool}
use Rattle.mx_delay.specs.Delay.{Code}
use Rattle.mx_icache.specs.Residency.{resident}
use Rattle.mx_turn.specs.Counted.{one, after_stall}
use Rattle.mx_turn.specs.Cycle.{MachineState, reached, latched, cycled}
use Rattle.mx_turn.specs.Program.{Program, code_of}
use Rattle.mx_turn.specs.Run.{is_requested}
use Rattle.mx_turn.proofs.Steps.{cycled_halted, cycled_acted, cycled_stalled}
use Rattle.mx_report.proofs.Runs.{ended_same, state_at, next_state}
use Rattle.lab_cache.specs.Misses.{misses_in, resident_in}
use Rattle.lab_cache.proofs.Machine.{machine_agrees}
use Rattle.lab_terms.specs.declared.geometry.Geometry.{Geometry}
use Rattle.lab_terms.specs.declared.geometry.TheConstants.{SHIPPED_CACHE}
use Rattle.lab_caches.specs.Rows.{CountsFetches, EachRunCountsFetches}

-- no more of them miss than there are
pub misses_few : (g : Geometry) (past : List ℕ) → misses_in g past ≤ length past
unfolding misses_in
misses_few g [] = omega arith
misses_few g (a ∷ past) = more (resident_in g past a) (misses_few g past)
  where
    more : (b : Bool) → misses_in g past ≤ length past → misses_in g past + cond b 0 1 ≤ suc (length past)
    more true h = omega (arith, h)
    more false h = omega (arith, h)

-- the fetches are counted, those that missed too, and they are no more than the cycles
pub record IsCounted (m : MachineState) : Type 0 where
  pub fetches : m.counts.fetches ≡ length m.past
  pub misses : m.counts.misses ≡ misses_in SHIPPED_CACHE m.past

missed_more : (past : List ℕ) (a : ℕ) → misses_in SHIPPED_CACHE (a ∷ past) ≡ misses_in SHIPPED_CACHE past + one (not (resident past a))
unfolding misses_in
missed_more past a = ap (λ b. misses_in SHIPPED_CACHE past + cond b 0 1) (machine_agrees past a) ∙ turned (resident past a)
  where
    turned : (b : Bool) → misses_in SHIPPED_CACHE past + cond b 0 1 ≡ misses_in SHIPPED_CACHE past + one (not b)
    turned true = refl
    turned false = refl

along : {n n' : MachineState} → n ≡ n' → IsCounted n → IsCounted n'
along e c = subst (λ (x : MachineState). IsCounted x) e c

cycle_counts : (code : Code) (input : Option (List ℕ)) (m : MachineState) (request : Bool) → IsCounted m → IsCounted (cycled resident code input m request)
cycle_counts code input m request is = ⊎_elim
    (λ h. along (cycled_halted resident code input m request h) is)
    (λ h. ⊎_elim
    (λ s.
    let past = ended_same (λ (x : MachineState). x.past) code (reached code input (latched request m)) refl refl in
    along (cycled_acted resident code input m request h s)
    (record {
      fetches = ap (λ n. n + 1) is.fetches ∙ (let e : length m.past + 1 ≡ suc (length m.past) = omega arith in e) ∙ sym (ap length past);
      misses = ap (λ n. n + one (not (resident m.past m.next.address))) is.misses ∙ sym (missed_more m.past m.next.address)
          ∙ sym (ap (misses_in SHIPPED_CACHE) past);
    }))
    (λ s. along (cycled_stalled resident code input m request h s) (record { fetches = is.fetches; misses = is.misses }))
    (cases_Bool (eqb m.stall 0)))
    (cases_Bool m.halted)

pub run_counted : (p : Program) (requests : List ℕ) (n : ℕ) → IsCounted (state_at p requests n)
unfolding misses_in
run_counted p requests zero = record { fetches = refl; misses = refl }
run_counted p requests (suc n) = along (sym (next_state p requests n))
    (cycle_counts (code_of p) p.input (state_at p requests n) (is_requested requests n) (run_counted p requests n))

-- a turn takes a cycle at least
turns_few : (code : Code) (input : Option (List ℕ)) (m : MachineState) (request : Bool) →
    length (cycled resident code input m request).past ≤ suc (length m.past)
turns_few code input m request = ⊎_elim
    (λ h. of_length (cycled_halted resident code input m request h) (omega arith))
    (λ h. ⊎_elim
    (λ s.
    let past = ended_same (λ (x : MachineState). x.past) code (reached code input (latched request m)) refl refl in
    of_length (cycled_acted resident code input m request h s) (let e = ap length past in omega (arith, e)))
    (λ s. of_length (cycled_stalled resident code input m request h s) (omega arith))
    (cases_Bool (eqb m.stall 0)))
    (cases_Bool m.halted)
  where
    of_length : {n n' : MachineState} → n ≡ n' → length n.past ≤ suc (length m.past) → length n'.past ≤ suc (length m.past)
    of_length e h = subst (λ (x : MachineState). length x.past ≤ suc (length m.past)) e h

pub fetches_few : (p : Program) (requests : List ℕ) (n : ℕ) → length (state_at p requests n).past ≤ n
fetches_few p requests zero = omega arith
fetches_few p requests (suc n) =
    let before = fetches_few p requests n in
    let more = turns_few (code_of p) p.input (state_at p requests n) (is_requested requests n) in
    subst (λ (x : MachineState). length x.past ≤ suc n) (sym (next_state p requests n)) (omega (arith, before, more))

pub runs_count_fetches : EachRunCountsFetches
runs_count_fetches p requests budget = let is = run_counted p requests budget in record { fetches = is.fetches; misses = is.misses }
