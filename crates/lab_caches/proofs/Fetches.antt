-- What a cycle adds to the addresses of completed turns.
use Rattle.std.proofs.Common.{◌≡◌, ◌≤◌, ◌+◌, ℕ, zero, suc, Bool, true, false, cond, not, List, [], ◌∷◌, ◌++◌, length, refl, sym, ap, ◌∙◌, subst, arith, ⊎_elim, Option, Some}
use Rattle.std.specs.Prelude.{eqb, ◌-◌}
use Rattle.std.proofs.lemmas.Bool.{cases_Bool}
use Rattle.mx_delay.specs.Delay.{Code}
use Rattle.mx_icache.specs.Residency.{resident}
use Rattle.mx_turn.specs.declared.latches.Stage.{Stage}
use Rattle.mx_turn.specs.declared.latches.Stage.TheVariants.{Live, Squashed}
use Rattle.mx_turn.specs.declared.machine.Cycled.{Cycled}
use Rattle.mx_turn.specs.Counted.{Counted, one, after_stall}
use Rattle.mx_turn.specs.Stages.{stage_of}
use Rattle.mx_turn.specs.Cycle.{MachineState, start, reached, latched, cycled, answer}
use Rattle.mx_turn.specs.Program.{Program, code_of, memory_of, state_after, answer_after}
use Rattle.mx_turn.specs.Run.{is_requested, bits}
use Rattle.mx_turn.proofs.Steps.{after_one_more, cycled_halted, cycled_acted, cycled_stalled, answer_acted, answer_stalled}
use Rattle.mx_report.proofs.Runs.{ended_same, state_at, next_state}
use Rattle.lab_cache.specs.Misses.{misses_in, resident_in}
use Rattle.lab_cache.proofs.Machine.{machine_agrees}
use Rattle.lab_terms.specs.declared.geometry.Geometry.{Geometry}
use Rattle.lab_terms.specs.declared.geometry.TheConstants.{SHIPPED_CACHE}
use Rattle.lab_caches.specs.Fetched.{address_in}

pub un_not : (b : Bool) → not b ≡ true → b ≡ false
un_not true e = sym e
un_not false e = refl

pub un_not_false : (b : Bool) → not b ≡ false → b ≡ true
un_not_false true e = refl
un_not_false false e = sym e

marked_in : (a : ℕ) (b : Bool) → address_in (cond b (Squashed a) (Live a)) ≡ a ∷ []
marked_in a true = refl
marked_in a false = refl

-- a stalled cycle completes no turn, and another one that of the address that it shows in IF
abbrev pub Adds : Bool → MachineState → MachineState → Type 0
Adds stalled m n = n.past ≡ cond stalled [] (address_in n.shown.fetch) ++ m.past

cycle_adds : (code : Code) (input : Option (List ℕ)) (m : MachineState) (request : Bool) → m.halted ≡ false
    → Adds (answer code input m request).stalled m (cycled resident code input m request)
cycle_adds code input m request h = ⊎_elim
    (λ s.
    let c = reached code input (latched request m) in
    let shown = ended_same (λ (x : MachineState). x.shown) code c refl refl in
    let past = ended_same (λ (x : MachineState). x.past) code c refl refl in
    along (answer_acted resident code input m request h s) (cycled_acted resident code input m request h s)
    (past ∙ sym (λ i. marked_in m.next.address m.next.squashed i ++ m.past) ∙ (λ i. address_in (sym shown i).fetch ++ m.past)))
    (λ s. along (answer_stalled resident code input m request h s) (cycled_stalled resident code input m request h s) refl)
    (cases_Bool (eqb m.stall 0))
  where
    along : {r r' : Cycled} {n n' : MachineState} → r ≡ r' → n ≡ n' → Adds r.stalled m n → Adds r'.stalled m n'
    along {r} {r'} {n} {n'} e f t =
        subst (λ (x : Cycled). Adds x.stalled m n') e (subst (λ (x : MachineState). Adds r.stalled m x) f t)

-- the answer of a cycle of a run that goes on says what it adds
pub added_by : (p : Program) (h : List Bool) (request : Bool) (r : Cycled) (stalled : Bool) → r ≡ answer_after p h request → r.stalled ≡ stalled
    → (state_after p h).halted ≡ false → Adds stalled (state_after p h) (state_after p (h ++ request ∷ []))
added_by p h request r stalled e s going =
    let m = state_after p h in
    let next = after_one_more resident (code_of p) p.input (start (memory_of p)) h request in
    subst (λ b. Adds b m (state_after p (h ++ request ∷ []))) (sym (ap (λ (x : Cycled). x.stalled) e) ∙ s)
    (subst (λ (x : MachineState). Adds (answer_after p h request).stalled m x) (sym next) (cycle_adds (code_of p) p.input m request going))
