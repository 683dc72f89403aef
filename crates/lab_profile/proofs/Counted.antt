-- A machine counts at most one more of anything in a cycle.
use Rattle.std.proofs.Common.{◌≡◌, ℕ, suc, ◌+◌, ◌≤◌, Bool, true, false, List, refl, sym, ap, ◌∙◌, subst, arith, ⊎_elim, ◌⊎◌, inl, inr, Option}
use Rattle.std.specs.Prelude.{eqb, ltb}
use Rattle.std.proofs.lemmas.Bool.{cases_Bool}
use Rattle.std.proofs.lemmas.Bool.Decides.{nat_tests}
use Rattle.mx_delay.specs.Delay.{Code}
use Rattle.mx_icache.specs.Residency.{resident}
use Rattle.mx_turn.specs.Counted.{Counted, one, after_stall, after_turn}
use Rattle.mx_turn.specs.declared.machine.Cycled.{Cycled}
use Rattle.mx_turn.specs.Cycle.{MachineState, cycled, answer}
use Rattle.mx_turn.proofs.Steps.{cycled_halted, cycled_acted, cycled_stalled, answer_acted, answer_stalled}
use Rattle.mx_turn.specs.Program.{Program, code_of, state_after}
use Rattle.mx_turn.specs.Run.{is_requested, bits}
use Rattle.mx_report.proofs.Runs.{next_state, cycled_at}

-- the same, or one more
abbrev pub IsStep : ℕ → ℕ → Type 0
IsStep a b = (b ≡ a) ⊎ (b ≡ a + 1)

-- one more exactly where it is more
pub step_is : (a b : ℕ) → IsStep a b → b ≡ a + one (ltb a b)
step_is a b h = ⊎_elim
    (λ (e : b ≡ a). grind (arith, nat_tests))
    (λ (e : b ≡ a + 1). grind (arith, nat_tests))
    h

pub record Steps (c d : Counted) : Type 0 where
  pub cycles : IsStep c.cycles d.cycles
  pub fetches : IsStep c.fetches d.fetches
  pub squashes : IsStep c.squashes d.squashes
  -- a cycle is counted with each fetch
  pub pays : one (ltb c.fetches d.fetches) ≤ one (ltb c.cycles d.cycles)

pub more : (a : ℕ) → ltb a (a + 1) ≡ true
more a = grind (arith, nat_tests)

pub not_more : (a : ℕ) → ltb a a ≡ false
not_more a = grind (arith, nat_tests)

pays_none : (a n : ℕ) → one (ltb a a) ≤ n
pays_none a n = let e : one (ltb a a) ≡ 0 = ap one (not_more a) in omega (arith, e)

pays_one : (a : ℕ) (b : Bool) → one b ≤ one (ltb a (a + 1))
pays_one a true = let e : one (ltb a (a + 1)) ≡ 1 = ap one (more a) in omega (arith, e)
pays_one a false = omega arith

one_step : (a : ℕ) (b : Bool) → IsStep a (a + one b)
one_step a true = inr refl
one_step a false = inl (omega arith)

still : (c : Counted) → Steps c c
still c = record { cycles = inl refl; fetches = inl refl; squashes = inl refl; pays = pays_none c.fetches _ }

stalled : (c : Counted) → Steps c (after_stall c)
stalled c = record { cycles = inr refl; fetches = inl refl; squashes = inl refl; pays = pays_none c.fetches _ }

turned : (missed squashed taken : Bool) (c : Counted) → Steps c (after_turn missed squashed taken c)
turned missed squashed taken c = record { cycles = inr refl; fetches = inr refl; squashes = one_step c.squashes squashed; pays = pays_one c.cycles _ }

pub counts_step : (code : Code) (input : Option (List ℕ)) (m : MachineState) (request : Bool) → Steps m.counts (cycled resident code input m request).counts
counts_step code input m request = ⊎_elim
    (λ h. along (cycled_halted resident code input m request h) (still m.counts))
    (λ h. ⊎_elim
    (λ s. along (cycled_acted resident code input m request h s) (turned _ _ _ m.counts))
    (λ s. along (cycled_stalled resident code input m request h s) (stalled m.counts))
    (cases_Bool (eqb m.stall 0)))
    (cases_Bool m.halted)
  where
    along : {n n' : MachineState} → n ≡ n' → Steps m.counts n.counts → Steps m.counts n'.counts
    along e h = subst (λ (x : MachineState). Steps m.counts x.counts) e h

-- from one cycle of a run to the next
pub run_step : (p : Program) (requests : List ℕ) (n : ℕ) → Steps (state_after p (bits requests n)).counts (state_after p (bits requests (suc n))).counts
run_step p requests n = subst (λ (m : MachineState). Steps (state_after p (bits requests n)).counts m.counts) (sym (next_state p requests n))
    (counts_step (code_of p) p.input (state_after p (bits requests n)) (is_requested requests n))

-- a stalled cycle is counted, and nothing else
pub record Stalled (c d : Counted) : Type 0 where
  pub cycle : true ≡ ltb c.cycles d.cycles
  pub fetch : false ≡ ltb c.fetches d.fetches
  pub squash : false ≡ ltb c.squashes d.squashes

-- another one is counted with a fetch
pub record Turned (c d : Counted) : Type 0 where
  pub cycle : true ≡ ltb c.cycles d.cycles
  pub fetch : true ≡ ltb c.fetches d.fetches

abbrev pub Told : Bool → Counted → Counted → Type 0
Told true c d = Stalled c d
Told false c d = Turned c d

told_stalled : (c : Counted) → Told true c (after_stall c)
told_stalled c = record { cycle = sym (more c.cycles); fetch = sym (not_more c.fetches); squash = sym (not_more c.squashes) }

told_turned : (missed squashed taken : Bool) (c : Counted) → Told false c (after_turn missed squashed taken c)
told_turned missed squashed taken c = record { cycle = sym (more c.cycles); fetch = sym (more c.fetches) }

counts_told : (code : Code) (input : Option (List ℕ)) (m : MachineState) (request : Bool) → m.halted ≡ false
    → Told (answer code input m request).stalled m.counts (cycled resident code input m request).counts
counts_told code input m request h = ⊎_elim
    (λ s. along (answer_acted resident code input m request h s) (cycled_acted resident code input m request h s) (told_turned _ _ _ m.counts))
    (λ s. along (answer_stalled resident code input m request h s) (cycled_stalled resident code input m request h s) (told_stalled m.counts))
    (cases_Bool (eqb m.stall 0))
  where
    along : {r r' : Cycled} {n n' : MachineState} → r ≡ r' → n ≡ n' → Told r.stalled m.counts n.counts → Told r'.stalled m.counts n'.counts
    along {r} {r'} {n} {n'} e f t =
        subst (λ (x : Cycled). Told x.stalled m.counts n'.counts) e (subst (λ (x : MachineState). Told r.stalled m.counts x.counts) f t)

run_told : (p : Program) (requests : List ℕ) (n : ℕ) → (state_after p (bits requests n)).halted ≡ false
    → Told (cycled_at p requests n).stalled (state_after p (bits requests n)).counts (state_after p (bits requests (suc n))).counts
run_told p requests n h =
    subst (λ (m : MachineState). Told (cycled_at p requests n).stalled (state_after p (bits requests n)).counts m.counts) (sym (next_state p requests n))
    (counts_told (code_of p) p.input (state_after p (bits requests n)) (is_requested requests n) h)

-- while a run goes on, the answer of a cycle tells what it counts
pub told_by : (p : Program) (requests : List ℕ) (n : ℕ) (r : Cycled) (stalled : Bool) → r ≡ cycled_at p requests n → r.stalled ≡ stalled
    → (state_after p (bits requests n)).halted ≡ false
    → Told stalled (state_after p (bits requests n)).counts (state_after p (bits requests (suc n))).counts
told_by p requests n r stalled e s h =
    subst (λ b. Told b (state_after p (bits requests n)).counts (state_after p (bits requests (suc n))).counts)
    (sym (ap (λ (x : Cycled). x.stalled) e) ∙ s) (run_told p requests n h)
