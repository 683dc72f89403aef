-- Where a machine is between cycles, with what it counts, and that a cycle keeps it.
use Rattle.std.proofs.Common.{◌≡◌, ℕ, ◌+◌, ◌-◌, ◌*◌, ◌≤◌, Bool, true, false, cond, eqb, not, ◌&&◌, ◌||◌, List, ◌++◌, append-nil, Option, None, refl, sym, ap, ◌∙◌, subst, arith, ⊎_elim}
use Rattle.std.specs.Prelude.{option_to_list}
use Rattle.std.proofs.lemmas.Bool.{cond-true, cond-false, cases_Bool, false≢true, and_parts, eqb-true}
use Rattle.std.proofs.lemmas.Bool.Decides.{nat_tests}
use Rattle.mx_isa.specs.declared.board.TheConstants.{CODE_BASE}
use Rattle.mx_isa.specs.declared.place.Place.{Place}
use Rattle.mx_isa.specs.Words.{Words}
use Rattle.mx_delay.specs.Delay.{Code}
use Rattle.mx_delay.specs.Clean.{Watched, watch_start}
use Rattle.mx_icache.specs.Residency.{resident}
use Rattle.mx_turn.specs.declared.machine.Cycled.{Cycled as Answer}
use Rattle.mx_turn.specs.Counted.{one, after_stall}
use Rattle.mx_turn.specs.Cycle.{MachineState, is_taken, entered, decided, turned, reached, ended, takes, latched, acted, cycled, answer, acted_answer, start}
use Rattle.mx_turn.specs.Run.{is_users, passes}
use Rattle.mx_turn.specs.OneTurn.{IsOnBoard}
use Rattle.mx_turn.specs.Program.{code_with}
use Rattle.mx_handler.proofs.Pauses.{erased, Handled}
use Rattle.mx_handler.proofs.Phases.{State, Turned, turn, at_start}
use Rattle.mx_delay.proofs.Watched.{past}
use Rattle.law_interrupts.proofs.Pauses.{done_after, setting, lawful, begins}

-- a latched request is taken once
taken_once : (code : Code) (c : MachineState) → one (takes c) + one (ended code c).latch ≤ one c.latch
taken_once code c = ⊎_elim
    (λ h. let e : takes c ≡ false = (λ k. not (h k) && is_taken c) in
    at_most (takes c) (ended code c).latch false c.latch e (ap latch_of (cond-true _ c _ h)) (omega arith))
    (λ h. ⊎_elim
    (λ t. let e : takes c ≡ true = (λ k. not (h k) && t k) in
    let l : c.latch ≡ true = (and_parts c.latch _ (and_parts c.psw.current.interrupts _ t).1).0 in
    let o : one c.latch ≡ 1 = ap one l in
    at_most (takes c) (ended code c).latch true false e (ap latch_of (cond-false _ c (turned code c) h ∙ cond-true _ (entered c) (decided code c) t))
    (omega (arith, o)))
    (λ t. let e : takes c ≡ false = (λ k. not (h k) && t k) in
    at_most (takes c) (ended code c).latch false c.latch e (ap latch_of (cond-false _ c (turned code c) h ∙ cond-false _ (entered c) (decided code c) t))
    (omega arith))
    (cases_Bool (is_taken c)))
    (cases_Bool c.halted)
  where
    latch_of : MachineState → Bool
    latch_of m = m.latch

    at_most : (a b x y : Bool) → a ≡ x → b ≡ y → one x + one y ≤ one c.latch → one a + one b ≤ one c.latch
    at_most a b x y e f h = let g : one a ≡ one x = ap one e in let k : one b ≡ one y = ap one f in omega (arith, g, k, h)

-- an interrupt is 26 turns
pause_turns : (b : Bool) → cond b 26 0 ≡ 26 * one b
pause_turns true = refl
pause_turns false = refl

one_or : (a b : Bool) → one (a || b) ≤ one a + one b
one_or true b = omega arith
one_or false b = omega arith

short_wait : (b : Bool) → cond b 0 2 ≤ 2
short_wait true = omega arith
short_wait false = omega arith

module _ (handler user : Code) (inside : ℕ → Bool) (p : Place) (input : Option (List ℕ)) where
  -- a machine after so many cycles and requests, when w words of the user have passed and these steps are done
  pub record Stands (m : MachineState) (s : Watched) (w cycles asked : ℕ) : Type 0 where
    pub rest : ℕ
    pub state : State (setting handler user inside p input) (erased m) (done_after s m.counts.interrupts) rest
    pub turns : m.counts.fetches + rest ≡ w + 3 + 26 * m.counts.interrupts
    pub within : m.counts.cycles + m.stall ≤ 3 * m.counts.fetches + 2
    pub taken : m.counts.interrupts + one m.latch ≤ asked
    pub all : m.halted ≡ false → m.counts.cycles ≡ cycles

  pub stands_start : (words : Words) → p.code ≡ CODE_BASE → words 0 ≡ 0 → Stands (start words) (watch_start p words) 0 0 0
  stands_start words at_code low = record {
    rest = 3;
    state = at_start (setting handler user inside p input) words (done_after (watch_start p words) 0) (begins handler user inside p input words at_code low);
    turns = refl;
    within = omega arith;
    taken = omega arith;
    all = λ h. refl;
  }

  -- a cycle: its byte, and where the machine is then
  pub record Cycled (m n : MachineState) (byte : Option ℕ) (passed : Bool) (request : Bool) (s : Watched) (w cycles asked : ℕ) : Type 0 where
    pub sends : s.at.console ++ option_to_list byte ≡ (past user inside p input passed s).at.console
    pub stands : Stands n (past user inside p input passed s) (w + one passed) (cycles + 1) (asked + one request)

  module _ (at_board : IsOnBoard p) (at_code : p.code ≡ CODE_BASE) (m : MachineState) (request : Bool) (s : Watched) (w cycles asked : ℕ)
      (handled : 1 ≤ asked + one request → Handled (setting handler user inside p input)) (st : Stands m s w cycles asked) where
    abbrev code : Code
    code = code_with handler user

    halted_cycle : m.halted ≡ true → Cycled m m None false request s w cycles asked
    halted_cycle h = record {
      sends = append-nil s.at.console;
      stands = record {
        rest = st.rest;
        state = st.state;
        turns = (let e = st.turns in omega (arith, e));
        within = st.within;
        taken = (let e = st.taken in omega (arith, e));
        all = λ on. absurd (false≢true (sym on ∙ h));
      };
    }

    abbrev stalled : MachineState
    stalled = let l : MachineState = latched request m in record l { stall = m.stall - 1; counts = after_stall m.counts }

    stalled_cycle : m.halted ≡ false → eqb m.stall 0 ≡ false → Cycled m stalled None false request s w cycles asked
    stalled_cycle on h = record {
      sends = append-nil s.at.console;
      stands = record {
        rest = st.rest;
        state = st.state;
        turns = (let e = st.turns in omega (arith, e));
        within = (let e = st.within in let f = waits in omega (arith, e, f));
        taken = (let e = st.taken in let f = one_or m.latch request in omega (arith, e, f));
        all = λ k. (let e = st.all on in omega (arith, e));
      };
    }
      where
        waits : 1 ≤ m.stall
        waits = grind (arith, nat_tests)

    -- the machine that is reached in a cycle that acts
    abbrev c : MachineState
    c = reached code input (latched request m)

    acted_cycle : m.halted ≡ false → eqb m.stall 0 ≡ true → (past user inside p input (is_users m.alu) s).clean ≡ true
        → Cycled m (acted resident code input (latched request m)) (acted_answer code input (latched request m)).byte (is_users m.alu) request s w cycles asked
    acted_cycle on h clean = record {
      sends = t.byte;
      stands = record {
        rest = t.rest_after;
        state = t.state;
        turns = (let e = st.turns in let f = t.left in let g = pause_turns (takes c) in omega (arith, e, f, g));
        within =
            let e = st.within in
            let f = eqb-true m.stall 0 h in
            let g = short_wait (resident (acted resident code input (latched request m)).past (acted resident code input (latched request m)).next.address) in
            omega (arith, e, f, g);
        taken = (let e = st.taken in let f = one_or m.latch request in let g = taken_once code c in omega (arith, e, f, g));
        all = λ k. (let e = st.all on in omega (arith, e));
      };
    }
      where
        t : Turned (setting handler user inside p input) (erased m) c (done_after s m.counts.interrupts) st.rest
        t = turn (setting handler user inside p input) (lawful handler user inside p input at_board at_code) (erased m) (done_after s m.counts.interrupts)
            st.rest m.stall (m.latch || request) m.counts
            (λ e. handled (let f = st.taken in let g = one_or m.latch request in let k : one (m.latch || request) ≡ 1 = ap one e in omega (arith, f, g, k)))
            st.state on clean

    -- any cycle
    pub a_cycle : (past user inside p input (passes m) s).clean ≡ true
        → Cycled m (cycled resident code input m request) (answer code input m request).byte (passes m) request s w cycles asked
    a_cycle clean = ⊎_elim
        (λ h. let e : passes m ≡ false = (λ k. not (h k) && (eqb m.stall 0 && is_users m.alu)) in
        moved m None false (sym (cond-true _ m _ h)) (sym (ap (λ (a : Answer). a.byte) (cond-true _ _ _ h))) (sym e) (halted_cycle h))
        (λ h. ⊎_elim
        (λ z. let e : passes m ≡ is_users m.alu = (λ k. not (h k) && (z k && is_users m.alu)) in
        moved (acted resident code input (latched request m)) (acted_answer code input (latched request m)).byte (is_users m.alu)
        (sym (cond-false _ m _ h ∙ cond-true _ _ _ z))
        (sym (ap (λ (a : Answer). a.byte) (cond-false _ _ _ h ∙ cond-true _ _ _ z)))
        (sym e) (acted_cycle h z (sym (ap (λ b. (past user inside p input b s).clean) e) ∙ clean)))
        (λ z. let e : passes m ≡ false = (λ k. not (h k) && (z k && is_users m.alu)) in
        moved stalled None false
        (sym (cond-false _ m _ h ∙ cond-false _ _ _ z))
        (sym (ap (λ (a : Answer). a.byte) (cond-false _ _ _ h ∙ cond-false _ _ _ z)))
        (sym e) (stalled_cycle h z))
        (cases_Bool (eqb m.stall 0)))
        (cases_Bool m.halted)
      where
        moved : (n : MachineState) (byte : Option ℕ) (passed : Bool) → n ≡ cycled resident code input m request → byte ≡ (answer code input m request).byte
            → passed ≡ passes m
            → Cycled m n byte passed request s w cycles asked
            → Cycled m (cycled resident code input m request) (answer code input m request).byte (passes m) request s w cycles asked
        moved n byte passed e f g x =
            subst (λ y. Cycled m y (answer code input m request).byte (passes m) request s w cycles asked) e
            (subst (λ y. Cycled m n y (passes m) request s w cycles asked) f
            (subst (λ y. Cycled m n byte y request s w cycles asked) g x))
