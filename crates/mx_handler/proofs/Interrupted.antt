-- An interrupt, and the turns of the handler after it.
use Rattle.std.proofs.Common.{◌≡◌, ℕ, suc, ◌+◌, ◌-◌, ◌<◌, ◌≤◌, Bool, true, false, eqb, not, ◌&&◌, ◌||◌, List, [], ◌∷◌, ◌++◌, refl, sym, ap, ◌∙◌, subst, arith, ⊎_elim, Option}
use Rattle.std.proofs.lemmas.Bool.{cond-true, cond-false, cases_Bool, false≢true, and_parts}
use Rattle.mx_delay.specs.Delay.{Code}
use Rattle.mx_icache.specs.Residency.{resident}
use Rattle.mx_turn.specs.declared.machine.Cycled.{Cycled as Answer}
use Rattle.mx_turn.specs.Cycle.{MachineState, is_taken, entered, decided, turned, reached, ended, takes, latched, acted, cycled, answer, after_bits}
use Rattle.mx_turn.specs.Run.{is_users, passes}
use Rattle.mx_turn.specs.OneTurn.{before_turn}
use Rattle.mx_handler.proofs.Pauses.{erased, goes_on, Setting, later, Still, still_turn, Pause, Handled, IsLawful, reached_alike}
use Rattle.mx_handler.proofs.Phases.{State, Turned, turn}

pub after_append : (code : Code) (input : Option (List ℕ)) (g h : List Bool) (m : MachineState)
    → after_bits resident code input m (g ++ h) ≡ after_bits resident code input (after_bits resident code input m g) h
after_append code input [] h m = refl
after_append code input (b ∷ g) h m = after_append code input g h (cycled resident code input m b)

module _ (x : Setting) where
  -- the interrupt was taken in user code
  pub record Interrupted (m : MachineState) (k : x.Known) : Type 0 where
    pub c : MachineState
    pub in_user : x.In c k
    pub goes : c.halted ≡ false
    pub is : erased m ≡ erased (entered c)

  abbrev advance : MachineState → Bool → MachineState
  advance m b = cycled resident x.code x.input m b

  -- it is taken in this cycle
  module _ (laws : IsLawful x) (handled : Handled x) (m : MachineState) (request : Bool) (k : x.Known) (rest : ℕ) (st : State x (erased m) k rest)
      (taken : (answer x.code x.input m request).taken ≡ true) (clean : (x.runs (x.past (passes m) k)).clean ≡ true) where
    abbrev c : MachineState
    c = reached x.code x.input (latched request m)

    acts : m.halted ≡ false → eqb m.stall 0 ≡ true → Interrupted (advance m request) (x.past (passes m) k)
    acts on z = record {
      c = c;
      in_user = subst (λ b. x.In c (x.past b k)) (sym passed) (t.taken is_now);
      goes = on_after c.halted parts.0;
      is =
          ap (λ y. erased y) (cond-false _ m _ on ∙ cond-true _ _ _ z)
          ∙ ap (λ y. erased y) (cond-false _ c (turned x.code c) (on_after c.halted parts.0) ∙ cond-true _ (entered c) (decided x.code c) parts.1);
    }
      where
        passed : passes m ≡ is_users m.alu
        passed = λ i. not (on i) && (z i && is_users m.alu)

        is_now : takes c ≡ true
        is_now = sym (ap (λ (a : Answer). a.taken) (cond-false _ _ _ on ∙ cond-true _ _ _ z)) ∙ taken

        parts : (not c.halted ≡ true) × (is_taken c ≡ true)
        parts = and_parts (not c.halted) (is_taken c) is_now

        on_after : (b : Bool) → not b ≡ true → b ≡ false
        on_after b h = grind arith

        t : Turned x (erased m) c k rest
        t = turn x laws (erased m) k rest m.stall (m.latch || request) m.counts (λ e. handled) st on
            (sym (ap (λ b. (x.runs (x.past b k)).clean) passed) ∙ clean)

    pub interrupted : Interrupted (advance m request) (x.past (passes m) k)
    interrupted = ⊎_elim
        (λ h. absurd (false≢true (sym (ap (λ (a : Answer). a.taken) (cond-true _ _ _ h)) ∙ taken)))
        (λ h. ⊎_elim
        (λ z. acts h z)
        (λ z. absurd (false≢true (sym (ap (λ (a : Answer). a.taken) (cond-false _ _ _ h ∙ cond-false _ _ _ z)) ∙ taken)))
        (cases_Bool (eqb m.stall 0)))
        (cases_Bool m.halted)

  -- turns are counted
  grow : (m : MachineState) (b : Bool) → m.counts.fetches ≤ (advance m b).counts.fetches
  grow m b = ⊎_elim
      (λ h. same m (sym (cond-true _ m _ h)) (omega arith))
      (λ h. ⊎_elim
      (λ z. same (acted resident x.code x.input (latched b m)) (sym (cond-false _ m _ h ∙ cond-true _ _ _ z)) (omega arith))
      (λ z. same _ (sym (cond-false _ m _ h ∙ cond-false _ _ _ z)) (omega arith))
      (cases_Bool (eqb m.stall 0)))
      (cases_Bool m.halted)
    where
      same : (n : MachineState) → n ≡ advance m b → m.counts.fetches ≤ n.counts.fetches → m.counts.fetches ≤ (advance m b).counts.fetches
      same n e h = subst (λ (y : MachineState). m.counts.fetches ≤ y.counts.fetches) e h

  grows : (g : List Bool) (m : MachineState) → m.counts.fetches ≤ (after_bits resident x.code x.input m g).counts.fetches
  grows [] m = omega arith
  grows (b ∷ g) m = let e = grow m b in let f = grows g (advance m b) in omega (arith, e, f)

  -- a pause, from its beginning on
  module _ (base : MachineState) (last : ℕ) (k : x.Known) (pause : Pause x base last k) where
    -- a machine j turns into it
    pub record InPause (m : MachineState) (j : ℕ) : Type 0 where
      pub goes : m.halted ≡ false
      pub is : erased m ≡ erased (later x j base)

    stalled_on : (m : MachineState) (b : Bool) (j : ℕ) → InPause m j → eqb m.stall 0 ≡ false → InPause (advance m b) j
    stalled_on m b j h z =
        let e : advance m b ≡ _ = cond-false _ m _ h.goes ∙ cond-false _ _ _ z in
        record { goes = ap (λ (y : MachineState). y.halted) e ∙ h.goes; is = ap (λ y. erased y) e ∙ h.is }

    stalled_count : (m : MachineState) (b : Bool) → m.halted ≡ false → eqb m.stall 0 ≡ false → (advance m b).counts.fetches ≡ m.counts.fetches
    stalled_count m b h z = ap (λ (y : MachineState). y.counts.fetches) (cond-false _ m _ h ∙ cond-false _ _ _ z)

    acted_count : (m : MachineState) (b : Bool) → m.halted ≡ false → eqb m.stall 0 ≡ true → (advance m b).counts.fetches ≡ m.counts.fetches + 1
    acted_count m b h z = ap (λ (y : MachineState). y.counts.fetches) (cond-false _ m _ h ∙ cond-true _ _ _ z)

    acted_on : (m : MachineState) (b : Bool) (j : ℕ) → InPause m j → eqb m.stall 0 ≡ true → j < last → InPause (advance m b) (suc j)
    acted_on m b j h z early = record {
      goes =
          ap (λ (y : MachineState). y.halted) e
          ∙ ap (λ (y : MachineState). y.halted) (goes_on x.code c goes quiet)
          ∙ goes;
      is =
          ap (λ y. erased y) e
          ∙ ap (λ y. erased (ended x.code (reached x.code x.input (before_turn m.stall (m.latch || b) m.counts y)))) h.is
          ∙ still_turn x t m.stall (m.latch || b) m.counts still;
    }
      where
        t : MachineState
        t = later x j base

        c : MachineState
        c = reached x.code x.input (latched b m)

        still : Still x t
        still = pause.still j early

        e : advance m b ≡ acted resident x.code x.input (latched b m)
        e = cond-false _ m _ h.goes ∙ cond-true _ _ _ z

        same : c ≡ reached x.code x.input (before_turn m.stall (m.latch || b) m.counts t)
        same = ap (λ y. reached x.code x.input (before_turn m.stall (m.latch || b) m.counts y)) h.is

        goes : c.halted ≡ false
        goes = ap (λ (y : MachineState). y.halted) same ∙ still.goes

        quiet : is_taken c ≡ false
        quiet = ap (λ y. is_taken y) same ∙ still.nothing (m.latch || b)

    -- so many turns later
    pub pause_goes : (g : List Bool) (m : MachineState) (j n : ℕ) → InPause m j
        → (after_bits resident x.code x.input m g).counts.fetches ≡ m.counts.fetches + n → j + n ≤ last
        → InPause (after_bits resident x.code x.input m g) (j + n)
    pause_goes [] m j n h count early = subst (InPause m) (let e : j ≡ j + n = omega (arith, count) in e) h
    pause_goes (b ∷ g) m j n h count early = ⊎_elim
        (λ z. let more = grows g (advance m b) in
        let one_turn = acted_count m b h.goes z in
        let l : 1 ≤ n = omega (arith, more, one_turn, count) in
        subst (InPause (after_bits resident x.code x.input (advance m b) g)) (let e : suc j + (n - 1) ≡ j + n = omega (arith, l) in e)
        (pause_goes g (advance m b) (suc j) (n - 1) (acted_on m b j h z (omega (arith, l, early))) (omega (arith, count, one_turn, l))
        (omega (arith, l, early))))
        (λ z. pause_goes g (advance m b) j n (stalled_on m b j h z) (let none = stalled_count m b h.goes z in omega (arith, count, none)) early)
        (cases_Bool (eqb m.stall 0))

    -- at its end the machine is in user code
    pub pause_ends : IsLawful x → (m : MachineState) (b : Bool) → InPause m last → x.In (reached x.code x.input (latched b m)) k
    pause_ends laws m b h =
        subst (λ y. x.In (reached x.code x.input (before_turn m.stall (m.latch || b) m.counts y)) k) (sym h.is)
        (reached_alike x laws (later x last base) k m.stall (m.latch || b) m.counts pause.back)
