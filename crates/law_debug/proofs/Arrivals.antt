-- The stops of a run of clean code are the steps at which the machine with delay slots comes to the address.
use Rattle.std.proofs.Common.{◌≡◌, ℕ, zero, suc, ◌+◌, ◌-◌, ◌≤◌, ◌⊎◌, inl, inr, Bool, true, false, cond, eqb, not, ◌&&◌, List, Option, Some, None, length, refl, sym, ap, ◌∙◌, arith, ⊎_elim}
use Rattle.std.proofs.lemmas.Bool.{cond-true, cond-false, cases_Bool, false≢true, and_parts, eqb-true, le-leb}
use Rattle.std.proofs.lemmas.Bool.Decides.{nat_tests}
use Rattle.mx_isa.specs.declared.place.Place.{Place}
use Rattle.mx_isa.specs.Words.{Words}
use Rattle.mx_code.specs.Decoding.{inst_of}
use Rattle.mx_delay.specs.Delay.{Code, code_from, data_from, Delay, delay}
use Rattle.mx_delay.specs.Clean.{is_inside, Watched, watch_start}
use Rattle.mx_icache.specs.Residency.{resident}
use Rattle.mx_pcchain.specs.Fetch.{Fetch}
use Rattle.mx_turn.specs.declared.Stage.TheVariants.{Live, Squashed}
use Rattle.mx_turn.specs.declared.Cycled.{Cycled}
use Rattle.mx_turn.specs.Counted.{one}
use Rattle.mx_turn.specs.Stages.{stage_of}
use Rattle.mx_turn.specs.Cycle.{MachineState, is_taken, entered, decided, turned, reached, ended, takes, latched, acted, acted_answer, cycled, answer, start}
use Rattle.mx_turn.specs.Handler.{shipped}
use Rattle.mx_turn.specs.Program.{Program, code_of, program_of}
use Rattle.mx_turn.specs.Run.{is_requested, bits, console_after, is_users, passes}
use Rattle.mx_turn.specs.OneTurn.{as_fetch, UserSame, IsOnBoard}
use Rattle.mx_turn.proofs.Steps.{after_one_more}
use Rattle.mx_handler.specs.Returns.{with_shipped}
use Rattle.law_interrupts.specs.Laws.{IsCleanImage}
use Rattle.law_interrupts.specs.Saves.{before_cycle}
use Rattle.mx_handler.proofs.Pauses.{erased, goes_on as keeps_on}
use Rattle.mx_handler.proofs.Phases.{State, going, pausing, over}
use Rattle.mx_delay.proofs.Watched.{watched_at}
use Rattle.law_interrupts.proofs.Pauses.{done_after, with_handler}
use Rattle.law_interrupts.proofs.Runs.{Ran, passed_few, length_bits}
use Rattle.law_interrupts.proofs.Saves.{q, passed, done, ran_at, passed_more}
use Rattle.mx_debug.specs.Stops.{shows_live, goes_on, is_stop}
use Rattle.law_debug.specs.Visits.{count_below}
use Rattle.law_debug.proofs.Counting.{count_grows}

-- the fetch of the address is in this stage, not squashed
abbrev pub at_fetch : ℕ → Option Fetch → Bool
at_fetch a None = false
at_fetch a (Some f) = not f.squashed && eqb f.address a

-- the machine goes on, with that fetch in ALU
abbrev pub is_here : ℕ → MachineState → Bool
is_here a m = not m.halted && at_fetch a m.alu

-- the next step of the machine with delay slots is that of the address
abbrev pub arrives : ℕ → Delay → Bool
arrives a d = not d.halted && at_fetch a (Some (as_fetch d.first))

live_at : (a : ℕ) (f : Fetch) (b : Bool) → f.squashed ≡ b → shows_live a (stage_of (Some f)) ≡ at_fetch a (Some f)
live_at a f true e = ap (λ c. shows_live a (cond c (Squashed f.address) (Live f.address))) e ∙ ap (λ c. not c && eqb f.address a) (sym e)
live_at a f false e = ap (λ c. shows_live a (cond c (Squashed f.address) (Live f.address))) e ∙ ap (λ c. not c && eqb f.address a) (sym e)

shown_at : (a : ℕ) (o : Option Fetch) → shows_live a (stage_of o) ≡ at_fetch a o
shown_at a None = refl
shown_at a (Some f) = live_at a f f.squashed refl

not_users : (a : ℕ) (o : Option Fetch) → 4096 ≤ a → is_users o ≡ false → at_fetch a o ≡ false
not_users a None high e = refl
not_users a (Some f) high e = grind (arith, nat_tests)

halted_no_stop : (z w x y : Bool) → x ≡ true → (not z && (not w && not x)) && y ≡ false
halted_no_stop z w x y e = grind arith

stalled_no_stop : (z w x y : Bool) → z ≡ true → (not z && (not w && not x)) && y ≡ false
stalled_no_stop z w x y e = grind arith

taken_no_stop : (x t y : Bool) → x ≡ false → t ≡ true → (not false && (not (not x && t) && not x)) && y ≡ false
taken_no_stop x t y e f = grind arith

nowhere : (x : Bool) → x && false ≡ false
nowhere x = grind arith

-- after a turn in which this machine was reached: a stop is one where the machine goes on with the fetch in ALU
ended_stop : (code : Code) (a : ℕ) (c : MachineState) → c.shown.alu ≡ stage_of c.alu
    → (not false && (not (takes c) && not c.halted)) && shows_live a (ended code c).shown.alu ≡ is_here a (ended code c)
ended_stop code a c shown = ⊎_elim
    (λ h.
    halted_no_stop false (takes c) c.halted (shows_live a (ended code c).shown.alu) h
    ∙ (λ k. not (sym h k) && at_fetch a c.alu)
    ∙ ap (is_here a) (sym (cond-true c.halted c (turned code c) h)))
    (λ h. ⊎_elim
    (λ t.
    taken_no_stop c.halted (is_taken c) (shows_live a (ended code c).shown.alu) h t
    ∙ sym (nowhere (not c.halted))
    ∙ ap (is_here a) (sym (cond-false c.halted c (turned code c) h ∙ cond-true (is_taken c) (entered c) (decided code c) t)))
    (λ t.
    let d : ended code c ≡ decided code c = keeps_on code c h t in
    (λ k. (not false && (not (not (h k) && t k) && not (h k))) && shows_live a (d k).shown.alu)
    ∙ ap (shows_live a) shown
    ∙ shown_at a c.alu
    ∙ (λ k. not (sym h k) && at_fetch a c.alu)
    ∙ ap (is_here a) (sym d))
    (cases_Bool (is_taken c)))
    (cases_Bool c.halted)

pub clash : (b : Bool) → b ≡ false → b ≡ true → ⊥
clash b e h = false≢true (sym e ∙ h)

-- one more step is done, or none
one_step : (test : ℕ → Bool) (w w' : ℕ) (b : Bool) → b ≡ test w → w' ≡ w + 1 → count_below test w + one b ≡ count_below test w'
one_step test w w' b e f = ap (λ c. count_below test w + one c) e ∙ ap (count_below test) (let g : suc w ≡ w' = omega (arith, f) in g)

no_step : (test : ℕ → Bool) (w w' : ℕ) (b : Bool) → b ≡ false → w' ≡ w + 0 → count_below test w + one b ≡ count_below test w'
no_step test w w' b e f =
    ap (λ c. count_below test w + one c) e
    ∙ (let g : count_below test w + 0 ≡ count_below test w = omega arith in g)
    ∙ ap (count_below test) (let g : w ≡ w' = omega (arith, f) in g)

fewer_steps : (test : ℕ → Bool) (w w' c : ℕ) (b : Bool) → w ≤ w' → c ≡ count_below test w' + one b → count_below test w ≤ c
fewer_steps test w w' c b few e =
    let g = count_grows test w (w' - w) in
    let k : w + (w' - w) ≡ w' = omega (arith, few) in
    let h = ap (count_below test) k in
    omega (arith, e, g, h)

-- one more cycle: it acts, or nothing comes of it
acts_more : (stop : ℕ → Bool) (n h h' : ℕ) (here here' : Bool)
    → count_below stop n ≡ h + one here → h + one here ≡ h' → stop n ≡ here' → count_below stop (suc n) ≡ h' + one here'
acts_more stop n h h' here here' e f g = let k : one (stop n) ≡ one here' = ap one g in omega (arith, e, f, k)

waits_more : (stop : ℕ → Bool) (n h h' : ℕ) (here here' : Bool)
    → count_below stop n ≡ h + one here → stop n ≡ false → here' ≡ here → h' ≡ h → count_below stop (suc n) ≡ h' + one here'
waits_more stop n h h' here here' e f g i = let k : one (stop n) ≡ 0 = ap one f in let l : one here' ≡ one here = ap one g in omega (arith, e, k, l, i)

module _ (code : Code) (input : Option (List ℕ)) (a : ℕ) (m : MachineState) (b : Bool) where
  abbrev next : MachineState
  next = cycled resident code input m b

  -- whether the cycle is a stop
  abbrev stops : Bool
  stops = goes_on (answer code input m b) && shows_live a next.shown.alu

  -- a cycle that acts is a stop where it comes to the address
  acted_stop : m.halted ≡ false → eqb m.stall 0 ≡ true → stops ≡ is_here a next
  acted_stop on z =
      let reply : answer code input m b ≡ acted_answer code input (latched b m) = cond-false _ _ _ on ∙ cond-true _ _ _ z in
      let then : next ≡ acted resident code input (latched b m) = cond-false _ m _ on ∙ cond-true _ _ _ z in
      (λ k. goes_on (reply k) && shows_live a (then k).shown.alu)
      ∙ ended_stop code a (reached code input (latched b m)) refl
      ∙ ap (is_here a) (sym then)

  -- what another one does
  record Waits : Type 0 where
    none : stops ≡ false
    same : is_here a next ≡ is_here a m
    few : passes m ≡ false

  halted_waits : m.halted ≡ true → Waits
  halted_waits h = record {
    none = halted_no_stop (answer code input m b).stalled (answer code input m b).taken (answer code input m b).halted (shows_live a next.shown.alu)
        (ap (λ (r : Cycled). r.halted) (cond-true _ _ _ h));
    same = ap (is_here a) (cond-true _ m _ h);
    few = λ k. not (h k) && (eqb m.stall 0 && is_users m.alu);
  }

  stalled_waits : m.halted ≡ false → eqb m.stall 0 ≡ false → Waits
  stalled_waits on z = record {
    none = stalled_no_stop (answer code input m b).stalled (answer code input m b).taken (answer code input m b).halted (shows_live a next.shown.alu)
        (ap (λ (r : Cycled). r.stalled) (cond-false _ _ _ on ∙ cond-false _ _ _ z));
    same = ap (is_here a) (cond-false _ m _ on ∙ cond-false _ _ _ z);
    few = λ k. not (on k) && (z k && is_users m.alu);
  }

module _ (user_words data_words : List ℕ) (p : Place) (input : Option (List ℕ)) (at_board : IsOnBoard p) (at_code : p.code ≡ 4096)
    (requests : List ℕ) (budget : ℕ) (clean : IsCleanImage (program_of shipped user_words data_words input) p budget) (a : ℕ) (high : 4096 ≤ a) where
  abbrev user : Code
  user = code_from inst_of 4096 user_words

  abbrev inside : ℕ → Bool
  inside = is_inside p (length user_words)

  abbrev words : Words
  words = data_from 256 data_words

  abbrev program : Program
  program = q user_words data_words p input at_board at_code requests budget clean

  abbrev state : ℕ → MachineState
  state n = before_cycle program requests n

  -- how many words of the user have passed before a cycle, and the machine with delay slots after as many steps
  abbrev pub past : ℕ → ℕ
  past n = passed user_words data_words p input at_board at_code requests budget clean n

  abbrev pub D : ℕ → Delay
  D w = delay user p input words w

  abbrev at_step : ℕ → Bool
  at_step w = arrives a (D w)

  abbrev stopping : ℕ → Bool
  stopping n = is_stop program requests a n

  abbrev watched : ℕ → Watched
  watched n = done user_words data_words p input at_board at_code requests budget clean n

  ran : (n : ℕ) → n ≤ budget → Ran shipped user_words inside p input data_words (bits requests n) (start words) (watch_start p words) 0 0 0
  ran n h = ran_at user_words data_words p input at_board at_code requests budget clean n h

  is_delay : (n : ℕ) → (watched n).at ≡ D (past n)
  is_delay n = watched_at user inside p input (past n) (watch_start p words)

  abbrev Phase : ℕ → ℕ → Type 0
  Phase n rest = State (with_handler user inside p input) (erased (state n)) (done_after (watched n) (state n).counts.interrupts) rest

  -- in user code the fetch in ALU is the next step's
  record InStep (n : ℕ) : Type 0 where
    halted : (state n).halted ≡ (D (past n)).halted
    alu : (state n).alu ≡ Some (as_fetch (D (past n)).first)
    regs : (state n).core.regs ≡ (D (past n)).core.regs
    md : (state n).core.md ≡ (D (past n)).core.md
    mem : UserSame p (state n).core.mem (D (past n)).core.mem
    users : is_users (state n).alu ≡ true

  -- else no word of the user is there, or the machine has halted
  phase : (n rest : ℕ) → Phase n rest → InStep n ⊎ ((is_users (state n).alu ≡ false) ⊎ ((state n).halted ≡ true))
  phase n rest (going g) =
      let d = keeps_on (with_shipped user) g.c g.goes g.quiet in
      let f = g.in_user.in_user.follows in
      let e = is_delay n in
      inl (record {
        halted = ap (λ (x : MachineState). x.halted) g.is ∙ ap (λ (x : MachineState). x.halted) d ∙ f.halted ∙ ap (λ (x : Delay). x.halted) e;
        alu = ap (λ (x : MachineState). x.alu) g.is ∙ ap (λ (x : MachineState). x.alu) d ∙ f.alu ∙ ap (λ (x : Delay). Some (as_fetch x.first)) e;
        regs = ap (λ (x : MachineState). x.core.regs) g.is ∙ ap (λ (x : MachineState). x.core.regs) d ∙ f.regs ∙ ap (λ (x : Delay). x.core.regs) e;
        md = ap (λ (x : MachineState). x.core.md) g.is ∙ ap (λ (x : MachineState). x.core.md) d ∙ f.md ∙ ap (λ (x : Delay). x.core.md) e;
        mem = λ b u. ap (λ (x : MachineState). x.core.mem b) g.is ∙ ap (λ (x : MachineState). x.core.mem b) d ∙ f.mem b u ∙ ap (λ (x : Delay). x.core.mem b) e;
        users =
            ap (λ (x : MachineState). is_users x.alu) g.is ∙ ap (λ (x : MachineState). is_users x.alu) d ∙ ap is_users f.alu
            ∙ le-leb 4096 (watched n).at.first.address g.in_user.in_user.queue.first.0;
      })
  phase n rest (pausing h) =
      let silent = h.pause.silent h.j (let e = h.sum in let f = h.some in omega (arith, e, f)) in
      inr (inl (ap (λ (x : MachineState). is_users x.alu) h.is ∙ silent.system))
  phase n rest (over o) = inr (inr o.ends)

  phase_at : (n : ℕ) → n ≤ budget → InStep n ⊎ ((is_users (state n).alu ≡ false) ⊎ ((state n).halted ≡ true))
  phase_at n h = let r = ran n h in phase n r.stands.rest r.stands.state

  next_is : (n : ℕ) → state (suc n) ≡ next (code_of program) input a (state n) (is_requested requests n)
  next_is n = after_one_more resident (code_of program) input (start words) (bits requests n) (is_requested requests n)

  past_next : (n : ℕ) → past (suc n) ≡ past n + one (passes (state n))
  past_next n = passed_more program (bits requests n) (is_requested requests n) (start words)

  stop_is : (n : ℕ) → stopping n ≡ stops (code_of program) input a (state n) (is_requested requests n)
  stop_is n = ap (λ (x : MachineState). goes_on (answer (code_of program) input (state n) (is_requested requests n)) && shows_live a x.shown.alu) (next_is n)

  module _ (n : ℕ) (within : n ≤ budget) where
    here_in_step : InStep n → is_here a (state n) ≡ at_step (past n)
    here_in_step s = λ k. not (s.halted k) && at_fetch a (s.alu k)

    not_here : is_users (state n).alu ≡ false → is_here a (state n) ≡ false
    not_here e = ap (λ b. not (state n).halted && b) (not_users a (state n).alu high e) ∙ nowhere (not (state n).halted)

    over_there : (state n).halted ≡ true → is_here a (state n) ≡ false
    over_there h = λ k. not (h k) && at_fetch a (state n).alu

    -- a cycle that acts takes one step where a word of the user is in ALU
    module _ (on : (state n).halted ≡ false) (z : eqb (state n).stall 0 ≡ true) where
      passes_by : (b : Bool) → is_users (state n).alu ≡ b → past (suc n) ≡ past n + one b
      passes_by b e = past_next n ∙ (λ k. past n + one (not (on k) && (z k && e k)))

      counted_next : count_below at_step (past n) + one (is_here a (state n)) ≡ count_below at_step (past (suc n))
      counted_next = ⊎_elim
          (λ (s : InStep n). one_step at_step (past n) (past (suc n)) (is_here a (state n)) (here_in_step s) (passes_by true s.users))
          (λ other. ⊎_elim
          (λ (e : is_users (state n).alu ≡ false). no_step at_step (past n) (past (suc n)) (is_here a (state n)) (not_here e) (passes_by false e))
          (λ (h : (state n).halted ≡ true). absurd (clash (state n).halted on h))
          other)
          (phase_at n within)

      acts_here : stopping n ≡ is_here a (state (suc n))
      acts_here = stop_is n ∙ acted_stop (code_of program) input a (state n) (is_requested requests n) on z ∙ ap (is_here a) (sym (next_is n))

    waits : Waits (code_of program) input a (state n) (is_requested requests n)
        → (stopping n ≡ false) × (is_here a (state (suc n)) ≡ is_here a (state n)) × (past (suc n) ≡ past n)
    waits w = (
      stop_is n ∙ w.none,
      ap (is_here a) (next_is n) ∙ w.same,
      past_next n ∙ ap (λ b. past n + one b) w.few ∙ (let e : past n + 0 ≡ past n = omega arith in e),
    )

    -- a cycle acts, or nothing comes of it
    by_cycle : {X : Type 0} → ((state n).halted ≡ false → eqb (state n).stall 0 ≡ true → X)
        → (Waits (code_of program) input a (state n) (is_requested requests n) → X) → X
    by_cycle act wait = ⊎_elim
        (λ h. wait (halted_waits (code_of program) input a (state n) (is_requested requests n) h))
        (λ on. ⊎_elim (act on) (λ z. wait (stalled_waits (code_of program) input a (state n) (is_requested requests n) on z))
        (cases_Bool (eqb (state n).stall 0)))
        (cases_Bool (state n).halted)

  -- as many stops came as the steps so far came to the address, and one more where the fetch is in ALU
  counted : (n : ℕ) → n ≤ budget → count_below stopping n ≡ count_below at_step (past n) + one (is_here a (state n))
  counted zero within = refl
  counted (suc n) within =
      let before : n ≤ budget = omega (arith, within) in
      let e = counted n before in
      by_cycle n before
      (λ on z. acts_more stopping n (count_below at_step (past n)) (count_below at_step (past (suc n))) (is_here a (state n)) (is_here a (state (suc n))) e
      (counted_next n before on z) (acts_here n before on z))
      (λ w.
      let x = waits n before w in
      waits_more stopping n (count_below at_step (past n)) (count_below at_step (past (suc n))) (is_here a (state n)) (is_here a (state (suc n))) e x.0 x.1
      (ap (count_below at_step) x.2))

  -- after the cycle of a stop the machine is that with delay slots, which has come to the address, as often as there were stops before
  pub record Arrived (n w : ℕ) : Type 0 where
    pub on : (D w).halted ≡ false
    pub address : (D w).first.address ≡ a
    pub regs : (state (suc n)).core.regs ≡ (D w).core.regs
    pub md : (state (suc n)).core.md ≡ (D w).core.md
    pub mem : UserSame p (state (suc n)).core.mem (D w).core.mem
    pub console : console_after program (bits requests (suc n)) ≡ (D w).console
    pub before : count_below stopping n ≡ count_below at_step w
    pub few : w ≤ suc n

  at_address : (f : Fetch) → at_fetch a (Some f) ≡ true → f.address ≡ a
  at_address f e = eqb-true f.address a (and_parts (not f.squashed) (eqb f.address a) e).1

  -- a stop is such an arrival
  pub arrived : (n : ℕ) → suc n ≤ budget → stopping n ≡ true → Arrived n (past (suc n))
  arrived n within stop =
      by_cycle n (omega (arith, within))
      (λ on z.
      let here : is_here a (state (suc n)) ≡ true = sym (acts_here n (omega (arith, within)) on z) ∙ stop in
      ⊎_elim
      (λ (s : InStep (suc n)).
      let there : at_step (past (suc n)) ≡ true = sym (here_in_step (suc n) within s) ∙ here in
      let parts = and_parts (not (D (past (suc n))).halted) (at_fetch a (Some (as_fetch (D (past (suc n))).first))) there in
      record {
        on = off_of (D (past (suc n))).halted parts.0;
        address = at_address (as_fetch (D (past (suc n))).first) parts.1;
        regs = s.regs;
        md = s.md;
        mem = s.mem;
        console = (let r = ran (suc n) within in r.console) ∙ ap (λ (x : Delay). x.console) (is_delay (suc n));
        before = counted n (omega (arith, within)) ∙ counted_next n (omega (arith, within)) on z;
        few = few_steps (suc n);
      })
      (λ other. ⊎_elim
      (λ (e : is_users (state (suc n)).alu ≡ false). absurd (clash (is_here a (state (suc n))) (not_here (suc n) within e) here))
      (λ (h : (state (suc n)).halted ≡ true). absurd (clash (is_here a (state (suc n))) (over_there (suc n) within h) here))
      other)
      (phase_at (suc n) within))
      (λ w. absurd (clash (stopping n) (waits n (omega (arith, within)) w).0 stop))
    where
      off_of : (b : Bool) → not b ≡ true → b ≡ false
      off_of b h = grind arith

      few_steps : (n : ℕ) → past n ≤ n
      few_steps n = let e = passed_few program (bits requests n) (start words) in let f = length_bits requests n in omega (arith, e, f)

  -- where as many steps are done, the stops came
  pub came : (w : ℕ) → w ≤ past budget → count_below at_step w ≤ count_below stopping budget
  came w few = fewer_steps at_step w (past budget) (count_below stopping budget) (is_here a (state budget)) few (counted budget (omega arith))
