-- Runs that grow by a cycle, and runs that have halted.
use Rattle.std.proofs.Common.{◌≡◌, ◌≤◌, ◌+◌, ℕ, zero, suc, Bool, true, false, cond, List}
use Rattle.std.proofs.Common.{[], ◌∷◌, ◌++◌, option_to_list, append_assoc, append-nil, arith, refl, sym, ap, ◌∙◌, subst, ⊎_elim, true≢false}
use Rattle.std.specs.Prelude.{min, eqb, nat_lt, Option}
use Rattle.std.proofs.lemmas.Bool.Decides.{nat_tests}
use Rattle.std.proofs.lemmas.Bool.{cases_Bool, cases_lt, cond-true, cond-false}
use Rattle.mx_delay.specs.Delay.{Code}
use Rattle.mx_icache.specs.Residency.{resident}
use Rattle.mx_turn.specs.declared.Cycled.{Cycled}
use Rattle.mx_turn.specs.Cycle.{MachineState, start, is_taken, entered, decided, turned, ended, reached, latched, acted, cycled, answer, acted_answer, after_bits}
use Rattle.mx_turn.specs.Program.{Program, code_of, memory_of, state_after, answer_after, quiet, quiet_bytes}
use Rattle.mx_turn.specs.Run.{is_requested, bits, bytes_on, console_after}
use Rattle.mx_turn.proofs.Steps.{after_one_more}
use Rattle.mx_report.specs.Trace.{trace_line}
use Rattle.mx_report.specs.Driving.{trace_text}

-- the end of a turn keeps what neither an interrupt nor a decision changes
pub ended_same : {A : Type 0} (field : MachineState → A) (code : Code) (c : MachineState) → field (entered c) ≡ field c → field (decided code c) ≡ field c
    → field (ended code c) ≡ field c
ended_same field code c entering deciding = ⊎_elim
    (λ h. ap field (cond-true c.halted c (turned code c) h))
    (λ h. ap field (cond-false c.halted c (turned code c) h)
    ∙ ⊎_elim
    (λ t. ap field (cond-true (is_taken c) (entered c) (decided code c) t) ∙ entering)
    (λ t. ap field (cond-false (is_taken c) (entered c) (decided code c) t) ∙ deciding)
    (cases_Bool (is_taken c)))
    (cases_Bool c.halted)

-- a cycle answers whether the machine has halted after it
pub answer_halted : (code : Code) (input : Option (List ℕ)) (m : MachineState) (request : Bool)
    → (answer code input m request).halted ≡ (cycled resident code input m request).halted
answer_halted code input m request = ⊎_elim
    (λ h. ap (λ (r : Cycled). r.halted) (cond-true m.halted _ _ h) ∙ sym h ∙ sym (ap (λ (n : MachineState). n.halted) (cond-true m.halted m _ h)))
    (λ h. ⊎_elim
    (λ s. ap (λ (r : Cycled). r.halted) (cond-false m.halted _ _ h ∙ cond-true _ (acted_answer code input (latched request m)) _ s)
    ∙ sym (ended_same (λ (n : MachineState). n.halted) code (reached code input (latched request m)) refl refl)
    ∙ sym (ap (λ (n : MachineState). n.halted) (cond-false m.halted m _ h ∙ cond-true _ (acted resident code input (latched request m)) _ s)))
    (λ s. ap (λ (r : Cycled). r.halted) (cond-false m.halted _ _ h ∙ cond-false _ (acted_answer code input (latched request m)) _ s)
    ∙ sym h
    ∙ sym (ap (λ (n : MachineState). n.halted) (cond-false m.halted m _ h ∙ cond-false _ (acted resident code input (latched request m)) _ s)))
    (cases_Bool (eqb m.stall 0)))
    (cases_Bool m.halted)

pub one_more_byte : (p : Program) (m : MachineState) (h : List Bool) (request : Bool)
    → bytes_on p m (h ++ request ∷ []) ≡ bytes_on p m h
    ++ option_to_list (answer (code_of p) p.input (after_bits resident (code_of p) p.input m h) request).byte
one_more_byte p m [] request = append-nil (option_to_list (answer (code_of p) p.input m request).byte)
one_more_byte p m (b ∷ h) request =
    ap (λ l. option_to_list (answer (code_of p) p.input m b).byte ++ l) (one_more_byte p (cycled resident (code_of p) p.input m b) h request)
    ∙ sym (append_assoc (option_to_list (answer (code_of p) p.input m b).byte) _ _)

-- the console after cycles without a request
pub quiet_console : (p : Program) (h : List Bool) (k : ℕ) → console_after p (quiet h k) ≡ console_after p h ++ quiet_bytes p h k
quiet_console p h zero = sym (append-nil (console_after p h))
quiet_console p h (suc k) =
    let byte : List ℕ = option_to_list (answer_after p (quiet h k) false).byte in
    one_more_byte p (start (memory_of p)) (quiet h k) false
    ∙ ap (λ l. l ++ byte) (quiet_console p h k)
    ∙ append_assoc (console_after p h) (quiet_bytes p h k) byte

-- what no step from n on changes is as it was at n
pub still : {A : Type 0} (f : ℕ → A) (n : ℕ) → ((m : ℕ) → n ≤ m → f m ≡ f n → f (suc m) ≡ f m) → (m : ℕ) → n ≤ m → f m ≡ f n
still f n same zero le = let e : zero ≡ n = omega (arith, le) in ap f e
still f n same (suc m) le = ⊎_elim
    (λ lt.
    let before : n ≤ m = omega (arith, lt) in
    let earlier = still f n same m before in
    same m before earlier ∙ earlier)
    (λ ge. let e : suc m ≡ n = omega (arith, ge, le) in ap f e)
    (cases_lt n (suc m))

module _ (p : Program) (requests : List ℕ) where
  -- the machine after the first n cycles
  abbrev pub state_at : ℕ → MachineState
  state_at n = state_after p (bits requests n)

  abbrev pub cycled_at : ℕ → Cycled
  cycled_at n = answer_after p (bits requests n) (is_requested requests n)

  pub next_state : (n : ℕ) → state_at (suc n) ≡ cycled resident (code_of p) p.input (state_at n) (is_requested requests n)
  next_state n = after_one_more resident (code_of p) p.input (start (memory_of p)) (bits requests n) (is_requested requests n)

  pub next_console : (n : ℕ) → console_after p (bits requests (suc n)) ≡ console_after p (bits requests n) ++ option_to_list (cycled_at n).byte
  next_console n = one_more_byte p (start (memory_of p)) (bits requests n) (is_requested requests n)

  -- what was sent, with the byte of the next cycle, or with the bytes of cycles without a request
  module _ (n : ℕ) (old new : List ℕ) (before : old ≡ console_after p (bits requests n)) where
    pub sent_next : (answer : Cycled) → answer ≡ cycled_at n → new ≡ old ++ option_to_list answer.byte → new ≡ console_after p (bits requests (suc n))
    sent_next answer answered is = is ∙ (λ k. before k ++ option_to_list (answered k).byte) ∙ sym (next_console n)

    pub sent_quiet : (k : ℕ) → bits requests (k + n) ≡ quiet (bits requests n) k → new ≡ old ++ quiet_bytes p (bits requests n) k
        → new ≡ console_after p (bits requests (k + n))
    sent_quiet k are is =
        is
        ∙ ap (λ l. l ++ quiet_bytes p (bits requests n) k) before
        ∙ sym (quiet_console p (bits requests n) k)
        ∙ ap (console_after p) (sym are)

  pub next_halted : (n : ℕ) → (cycled_at n).halted ≡ (state_at (suc n)).halted
  next_halted n = answer_halted (code_of p) p.input (state_at n) (is_requested requests n) ∙ ap (λ (m : MachineState). m.halted) (sym (next_state n))

  abbrev pub shown_line : ℕ → List ℕ
  shown_line n = trace_line n (cycled_at n) (state_at (suc n)).shown

  pub next_trace : (t n : ℕ) → (state_at n).halted ≡ false
      → trace_text p requests (min t (suc n)) ≡ trace_text p requests (min t n) ++ cond (nat_lt n t) (shown_line n) []
  next_trace t n going = ⊎_elim
      (λ lt.
      let longer : min t (suc n) ≡ suc n = omega arith in
      let now : min t n ≡ n = omega arith in
      let test : nat_lt n t ≡ true = grind (arith, nat_tests) in
      ap (trace_text p requests) longer
      ∙ ap (λ l. trace_text p requests n ++ l) (cond-false (state_at n).halted [] (shown_line n) going)
      ∙ ap (λ k. trace_text p requests k ++ shown_line n) (sym now)
      ∙ ap (λ l. trace_text p requests (min t n) ++ l) (sym (cond-true (nat_lt n t) (shown_line n) [] test)))
      (λ le.
      let same : min t (suc n) ≡ min t n = omega arith in
      let test : nat_lt n t ≡ false = grind (arith, nat_tests) in
      ap (trace_text p requests) same
      ∙ sym (append-nil (trace_text p requests (min t n)))
      ∙ ap (λ l. trace_text p requests (min t n) ++ l) (sym (cond-false (nat_lt n t) (shown_line n) [] test)))
      (cases_lt n t)

  -- A machine that has halted stays as it is, sends nothing, and shows nothing.
  module _ (n : ℕ) (halted : (state_at n).halted ≡ true) where
    pub state_still : (m : ℕ) → n ≤ m → state_at m ≡ state_at n
    state_still = still state_at n (λ m le same.
        next_state m ∙ cond-true (state_at m).halted (state_at m) _ (ap (λ (s : MachineState). s.halted) same ∙ halted))

    halted_still : (m : ℕ) → n ≤ m → (state_at m).halted ≡ true
    halted_still m le = ap (λ (s : MachineState). s.halted) (state_still m le) ∙ halted

    pub no_byte : (m : ℕ) → n ≤ m → option_to_list (cycled_at m).byte ≡ []
    no_byte m le = ap (λ (r : Cycled). option_to_list r.byte) (cond-true (state_at m).halted _ _ (halted_still m le))

    pub console_still : (m : ℕ) → n ≤ m → console_after p (bits requests m) ≡ console_after p (bits requests n)
    console_still = still (λ k. console_after p (bits requests k)) n (λ m le same.
        let sent : List ℕ = console_after p (bits requests m) in
        next_console m ∙ ap (λ l. sent ++ l) (no_byte m le) ∙ append-nil sent)

    pub trace_still : (m : ℕ) → n ≤ m → trace_text p requests m ≡ trace_text p requests n
    trace_still = still (trace_text p requests) n (λ m le same.
        let lines : List ℕ = trace_text p requests m in
        ap (λ l. lines ++ l) (cond-true (state_at m).halted [] (shown_line m) (halted_still m le)) ∙ append-nil lines)

    pub trace_within : (t m : ℕ) → n ≤ m → trace_text p requests (min t m) ≡ trace_text p requests (min t n)
    trace_within t m le = ⊎_elim
        (λ lt. let e : min t m ≡ min t n = omega arith in ap (trace_text p requests) e)
        (λ ge. let later : n ≤ min t m = omega arith in let e : n ≡ min t n = omega arith in
        trace_still (min t m) later ∙ ap (trace_text p requests) e)
        (cases_lt t n)

  -- a machine that has not halted had not halted before
  pub going_before : (n m : ℕ) → n ≤ m → (state_at m).halted ≡ false → (state_at n).halted ≡ false
  going_before n m le going = ⊎_elim
      (λ h. absurd (true≢false (sym (halted_still n h m le) ∙ going)))
      (λ h. h)
      (cases_Bool (state_at n).halted)

  -- what is so where a run ended, and stays so once the machine has halted, is so at the end of its budget
  pub at_end : (P : ℕ → Type 0) (n m : ℕ) (halted : Bool) → halted ≡ (state_at n).halted → (halted ≡ false → n ≡ m)
      → ((state_at n).halted ≡ true → P n → P m) → P n → P m
  at_end P n m true is whole still now = still (sym is) now
  at_end P n m false is whole still now = subst P (whole refl) now

  -- the console and the trace at the end of a budget are those of the cycles until the machine halts
  module _ (n m : ℕ) (halted : Bool) (is : halted ≡ (state_at n).halted) (within : n ≤ m) (whole : halted ≡ false → n ≡ m) where
    pub console_end : console_after p (bits requests n) ≡ console_after p (bits requests m)
    console_end = at_end (λ k. console_after p (bits requests n) ≡ console_after p (bits requests k)) n m halted is whole
        (λ h e. sym (console_still n h m within)) refl

    pub trace_end : (t : ℕ) → trace_text p requests (min t n) ≡ trace_text p requests (min t m)
    trace_end t = at_end (λ k. trace_text p requests (min t n) ≡ trace_text p requests (min t k)) n m halted is whole
        (λ h e. sym (trace_within n h t m within)) refl
