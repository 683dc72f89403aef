-- Where a machine is between turns, and that a turn keeps it.
use Rattle.std.proofs.Common.{◌≡◌, ℕ, suc, ◌+◌, ◌-◌, ◌<◌, ◌≤◌, Bool, true, false, cond, not, ◌&&◌, ◌++◌, append-nil, refl, sym, ap, ◌∙◌, subst, arith, ⊎_elim}
use Rattle.std.specs.Prelude.{option_to_list}
use Rattle.std.proofs.lemmas.Bool.{cond-true, cond-false, cases_Bool, cases_lt, false≢true, and_parts}
use Rattle.mx_isa.specs.Words.{Words}
use Rattle.mx_turn.specs.Counted.{Counted, one}
use Rattle.mx_turn.specs.Cycle.{MachineState, shifted, commit_byte, is_taken, entered, decided, turned, reached, ended, takes, start}
use Rattle.mx_turn.specs.Run.{is_users}
use Rattle.mx_turn.specs.OneTurn.{before_turn}
use Rattle.mx_handler.proofs.Pauses.{erased, goes_on, Setting, later, Still, still_turn, Silent, Pause, Handled, Stepped, IsLawful, reached_alike}

module _ (x : Setting) where
  -- in user code: the coming turn is the next step
  pub record Going (m : MachineState) (k : x.Known) (rest : ℕ) : Type 0 where
    pub c : MachineState
    pub in_user : x.In c k
    pub goes : c.halted ≡ false
    pub quiet : is_taken c ≡ false
    pub is : m ≡ erased (ended x.code c)
    pub none : rest ≡ 0

  -- j turns into a pause, with some turns left
  pub record Pausing (m : MachineState) (k : x.Known) (rest : ℕ) : Type 0 where
    pub base : MachineState
    pub last : ℕ
    pub pause : Pause x base last k
    pub j : ℕ
    pub sum : j + rest ≡ suc last
    pub some : 1 ≤ rest
    pub is : m ≡ erased (later x j base)
    pub goes : m.halted ≡ false

  -- halted
  pub record Over (m : MachineState) (k : x.Known) (rest : ℕ) : Type 0 where
    pub in_user : x.In m k
    pub ends : m.halted ≡ true
    pub none : rest ≡ 0

  -- a machine of which this is known, with so many turns left of a pause
  pub data State (m : MachineState) (k : x.Known) (rest : ℕ) : Type 0 where
    going : Going m k rest → State m k rest
    pausing : Pausing m k rest → State m k rest
    over : Over m k rest → State m k rest

  -- an interrupt begins a pause
  abbrev pub pause_of : Bool → ℕ
  pause_of taken = cond taken (x.last + 1) 0

  -- a turn in which c is reached: its byte, whether a word passes, and where the machine is then
  pub record Turned (m c : MachineState) (k : x.Known) (rest : ℕ) : Type 0 where
    pub byte : (x.runs k).at.console ++ option_to_list (commit_byte x.code x.input (shifted m)) ≡ (x.runs (x.past (is_users m.alu) k)).at.console
    pub rest_after : ℕ
    pub left : rest_after + 1 ≡ rest + one (is_users m.alu) + pause_of (takes c)
    pub state : State (erased (ended x.code c)) (x.after (takes c) (x.past (is_users m.alu) k)) rest_after
    pub taken : takes c ≡ true → x.In c (x.past (is_users m.alu) k)

  -- before the first cycle
  pub at_start : (words : Words) (k : x.Known) → Pause x (start words) 2 k → State (erased (start words)) k 3
  at_start words k h = pausing (record {
    base = start words;
    last = 2;
    pause = h;
    j = 0;
    sum = refl;
    some = omega arith;
    is = refl;
    goes = refl;
  })

  module _ (laws : IsLawful x) where
    pub halted_alike : (m : MachineState) (k : x.Known) (rest : ℕ) → State m k rest → m.halted ≡ (x.runs k).at.halted
    halted_alike m k rest (going g) =
        ap (λ (y : MachineState). y.halted) g.is ∙ ap (λ (y : MachineState). y.halted) (goes_on x.code g.c g.goes g.quiet) ∙ laws.halted g.c k g.in_user
    halted_alike m k rest (pausing h) = h.goes ∙ sym h.pause.waits
    halted_alike m k rest (over o) = laws.halted m k o.in_user

    -- where it halted, it did so in user code
    pub ended_in_user : (m : MachineState) (k : x.Known) (rest : ℕ) → State m k rest → m.halted ≡ true → x.In m k
    ended_in_user m k rest (going g) h = absurd (false≢true (sym g.goes ∙ laws.halted g.c k g.in_user ∙ sym (halted_alike m k rest (going g)) ∙ h))
    ended_in_user m k rest (pausing q) h = absurd (false≢true (sym q.goes ∙ h))
    ended_in_user m k rest (over o) h = o.in_user

    -- what is reached in user code, after the turn
    ended_user : (c : MachineState) (k : x.Known) → (is_taken c ≡ true → Handled x) → x.In c k
        → State (erased (ended x.code c)) (x.after (takes c) k) (pause_of (takes c))
    ended_user c k handled u = ⊎_elim
        (λ h. untaken (λ i. not (h i) && is_taken c)
        (over (record {
          in_user = subst (λ y. x.In (erased y) k) (sym (cond-true _ c _ h)) (laws.alike c k 0 false _ u);
          ends = ap (λ (y : MachineState). y.halted) (cond-true _ c (turned x.code c) h) ∙ h;
          none = refl;
        })))
        (λ h. ⊎_elim
        (λ t. let e : takes c ≡ true = (λ i. not (h i) && t i) in
        let same : ended x.code c ≡ entered c = cond-false _ c (turned x.code c) h ∙ cond-true _ (entered c) (decided x.code c) t in
        subst (λ b. State (erased (ended x.code c)) (x.after b k) (pause_of b)) (sym e)
        (pausing (record {
          base = entered c;
          last = x.last;
          pause = handled t c k u h;
          j = 0;
          sum = omega arith;
          some = omega arith;
          is = ap erased same;
          goes = ap (λ (y : MachineState). y.halted) same ∙ h;
        })))
        (λ t. untaken (λ i. not (h i) && t i) (going (record { c = c; in_user = u; goes = h; quiet = t; is = refl; none = refl })))
        (cases_Bool (is_taken c)))
        (cases_Bool c.halted)
      where
        untaken : takes c ≡ false → State (erased (ended x.code c)) k 0 → State (erased (ended x.code c)) (x.after (takes c) k) (pause_of (takes c))
        untaken e s =
            subst (λ b. State (erased (ended x.code c)) (x.after b k) (pause_of b)) (sym e)
            (subst (λ y. State (erased (ended x.code c)) y 0) (sym (laws.no_interrupt k)) s)

    module _ (m : MachineState) (k : x.Known) (rest stall : ℕ) (latch : Bool) (counts : Counted) (handled : latch ≡ true → Handled x) where
      -- what is reached in the turn
      abbrev pub c : MachineState
      c = reached x.code x.input (before_turn stall latch counts m)

      -- where one is taken a request is latched
      asked : is_taken c ≡ true → Handled x
      asked t = handled (and_parts latch _ (and_parts c.psw.current.interrupts _ t).1).0

      -- a turn of user code
      going_turn : Going m k rest → (x.runs (x.past (is_users m.alu) k)).clean ≡ true → Turned m c k rest
      going_turn g clean = record {
        byte =
            ap (λ y. (x.runs k).at.console ++ option_to_list (commit_byte x.code x.input (shifted y))) g.is
            ∙ step.byte
            ∙ ap (λ b. (x.runs (x.past b k)).at.console) (sym passes);
        rest_after = pause_of (takes c);
        left = (let e = g.none in let f : one (is_users m.alu) ≡ 1 = ap one passes in omega (arith, e, f));
        state = ended_user c (x.past (is_users m.alu) k) asked reaches;
        taken = λ e. reaches;
      }
        where
          passes : is_users m.alu ≡ true
          passes =
              ap (λ (y : MachineState). is_users y.alu) g.is
              ∙ ap (λ (y : MachineState). is_users y.alu) (goes_on x.code g.c g.goes g.quiet)
              ∙ laws.users g.c k g.in_user

          step : Stepped x (before_turn stall latch counts (ended x.code g.c)) k
          step = laws.turn g.c k stall latch counts g.in_user g.goes g.quiet (sym (ap (λ b. (x.runs (x.past b k)).clean) passes) ∙ clean)

          reaches : x.In c (x.past (is_users m.alu) k)
          reaches = subst (λ b. x.In c (x.past b k)) (sym passes)
              (subst (λ y. x.In (reached x.code x.input (before_turn stall latch counts y)) (x.past true k)) (sym g.is) step.in_user)

      -- a turn of a pause
      module _ (h : Pausing m k rest) where
        abbrev t : MachineState
        t = later x h.j h.base

        early : h.j ≤ h.last
        early = let e = h.sum in let f = h.some in omega (arith, e, f)

        silent : Silent x t
        silent = h.pause.silent h.j early

        system : is_users m.alu ≡ false
        system = ap (λ (y : MachineState). is_users y.alu) h.is ∙ silent.system

        stays : x.past (is_users m.alu) k ≡ k
        stays = ap (λ b. x.past b k) system ∙ laws.no_word k

        byte : (x.runs k).at.console ++ option_to_list (commit_byte x.code x.input (shifted m)) ≡ (x.runs (x.past (is_users m.alu) k)).at.console
        byte =
            ap (λ o. (x.runs k).at.console ++ option_to_list o) (ap (λ y. commit_byte x.code x.input (shifted y)) h.is ∙ silent.silent)
            ∙ append-nil (x.runs k).at.console
            ∙ ap (λ y. (x.runs y).at.console) (sym stays)

        same : c ≡ reached x.code x.input (before_turn stall latch counts t)
        same = ap (λ y. reached x.code x.input (before_turn stall latch counts y)) h.is

        inner_turn : h.j < h.last → Turned m c k rest
        inner_turn l = record {
          byte = byte;
          rest_after = rest - 1;
          left =
              let e = h.sum in
              let f : one (is_users m.alu) ≡ 0 = ap one system in
              let g : pause_of (takes c) ≡ 0 = ap pause_of not_taken in
              omega (arith, e, f, g, l);
          state = subst (λ y. State (erased (ended x.code c)) y (rest - 1)) (sym stays_after)
              (pausing (record {
                base = h.base;
                last = h.last;
                pause = h.pause;
                j = suc h.j;
                sum = (let e = h.sum in omega (arith, e, l));
                some = (let e = h.sum in omega (arith, e, l));
                is = ap (λ y. erased (ended x.code (reached x.code x.input (before_turn stall latch counts y)))) h.is ∙ still_turn x t stall latch counts still;
                goes = ap (λ (y : MachineState). y.halted) (goes_on x.code c goes quiet) ∙ goes;
              }));
          taken = λ e. absurd (false≢true (sym not_taken ∙ e));
        }
          where
            still : Still x t
            still = h.pause.still h.j l

            goes : c.halted ≡ false
            goes = ap (λ (y : MachineState). y.halted) same ∙ still.goes

            quiet : is_taken c ≡ false
            quiet = ap (λ y. is_taken y) same ∙ still.nothing latch

            not_taken : takes c ≡ false
            not_taken = λ i. not (goes i) && quiet i

            stays_after : x.after (takes c) (x.past (is_users m.alu) k) ≡ k
            stays_after = ap (λ b. x.after b (x.past (is_users m.alu) k)) not_taken ∙ laws.no_interrupt _ ∙ stays

        last_turn : h.last ≤ h.j → Turned m c k rest
        last_turn l = record {
          byte = byte;
          rest_after = pause_of (takes c);
          left = (let e = h.sum in let g = h.some in let f : one (is_users m.alu) ≡ 0 = ap one system in omega (arith, e, f, g, l));
          state = ended_user c (x.past (is_users m.alu) k) asked back;
          taken = λ e. back;
        }
          where
            at_last : h.last ≡ h.j
            at_last = let e = early in omega (arith, e, l)

            at_end : x.In (reached x.code x.input t) k
            at_end = subst (λ i. x.In (reached x.code x.input (later x i h.base)) k) at_last h.pause.back

            back : x.In c (x.past (is_users m.alu) k)
            back = subst (x.In c) (sym stays) (subst (λ y. x.In y k) (sym same) (reached_alike x laws t k stall latch counts at_end))

        pausing_turn : Turned m c k rest
        pausing_turn = ⊎_elim inner_turn last_turn (cases_lt h.j h.last)

      -- a machine that has not halted has a turn
      pub turn : State m k rest → m.halted ≡ false → (x.runs (x.past (is_users m.alu) k)).clean ≡ true → Turned m c k rest
      turn (going g) on clean = going_turn g clean
      turn (pausing h) on clean = pausing_turn h
      turn (over o) on clean = absurd (false≢true (sym on ∙ o.ends))
