-- User code under the shipped handler, which counts the interrupts, and under another while none comes.
use Rattle.std.proofs.Common.{◌≡◌, ℕ, ◌+◌, ◌%◌, ◌^◌, ◌<◌, ◌≤◌, Bool, true, false, leb, List, Option, Some, None, refl, sym, ap, ◌∙◌, arith, inl}
use Rattle.std.specs.Prelude.{is_some, unwrap_or}
use Rattle.std.proofs.lemmas.Bool.{agree_below_at, cond-true, le-leb, leb-true, and_parts}
use Rattle.std.proofs.lemmas.Bool.Decides.{nat_tests}
use Rattle.mx_isa.specs.declared.board.TheConstants.{CODE_BASE}
use Rattle.mx_isa.specs.declared.place.Place.{Place}
use Rattle.mx_isa.specs.Words.{Words}
use Rattle.mx_isa.specs.Effect.{Sent, stored}
use Rattle.mx_isa.specs.UserBus.{is_user}
use Rattle.mx_isa.proofs.Frame.{same_words}
use Rattle.mx_code.specs.Decoding.{inst_of}
use Rattle.mx_delay.specs.Delay.{Code, code_from}
use Rattle.mx_delay.specs.Clean.{Watched, watch_start}
use Rattle.mx_pcchain.specs.Fetch.{Fetch}
use Rattle.mx_board.specs.Data.{board}
use Rattle.mx_turn.specs.Counted.{Counted, one}
use Rattle.mx_turn.specs.Stages.{fetch_of}
use Rattle.mx_turn.specs.Cycle.{MachineState, shifted, mem_change, commit_byte, is_taken, entered, reached, ended, start}
use Rattle.mx_turn.specs.Run.{is_users}
use Rattle.mx_turn.specs.OneTurn.{IsOnBoard, as_fetch, before_turn}
use Rattle.mx_turn.specs.Program.{code_with}
use Rattle.mx_turn.specs.Handler.{shipped}
use Rattle.mx_handler.specs.Returns.{with_shipped, IsBack}
use Rattle.mx_handler.proofs.Pauses.{off, Setting, later, Pause, Handled, Stepped, IsLawful, quiet_still, quiet_silent, first_pause}
use Rattle.mx_handler.proofs.Quiet.{quiet}
use Rattle.mx_handler.proofs.Returns.{returns}
use Rattle.mx_delay.proofs.Watched.{next, past}
use Rattle.law_interrupts.proofs.InUser.{InUser, in_user_alike, IsReady, ends, user_turn, user_byte}

-- user code leaves system word 0 as it is
stored_low : (input : Option (List ℕ)) (o : Option Sent) (m : Words) → stored (board true input) o m 0 ≡ m 0
stored_low input None m = refl
stored_low input (Some s) m = grind (arith, nat_tests)

-- in user code after n interrupts
pub record InUserAfter (p : Place) (c : MachineState) (s : Watched) (n : ℕ) : Type 0 where
  pub in_user : InUser p c s
  pub counted : c.core.mem 0 ≡ n % 2 ^ 32

-- these steps are done, and so many interrupts were taken
pub record Steps : Type 0 where
  pub done : Watched
  pub interrupts : ℕ

abbrev pub done_after : Watched → ℕ → Steps
done_after s n = record { done = s; interrupts = n }

module _ (handler user : Code) (inside : ℕ → Bool) (p : Place) (input : Option (List ℕ)) where
  abbrev pub setting : Setting
  setting = record {
    code = code_with handler user;
    input = input;
    Known = Steps;
    In = λ c k. InUserAfter p c k.done k.interrupts;
    runs = λ k. k.done;
    past = λ b k. done_after (past user inside p input b k.done) k.interrupts;
    after = λ b k. done_after k.done (k.interrupts + one b);
    last = 25;
  }

  module _ (at_board : IsOnBoard p) (at_code : p.code ≡ CODE_BASE) where
    module _ (c : MachineState) (k : Steps) (stall : ℕ) (latch : Bool) (counts : Counted) (u : InUserAfter p c k.done k.interrupts)
        (goes : c.halted ≡ false) (untaken : is_taken c ≡ false) (clean : (next user inside p input k.done).clean ≡ true) where
      abbrev x : MachineState
      x = before_turn stall latch counts (ended (code_with handler user) c)

      ready : IsReady (code_with handler user) user inside p input c k.done
      ready = record {
        at_board = at_board;
        from = omega (arith, at_code);
        words = λ a high is. cond-true _ _ _ (le-leb CODE_BASE a high);
        goes = goes;
        quiet = untaken;
        clean = clean;
      }

      again : InUser p (reached (code_with handler user) input x) (next user inside p input k.done)
      again = user_turn (code_with handler user) user inside p input c k.done stall latch counts u.in_user ready

      counted : (reached (code_with handler user) input x).core.mem 0 ≡ k.interrupts % 2 ^ 32
      counted =
          (λ i. stored (board (user_mode i) input) (mem_change (code_with handler user) input (shifted x)).stores x.core.mem 0)
          ∙ stored_low input (mem_change (code_with handler user) input (shifted x)).stores x.core.mem
          ∙ ap (λ (m : MachineState). m.core.mem 0) (ends (code_with handler user) user inside p input c k.done stall latch counts u.in_user ready)
          ∙ u.counted
        where
          user_mode : (reached (code_with handler user) input x).psw.current.user ≡ true
          user_mode = again.follows.user

      stepped : Stepped setting x k
      stepped = record {
        in_user = record { in_user = again; counted = counted };
        byte = user_byte (code_with handler user) user inside p input c k.done stall latch counts u.in_user ready;
      }

    pub lawful : IsLawful setting
    lawful = record {
      no_word = λ k. refl;
      no_interrupt = λ k. (let e : k.interrupts + 0 ≡ k.interrupts = omega arith in ap (done_after k.done) e);
      halted = λ c k u. u.in_user.follows.halted;
      users = λ c k u. ap is_users u.in_user.follows.alu ∙ le-leb CODE_BASE k.done.at.first.address u.in_user.queue.first.0;
      alike = λ c k stall latch counts u. record { in_user = in_user_alike p c k.done stall latch counts u.in_user; counted = u.counted };
      turn = λ c k stall latch counts u goes untaken clean. stepped c k stall latch counts u goes untaken clean;
    }

  -- before the first cycle
  pub begins : (words : Words) → p.code ≡ CODE_BASE → words 0 ≡ 0 → Pause setting (start words) 2 (done_after (watch_start p words) 0)
  begins words at_code low = first_pause setting words (done_after (watch_start p words) 0) (record {
    in_user = record {
      follows = record {
        user = refl;
        alu = ap (λ a. Some (fetch_of a)) (sym at_code);
        rf = ap (λ a. Some (fetch_of (a + 1))) (sym at_code);
        fetch = ap (λ a. Some (fetch_of (a + 2))) (sym at_code);
        next = ap (λ a. fetch_of (a + 2)) (sym at_code);
        regs = refl;
        md = refl;
        mem = λ a is. refl;
        taken = refl;
        halted = refl;
      };
      queue = record {
        first = (omega (arith, at_code), omega (arith, at_code));
        second = (omega (arith, at_code), omega (arith, at_code));
        third = (omega (arith, at_code), omega (arith, at_code));
      };
      slot = inl refl;
      on = refl;
    };
    counted = low;
  }) refl

-- the shipped handler
abbrev pub shipped_code : Code
shipped_code = code_from inst_of 0 shipped

module _ (user : Code) (inside : ℕ → Bool) (p : Place) (input : Option (List ℕ)) where
  abbrev pub with_handler : Setting
  with_handler = setting shipped_code user inside p input

  -- the handler's turns, and user code as it was
  module _ (at_board : IsOnBoard p) (c : MachineState) (s : Watched) (n : ℕ) (u : InUserAfter p c s n) (goes : c.halted ≡ false) where
    abbrev turn_of : ℕ → MachineState
    turn_of j = later with_handler j (entered c)

    abbrev e : MachineState
    e = reached (with_shipped user) input (turn_of 25)

    b : IsBack c e
    b = returns user input off c (as_fetch s.at.first) (as_fetch s.at.second) (as_fetch s.at.third)
        (u.in_user.follows.alu, u.in_user.queue.first.1) (u.in_user.follows.rf, u.in_user.queue.second.1) (u.in_user.follows.fetch, u.in_user.queue.third.1)

    high : (a : ℕ) → is_user p a ≡ true → 6 ≤ a
    high a is =
        let h = leb-true p.user_data a (and_parts (leb p.user_data a) _ is).0 in
        let k = p.console_below in
        let f = at_board.console in
        omega (arith, h, k, f)

    user_again : InUserAfter p e s (n + 1)
    user_again =
        let f = u.in_user.follows in
        record {
          in_user = record {
            follows = record {
              user = (λ k. (b.current k).user) ∙ f.user;
              alu = b.alu ∙ f.alu;
              rf = b.rf ∙ f.rf;
              fetch = b.fetch ∙ f.fetch;
              next = ap (λ (o : Option Fetch). unwrap_or o (as_fetch s.at.third)) (b.next ∙ f.fetch);
              regs = same_words _ _ b.regs ∙ f.regs;
              md = b.md ∙ f.md;
              mem = λ a is. b.mem a (high a is) ∙ f.mem a is;
              taken = b.taken ∙ f.taken;
              halted = b.goes ∙ sym goes ∙ f.halted;
            };
            queue = u.in_user.queue;
            slot = inl b.slot;
            on = (λ k. (b.current k).interrupts) ∙ u.in_user.on;
          };
          counted = b.counted ∙ ap (λ w. (w + 1) % 2 ^ 32) u.counted ∙ (let f : (n % 2 ^ 32 + 1) % 2 ^ 32 ≡ (n + 1) % 2 ^ 32 = omega arith in f);
        }

    pub handler_pause : Pause with_handler (entered c) 25 (done_after s (n + 1))
    handler_pause = record {
      still = λ j h. quiet_still with_handler (turn_of j) (quiet user input off c j h);
      silent = λ j h. let g : j < 26 = omega (arith, h) in quiet_silent with_handler (turn_of j)
          (agree_below_at (λ i. is_some (commit_byte (with_shipped user) input (shifted (turn_of i)))) (λ i. false) 26 j refl g)
          (agree_below_at (λ i. is_users (turn_of i).alu) (λ i. false) 26 j refl g);
      back = user_again;
      waits = sym u.in_user.follows.halted ∙ goes;
    }

  pub shipped_handled : IsOnBoard p → Handled with_handler
  shipped_handled at_board c k u goes = handler_pause at_board c k.done k.interrupts u goes
