-- What an interrupt saves in a run, and what comes back.
use Rattle.std.proofs.Common.{◌≡◌, ℕ, zero, suc, ◌+◌, ◌-◌, ◌%◌, ◌^◌, ◌<◌, ◌≤◌, Bool, true, false, List, [], ◌∷◌, ◌++◌, length, append-nil, append_assoc, Option, refl, sym, ap, ◌∙◌, subst, arith}
use Rattle.mx_isa.specs.declared.board.TheConstants.{CODE_BASE}
use Rattle.mx_isa.specs.declared.place.Place.{Place}
use Rattle.mx_isa.specs.Words.{Words}
use Rattle.mx_code.specs.Decoding.{inst_of}
use Rattle.mx_delay.specs.Delay.{Code, code_from, delay}
use Rattle.mx_delay.specs.Clean.{is_inside, Watched, watch_start}
use Rattle.mx_icache.specs.Residency.{resident}
use Rattle.mx_pcchain.specs.Chain.{chain_of}
use Rattle.mx_turn.specs.Counted.{one}
use Rattle.mx_turn.specs.Stages.{saved}
use Rattle.mx_turn.specs.Cycle.{MachineState, entered, start, cycled, after_bits}
use Rattle.mx_turn.specs.Program.{Program, code_of, program_of, memory_of}
use Rattle.mx_turn.specs.Handler.{shipped}
use Rattle.mx_turn.specs.Run.{is_requested, bits, passes, passed_on, run_of}
use Rattle.mx_turn.specs.OneTurn.{IsOnBoard, Follows}
use Rattle.mx_turn.proofs.Steps.{after_one_more}
use Rattle.mx_handler.specs.Returns.{with_shipped}
use Rattle.law_interrupts.specs.Laws.{IsCleanImage, delay_of}
use Rattle.law_interrupts.specs.Saves.{before_cycle, takes_in, in_cycle, Saved, IsTurn26}
use Rattle.mx_handler.proofs.Pauses.{Setting, Pause, IsLawful}
use Rattle.mx_handler.proofs.Interrupted.{after_append, Interrupted, interrupted, InPause, pause_goes, pause_ends}
use Rattle.mx_delay.proofs.Watched.{past, watched_at, watched_more, clean_for_fewer}
use Rattle.law_interrupts.proofs.Pauses.{InUserAfter, Steps, done_after, with_handler, lawful, shipped_code, handler_pause, shipped_handled}
use Rattle.law_interrupts.proofs.Cycles.{stands_start}
use Rattle.law_interrupts.proofs.Runs.{program, steps, Ran, runs, passed_few, length_bits, asked_few}

pub passed_more : (q : Program) (g : List Bool) (b : Bool) (m : MachineState)
    → passed_on q m (g ++ b ∷ []) ≡ passed_on q m g + one (passes (after_bits resident (code_of q) q.input m g))
passed_more q [] b m = omega arith
passed_more q (a ∷ g) b m = let e = passed_more q g b (cycled resident (code_of q) q.input m a) in omega (arith, e)

-- the bits of later cycles
pub bits_more : (requests : List ℕ) (n k : ℕ) → (g : List Bool) × (bits requests (k + n) ≡ bits requests n ++ g)
bits_more requests n zero = ([], ap (bits requests) (let e : zero + n ≡ n = omega arith in e) ∙ sym (append-nil (bits requests n)))
bits_more requests n (suc k) =
    let r = bits_more requests n k in (
      r.0 ++ is_requested requests (k + n) ∷ [],
      ap (bits requests) (let e : suc k + n ≡ suc (k + n) = omega arith in e)
          ∙ ap (λ h. h ++ is_requested requests (k + n) ∷ []) r.1
          ∙ append_assoc (bits requests n) r.0 (is_requested requests (k + n) ∷ []),
    )

module _ (user_words data_words : List ℕ) (p : Place) (input : Option (List ℕ)) (at_board : IsOnBoard p) (at_code : p.code ≡ CODE_BASE)
    (requests : List ℕ) (budget : ℕ) (clean : IsCleanImage (program_of shipped user_words data_words input) p budget) where
  abbrev user : Code
  user = code_from inst_of CODE_BASE user_words

  abbrev inside : ℕ → Bool
  inside = is_inside p (length user_words)

  abbrev words : Words
  words = memory_of (program_of shipped user_words data_words input)

  abbrev pub q : Program
  q = program shipped user_words inside p input data_words

  abbrev pub passed : ℕ → ℕ
  passed n = passed_on q (start words) (bits requests n)

  -- the steps that are done before a cycle
  abbrev pub done : ℕ → Watched
  done n = steps shipped user_words inside p input data_words (passed n) (watch_start p words)

  clean_at : (n : ℕ) → n ≤ budget → (done n).clean ≡ true
  clean_at n h =
      clean_for_fewer user inside p input (passed n) budget (watch_start p words)
      (let e = passed_few q (bits requests n) (start words) in let f = length_bits requests n in omega (arith, e, f, h)) clean

  pub ran_at : (n : ℕ) → n ≤ budget → Ran shipped user_words inside p input data_words (bits requests n) (start words) (watch_start p words) 0 0 0
  ran_at n h =
      runs shipped user_words inside p input data_words at_board at_code (length requests) (λ e. shipped_handled user inside p input at_board)
      (bits requests n) (start words) (watch_start p words) 0 0 0
      (let e = asked_few requests n in omega (arith, e)) (stands_start shipped_code user inside p input words at_code refl) (clean_at n h)

  step_one : (b : Bool) (s : Watched) → steps shipped user_words inside p input data_words (one b) s ≡ past user inside p input b s
  step_one true s = refl
  step_one false s = refl

  done_next : (n : ℕ) → done (suc n) ≡ past user inside p input (passes (before_cycle q requests n)) (done n)
  done_next n =
      ap (λ k. steps shipped user_words inside p input data_words k (watch_start p words))
      (passed_more q (bits requests n) (is_requested requests n) (start words))
      ∙ watched_more user inside p input (passed n) (one (passes (before_cycle q requests n))) (watch_start p words)
      ∙ step_one (passes (before_cycle q requests n)) (done n)

  module _ (n : ℕ) (within : n < budget) (taken : takes_in q requests n ≡ true) where
    abbrev x : Setting
    x = with_handler user inside p input

    laws : IsLawful x
    laws = lawful shipped_code user inside p input at_board at_code

    abbrev m : MachineState
    m = before_cycle q requests n

    abbrev m' : MachineState
    m' = before_cycle q requests (suc n)

    -- what is known before the cycle, in it, and once the handler has ended
    abbrev known : Watched → Steps
    known s = done_after s m.counts.interrupts

    abbrev known_then : Steps
    known_then = done_after (done (suc n)) (m.counts.interrupts + 1)

    is_next : m' ≡ cycled resident (with_shipped user) input m (is_requested requests n)
    is_next = after_one_more resident (with_shipped user) input (start words) (bits requests n) (is_requested requests n)

    was : Interrupted x m' (known (done (suc n)))
    was =
        subst (λ y. Interrupted x y (known (done (suc n)))) (sym is_next)
        (subst (λ y. Interrupted x (cycled resident (with_shipped user) input m (is_requested requests n)) (known y)) (sym (done_next n))
        (interrupted x laws (shipped_handled user inside p input at_board) m (is_requested requests n) (known (done n)) _
        (ran_at n (omega (arith, within))).stands.state taken
        (sym (ap (λ (y : Watched). y.clean) (done_next n)) ∙ clean_at (suc n) (omega (arith, within)))))

    saves : Saved p m' (done (suc n)).at
    saves = let f = was.in_user.in_user.follows in record {
      chain = ap (λ (y : MachineState). y.chain) was.is ∙ (λ k. chain_of (saved (f.alu k)) (saved (f.rf k)) (saved (f.fetch k)));
      regs = ap (λ (y : MachineState). y.core.regs) was.is ∙ f.regs;
      md = ap (λ (y : MachineState). y.core.md) was.is ∙ f.md;
      mem = λ a u. ap (λ (y : MachineState). y.core.mem a) was.is ∙ f.mem a u;
      taken = ap (λ (y : MachineState). y.core.taken) was.is ∙ f.taken;
    }

    pause : Pause x (entered was.c) 25 known_then
    pause = handler_pause user inside p input at_board was.c (done (suc n)) m.counts.interrupts was.in_user was.goes

    begins : InPause x (entered was.c) 25 known_then pause m' 0
    begins = record { goes = ap (λ (y : MachineState). y.halted) was.is ∙ was.goes; is = was.is }

    module _ (j : ℕ) (after : n < j) (turn : IsTurn26 m' (before_cycle q requests j)) where
      abbrev g : List Bool
      g = (bits_more requests (suc n) (j - suc n)).0

      reaches : before_cycle q requests j ≡ after_bits resident (with_shipped user) input m' g
      reaches =
          ap (λ k. before_cycle q requests k) (let e : j ≡ j - suc n + suc n = omega (arith, after) in e)
          ∙ ap (λ h. after_bits resident (with_shipped user) input (start words) h) (bits_more requests (suc n) (j - suc n)).1
          ∙ after_append (with_shipped user) input (bits requests (suc n)) g (start words)

      at_end : InPause x (entered was.c) 25 known_then pause (before_cycle q requests j) 25
      at_end =
          subst (λ y. InPause x (entered was.c) 25 known_then pause y 25) (sym reaches)
          (pause_goes x (entered was.c) 25 known_then pause g m' 0 25 begins
          (sym (ap (λ (y : MachineState). y.counts.fetches) reaches) ∙ turn.turns) (omega arith))

      again : InUserAfter p (in_cycle q requests j) (done (suc n)) (m.counts.interrupts + 1)
      again = pause_ends x (entered was.c) 25 known_then pause laws (before_cycle q requests j) (is_requested requests j) at_end

      counted : (in_cycle q requests j).core.mem 0 ≡ (m'.core.mem 0 + 1) % 2 ^ 32
      counted =
          again.counted
          ∙ (let e : (m.counts.interrupts + 1) % 2 ^ 32 ≡ (m.counts.interrupts % 2 ^ 32 + 1) % 2 ^ 32 = omega arith in e)
          ∙ ap (λ w. (w + 1) % 2 ^ 32) (sym (ap (λ (y : MachineState). y.core.mem 0) was.is ∙ was.in_user.counted))

    is_delay : (done (suc n)).at ≡ delay user p input words (passed (suc n))
    is_delay = watched_at user inside p input (passed (suc n)) (watch_start p words)

    pub interrupt_saves : Saved p m' (delay user p input words (passed (suc n)))
        × ((j : ℕ) → n < j → IsTurn26 m' (before_cycle q requests j)
        → Follows p (in_cycle q requests j) (delay user p input words (passed (suc n))) × ((in_cycle q requests j).core.mem 0 ≡ (m'.core.mem 0 + 1) % 2 ^ 32))
    interrupt_saves = (
      subst (Saved p m') is_delay saves,
      λ j after turn. (subst (Follows p (in_cycle q requests j)) is_delay (again j after turn).in_user.follows, counted j after turn),
    )

pub saves_all : (code_words data_words : List ℕ) (input : Option (List ℕ)) (requests : List ℕ) (budget : ℕ) (p : Place)
    → IsOnBoard p → p.code ≡ CODE_BASE
    → let r = program_of shipped code_words data_words input in
    IsCleanImage r p budget
    → (n : ℕ) → n < budget
    → takes_in r requests n ≡ true
    → let m = before_cycle r requests (suc n) in
    let d = delay_of r p (run_of r requests (suc n)).passed in
    Saved p m d
    × ((j : ℕ) → n < j → IsTurn26 m (before_cycle r requests j)
    → Follows p (in_cycle r requests j) d × ((in_cycle r requests j).core.mem 0 ≡ (m.core.mem 0 + 1) % 2 ^ 32))
saves_all code_words data_words input requests budget p b c clean n within taken =
    interrupt_saves code_words data_words p input b c requests budget clean n within taken
