-- What a run within a budget gives.
use Rattle.std.proofs.Common.{◌≡◌, ℕ, ◌+◌, ◌*◌, ◌≤◌, Bool, true, List, [], ◌⊎◌, length, Option, refl, subst, arith, ⊎_elim, inl, inr}
use Rattle.std.proofs.lemmas.Bool.{cases_Bool}
use Rattle.mx_isa.specs.declared.board.TheConstants.{CODE_BASE}
use Rattle.mx_isa.specs.declared.place.Place.{Place}
use Rattle.mx_isa.specs.Words.{Words}
use Rattle.mx_code.specs.Decoding.{inst_of}
use Rattle.mx_delay.specs.Delay.{Code, code_from, delay}
use Rattle.mx_delay.specs.Clean.{is_inside, Watched, watch_start}
use Rattle.mx_turn.specs.Cycle.{start}
use Rattle.mx_turn.specs.Handler.{shipped}
use Rattle.mx_turn.specs.Program.{Program, program_of, memory_of}
use Rattle.mx_turn.specs.Run.{MachineRun, run_of, bits}
use Rattle.mx_turn.specs.OneTurn.{IsOnBoard}
use Rattle.law_interrupts.specs.Laws.{RunsAs, IsCleanImage, delay_of}
use Rattle.mx_handler.proofs.Pauses.{erased, Setting, Handled, IsLawful}
use Rattle.mx_handler.proofs.Phases.{halted_alike, ended_in_user}
use Rattle.mx_delay.proofs.Watched.{watched_at, clean_for_fewer}
use Rattle.law_interrupts.proofs.Pauses.{InUserAfter, Steps, done_after, setting, lawful, shipped_handled}
use Rattle.law_interrupts.proofs.Cycles.{stands_start}
use Rattle.law_interrupts.proofs.Runs.{program, steps, Ran, runs, passed_few, length_bits, asked_few}

module _ (handler_words user_words data_words : List ℕ) (p : Place) (input : Option (List ℕ)) (at_board : IsOnBoard p) (at_code : p.code ≡ CODE_BASE)
    (requests : List ℕ) (budget : ℕ) (clean : IsCleanImage (program_of handler_words user_words data_words input) p budget)
    (handled : 1 ≤ length requests
    → Handled (setting (code_from inst_of 0 handler_words) (code_from inst_of CODE_BASE user_words) (is_inside p (length user_words)) p input)) where
  abbrev handler : Code
  handler = code_from inst_of 0 handler_words

  abbrev user : Code
  user = code_from inst_of CODE_BASE user_words

  abbrev inside : ℕ → Bool
  inside = is_inside p (length user_words)

  abbrev words : Words
  words = memory_of (program_of handler_words user_words data_words input)

  abbrev run : MachineRun
  run = run_of (program handler_words user_words inside p input data_words) requests budget

  -- the steps that are done
  abbrev done : Watched
  done = steps handler_words user_words inside p input data_words run.passed (watch_start p words)

  few : run.passed ≤ budget
  few =
      let e = passed_few (program handler_words user_words inside p input data_words) (bits requests budget) (start words) in
      let f = length_bits requests budget in
      omega (arith, e, f)

  ran : Ran handler_words user_words inside p input data_words (bits requests budget) (start words) (watch_start p words) 0 0 0
  ran = runs handler_words user_words inside p input data_words at_board at_code (length requests) handled
      (bits requests budget) (start words) (watch_start p words) 0 0 0
      (let e = asked_few requests budget in omega (arith, e)) (stands_start handler user inside p input words at_code refl)
      (clean_for_fewer user inside p input run.passed budget (watch_start p words) few clean)

  is_delay : done.at ≡ delay user p input words run.passed
  is_delay = watched_at user inside p input run.passed (watch_start p words)

  abbrev x : Setting
  x = setting handler user inside p input

  laws : IsLawful x
  laws = lawful handler user inside p input at_board at_code

  abbrev known : Steps
  known = done_after done run.counts.interrupts

  pub as_delay : RunsAs p run (delay user p input words run.passed)
  as_delay = subst (RunsAs p run) is_delay (record {
    console = ran.console;
    halted = halted_alike x laws (erased run.last) known ran.stands.rest ran.stands.state;
    ends = λ h.
        let u : InUserAfter p (erased run.last) done run.counts.interrupts =
        ended_in_user x laws (erased run.last) known ran.stands.rest ran.stands.state h in
        let f = u.in_user.follows in
        record { regs = f.regs; md = f.md; mem = f.mem; taken = f.taken; counted = u.counted };
  })

  pub few_taken : run.counts.interrupts ≤ length requests
  few_taken = let e = ran.stands.taken in let f = asked_few requests budget in omega (arith, e, f)

  pub passes_by : (w : ℕ) → 3 * (w + 3) + 78 * length requests ≤ budget → (w ≤ run.passed) ⊎ (run.halted ≡ true)
  passes_by w h = ⊎_elim
      (λ k. inr k)
      (λ k. inl (omega (arith, h, ran.stands.all k, ran.stands.within, ran.stands.turns, few_taken, length_bits requests budget)))
      (cases_Bool run.halted)

-- requests under the shipped handler
shipped_handles : (code_words : List ℕ) (p : Place) (input : Option (List ℕ)) → IsOnBoard p
    → Handled (setting (code_from inst_of 0 shipped) (code_from inst_of CODE_BASE code_words) (is_inside p (length code_words)) p input)
shipped_handles code_words p input b = shipped_handled (code_from inst_of CODE_BASE code_words) (is_inside p (length code_words)) p input b

pub runs_as : (code_words data_words : List ℕ) (input : Option (List ℕ)) (requests : List ℕ) (budget : ℕ) (p : Place)
    → IsOnBoard p → p.code ≡ CODE_BASE
    → let q = program_of shipped code_words data_words input in
    IsCleanImage q p budget
    → let r = run_of q requests budget in
    RunsAs p r (delay_of q p r.passed)
runs_as code_words data_words input requests budget p b c clean =
    as_delay shipped code_words data_words p input b c requests budget clean (λ e. shipped_handles code_words p input b)

pub gets_on : (code_words data_words : List ℕ) (input : Option (List ℕ)) (requests : List ℕ) (budget : ℕ) (p : Place)
    → IsOnBoard p → p.code ≡ CODE_BASE
    → let q = program_of shipped code_words data_words input in
    IsCleanImage q p budget
    → let r = run_of q requests budget in
    (r.counts.interrupts ≤ length requests) × ((w : ℕ) → 3 * (w + 3) + 78 * length requests ≤ budget → (w ≤ r.passed) ⊎ (r.halted ≡ true))
gets_on code_words data_words input requests budget p b c clean = (
  few_taken shipped code_words data_words p input b c requests budget clean (λ e. shipped_handles code_words p input b),
  passes_by shipped code_words data_words p input b c requests budget clean (λ e. shipped_handles code_words p input b),
)

-- without requests no handler runs
unasked : {A : Type 0} → 1 ≤ length {A = ℕ} [] → A
unasked h = absurd (omega (arith, h))

pub undisturbed_as : (q : Program) (budget : ℕ) (p : Place)
    → IsOnBoard p → p.code ≡ CODE_BASE → IsCleanImage q p budget
    → let r = run_of q [] budget in
    RunsAs p r (delay_of q p r.passed)
undisturbed_as q budget p b c clean = as_delay q.handler_words q.user_words q.data_words p q.input b c [] budget clean (λ h. unasked h)

pub undisturbed : (q : Program) (budget : ℕ) (p : Place)
    → IsOnBoard p → p.code ≡ CODE_BASE → IsCleanImage q p budget
    → let r = run_of q [] budget in
    (w : ℕ) → 3 * (w + 3) ≤ budget → (w ≤ r.passed) ⊎ (r.halted ≡ true)
undisturbed q budget p b c clean w h =
    passes_by q.handler_words q.user_words q.data_words p q.input b c [] budget clean (λ e. unasked e) w (omega (arith, h))
