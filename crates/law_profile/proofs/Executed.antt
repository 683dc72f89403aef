-- What a cycle charges to a place of the code as executed is what a step of the machine with delay slots executes there.
use Rattle.std.proofs.Common.{◌≡◌, ℕ, zero, suc, ◌+◌, ◌-◌, ◌<◌, ◌≤◌, Bool, true, false, cond, eqb, leb, ltb, not, ◌&&◌, List, length, Option, Some, None, refl, sym, ap, ◌∙◌, arith, ⊎_elim}
use Rattle.std.proofs.lemmas.Bool.{cond-true, cond-false, cases_Bool, false≢true}
use Rattle.std.proofs.lemmas.Bool.Decides.{nat_tests}
use Rattle.mx_isa.specs.declared.place.Place.{Place}
use Rattle.mx_isa.specs.Words.{Words}
use Rattle.mx_code.specs.Decoding.{inst_of}
use Rattle.mx_delay.specs.Delay.{Code, code_from, delay}
use Rattle.mx_delay.specs.Clean.{is_inside, Watched, watch_start}
use Rattle.mx_delay.specs.Executions.{executes, executions}
use Rattle.mx_icache.specs.Residency.{resident}
use Rattle.mx_pcchain.specs.Fetch.{Fetch}
use Rattle.mx_turn.specs.declared.latches.Stage.{Stage}
use Rattle.mx_turn.specs.declared.latches.Stage.TheVariants.{Live, Squashed}
use Rattle.mx_turn.specs.declared.latches.Latches.{Latches}
use Rattle.mx_turn.specs.Counted.{one, after_stall}
use Rattle.mx_turn.specs.Stages.{stage_of}
use Rattle.mx_turn.specs.Cycle.{MachineState, is_taken, entered, decided, turned, reached, ended, latched, acted, cycled, start}
use Rattle.mx_turn.specs.Handler.{shipped}
use Rattle.mx_turn.specs.Program.{Program, program_of, memory_of}
use Rattle.mx_turn.specs.Run.{is_requested, bits, is_users, passes, run_of}
use Rattle.mx_turn.specs.OneTurn.{as_fetch, IsOnBoard}
use Rattle.mx_turn.proofs.Steps.{cycled_halted, cycled_acted, cycled_stalled}
use Rattle.mx_handler.proofs.Pauses.{erased, goes_on, Setting}
use Rattle.mx_handler.proofs.Phases.{State, going, pausing, over}
use Rattle.law_interrupts.specs.Laws.{user_code, IsCleanImage}
use Rattle.mx_delay.proofs.Watched.{watched_at}
use Rattle.law_interrupts.proofs.Pauses.{Steps, done_after, setting, shipped_code}
use Rattle.law_interrupts.proofs.Saves.{passed, done, ran_at, passed_more}
use Rattle.mx_report.proofs.Runs.{next_state}
use Rattle.lab_profile.specs.Charges.{place_of, place_in, is_live, before, executed_at}

-- the place of an address is k exactly where it is the address of word k
place_is : (words k a : ℕ) → k < words → eqb (place_of words a) k ≡ eqb a (4096 + k)
place_is words k a l = grind (arith, nat_tests)

below : (k a : ℕ) → leb 4096 a ≡ false → eqb a (4096 + k) ≡ false
below k a e = grind (arith, nat_tests)

-- a stage holds a word of place k, not squashed
abbrev is_word : ℕ → ℕ → Stage → Bool
is_word words k stage = is_live stage && eqb (place_in words stage) k

marked_word : (words k a : ℕ) (b : Bool) → k < words → is_word words k (cond b (Squashed a) (Live a)) ≡ (not b && eqb a (4096 + k))
marked_word words k a true l = refl
marked_word words k a false l = place_is words k a l

none_below : (k a : ℕ) (b : Bool) → leb 4096 a ≡ false → (not b && eqb a (4096 + k)) ≡ false
none_below k a true e = refl
none_below k a false e = below k a e

-- what is not user code is at no place of the code
not_users : (words k : ℕ) (f : Option Fetch) → k < words → is_users f ≡ false → is_word words k (stage_of f) ≡ false
not_users words k None l e = refl
not_users words k (Some f) l e = marked_word words k f.address f.squashed l ∙ none_below k f.address f.squashed e

-- a turn shows what is shown once the word in MEM has committed
turned_shown : (code : Code) (c : MachineState) → (turned code c).shown ≡ c.shown
turned_shown code c = ⊎_elim
    (λ t. ap (λ (m : MachineState). m.shown) (cond-true (is_taken c) (entered c) (decided code c) t))
    (λ t. ap (λ (m : MachineState). m.shown) (cond-false (is_taken c) (entered c) (decided code c) t))
    (cases_Bool (is_taken c))

ended_shown : (code : Code) (c : MachineState) → (ended code c).shown ≡ c.shown
ended_shown code c = ⊎_elim
    (λ h. ap (λ (m : MachineState). m.shown) (cond-true c.halted c (turned code c) h))
    (λ h. ap (λ (m : MachineState). m.shown) (cond-false c.halted c (turned code c) h) ∙ turned_shown code c)
    (cases_Bool c.halted)

no_more : (n : ℕ) → ltb n n ≡ false
no_more n = grind (arith, nat_tests)

one_more : (n : ℕ) → ltb n (n + 1) ≡ true
one_more n = grind (arith, nat_tests)

-- the machine counts a fetch in a cycle that leads from m to n, and then MEM shows a word of place k, not squashed
abbrev charges : ℕ → ℕ → MachineState → MachineState → Bool
charges words k m n = (ltb m.counts.fetches n.counts.fetches && is_live n.shown.mem) && eqb (place_in words n.shown.mem) k

uncounted : (words k : ℕ) (m n : MachineState) → n.counts.fetches ≡ m.counts.fetches → charges words k m n ≡ false
uncounted words k m n e =
    ap (λ f. (ltb m.counts.fetches f && is_live n.shown.mem) && eqb (place_in words n.shown.mem) k) e
    ∙ ap (λ b. (b && is_live n.shown.mem) && eqb (place_in words n.shown.mem) k) (no_more m.counts.fetches)

counted : (words k : ℕ) (m n : MachineState) (stage : Stage) → n.counts.fetches ≡ m.counts.fetches + 1 → n.shown.mem ≡ stage
    → charges words k m n ≡ is_word words k stage
counted words k m n stage e f =
    ap (λ c. (ltb m.counts.fetches c && is_live n.shown.mem) && eqb (place_in words n.shown.mem) k) e
    ∙ ap (λ b. (b && is_live n.shown.mem) && eqb (place_in words n.shown.mem) k) (one_more m.counts.fetches)
    ∙ ap (λ s. is_word words k s) f

module _ (handler user : Code) (inside : ℕ → Bool) (p : Place) (input : Option (List ℕ)) where
  abbrev x : Setting
  x = setting handler user inside p input

  -- a fetch of user code in ALU is the first one of the queue, and the machine with delay slots has not halted
  users_first : (m : MachineState) (k : Steps) (rest : ℕ) → State x m k rest → m.halted ≡ false → is_users m.alu ≡ true
      → (m.alu ≡ Some (as_fetch k.done.at.first)) × (k.done.at.halted ≡ false)
  users_first m k rest (going g) on u =
      let f = g.in_user.in_user.follows in (
        ap (λ (y : MachineState). y.alu) g.is ∙ ap (λ (y : MachineState). y.alu) (goes_on x.code g.c g.goes g.quiet) ∙ f.alu,
        sym f.halted ∙ g.goes,
      )
  users_first m k rest (pausing h) on u = absurd (false≢true (sym (ap (λ (y : MachineState). is_users y.alu) h.is ∙ (h.pause.silent h.j early).system) ∙ u))
    where
      early : h.j ≤ h.last
      early = let e = h.sum in let f = h.some in omega (arith, e, f)
  users_first m k rest (over o) on u = absurd (false≢true (sym on ∙ o.ends))

  module _ (words k : ℕ) (l : k < words) (m : MachineState) (request : Bool) (s : Watched) (n rest : ℕ)
      (st : State x (erased m) (done_after s n) rest) where
    abbrev next : MachineState
    next = cycled resident x.code input m request

    abbrev then : MachineState
    then = acted resident x.code input (latched request m)

    abbrev stalled : MachineState
    stalled = let y : MachineState = latched request m in record y { stall = m.stall - 1; counts = after_stall m.counts }

    -- a word of user code comes to MEM
    users_cycle : m.halted ≡ false → is_users m.alu ≡ true → charges words k m then ≡ executes (4096 + k) s.at
    users_cycle on u =
        counted words k m then (stage_of m.alu) refl (ap (λ (t : Latches). t.mem) (ended_shown x.code (reached x.code input (latched request m))))
        ∙ ap (λ f. is_word words k (stage_of f)) is.0
        ∙ marked_word words k s.at.first.address s.at.first.squashed l
        ∙ sym (ap (λ b. not b && (not s.at.first.squashed && eqb s.at.first.address (4096 + k))) is.1)
      where
        is : (m.alu ≡ Some (as_fetch s.at.first)) × (s.at.halted ≡ false)
        is = users_first (erased m) (done_after s n) rest st on u

    -- nothing does, or a word of the handler
    others_cycle : is_users m.alu ≡ false → charges words k m then ≡ false
    others_cycle u =
        counted words k m then (stage_of m.alu) refl (ap (λ (t : Latches). t.mem) (ended_shown x.code (reached x.code input (latched request m))))
        ∙ not_users words k m.alu l u

    acted_cycle : m.halted ≡ false → charges words k m then ≡ (is_users m.alu && executes (4096 + k) s.at)
    acted_cycle on = ⊎_elim
        (λ u. users_cycle on u ∙ sym (ap (λ b. b && executes (4096 + k) s.at) u))
        (λ u. others_cycle u ∙ sym (ap (λ b. b && executes (4096 + k) s.at) u))
        (cases_Bool (is_users m.alu))

    -- a cycle charges to place k what a word that passes executes there
    charges_cycle : charges words k m next ≡ (passes m && executes (4096 + k) s.at)
    charges_cycle = ⊎_elim
        (λ h. ap (λ y. charges words k m y) (sym (cycled_halted resident x.code input m request h)) ∙ uncounted words k m m refl
        ∙ sym (ap (λ b. (not b && (eqb m.stall 0 && is_users m.alu)) && executes (4096 + k) s.at) h))
        (λ h. ⊎_elim
        (λ z. ap (λ y. charges words k m y) (sym (cycled_acted resident x.code input m request h z)) ∙ acted_cycle h
        ∙ sym (λ i. (not (h i) && (z i && is_users m.alu)) && executes (4096 + k) s.at))
        (λ z. ap (λ y. charges words k m y) (sym (cycled_stalled resident x.code input m request h z)) ∙ uncounted words k m stalled refl
        ∙ sym (λ i. (not (h i) && (z i && is_users m.alu)) && executes (4096 + k) s.at))
        (cases_Bool (eqb m.stall 0)))
        (cases_Bool m.halted)

-- one more step, where a word passes
executions_more : (code : Code) (p : Place) (input : Option (List ℕ)) (words : Words) (a n : ℕ) (b : Bool)
    → executions code p input words a (n + one b) ≡ executions code p input words a n + one (b && executes a (delay code p input words n))
executions_more code p input words a n true = ap (executions code p input words a) (let e : n + 1 ≡ suc n = omega arith in e)
executions_more code p input words a n false =
    ap (executions code p input words a) (let e : n + 0 ≡ n = omega arith in e)
    ∙ (let e : executions code p input words a n ≡ executions code p input words a n + 0 = omega arith in e)

module _ (code_words data_words : List ℕ) (p : Place) (input : Option (List ℕ)) (at_board : IsOnBoard p) (at_code : p.code ≡ 4096)
    (requests : List ℕ) (budget : ℕ) (clean : IsCleanImage (program_of shipped code_words data_words input) p budget) (k : ℕ) (l : k < length code_words) where
  abbrev user : Code
  user = code_from inst_of 4096 code_words

  abbrev inside : ℕ → Bool
  inside = is_inside p (length code_words)

  abbrev words : Words
  words = memory_of (program_of shipped code_words data_words input)

  abbrev program : Program
  program = program_of shipped code_words data_words input

  -- the machine before a cycle, the words that passed by then, and the steps that are done
  abbrev at : ℕ → MachineState
  at n = before program requests (length code_words) n

  abbrev steps : ℕ → ℕ
  steps n = passed code_words data_words p input at_board at_code requests budget clean n

  abbrev steps_done : ℕ → Watched
  steps_done n = done code_words data_words p input at_board at_code requests budget clean n

  one_cycle : (n : ℕ) → n < budget
      → charges (length code_words) k (at n) (at (suc n)) ≡ (passes (at n) && executes (4096 + k) (delay user p input words (steps n)))
  one_cycle n h =
      ap (λ y. charges (length code_words) k (at n) y) (next_state program requests n)
      ∙ charges_cycle shipped_code user inside p input (length code_words) k l (at n) (is_requested requests n) (steps_done n) (at n).counts.interrupts _
      (ran_at code_words data_words p input at_board at_code requests budget clean n (omega (arith, h))).stands.state
      ∙ ap (λ d. passes (at n) && executes (4096 + k) d) (watched_at user inside p input (steps n) (watch_start p words))

  pub executed_by : (n : ℕ) → n ≤ budget → executed_at program requests (length code_words) n k ≡ executions user p input words (4096 + k) (steps n)
  executed_by zero h = refl
  executed_by (suc n) h =
      (λ i. executed_by n (omega (arith, h)) i + one (one_cycle n (omega (arith, h)) i))
      ∙ sym (executions_more user p input words (4096 + k) (steps n) (passes (at n)))
      ∙ sym (ap (executions user p input words (4096 + k)) (passed_more program (bits requests n) (is_requested requests n) (start words)))

pub executed_as : (code_words data_words : List ℕ) (input : Option (List ℕ)) (requests : List ℕ) (budget : ℕ) (p : Place)
    → IsOnBoard p → p.code ≡ 4096
    → let r = program_of shipped code_words data_words input in
    IsCleanImage r p budget
    → (k : ℕ) → k < length code_words
    → executed_at r requests (length code_words) budget k
    ≡ executions (user_code r) p input (memory_of r) (4096 + k) (run_of r requests budget).passed
executed_as code_words data_words input requests budget p b c clean k l =
    executed_by code_words data_words p input b c requests budget clean k l budget (omega arith)
