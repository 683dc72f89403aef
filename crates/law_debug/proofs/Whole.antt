-- The stops of a source that is linked without copies show its meaning. A stop is an arrival of the machine with delay slots at the
-- address (`at_stop`), that is a visit of the meaning (`visit`), and what is shown goes across both (`shows`). The other way round,
-- each visit that the budget has room for is a stop (`comes_of`).
use Rattle.std.proofs.Common.{◌≡◌, ℕ, suc, ◌+◌, ◌-◌, ◌<◌, ◌≤◌, Bool, true, eqb, List, length, take, Option, Some, refl, sym, ap, ◌∙◌, arith, ⊎_elim}
use Rattle.std.specs.Prelude.{slice_get, slice_index}
use Rattle.std.proofs.lemmas.Bool.{cases_lt, cond-false}
use Rattle.std.proofs.lemmas.Bool.Decides.{nat_tests}
use Rattle.std.proofs.lemmas.List.{take_at}
use Rattle.std.proofs.lemmas.List.FromFn.{get_or-map-range_with_len}
use Rattle.mx_isa.specs.Words.{Words, reg}
use Rattle.mx_isa.specs.UserBus.{is_user}
use Rattle.mx_delay.specs.Delay.{Delay}
use Rattle.mx_source.specs.Meaning.{given}
use Rattle.mx_layout.proofs.Links.{link_within}
use Rattle.mx_link.specs.Origins.{from_nowhere}
use Rattle.mx_link.specs.Linked.{linked_code, linked_data}
use Rattle.mx_turn.specs.Cycle.{MachineState}
use Rattle.mx_turn.specs.Program.{Program, program_of, state_after}
use Rattle.mx_turn.specs.Handler.{shipped}
use Rattle.mx_turn.specs.Run.{bits, console_after, run_of, bound}
use Rattle.mx_turn.specs.OneTurn.{IsOnBoard}
use Rattle.law_interrupts.specs.Laws.{IsCleanImage}
use Rattle.law_interrupts.proofs.Ends.{runs_as, gets_on}
use Rattle.mx_isa.specs.Board.{board}
use Rattle.law_link.specs.Runs.{code_in, data_in, linked_run}
use Rattle.law_link.specs.Laws.{IsSafe, planned_words}
use Rattle.law_link.proofs.Shown.{is_clean}
use Rattle.law_end_to_end.specs.EndToEnd.{IsUnstuck}
use Rattle.mx_delay.proofs.Steps.{delay_halted}
use Rattle.law_end_to_end.proofs.Meanings.{unstuck_before}
use Rattle.mx_debug.specs.declared.Stop.{Stop}
use Rattle.mx_debug.specs.Stops.{is_stop, stop_at}
use Rattle.mx_debug.specs.Sessions.{stops_of, console_of, cycles_of}
use Rattle.law_debug.specs.Visits.{count_below, is_visit, IsVisit}
use Rattle.law_debug.specs.Laws.{plain_program, Debugged, session_of, meant_in, ShowsMeaning, StopsAsMeant, StopsAreVisits}
use Rattle.law_debug.proofs.Counting.{one_passes}
use Rattle.law_debug.proofs.Arrivals.{Arrived, arrived, past, came, clash}
use Rattle.law_debug.proofs.Visits.{AtLeader, plain, is_plain, stop_address, at_step, visit_start, visit_index, visit_of, visit_starts, lands, visited, visits_before}
use Rattle.law_debug.proofs.Listed.{stopped_at, all_counted, sent_more, has_stop}

module _ (d : Debugged) (known : AtLeader d) (user : is_user board d.watch ≡ true) (safe : IsUnstuck d.source d.bytes (d.budget + 64)) where
  abbrev code_words : List ℕ
  code_words = linked_code from_nowhere d.source board d.sites

  abbrev data_words : List ℕ
  data_words = linked_data d.source board d.sites

  abbrev input : Option (List ℕ)
  input = given d.source.input d.bytes

  abbrev program : Program
  program = plain_program d.source d.sites d.bytes

  abbrev a : ℕ
  a = stop_address d known

  abbrev visiting : ℕ → Bool
  visiting m = is_visit d.source d.bytes d.index m

  abbrev comes_at : ℕ → Bool
  comes_at w = at_step d known w

  abbrev planned : ℕ → ℕ
  planned m = planned_words (plain d known) m

  abbrev D : ℕ → Delay
  D w = linked_run (plain d known) w

  on_board : IsOnBoard board
  on_board = record { console = refl; input = refl }

  clean : IsCleanImage (program_of shipped code_words data_words input) board d.budget
  clean = (is_clean (plain d known) d.budget (is_plain d known) safe).0

  high : 4096 ≤ a
  high = (link_within 4096 d.sites d.index).0

  safe_for : (w : ℕ) → w ≤ d.budget → IsSafe (plain d known) (w + 64)
  safe_for w few = unstuck_before d.source board d.bytes (w + 64) (d.budget + 64) (omega (arith, few)) safe

  at_stop : (n : ℕ) → suc n ≤ d.budget → is_stop program d.requests a n ≡ true
      → Arrived code_words data_words board input on_board refl d.requests d.budget clean a high n
      (past code_words data_words board input on_board refl d.requests d.budget clean a high (suc n))
  at_stop n early s = arrived code_words data_words board input on_board refl d.requests d.budget clean a high n early s

  -- the machine after the cycle of a stop, and how many steps were done by then
  abbrev state : ℕ → MachineState
  state n = state_after program (bits d.requests (suc n))

  abbrev steps : ℕ → ℕ
  steps n = past code_words data_words board input on_board refl d.requests d.budget clean a high (suc n)

  reg_not_zero : (r : Words) (k : ℕ) → 1 ≤ k → reg r k ≡ r k
  reg_not_zero r k some = cond-false (eqb k 0) 0 (r k) (grind (arith, nat_tests))

  -- what a stop shows is what the meaning shows after so many statements
  module _ (j n : ℕ) (early : suc n ≤ d.budget) (s : is_stop program d.requests a n ≡ true)
      (before : count_below (λ k. is_stop program d.requests a k) n ≡ j) where
    here : Arrived code_words data_words board input on_board refl d.requests d.budget clean a high n (steps n)
    here = at_stop n early s

    few : steps n ≤ d.budget
    few = let h = here in let e = h.few in omega (arith, e, early)

    visit : (m : ℕ) × (visiting m ≡ true) × (steps n ≡ planned m)
    visit = let h = here in visited d known (steps n) (safe_for (steps n) few) h.on h.address

    abbrev m : ℕ
    m = visit.0

    is_visit_of : IsVisit d.source d.bytes d.index j m
    is_visit_of =
        let h = here in
        let start = visit_start d known m visit.1 in
        record {
          going = start.going;
          index = visit_index d known m visit.1;
          before =
              visits_before d known m visit.1 (λ w less. safe_for w (let e = visit.2 in let f = few in omega (arith, e, f, less)))
              ∙ ap (count_below comes_at) (sym visit.2)
              ∙ sym h.before
              ∙ before;
        }

    same : D (steps n) ≡ D (planned m)
    same = ap D visit.2

    module _ (stop : Stop) (told : stop ≡ stop_at program d.requests d.watch n) (ends : suc n ≤ cycles_of (session_of d)) where
      abbrev sent : List ℕ
      sent = console_after program (bits d.requests (suc n))

      sent_is : sent ≡ (meant_in d m).console
      sent_is = let h = here in let b = visit_starts d known m visit.1 in h.console ∙ ap (λ (x : Delay). x.console) same ∙ b.shows.console

      count : stop.bytes ≡ length sent
      count = ap (λ (x : Stop). x.bytes) told

      whole : take stop.bytes (console_of (session_of d)) ≡ sent
      whole =
          let k = cycles_of (session_of d) - suc n in
          let more = sent_more program d.requests a (suc n) k in
          let e : cycles_of (session_of d) ≡ k + suc n = omega (arith, ends) in
          ap (λ c. take stop.bytes (console_after program (bits d.requests c))) e
          ∙ ap (take stop.bytes) more.1
          ∙ take_at sent more.0 stop.bytes (sym count)

      shows : ShowsMeaning d stop m
      shows =
          let h = here in
          let b = visit_starts d known m visit.1 in
          let f = b.shows.state in
          record {
            registers = λ k some small.
                ap (λ (x : Stop). slice_index x.registers k) told
                ∙ get_or-map-range_with_len (reg (state n).core.regs) 0 32 k k 0 (omega (arith, small)) (omega arith)
                ∙ reg_not_zero (state n).core.regs k some
                ∙ ap (λ (r : Words). r k) (h.regs ∙ ap (λ (x : Delay). x.core.regs) same)
                ∙ f.registers k some small;
            md = ap (λ (x : Stop). x.md) told ∙ h.md ∙ ap (λ (x : Delay). x.core.md) same ∙ f.md;
            word =
                ap (λ (x : Stop). x.word) told ∙ h.mem d.watch user ∙ ap (λ (x : Delay). x.core.mem d.watch) same ∙ f.user_data d.watch user;
            bytes = count ∙ ap length sent_is;
            console = whole ∙ sent_is;
          }

  told_of :
      (j : ℕ) (stop : Stop) → slice_get (stops_of (session_of d)) j ≡ Some stop
      → (m : ℕ) × IsVisit d.source d.bytes d.index j m × ShowsMeaning d stop m
  told_of j stop there =
      let x = stopped_at (session_of d) j stop there in
      let k = x.is in
      let early : suc x.cycle ≤ d.budget = (let e = k.early in omega (arith, e)) in
      (m j x.cycle early k.stops k.before, is_visit_of j x.cycle early k.stops k.before, shows j x.cycle early k.stops k.before stop x.told x.within)

  -- the words of the plans before a visit pass, and the word after them
  passes :
      (m : ℕ) → visiting m ≡ true → bound (m + 64) (length d.requests) ≤ d.budget → suc (planned m) ≤ (run_of program d.requests d.budget).passed
  passes m e room =
      let b = visit_starts d known m e in
      let most = b.no_more in
      let run = run_of program d.requests d.budget in
      let r = runs_as code_words data_words input d.requests d.budget board on_board refl clean in
      ⊎_elim
      (λ (q : suc (planned m) ≤ run.passed). q)
      (λ (q : run.halted ≡ true). ⊎_elim
      (λ (g : planned m < run.passed). let z : suc (planned m) ≤ run.passed = omega (arith, g) in z)
      (λ (g : run.passed ≤ planned m).
      let stays = delay_halted (code_in (plain d known)) board input (data_in (plain d known)) run.passed (planned m) g (sym r.halted ∙ q) in
      absurd (clash (D (planned m)).halted b.going (ap (λ (x : Delay). x.halted) stays ∙ sym r.halted ∙ q)))
      (cases_lt (planned m) run.passed))
      ((gets_on code_words data_words input d.requests d.budget board on_board refl clean).1 (suc (planned m)) (omega (arith, most, room)))

  comes_of : (j m : ℕ) → j < d.limit → IsVisit d.source d.bytes d.index j m
      → bound (m + 64) (length d.requests) ≤ d.budget → j < length (stops_of (session_of d))
  comes_of j m small v room =
      let e = visit_of d known j m v in
      let b = visit_starts d known m e in
      let most = b.no_more in
      let passed = passes m e room in
      let few : planned m ≤ d.budget = omega (arith, most, room) in
      let visits = visits_before d known m e (λ w less. safe_for w (omega (arith, few, less))) in
      let one_more = one_passes comes_at (planned m) (lands d known m e) in
      let all = came code_words data_words board input on_board refl d.requests d.budget clean a high (suc (planned m)) passed in
      let before = v.before in
      let listed = all_counted program d.requests a d.budget in
      has_stop (session_of d) j small (omega (arith, visits, one_more, all, before, listed))

  stops_meant : StopsAsMeant d
  stops_meant = record { told = told_of; comes = comes_of }

pub as_meant : StopsAreVisits
as_meant d laid leads within user safe = stops_meant d (record { laid = laid; leads = leads; within = within }) user safe
