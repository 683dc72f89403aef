-- The machine with interrupts does what the machine with delay slots does, and that does what the source means.
use Rattle.std.proofs.Common.{◌≡◌, ℕ, ◌+◌, ◌*◌, ◌≤◌, ◌⊎◌, true, List, length, Option, refl, sym, ap, ◌∙◌, subst, arith, ⊎_elim}
use Rattle.mx_isa.specs.Words.{Words}
use Rattle.mx_delay.specs.Delay.{Delay}
use Rattle.mx_source.specs.SourceValue.{SourceValue}
use Rattle.mx_source.specs.Meaning.{Run, State, given, meaning, HaltsIn}
use Rattle.mx_squash.specs.Copies.{Site}
use Rattle.mx_link.specs.Origins.{Filling, from_target}
use Rattle.mx_link.specs.Linked.{linked_code, linked_data}
use Rattle.mx_delay.specs.Prefixes.{IsPrefix}
use Rattle.mx_turn.specs.Handler.{shipped}
use Rattle.mx_turn.specs.Cycle.{start as machine_start}
use Rattle.mx_turn.specs.Program.{program_of, memory_of}
use Rattle.mx_turn.specs.Run.{MachineRun, bits, bound}
use Rattle.mx_turn.specs.OneTurn.{IsOnBoard}
use Rattle.law_interrupts.specs.Laws.{EndsAs, RunsAs}
use Rattle.law_interrupts.proofs.Runs.{passed_few, length_bits}
use Rattle.law_interrupts.proofs.Ends.{runs_as, gets_on}
use Rattle.mx_isa.specs.Board.{board}
use Rattle.law_link.specs.Runs.{IsFilling, IsLaid, Linking, IsLinking, code_in, data_in, linked_run}
use Rattle.law_link.specs.Matches.{Matches}
use Rattle.law_link.proofs.Lawful.{from_target_lawful}
use Rattle.law_link.proofs.Shown.{is_clean, halts_only, sends}
use Rattle.law_link.proofs.Shown.{halts as halts_soon}
use Rattle.law_end_to_end.specs.EndToEnd.{filled_run, IsUnstuck, EndsAsMeant}
use Rattle.law_end_to_end.specs.Laws.{FilledMeansItsSource, MeansItsSource}
use Rattle.mx_delay.proofs.Steps.{prefix_then, delay_sends, delay_halted}
use Rattle.law_end_to_end.proofs.Meanings.{meaning_sends, unstuck_before, halts_unstuck, sent_by_halt}

module _
    (filling : Filling) (source : SourceValue) (sites : List Site) (bytes : List ℕ) (lawful : IsFilling filling)
    (laid : IsLaid source board sites) where
  abbrev l : Linking
  l = record { filling = filling; source = source; place = board; sites = sites; bytes = bytes }

  is_linking : IsLinking l
  is_linking = record { laid = laid; filled = lawful }

  abbrev input : Option (List ℕ)
  input = given source.input bytes

  abbrev code_words : List ℕ
  code_words = linked_code filling source board sites

  abbrev data_words : List ℕ
  data_words = linked_data source board sites

  abbrev M : ℕ → Run
  M m = meaning source board bytes m

  -- the linked code on the machine with delay slots
  abbrev D : ℕ → Delay
  D j = linked_run l j

  at_board : IsOnBoard board
  at_board = record { console = refl; input = refl }

  module _ (requests : List ℕ) (budget : ℕ) where
    abbrev run : MachineRun
    run = filled_run filling source sites requests bytes budget

    passed : run.passed ≤ budget
    passed =
        let q = program_of shipped code_words data_words input in
        let e = passed_few q (bits requests budget) (machine_start (memory_of q)) in
        let f = length_bits requests budget in
        omega (arith, e, f)

    ran : IsUnstuck source bytes (budget + 64) → RunsAs board run (D run.passed)
    ran u = runs_as code_words data_words input requests budget board at_board refl (is_clean l budget is_linking u).0

    advances : IsUnstuck source bytes (budget + 64) → (w : ℕ) → 3 * (w + 3) + 78 * length requests ≤ budget → (w ≤ run.passed) ⊎ (run.halted ≡ true)
    advances u = (gets_on code_words data_words input requests budget board at_board refl (is_clean l budget is_linking u).0).1

    unstuck_passed : IsUnstuck source bytes (budget + 64) → IsUnstuck source bytes (run.passed + 64)
    unstuck_passed u = unstuck_before source board bytes (run.passed + 64) (budget + 64) (let e = passed in omega arith) u

    sent_of : IsUnstuck source bytes (budget + 64) → IsPrefix run.console (M (budget + 64)).console
    sent_of u =
        subst (λ l. IsPrefix l (M (budget + 64)).console) (sym (let r = ran u in r.console))
        (prefix_then (D run.passed).console (M (run.passed + 64)).console (M (budget + 64)).console
        (is_clean l run.passed is_linking (unstuck_passed u)).1
        (meaning_sends source board bytes (run.passed + 64) (budget + 64) (let e = passed in omega arith)))

    matches_on : (s : State) → EndsAs board run (D run.passed) → Matches board sites (D run.passed).core s → Matches board sites run.last.core s
    matches_on s e h = record {
      registers = λ n some few. ap (λ (f : Words). f n) e.regs ∙ h.registers n some few;
      md = e.md ∙ h.md;
      user_data = λ a u. e.mem a u ∙ h.user_data a u;
      taken = e.taken ∙ h.taken;
    }

    halts_of : IsUnstuck source bytes (budget + 64) → run.halted ≡ true → (n : ℕ) × (n ≤ budget) × EndsAsMeant source sites bytes run n
    halts_of u h =
        let r = ran u in
        let x = halts_only l run.passed is_linking (unstuck_passed u) (sym r.halted ∙ h) in (
          x.statements,
          (let e = passed in let f = x.few in omega (arith, e, f)),
          record {
            halts = x.halts;
            console = r.console ∙ x.shows.console;
            state = matches_on (M x.statements).state (r.ends h) x.shows.state;
          },
        )

    ends_of : (n : ℕ) → HaltsIn source board bytes n → bound n (length requests) ≤ budget → run.halted ≡ true
    ends_of n halts room =
        let u = halts_unstuck source board bytes n (budget + 64) halts in
        let r = ran u in
        let x = halts_soon l n is_linking halts in
        ⊎_elim
        (λ (q : 3 * n ≤ run.passed).
        r.halted
        ∙ ap (λ (d : Delay). d.halted) (delay_halted (code_in l) board input (data_in l) x.steps run.passed (let e = x.soon in omega (arith, e, q)) x.halted)
        ∙ x.halted)
        (λ (q : run.halted ≡ true). q)
        (advances u (3 * n) (omega (arith, room)))

    sends_of : IsUnstuck source bytes (budget + 64) → (m : ℕ) → bound (m + 64) (length requests) ≤ budget → IsPrefix (M m).console run.console
    sends_of u m room =
        let r = ran u in
        ⊎_elim
        (λ (q : 3 * (m + 64) ≤ run.passed).
        subst (λ x. IsPrefix (M m).console x) (sym r.console)
        (prefix_then (M m).console (D (3 * (m + 64))).console (D run.passed).console
        (sends l m is_linking (unstuck_before source board bytes (m + 64) (budget + 64) (omega (arith, room)) u))
        (delay_sends (code_in l) board input (data_in l) (3 * (m + 64)) run.passed q)))
        (λ (q : run.halted ≡ true).
        let x = halts_of u q in
        let y = x.2 in
        subst (λ z. IsPrefix (M m).console z) (sym y.console) (sent_by_halt source board bytes x.0 m y.halts))
        (advances u (3 * (m + 64)) (omega (arith, room)))

    pub means : FilledMeansItsSource filling source sites requests bytes budget
    means = record { sent = sent_of; halts = halts_of; ends = ends_of; sends = sends_of }

pub filled_run_means :
    (filling : Filling) (source : SourceValue) (sites : List Site) (requests bytes : List ℕ) (budget : ℕ) → IsFilling filling
    → IsLaid source board sites → FilledMeansItsSource filling source sites requests bytes budget
filled_run_means filling source sites requests bytes budget lawful laid = means filling source sites bytes lawful laid requests budget

pub run_means : (source : SourceValue) (sites : List Site) (requests bytes : List ℕ) (budget : ℕ) → IsLaid source board sites
    → MeansItsSource source sites requests bytes budget
run_means source sites requests bytes budget laid = filled_run_means from_target source sites requests bytes budget from_target_lawful laid
