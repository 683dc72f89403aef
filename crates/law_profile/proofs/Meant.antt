-- The profile of a source's run counts each statement as often as the meaning is at it.
use Rattle.std.proofs.Common.{◌≡◌, ℕ, zero, suc, ◌+◌, ◌<◌, ◌≤◌, ◌^◌, Bool, true, false, cond, List, [], ◌∷◌, length, Option, refl, sym, ap, ◌∙◌, arith}
use Rattle.std.specs.Prelude.{slice_index}
use Rattle.mx_source.specs.SourceValue.{SourceValue}
use Rattle.mx_source.specs.Meaning.{given}
use Rattle.mx_squash.specs.Copies.{Site}
use Rattle.mx_link.specs.declared.linked.Origin.{Origin}
use Rattle.mx_link.specs.Origins.{from_target, origins_of}
use Rattle.mx_link.specs.Linked.{link_map, linked_code, linked_data}
use Rattle.mx_link.proofs.Sizes.{origins_end, code_end}
use Rattle.mx_link.specs.Gathered.{is_of, gathered}
use Rattle.mx_turn.specs.Cycle.{start as machine_start}
use Rattle.mx_turn.specs.Program.{memory_of}
use Rattle.mx_turn.specs.Run.{MachineRun, bits}
use Rattle.mx_turn.specs.OneTurn.{IsOnBoard}
use Rattle.law_interrupts.specs.Laws.{RunsAs, IsCleanImage}
use Rattle.law_interrupts.proofs.Runs.{passed_few, length_bits}
use Rattle.law_interrupts.proofs.Ends.{runs_as}
use Rattle.mx_isa.specs.Board.{board}
use Rattle.law_link.specs.Runs.{IsLaid, Linking, IsLinking, linked_run}
use Rattle.law_link.specs.Matches.{block_ahead}
use Rattle.law_link.specs.Laws.{meant}
use Rattle.law_link.proofs.Lawful.{from_target_lawful}
use Rattle.law_link.proofs.Shown.{is_clean}
use Rattle.law_counts.specs.Counts.{executed, goes_on_with, visits}
use Rattle.law_counts.specs.Laws.{CountsAsMeant}
use Rattle.law_counts.proofs.Counted.{code_counts}
use Rattle.law_end_to_end.specs.EndToEnd.{source_program, source_run, IsUnstuck}
use Rattle.law_end_to_end.proofs.Meanings.{unstuck_before}
use Rattle.lab_profile.specs.declared.lines.LineCost.{LineCost}
use Rattle.lab_profile.specs.declared.tally.Profile.{Profile}
use Rattle.lab_profile.specs.Lines.{saturated, CountsStatements}
use Rattle.lab_profile.specs.Tallies.{IsProfile}
use Rattle.law_profile.specs.Meant.{linking_of, ProfiledAsMeant, ProfileIsMeant}
use Rattle.law_profile.proofs.Executed.{executed_as}

-- what is counted alike of each word is gathered alike, wherever the words stand
gathered_same : (f g : ℕ → ℕ) (i a w : ℕ) → ((k : ℕ) → k < w → f k ≡ g (a + k)) → (n : ℕ) (origins : List Origin) → n + length origins ≤ w
    → gathered f i n origins ≡ gathered g i (a + n) origins
gathered_same f g i a w same n [] h = refl
gathered_same f g i a w same n (origin ∷ origins) h =
    (λ j. cond (is_of i origin) (same n (omega (arith, h)) j) 0 + gathered_same f g i a w same (suc n) origins (omega (arith, h)) j)
    ∙ ap (λ m. cond (is_of i origin) (g (a + n)) 0 + gathered g i m origins) (let e : a + suc n ≡ suc (a + n) = omega arith in e)

-- the meaning is at a statement once a step
visits_few : (l : Linking) (i n : ℕ) → visits l i n ≤ n
visits_few l i zero = omega arith
visits_few l i (suc n) = let e = visits_few l i n in let f = small (goes_on_with i (meant l n).state.mark (meant l n).state.index) in omega (arith, e, f)
  where
    small : (b : Bool) → cond b 1 0 ≤ 1
    small true = omega arith
    small false = omega arith

saturated_small : (n : ℕ) → n < 2 ^ 64 → saturated n ≡ n
saturated_small n h = omega (arith, h)

module _ (source : SourceValue) (sites : List Site) (requests bytes : List ℕ) (budget : ℕ) (laid : IsLaid source board sites)
    (unstuck : IsUnstuck source bytes (budget + block_ahead)) where
  abbrev l : Linking
  l = linking_of source sites bytes

  is_linking : IsLinking l
  is_linking = record { laid = laid; filled = from_target_lawful }

  abbrev code_words : List ℕ
  code_words = linked_code from_target source board sites

  abbrev data_words : List ℕ
  data_words = linked_data source board sites

  abbrev input : Option (List ℕ)
  input = given source.input bytes

  abbrev origins : List Origin
  origins = origins_of from_target sites

  abbrev run : MachineRun
  run = source_run source sites requests bytes budget

  at_board : IsOnBoard board
  at_board = record { console = refl; input = refl }

  clean : IsCleanImage (source_program source sites bytes) board budget
  clean = (is_clean l budget is_linking unstuck).0

  ran : RunsAs board run (linked_run l run.passed)
  ran = runs_as code_words data_words input requests budget board at_board refl clean

  passed : run.passed ≤ budget
  passed =
      let q = source_program source sites bytes in
      let e = passed_few q (bits requests budget) (machine_start (memory_of q)) in
      let f = length_bits requests budget in
      omega (arith, e, f)

  -- each word has its origin
  as_many : length origins ≤ length code_words
  as_many =
      let e = origins_end from_target 0 sites in
      let f = code_end from_target (link_map board sites) source.statements 0 sites in
      omega (arith, e, f)

  module _ (profile : Profile) (is : IsProfile (source_program source sites bytes) requests (length code_words) budget profile)
      (halted : profile.halted ≡ true) where
    linked : CountsAsMeant l run.passed
    linked = code_counts l run.passed is_linking
        (unstuck_before source board bytes (run.passed + 64) (budget + 64) (let e = passed in omega (arith, e)) unstuck)
        (sym ran.halted ∙ sym is.halted ∙ halted)

    words_are : (k : ℕ) → k < length code_words → slice_index profile.tally.executed.items k ≡ executed l run.passed (4096 + k)
    words_are k h = is.tally.executed k ∙ executed_as code_words data_words input requests budget board at_board refl clean k h

    counted : (i : ℕ) → gathered (slice_index profile.tally.executed.items) i 0 origins ≡ visits l i linked.statements
    counted i =
        gathered_same (slice_index profile.tally.executed.items) (executed l run.passed) i 4096 (length code_words) words_are 0 origins
        (let e = as_many in omega (arith, e))
        ∙ linked.counts i

    pub counts : (costs : List LineCost) → budget < 2 ^ 64 → CountsStatements (length source.statements) origins profile.tally costs
        → ProfiledAsMeant source sites bytes budget costs
    counts costs small gathers = record {
      statements = linked.statements;
      few = (let e = linked.few in let f = passed in omega (arith, e, f));
      halts = linked.halts;
      counts = λ i h.
          gathers i h
          ∙ ap saturated (counted i)
          ∙ saturated_small (visits l i linked.statements)
          (let e = linked.few in let f = passed in let g = visits_few l i linked.statements in omega (arith, e, f, g, small));
    }

pub counts_as_meant : ProfileIsMeant
counts_as_meant source sites requests bytes budget profile costs laid small unstuck is gathers halted =
    counts source sites requests bytes budget laid unstuck profile is halted costs small gathers
