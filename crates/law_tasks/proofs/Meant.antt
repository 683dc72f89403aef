-- Two programs on one machine do what each does alone, and that is what its source means.
use Rattle.std.proofs.Common.{◌≡◌, ℕ, suc, ◌+◌, ◌<◌, ◌≤◌, Bool, true, false, cond, not, List, None, refl, sym, ap, ◌∙◌, subst, arith}
use Rattle.mx_isa.specs.Words.{Words}
use Rattle.mx_code.specs.Decoding.{inst_of}
use Rattle.mx_delay.specs.Delay.{Delay, code_from, data_from, delay}
use Rattle.mx_delay.specs.Clean.{IsClean}
use Rattle.mx_source.specs.Meaning.{given}
use Rattle.mx_delay.specs.Prefixes.{IsPrefix}
use Rattle.mx_turn.specs.Cycle.{start}
use Rattle.mx_turn.specs.Program.{Program, state_after, memory_of}
use Rattle.mx_turn.specs.Run.{bits}
use Rattle.law_interrupts.proofs.Runs.{length_bits}
use Rattle.law_link.specs.Runs.{Linking, IsLinking, words_in, code_in, inside, data_in, linked_run}
use Rattle.law_link.specs.Laws.{meant, IsSafe}
use Rattle.law_link.proofs.Shown.{is_clean, halts_only}
use Rattle.mx_delay.proofs.Steps.{prefix_then}
use Rattle.law_end_to_end.proofs.Meanings.{meaning_sends, unstuck_before}
use Rattle.mx_tasks.specs.Tasks.{Task}
use Rattle.law_interrupts.specs.Saves.{takes_in}
use Rattle.mx_tasks.specs.Sharing.{task_console, task_passed, first_is_current, own_state, AreLoaded}
use Rattle.mx_tasks.specs.Changes.{FetchesSwitch}
use Rattle.mx_tasks.specs.Images.{shared_code, shared_data, two_tasks, two_data}
use Rattle.mx_tasks.proofs.Runs.{passed_few}
use Rattle.mx_tasks.proofs.Images.{are_places, holds_both}
use Rattle.mx_tasks.proofs.Changes.{is_two, switch_fetches}
use Rattle.law_tasks.specs.Meant.{data_words, AreShared, shared_program, HaltsWith, MeanTheirSources}

module _ (first second : Linking) (requests : List ℕ) (budget : ℕ) (s : AreShared first second)
    (safe : IsSafe first (budget + 64)) (safe' : IsSafe second (budget + 64)) where
  abbrev all_code : List ℕ
  all_code = shared_code (words_in first) (words_in second)

  abbrev all_data : List ℕ
  all_data = shared_data (data_words first) (data_words second)

  abbrev tasks : Bool → Task
  tasks = two_tasks first.place second.place (words_in first) (words_in second)

  abbrev own_words : Bool → Words
  own_words = two_data first.place second.place (data_words first) (data_words second)

  abbrev q : Program
  q = shared_program first second

  abbrev h : List Bool
  h = bits requests budget

  loaded : AreLoaded (code_from inst_of 4096 all_code) tasks (data_from 256 all_data) own_words
  loaded = holds_both first.place second.place (words_in first) (words_in second) (data_words first) (data_words second)
      (are_places first.place second.place s.first_place s.second_place) s.code_fits s.data_fits

  no_input : (l : Linking) → l.source.input ≡ None → given l.source.input l.bytes ≡ None
  no_input l e = ap (λ i. given i l.bytes) e

  clean : (b : Bool) → IsClean (tasks b).own (tasks b).inside (tasks b).place None (own_words b) budget
  clean false = subst (λ i. IsClean (code_in first) (inside first) first.place i (data_in first) budget) (no_input first s.first_input)
      (is_clean first budget s.first_links safe).0
  clean true = subst (λ i. IsClean (code_in second) (inside second) second.place i (data_in second) budget) (no_input second s.second_input)
      (is_clean second budget s.second_links safe').0

  abbrev passed : Bool → ℕ
  passed b = task_passed q requests (not b) budget

  few : (b : Bool) → passed b ≤ budget
  few b = let e = passed_few q h (start (memory_of q)) (not b) in let f = length_bits requests budget in omega (arith, e, f)

  both : ((b : Bool) → task_console q requests (not b) budget ≡ (own_state q tasks own_words requests budget b).console)
      × ((state_after q h).halted ≡ true → (own_state q tasks own_words requests budget (not (first_is_current q requests budget))).halted ≡ true)
  both = is_two all_code all_data tasks own_words requests budget loaded clean

  -- a linked program without input, alone
  alone : (l : Linking) (n : ℕ) → l.source.input ≡ None → delay (code_in l) l.place None (data_in l) n ≡ linked_run l n
  alone l n e = ap (λ i. delay (code_in l) l.place i (data_in l) n) (sym (no_input l e))

  console_first : task_console q requests true budget ≡ (linked_run first (passed false)).console
  console_first = both.0 false ∙ ap (λ (d : Delay). d.console) (alone first (passed false) s.first_input)

  console_second : task_console q requests false budget ≡ (linked_run second (passed true)).console
  console_second = both.0 true ∙ ap (λ (d : Delay). d.console) (alone second (passed true) s.second_input)

  -- what is sent in as many steps is no more than is meant
  sent : (l : Linking) (n : ℕ) (bytes : List ℕ) → IsLinking l → IsSafe l (budget + 64) → n ≤ budget → bytes ≡ (linked_run l n).console
      → IsPrefix bytes (meant l (budget + 64)).console
  sent l n bytes linking unstuck within e =
      subst (λ b. IsPrefix b (meant l (budget + 64)).console) (sym e)
      (prefix_then (linked_run l n).console (meant l (n + 64)).console (meant l (budget + 64)).console
      (is_clean l n linking (unstuck_before l.source l.place l.bytes (n + 64) (budget + 64) (omega (arith, within)) unstuck)).1
      (meaning_sends l.source l.place l.bytes (n + 64) (budget + 64) (omega (arith, within))))

  -- what has halted in as many steps has meant it
  halted : (l : Linking) (n : ℕ) (bytes : List ℕ) → IsLinking l → IsSafe l (budget + 64) → n ≤ budget → bytes ≡ (linked_run l n).console
      → (linked_run l n).halted ≡ true → HaltsWith l bytes budget
  halted l n bytes linking unstuck within e on =
      let x = halts_only l n linking (unstuck_before l.source l.place l.bytes (n + 64) (budget + 64) (omega (arith, within)) unstuck) on in
      record { statements = x.statements; few = (let f = x.few in omega (arith, f, within)); halts = x.halts; console = e ∙ x.shows.console }

  halted_in : (r : Bool) → (own_state q tasks own_words requests budget (not r)).halted ≡ true
      → HaltsWith (cond r first second) (task_console q requests r budget) budget
  halted_in true on = halted first (passed false) (task_console q requests true budget) s.first_links safe (few false) console_first
      (sym (ap (λ (d : Delay). d.halted) (alone first (passed false) s.first_input)) ∙ on)
  halted_in false on = halted second (passed true) (task_console q requests false budget) s.second_links safe' (few true) console_second
      (sym (ap (λ (d : Delay). d.halted) (alone second (passed true) s.second_input)) ∙ on)

  -- an interrupt changes to the other program
  places_are : (b : Bool) → (tasks b).place ≡ (cond b second first).place
  places_are true = refl
  places_are false = refl

  states_are : (n : ℕ) (b : Bool) → own_state q tasks own_words requests n b ≡ linked_run (cond b second first) (task_passed q requests (not b) n)
  states_are n true = alone second (task_passed q requests false n) s.second_input
  states_are n false = alone first (task_passed q requests true n) s.first_input

  switches : (n : ℕ) → n < budget → takes_in q requests n ≡ true
      → FetchesSwitch q requests n (λ b. (cond b second first).place) (λ b. linked_run (cond b second first) (task_passed q requests (not b) (suc n)))
  switches n within taken =
      subst (λ p. FetchesSwitch q requests n p (λ b. linked_run (cond b second first) (task_passed q requests (not b) (suc n)))) (λ k b. places_are b k)
      (subst (FetchesSwitch q requests n (λ b. (tasks b).place)) (λ k b. states_are (suc n) b k)
      (switch_fetches all_code all_data tasks own_words requests budget loaded clean n within taken))

  pub means : MeanTheirSources q first second requests budget
  means = record {
    first_sent = sent first (passed false) (task_console q requests true budget) s.first_links safe (few false) console_first;
    second_sent = sent second (passed true) (task_console q requests false budget) s.second_links safe' (few true) console_second;
    halts = λ on. halted_in (first_is_current q requests budget) (both.1 on);
    switches = switches;
  }
