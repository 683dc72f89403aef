-- Lists with one element changed, and a run, step by step.
use Rattle.std.proofs.Common.{◌≡◌, ◌≤◌, ℕ, suc, List, ◌++◌, option_to_list, refl, sym, ap, ◌∙◌}
use Rattle.std.specs.Prelude.{◌+◌, ◌<◌, ◌∷◌, length, drop, slice_set, slice_index_or}
use Rattle.std.specs.List.{fold}
use Rattle.std.proofs.lemmas.List.{set_past, drop_more}
use Rattle.cc_meaning.specs.declared.value.Value.{Value}
use Rattle.cc_program.specs.declared.program.Program.{Program}
use Rattle.cc_meaning.specs.declared.machine.Stepped.{Stepped}
use Rattle.cc_meaning.specs.declared.machine.Stepped.TheVariants as stepped
use Rattle.cc_meaning.specs.declared.running.Ending.TheVariants as ending
use Rattle.cc_meaning.specs.declared.layout.Layout.{Layout}
use Rattle.cc_meaning.specs.States.{State, Outcome, Next, Halted, Stuck}
use Rattle.cc_meaning.specs.Steps.{step}
use Rattle.cc_meaning.specs.Runs.{Run, after, run_for}
use Rattle.cc_meaning.specs.Machines.{answer_of, state_after}

-- outside a list nothing changes
pub set_outside : (xs : List Value) (i : ℕ) (v : Value) → length xs ≤ i → xs ≡ slice_set xs i v
set_outside xs i v h = sym (set_past xs i v h)

-- a fold over what is left of a list, one element on
pub fold_step : {X Y : Type 0} (f : Y → X → Y) (start before after : Y) (xs : List X) (i : ℕ) (x : X)
    → i < length xs → x ≡ slice_index_or xs i x → fold f before (drop i xs) ≡ fold f start xs → after ≡ f before x
    → fold f after (drop (i + 1) xs) ≡ fold f start xs
fold_step f start before after xs i x within is left one =
    ap (λ y. fold f y (drop (i + 1) xs)) one
    ∙ sym (ap (fold f before) (drop_more xs i x within ∙ ap (λ y. y ∷ drop (i + 1) xs) (sym is)))
    ∙ left

-- a run after a step that was answered so and left a state
abbrev pub after_answer : Stepped → State → List ℕ → (State → List ℕ → Run) → Run
after_answer (stepped.Went sent) new console rest = rest new (console ++ option_to_list sent)
after_answer (stepped.Halted status) new console rest = record { state = new; console = console; ending = ending.Halted status }
after_answer (stepped.Stuck why) new console rest = record { state = new; console = console; ending = ending.Stuck why }

answered : (o : Outcome) (s : State) (console : List ℕ) (rest : State → List ℕ → Run)
    → after o s console rest ≡ after_answer (answer_of o) (state_after o s) console rest
answered (Next new sent) s console rest = refl
answered (Halted status) s console rest = refl
answered (Stuck why) s console rest = refl

-- a run of one more step, of which this is known
pub one_more : (p : Program) (l : Layout) (input : List ℕ) (n more : ℕ) (s new : State) (console : List ℕ) (answer : Stepped)
    → more ≡ suc n → new ≡ state_after (step p l input s) s → answer ≡ answer_of (step p l input s)
    → run_for p l input more s console ≡ after_answer answer new console (run_for p l input n)
one_more p l input n more s new console answer count left told =
    ap (λ k. run_for p l input k s console) count
    ∙ answered (step p l input s) s console (run_for p l input n)
    ∙ ap (λ a. after_answer a (state_after (step p l input s) s) console (run_for p l input n)) (sym told)
    ∙ ap (λ x. after_answer answer x console (run_for p l input n)) (sym left)
