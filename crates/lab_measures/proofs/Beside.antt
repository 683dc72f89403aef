-- Rows, by the runs that they tell of.
use Rattle.std.proofs.Common.{◌≡◌, ◌<◌, ◌++◌, ◌∷◌, [], ℕ, List, Bool, true, false, sym, ap, ◌∙◌, subst, arith}
use Rattle.std.specs.Prelude.{Option, Some, None, IfSome}
use Rattle.std.specs.Option.{option_to_list}
use Rattle.std.proofs.lemmas.Bool.Decides.{nat_tests}
use Rattle.mx_turn.specs.Counted.{Counted}
use Rattle.mx_turn.specs.Program.{Program}
use Rattle.mx_turn.specs.Run.{is_requested, run_of}
use Rattle.lab_measures.specs.declared.observed.Entry.{Entry}
use Rattle.lab_measures.specs.declared.observed.Run.{Run}
use Rattle.lab_measures.specs.declared.row.Row.{Row}
use Rattle.lab_measures.specs.Entries.{EntersBy}
use Rattle.lab_measures.specs.Going.{IsTold}
use Rattle.lab_measures.specs.Sweeps.{IsRow, requests_of}

-- no request comes before the first
pub none_before : (first k : ℕ) (second : Option ℕ) → k < first → IfSome second (λ s. first < s) → is_requested (first ∷ option_to_list second) k ≡ false
none_before first k None under rising = grind (arith, nat_tests)
none_before first k (Some second) under rising = grind (arith, nat_tests)

-- a row that tells what is told of its run, whose console is that of the undisturbed run where the row says so
pub row_is : (p : Program) (budget : ℕ) (undisturbed requests before : List ℕ) (r : Run) (row : Row) → requests ≡ requests_of row
    → IsTold p requests budget before r → row.cycles ≡ r.counts.cycles → row.halted ≡ r.halted → row.entry ≡ r.entry
    → (row.same_console ≡ true → before ++ r.console.items ≡ undisturbed) → (before ++ r.console.items ≡ undisturbed → row.same_console ≡ true)
    → IsRow p budget undisturbed row
row_is p budget undisturbed requests before r row are told cycles halted entry is_same is_other = record {
  cycles = cycles ∙ ap (λ (c : Counted). c.cycles) told.counts ∙ ap (λ (l : List ℕ). (run_of p l budget).counts.cycles) are;
  halted = halted ∙ told.halted ∙ ap (λ (l : List ℕ). (run_of p l budget).halted) are;
  same = λ is. sym (told.console ∙ ap (λ (l : List ℕ). (run_of p l budget).console) are) ∙ is_same is;
  entry = subst (λ (l : List ℕ). EntersBy p l budget row.entry) are
      (subst (λ (e : Option Entry). EntersBy p requests budget e) (sym entry) told.entry);
  other = λ is. is_other (told.console ∙ ap (λ (l : List ℕ). (run_of p l budget).console) are ∙ is);
}
