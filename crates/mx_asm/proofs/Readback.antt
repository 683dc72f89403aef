-- Texts that read back, line by line.
use Rattle.std.proofs.Common.{◌≡◌, ℕ, zero, suc, ◌+◌, ◌-◌, Bool, true, false, cond, eqb, ◌||◌, List, [], ◌∷◌, ◌++◌, length, map, take, get_or, Option, None, Result, Ok, refl, sym, ap, ◌∙◌, subst, arith, append_assoc}
use Rattle.std.specs.Prelude.{is_some}
use Rattle.std.specs.List.{list_all}
use Rattle.std.proofs.lemmas.Bool.Decides.{nat_tests}
use Rattle.mx_lex.specs.Lines.{lines_of, pieces, onto_first, without_return}
use Rattle.mx_source.specs.declared.statement.Label.{Label}
use Rattle.mx_source.specs.declared.statement.Statement.{Statement}
use Rattle.mx_source.specs.declared.statement.Value.{Value}
use Rattle.mx_source.specs.Printed.{ended}
use Rattle.mx_lines.specs.declared.fault.Fault.{Fault}
use Rattle.mx_asm.specs.declared.position.Position.{Position}
use Rattle.mx_lines.specs.Words.{Word, words_of}
use Rattle.mx_lines.specs.Operands.{label_named}
use Rattle.mx_lines.specs.Instructions.{Labels}
use Rattle.mx_asm.specs.Directives.{Effect, Nothing, Instruction, Data, Input, effect_of}
use Rattle.mx_asm.specs.Positions.{statement_words, after, with_labels, labels_from, line_words, words_or_none}
use Rattle.mx_asm.specs.Faults.{first_fault, found_or, words_fault, repeats}
use Rattle.mx_asm.specs.Texts.{effects_from, or_nothing, statements_in, values_in, input_in, onto_statements, onto_values, onto_input}
use Rattle.mx_asm.proofs.Spelled.{Splits, words_are, and_both}
use Rattle.mx_lines.proofs.Clean.{is_clean}

-- what a table finds under each name
abbrev pub Finder : Type 0
Finder = List ℕ → Option Label

abbrev pub Finds : Labels → Finder → Type 0
Finds table f = (name : List ℕ) → label_named table name ≡ f name

-- lines without faults that say these statements and data words, and whether there is an `.input`
pub record Reads (K : Labels) (p : Position) (table : Labels) (number : ℕ) (lines : List (List ℕ)) (ss : List Statement) (vs : List Value)
    (has : Bool) : Type 0 where
  pub fault : first_fault K 65536 p table number lines ≡ None
  pub statements : statements_in (effects_from K p number lines) ≡ ss
  pub values : values_in (effects_from K p number lines) ≡ vs
  pub input : is_some (input_in (effects_from K p number lines)) ≡ has

-- a text at a position, behind labels that f finds: then g finds all labels, and where the labels of the whole text are those that all finds, it reads so
pub record Good (all f g : Finder) (p : Position) (text : List ℕ) (ss : List Statement) (vs : List Value) (has : Bool) : Type 0 where
  pub table : (earlier : Labels) → Finds earlier f → Finds (labels_from p earlier (lines_of text)) g
  pub reads : (K : Labels) → Finds K all → (earlier : Labels) → Finds earlier f → (number : ℕ) → Reads K p earlier number (lines_of text) ss vs has

-- one line, from a position to the next
pub record Steps (all f f' : Finder) (p p' : Position) (line : List ℕ) (e : Effect) : Type 0 where
  pub words : List Word
  pub splits : Splits line words
  pub position : after p words ≡ p'
  pub table : (earlier : Labels) → Finds earlier f → Finds (with_labels p earlier words) f'
  pub fault : (K : Labels) → Finds K all → (earlier : Labels) → Finds earlier f
      → words_fault K 65536 p (repeats p earlier words) (length line) (Ok words) ≡ None
  pub effect : (K : Labels) → Finds K all → effect_of K p.section (statement_words words) ≡ Ok e

-- the first line of a text
not_10 : (b : ℕ) → is_clean b ≡ true → eqb b 10 ≡ false
not_10 b h = grind (arith, nat_tests)

not_13 : (b : ℕ) → is_clean b ≡ true → eqb b 13 ≡ false
not_13 b h = grind (arith, nat_tests)

first_piece : (line rest : List ℕ) → list_all is_clean line ≡ true → pieces (line ++ 10 ∷ rest) ≡ line ∷ pieces rest
first_piece [] rest h = refl
first_piece (b ∷ line) rest h =
    let both = and_both (is_clean b) (list_all is_clean line) h in
    ap (λ t. cond t ([] ∷ pieces (line ++ 10 ∷ rest)) (onto_first b (pieces (line ++ 10 ∷ rest)))) (not_10 b both.0)
    ∙ ap (onto_first b) (first_piece line rest both.1)

no_return : (line : List ℕ) (k : ℕ) → list_all is_clean line ≡ true → eqb (get_or line k 0) 13 ≡ false
no_return [] k h = refl
no_return (b ∷ line) zero h = not_13 b (and_both (is_clean b) (list_all is_clean line) h).0
no_return (b ∷ line) (suc k) h = no_return line k (and_both (is_clean b) (list_all is_clean line) h).1

pub first_line : (line rest : List ℕ) → list_all is_clean line ≡ true → lines_of (ended line ++ rest) ≡ line ∷ lines_of rest
unfolding lines_of
first_line line rest h =
    ap lines_of (append_assoc line (10 ∷ []) rest)
    ∙ ap (map without_return) (first_piece line rest h)
    ∙ ap (λ t. cond t (take (length line - 1) line) line ∷ map without_return (pieces rest)) (no_return line (length line - 1) h)

abbrev pub is_input : Effect → Bool
is_input Input = true
is_input _ = false

input_onto : (n : ℕ) (e : Effect) (o : Option ℕ) (has : Bool) → is_some o ≡ has → is_some (onto_input n e o) ≡ is_input e || has
input_onto n Input o has h = refl
input_onto n Nothing o has h = h
input_onto n (Instruction s) o has h = h
input_onto n (Data vs) o has h = h

ok_words : (r : Result (List Word) Fault) (words : List Word) → r ≡ Ok words → words_or_none r ≡ words
ok_words r words h = ap words_or_none h

found_none : (n : ℕ) (here : Option Fault) (later : Option (ℕ × Fault)) → here ≡ None → later ≡ None → found_or n here later ≡ None
found_none n here later h k = ap (λ o. found_or n o later) h ∙ k

module _ (all f f' g : Finder) (p p' : Position) (line rest : List ℕ) (e : Effect) (ss : List Statement) (vs : List Value) (has : Bool)
    (s : Steps all f f' p p' line e) (good : Good all f' g p' rest ss vs has) where
  said : line_words line ≡ s.words
  said = ok_words (words_of line) s.words (words_are line s.words s.splits)

  cut : lines_of (ended line ++ rest) ≡ line ∷ lines_of rest
  cut = first_line line rest s.splits.clean

  step_table : (earlier : Labels) → Finds earlier f → Finds (labels_from p earlier (lines_of (ended line ++ rest))) g
  step_table earlier h =
      subst (λ ls. Finds (labels_from p earlier ls) g) (sym cut)
      (subst (λ ws. Finds (labels_from (after p ws) (with_labels p earlier ws) (lines_of rest)) g) (sym said)
      (subst (λ q. Finds (labels_from q (with_labels p earlier s.words) (lines_of rest)) g) (sym s.position)
      (good.table (with_labels p earlier s.words) (s.table earlier h))))

  step_reads : (K : Labels) → Finds K all → (earlier : Labels) → Finds earlier f → (n : ℕ)
      → Reads K p earlier n (lines_of (ended line ++ rest)) (onto_statements e ss) (onto_values e vs) (is_input e || has)
  step_reads K same earlier h n =
      subst (λ ls. Reads K p earlier n ls (onto_statements e ss) (onto_values e vs) (is_input e || has)) (sym cut) (record {
        fault =
            ap (λ r. found_or n (words_fault K 65536 p (repeats p earlier (words_or_none r)) (length line) r)
            (first_fault K 65536 (after p (words_or_none r)) (with_labels p earlier (words_or_none r)) (n + 1) (lines_of rest)))
            (words_are line s.words s.splits)
            ∙ found_none n _ _ (s.fault K same earlier h)
            (ap (λ q. first_fault K 65536 q (with_labels p earlier s.words) (n + 1) (lines_of rest)) s.position ∙ rests.fault);
        statements = ap statements_in effects ∙ ap (onto_statements e) rests.statements;
        values = ap values_in effects ∙ ap (onto_values e) rests.values;
        input = ap (λ es. is_some (input_in es)) effects ∙ input_onto n e (input_in (effects_from K p' (n + 1) (lines_of rest))) has rests.input;
      })
    where
      rests : Reads K p' (with_labels p earlier s.words) (n + 1) (lines_of rest) ss vs has
      rests = good.reads K same (with_labels p earlier s.words) (s.table earlier h) (n + 1)

      effects : effects_from K p n (line ∷ lines_of rest) ≡ (n, e) ∷ effects_from K p' (n + 1) (lines_of rest)
      effects =
          ap (λ ws. (n, or_nothing (effect_of K p.section (statement_words ws))) ∷ effects_from K (after p ws) (n + 1) (lines_of rest)) said
          ∙ ap (λ r. (n, or_nothing r) ∷ effects_from K (after p s.words) (n + 1) (lines_of rest)) (s.effect K same)
          ∙ ap (λ q. (n, e) ∷ effects_from K q (n + 1) (lines_of rest)) s.position

  -- a line before a text
  pub step_good : Good all f g p (ended line ++ rest) (onto_statements e ss) (onto_values e vs) (is_input e || has)
  step_good = record { table = step_table; reads = step_reads }

-- no line
pub nothing_good : (all f : Finder) (p : Position) → Good all f f p [] [] [] false
unfolding lines_of
nothing_good all f p = record {
  table = λ earlier h. h;
  reads = λ K same earlier h n. record { fault = refl; statements = refl; values = refl; input = refl };
}

-- finders that agree
pub from_same : (all f f' g : Finder) (p : Position) (text : List ℕ) (ss : List Statement) (vs : List Value) (has : Bool)
    → ((name : List ℕ) → f name ≡ f' name) → Good all f' g p text ss vs has → Good all f g p text ss vs has
from_same all f f' g p text ss vs has same good = record {
  table = λ earlier h. good.table earlier (λ name. h name ∙ same name);
  reads = λ K k earlier h n. good.reads K k earlier (λ name. h name ∙ same name) n;
}

pub to_same : (all f g g' : Finder) (p : Position) (text : List ℕ) (ss : List Statement) (vs : List Value) (has : Bool) → ((name : List ℕ) → g name ≡ g' name)
    → Good all f g p text ss vs has → Good all f g' p text ss vs has
to_same all f g g' p text ss vs has same good = record {
  table = λ earlier h name. good.table earlier h name ∙ same name;
  reads = good.reads;
}
