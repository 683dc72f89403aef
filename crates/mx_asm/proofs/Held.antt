-- What holds of each form of statement and of each data word holds of all that lines read as.
use Rattle.std.proofs.Common.{◌≡◌, ℕ, ◌+◌, ◌-◌, ◌%◌, ◌^◌, ◌<◌, List, [], ◌∷◌, cond, Bool, true, false, Option, Some, None, Result, Ok, Err, refl, arith}
use Rattle.std.specs.Prelude.{All, IfOk, replicate}
use Rattle.std.proofs.lemmas.Bool.Decides.{nat_tests}
use Rattle.std.proofs.lemmas.List.Elements.{All-nil, All-cons, All-append, All-replicate}
use Rattle.mx_isa.specs.Registers.{IsRegister}
use Rattle.mx_source.specs.declared.statement.Label.{Label}
use Rattle.mx_source.specs.declared.statement.Label.TheVariants as label
use Rattle.mx_source.specs.declared.statement.Statement.{Statement}
use Rattle.mx_source.specs.declared.statement.Value.{Value}
use Rattle.mx_source.specs.declared.statement.Value.TheVariants.{Int}
use Rattle.mx_lines.specs.declared.fault.Fault.{Fault}
use Rattle.mx_lines.specs.declared.fault.Fault.TheVariants.{NumberOutOfRange}
use Rattle.mx_asm.specs.declared.position.Section.{Section}
use Rattle.mx_asm.specs.declared.position.Section.TheVariants as section
use Rattle.mx_asm.specs.declared.position.Position.{Position}
use Rattle.mx_asm.specs.declared.directive.Directive.{Directive}
use Rattle.mx_asm.specs.declared.directive.Directive.TheVariants as d
use Rattle.mx_lines.specs.Words.{Word, Name, Number}
use Rattle.mx_lines.specs.Operands.{in_range, data_word, any_label}
use Rattle.mx_lines.specs.Instructions.{Labels, address_of, instruction}
use Rattle.mx_asm.specs.Directives.{Effect, Nothing, Instruction, Data, Input, is_dotted, directive_named, cons, value_words, numbers_fit, value_at, value_of, values_of, word_values, space_count, in_data, in_code, without_operands, directed, effect_of}
use Rattle.mx_asm.specs.Positions.{line_words, statement_words, after}
use Rattle.mx_asm.specs.Texts.{or_nothing, effects_from, onto_statements, statements_in, onto_values, values_in}
use Rattle.mx_asm.specs.Printable.{NamesRegisters}
use Rattle.mx_lines.proofs.Forms.{Forms, was_read, bind_has, instruction_has}

word_few : (negative : Bool) (value : ℕ) → in_range 2147483648 4294967295 negative value ≡ true → cond negative ((2 ^ 32 - value) % 2 ^ 32) value < 2 ^ 32
word_few true value h = omega arith
word_few false value h = grind (arith, nat_tests)

if_range : (b : Bool) (n : ℕ) → (b ≡ true → n < 2 ^ 32) → IfOk (cond b (Ok n) (Err NumberOutOfRange)) (λ w. w < 2 ^ 32)
if_range true n h = h refl
if_range false n h = tt

data_few : (negative : Bool) (value : ℕ) → IfOk (data_word negative value) (λ w. w < 2 ^ 32)
unfolding data_word
data_few negative value = if_range (in_range 2147483648 4294967295 negative value) (cond negative ((2 ^ 32 - value) % 2 ^ 32) value) (word_few negative value)

-- it holds of each data word that is read: a number of 32 bits, or what a label names
pub record Words (labels : Labels) (Is : Value → Type 0) : Type 0 where
  pub number : (w : ℕ) → w < 2 ^ 32 → Is (Int w)
  pub named : (name : List ℕ) (l : Label) → any_label labels name ≡ Ok l → Is (value_at l)

-- it holds of what a statement adds
abbrev pub EachHas : (Statement → Type 0) → (Value → Type 0) → Effect → Type 0
EachHas Has Is (Instruction s) = Has s
EachHas Has Is (Data values) = All Is values
EachHas Has Is _ = Unit {0}

module _ (labels : Labels) (Has : Statement → Type 0) (forms : Forms labels Has) (Is : Value → Type 0) (words_are : Words labels Is) where
  abbrev HasEffect : Effect → Type 0
  HasEffect = EachHas Has Is

  value_is : (word : Word) → IfOk (value_of labels word) Is
  value_is (Number negative value) =
      bind_has Is (data_word negative value) _
      (λ w e. words_are.number w (was_read (λ n. n < 2 ^ 32) (data_word negative value) w (data_few negative value) e))
  value_is (Name name) = bind_has Is (any_label labels name) _ (λ l e. words_are.named name l e)
  value_is _ = tt

  cons_are : (v : Value) (r : Result (List Value) Fault) → Is v → IfOk r (All Is) → IfOk (cons v r) (All Is)
  cons_are v (Ok vs) h k = All-cons Is v vs h k
  cons_are v (Err fault) h k = tt

  values_are : (words : List Word) → IfOk (values_of labels words) (All Is)
  values_are [] = All-nil Is
  values_are (word ∷ words) =
      bind_has (All Is) (value_of labels word) _
      (λ v e. cons_are v (values_of labels words) (was_read Is (value_of labels word) v (value_is word) e) (values_are words))

  word_values_are : (words : List Word) → IfOk (word_values labels words) (All Is)
  unfolding word_values
  word_values_are words = bind_has (All Is) (value_words words) _ (λ vs e. bind_has (All Is) (numbers_fit vs) _ (λ u e1. values_are vs))

  in_data_has : (s : Section) (values : List Value) → All Is values → IfOk (in_data s values) HasEffect
  in_data_has section.Data values h = h
  in_data_has section.Code values h = tt

  in_code_has : (s : Section) (statement : Statement) → Has statement → IfOk (in_code s statement) HasEffect
  in_code_has section.Code statement h = h
  in_code_has section.Data statement h = tt

  alone_has : (e : Effect) (words : List Word) → HasEffect e → IfOk (without_operands e words) HasEffect
  alone_has e [] h = h
  alone_has e (word ∷ words) h = tt

  directed_has : (s : Section) (o : Option Directive) (words : List Word) → IfOk (directed labels s o words) HasEffect
  unfolding directed
  directed_has s (Some d.Code) words = alone_has Nothing words tt
  directed_has s (Some d.Data) words = alone_has Nothing words tt
  directed_has s (Some d.Input) words = alone_has Input words tt
  directed_has s (Some d.Word) words =
      bind_has HasEffect (word_values labels words) _
      (λ values e. in_data_has s values (was_read (All Is) (word_values labels words) values (word_values_are words) e))
  directed_has s (Some d.Space) words =
      bind_has HasEffect (space_count words) _
      (λ k e. in_data_has s (replicate k (Int 0)) (All-replicate Is k (Int 0) (words_are.number 0 (omega arith))))
  directed_has s None words = tt

  either_has : (b : Bool) (r s : Result Effect Fault) → IfOk r HasEffect → IfOk s HasEffect → IfOk (cond b r s) HasEffect
  either_has true r s h k = h
  either_has false r s h k = k

  pub effect_has : (s : Section) (words : List Word) → IfOk (effect_of labels s words) HasEffect
  unfolding effect_of
  effect_has s [] = tt
  effect_has s (Name name ∷ words) =
      either_has (is_dotted name) (directed labels s (directive_named name) words) _
      (directed_has s (directive_named name) words)
      (bind_has HasEffect (instruction labels name words) _
      (λ statement e. in_code_has s statement (was_read Has (instruction labels name words) statement (instruction_has labels Has forms name words) e)))
  effect_has s (_ ∷ words) = tt

  onto_has : (r : Result Effect Fault) (rest : List Statement) → IfOk r HasEffect → All Has rest → All Has (onto_statements (or_nothing r) rest)
  onto_has (Ok (Instruction s)) rest h all = All-cons Has s rest h all
  onto_has (Ok Nothing) rest h all = all
  onto_has (Ok (Data values)) rest h all = all
  onto_has (Ok Input) rest h all = all
  onto_has (Err fault) rest h all = all

  onto_are : (r : Result Effect Fault) (rest : List Value) → IfOk r HasEffect → All Is rest → All Is (onto_values (or_nothing r) rest)
  onto_are (Ok (Data values)) rest h all = All-append Is values rest h all
  onto_are (Ok Nothing) rest h all = all
  onto_are (Ok (Instruction s)) rest h all = all
  onto_are (Ok Input) rest h all = all
  onto_are (Err fault) rest h all = all

  pub lines_have : (p : Position) (number : ℕ) (lines : List (List ℕ)) → All Has (statements_in (effects_from labels p number lines))
  lines_have p number [] = All-nil Has
  lines_have p number (line ∷ lines) =
      let words = statement_words (line_words line) in
      onto_has (effect_of labels p.section words) (statements_in (effects_from labels (after p (line_words line)) (number + 1) lines))
      (effect_has p.section words)
      (lines_have (after p (line_words line)) (number + 1) lines)

  pub lines_are : (p : Position) (number : ℕ) (lines : List (List ℕ)) → All Is (values_in (effects_from labels p number lines))
  lines_are p number [] = All-nil Is
  lines_are p number (line ∷ lines) =
      let words = statement_words (line_words line) in
      onto_are (effect_of labels p.section words) (values_in (effects_from labels (after p (line_words line)) (number + 1) lines))
      (effect_has p.section words)
      (lines_are (after p (line_words line)) (number + 1) lines)

-- no matter what the data words are
any_words : (labels : Labels) → Words labels (λ v. Unit {0})
any_words labels = record { number = λ w h. tt; named = λ name l e. tt }

module _ (labels : Labels) (Has : Statement → Type 0) (forms : Forms labels Has) where
  pub statements_have : (p : Position) (number : ℕ) (lines : List (List ℕ)) → All Has (statements_in (effects_from labels p number lines))
  statements_have = lines_have labels Has forms (λ v. Unit {0}) (any_words labels)

-- no matter what the statements are
any_forms : (labels : Labels) → Forms labels (λ s. Unit {0})
any_forms labels = record {
  compute = λ o a dest b fits p q r. tt;
  addi = λ a dest imm fits p q. tt;
  move_from = λ dest h. tt;
  move_to = λ a h. tt;
  load = λ word base dest o e p q. tt;
  store = λ word base value o e p q. tt;
  address = λ name l dest e h. tt;
  branch = λ name a b c target e p q. tt;
  call = λ name dest target e h. tt;
  call_register = λ a dest p q. tt;
  jump = λ a h. tt;
  halt = tt;
}

module _ (labels : Labels) (Is : Value → Type 0) (words_are : Words labels Is) where
  pub values_have : (p : Position) (number : ℕ) (lines : List (List ℕ)) → All Is (values_in (effects_from labels p number lines))
  values_have = lines_are labels (λ s. Unit {0}) (any_forms labels) Is words_are

-- registers that are read are 0 to 31
address_names : (l : Label) (dest : ℕ) → IsRegister dest → NamesRegisters (address_of l dest)
address_names (label.Code i) dest h = h
address_names (label.Data a) dest h = (omega arith, h)

pub names_registers : (labels : Labels) → Forms labels NamesRegisters
names_registers labels = record {
  compute = λ o a dest b fits p q r. (p, q, r);
  addi = λ a dest imm fits p q. (p, q);
  move_from = λ dest h. h;
  move_to = λ a h. h;
  load = λ word base dest o e p q. (p, q);
  store = λ word base value o e p q. (p, q);
  address = λ name l dest e h. address_names l dest h;
  branch = λ name a b c target e p q. (p, q);
  call = λ name dest target e h. h;
  call_register = λ a dest p q. (p, q);
  jump = λ a h. h;
  halt = tt;
}
