-- The fault of a directive is the least of those that hold of its form.
use Rattle.std.proofs.Common.{◌≡◌, ℕ, ◌||◌, ◌&&◌, ◌⊎◌, List, [], ◌∷◌, cond, replicate, Bool, true, false, Option, Some, None, Result, Ok, Err, refl, ap, sym, ◌∙◌, inl, inr}
use Rattle.std.specs.Prelude.{not, is_none, ok_or, option_map, zip}
use Rattle.std.specs.Option.{option_or}
use Rattle.std.specs.List.{list_any, list_all}
use Rattle.std.proofs.lemmas.Bool.{and_parts, false≢true}
use Rattle.mx_source.specs.declared.statement.Label.{Label}
use Rattle.mx_source.specs.declared.statement.Value.{Value}
use Rattle.mx_source.specs.declared.statement.Value.TheVariants.{Int}
use Rattle.mx_lines.specs.declared.fault.Fault.{Fault}
use Rattle.mx_lines.specs.declared.fault.Fault.TheVariants as f
use Rattle.mx_asm.specs.declared.position.Section.{Section}
use Rattle.mx_asm.specs.declared.position.Section.TheVariants as section
use Rattle.mx_asm.specs.declared.directive.Directive.{Directive}
use Rattle.mx_asm.specs.declared.directive.Directive.TheVariants as d
use Rattle.mx_lines.specs.Reading.{◌>>=◌}
use Rattle.mx_lines.specs.Words.{Word, Name, Number, Comma, Open, Close, Hash, Colon, End}
use Rattle.mx_lines.specs.Operands.{in_range, data_word, label_named, any_label}
use Rattle.mx_lines.specs.Instructions.{Labels, instruction}
use Rattle.mx_asm.specs.Directives.{is_dotted, directive_named, is_value, cons, value_words, number_fits, numbers_fit, value_at, value_of, values_of, word_values, space_count, in_data, in_code, directed, effect_of}
use Rattle.mx_asm.specs.Faults.{is_data}
use Rattle.mx_lines.specs.Mnemonics.{mnemonic_named}
use Rattle.mx_faults.specs.Forms.{DataValue, values, has_shape, AnInstruction, ADirective, form, is_no_register, is_outside, is_undefined, is_wrong_kind, moves_chain}
use Rattle.mx_faults.specs.Walking.{section_of, kind_by}
use Rattle.mx_faults.proofs.Statements.{fault_of, form_fault, instruction_is}

-- data stand in the data section
abbrev stored : Section → Option Fault
stored s = cond (not (is_data s)) (Some f.BadDirective) None

data_is : (s : Section) (vs : List Value) → fault_of (in_data s vs) ≡ stored s
data_is section.Code vs = refl
data_is section.Data vs = refl

space_is : (s : Section) (ok : Bool) (k : ℕ)
    → fault_of (cond ok (Ok k) (Err f.NumberOutOfRange) >>= λ n. in_data s (replicate n (Int 0))) ≡ cond (not ok || false) (Some f.NumberOutOfRange) (stored s)
space_is s true k = data_is s (replicate k (Int 0))
space_is s false k = refl

-- what has the shape of values, and what the values are
record Valued (words : List Word) : Type 0 where
  vs : List Word
  reads : value_words words ≡ Ok vs
  shaped : has_shape (values words) words ≡ true
  each : list_all is_value vs ≡ true
  outside : list_any is_outside (zip (values words) words) ≡ list_any (λ w. is_outside (DataValue, w)) vs
  undefined : (kind : List ℕ → Option Section) → list_any (is_undefined kind) (zip (values words) words) ≡ list_any (λ w. is_undefined kind (DataValue, w)) vs
  registers : list_any is_no_register (zip (values words) words) ≡ false
  kinds : (kind : List ℕ → Option Section) → list_any (is_wrong_kind kind) (zip (values words) words) ≡ false
  chain : list_any moves_chain (zip (values words) words) ≡ false

Misshapen : List Word → Type 0
Misshapen words = (value_words words ≡ Err f.BadDirective) × (has_shape (values words) words ≡ false)

one_value : (v : Word) → is_value v ≡ true → Valued (v ∷ [])
one_value (Name name) h =
    record {
      vs = Name name ∷ [];
      reads = refl;
      shaped = refl;
      each = refl;
      outside = refl;
      undefined = λ kind. refl;
      registers = refl;
      kinds = λ kind. refl;
      chain = refl;
    }
one_value (Number negative value) h =
    record {
      vs = Number negative value ∷ [];
      reads = refl;
      shaped = refl;
      each = refl;
      outside = refl;
      undefined = λ kind. refl;
      registers = refl;
      kinds =
          λ kind. refl;
      chain = refl;
    }
one_value _ h = absurd (false≢true h)

more_values : (v : Word) (words : List Word) → is_value v ≡ true → Valued words → Valued (v ∷ Comma ∷ words)
more_values (Name name) words h r = record {
  vs = Name name ∷ r.vs;
  reads = ap (cons (Name name)) r.reads;
  shaped = r.shaped;
  each = r.each;
  outside = r.outside;
  undefined = λ kind. ap (λ b. is_undefined kind (DataValue, Name name) || b) (r.undefined kind);
  registers = r.registers;
  kinds = r.kinds;
  chain = r.chain;
}
more_values (Number negative value) words h r = record {
  vs = Number negative value ∷ r.vs;
  reads = ap (cons (Number negative value)) r.reads;
  shaped = r.shaped;
  each = r.each;
  outside = ap (λ b. is_outside (DataValue, Number negative value) || b) r.outside;
  undefined = r.undefined;
  registers = r.registers;
  kinds = r.kinds;
  chain = r.chain;
}
more_values _ words h r = absurd (false≢true h)

either_more : (v : Word) (words : List Word) → Valued words ⊎ Misshapen words → Valued (v ∷ Comma ∷ words) ⊎ Misshapen (v ∷ Comma ∷ words)
unfolding Misshapen
either_more (Name name) words (inl r) = inl (more_values (Name name) words refl r)
either_more (Name name) words (inr r) = inr (ap (cons (Name name)) r.0, r.1)
either_more (Number negative value) words (inl r) = inl (more_values (Number negative value) words refl r)
either_more (Number negative value) words (inr r) = inr (ap (cons (Number negative value)) r.0, r.1)
either_more Comma words r = inr (refl, refl)
either_more Open words r = inr (refl, refl)
either_more Close words r = inr (refl, refl)
either_more Hash words r = inr (refl, refl)
either_more Colon words r = inr (refl, refl)
either_more End words r = inr (refl, refl)

and_false : (b : Bool) → b && false ≡ false
and_false true = refl
and_false false = refl

valued : (words : List Word) → Valued words ⊎ Misshapen words
unfolding Misshapen
valued [] = inr (refl, refl)
valued (Name name ∷ []) = inl (one_value (Name name) refl)
valued (Number negative value ∷ []) = inl (one_value (Number negative value) refl)
valued (Comma ∷ []) = inr (refl, refl)
valued (Open ∷ []) = inr (refl, refl)
valued (Close ∷ []) = inr (refl, refl)
valued (Hash ∷ []) = inr (refl, refl)
valued (Colon ∷ []) = inr (refl, refl)
valued (End ∷ []) = inr (refl, refl)
valued (v ∷ Comma ∷ words) = either_more v words (valued words)
valued (v ∷ Name name ∷ words) = inr (refl, and_false _)
valued (v ∷ Number negative value ∷ words) = inr (refl, and_false _)
valued (v ∷ Open ∷ words) = inr (refl, and_false _)
valued (v ∷ Close ∷ words) = inr (refl, and_false _)
valued (v ∷ Hash ∷ words) = inr (refl, and_false _)
valued (v ∷ Colon ∷ words) = inr (refl, and_false _)
valued (v ∷ End ∷ words) = inr (refl, and_false _)

-- what a number says is a data word, or is outside
abbrev fine : Result (Unit {0}) Fault
fine = Ok tt

word_fault : (ok : Bool) (n : ℕ) → fault_of (cond ok (Ok n) (Err f.NumberOutOfRange) >>= λ _. fine) ≡ cond (not ok) (Some f.NumberOutOfRange) None
word_fault true n = refl
word_fault false n = refl

fault_cons : {A : Type 0} (x : A) (r : Result (List A) Fault) → fault_of (cons x r) ≡ fault_of r
fault_cons x (Ok xs) = refl
fault_cons x (Err fault) = refl

-- reading goes on, or stays at its fault
fault_bind : {A B : Type 0} (r : Result A Fault) (g : A → Result B Fault) (rest : Option Fault) → ((x : A) → fault_of (g x) ≡ rest)
    → fault_of (r >>= g) ≡ option_or (fault_of r) rest
fault_bind (Ok x) g rest h = h x
fault_bind (Err fault) g rest h = refl

or_cond : (b c : Bool) (x : Fault) → option_or (cond b (Some x) None) (cond c (Some x) None) ≡ cond (b || c) (Some x) None
or_cond true c x = refl
or_cond false c x = refl

fits_is : (v : Word) → is_value v ≡ true → fault_of (number_fits v) ≡ cond (is_outside (DataValue, v)) (Some f.NumberOutOfRange) None
unfolding data_word
fits_is (Name name) h = refl
fits_is (Number negative value) h = word_fault (in_range 2147483648 4294967295 negative value) _
fits_is _ h = absurd (false≢true h)

fit_is : (vs : List Word) → list_all is_value vs ≡ true
    → fault_of (numbers_fit vs) ≡ cond (list_any (λ w. is_outside (DataValue, w)) vs) (Some f.NumberOutOfRange) None
fit_is [] h = refl
fit_is (v ∷ vs) h =
    let parts = and_parts (is_value v) (list_all is_value vs) h in
    fault_bind (number_fits v) (λ _. numbers_fit vs) (fault_of (numbers_fit vs)) (λ x. refl)
    ∙ ap (λ o. option_or o (fault_of (numbers_fit vs))) (fits_is v parts.0)
    ∙ ap (option_or (cond (is_outside (DataValue, v)) (Some f.NumberOutOfRange) None)) (fit_is vs parts.1)
    ∙ or_cond (is_outside (DataValue, v)) (list_any (λ w. is_outside (DataValue, w)) vs) f.NumberOutOfRange

or_split : (a b : Bool) → a || b ≡ false → (a ≡ false) × (b ≡ false)
or_split true b h = absurd (false≢true (sym h))
or_split false b h = (refl, h)

name_fault : (o : Option Label)
    → fault_of (ok_or o f.UndefinedLabel >>= λ l. Ok (value_at l)) ≡ cond (is_none (option_map section_of o)) (Some f.UndefinedLabel) None
name_fault None = refl
name_fault (Some l) = refl

number_value : (ok : Bool) (n : ℕ) → not ok ≡ false → fault_of (cond ok (Ok n) (Err f.NumberOutOfRange) >>= λ word. Ok (Int word)) ≡ None
number_value true n h = refl
number_value false n h = absurd (false≢true (sym h))

module _ (labels : Labels) where
  value_is : (v : Word) → is_value v ≡ true → is_outside (DataValue, v) ≡ false
      → fault_of (value_of labels v) ≡ cond (is_undefined (kind_by labels) (DataValue, v)) (Some f.UndefinedLabel) None
  unfolding data_word any_label
  value_is (Name name) h k = name_fault (label_named labels name)
  value_is (Number negative value) h k = number_value (in_range 2147483648 4294967295 negative value) _ k
  value_is _ h k = absurd (false≢true h)

  resolved_is : (vs : List Word) → list_all is_value vs ≡ true → list_any (λ w. is_outside (DataValue, w)) vs ≡ false
      → fault_of (values_of labels vs) ≡ cond (list_any (λ w. is_undefined (kind_by labels) (DataValue, w)) vs) (Some f.UndefinedLabel) None
  resolved_is [] h k = refl
  resolved_is (v ∷ vs) h k =
      let parts = and_parts (is_value v) (list_all is_value vs) h in
      let clear = or_split (is_outside (DataValue, v)) (list_any (λ w. is_outside (DataValue, w)) vs) k in
      fault_bind (value_of labels v) (λ x. cons x (values_of labels vs)) (fault_of (values_of labels vs)) (λ x. fault_cons x (values_of labels vs))
      ∙ ap (λ o. option_or o (fault_of (values_of labels vs))) (value_is v parts.0 clear.0)
      ∙ ap (option_or (cond (is_undefined (kind_by labels) (DataValue, v)) (Some f.UndefinedLabel) None)) (resolved_is vs parts.1 clear.1)
      ∙ or_cond (is_undefined (kind_by labels) (DataValue, v)) (list_any (λ w. is_undefined (kind_by labels) (DataValue, w)) vs) f.UndefinedLabel

  -- numbers come before names
  both_is : (vs : List Word) (outside : Bool) → list_all is_value vs ≡ true → list_any (λ w. is_outside (DataValue, w)) vs ≡ outside
      → fault_of (numbers_fit vs >>= λ _. values_of labels vs)
      ≡ cond outside (Some f.NumberOutOfRange) (cond (list_any (λ w. is_undefined (kind_by labels) (DataValue, w)) vs) (Some f.UndefinedLabel) None)
  both_is vs true h k =
      fault_bind (numbers_fit vs) (λ _. values_of labels vs) (fault_of (values_of labels vs)) (λ x. refl)
      ∙ ap (λ o. option_or o (fault_of (values_of labels vs))) (fit_is vs h ∙ ap (λ b. cond b (Some f.NumberOutOfRange) None) k)
  both_is vs false h k =
      fault_bind (numbers_fit vs) (λ _. values_of labels vs) (fault_of (values_of labels vs)) (λ x. refl)
      ∙ ap (λ o. option_or o (fault_of (values_of labels vs))) (fit_is vs h ∙ ap (λ b. cond b (Some f.NumberOutOfRange) None) k)
      ∙ resolved_is vs h k

or_conds : (b c : Bool) (x y : Fault) (rest : Option Fault) → option_or (cond b (Some x) (cond c (Some y) None)) rest ≡ cond b (Some x) (cond c (Some y) rest)
or_conds true c x y rest = refl
or_conds false true x y rest = refl
or_conds false false x y rest = refl

-- where the words have the shape, nothing but numbers, names and the section can be wrong
shaped_fault : (kind : List ℕ → Option Section) (s : Section) (words : List Word) (r : Valued words)
    → form_fault kind s (ADirective (Some d.Word) words)
    ≡ cond (list_any (λ w. is_outside (DataValue, w)) r.vs) (Some f.NumberOutOfRange)
    (cond (list_any (λ w. is_undefined kind (DataValue, w)) r.vs) (Some f.UndefinedLabel) (stored s))
shaped_fault kind s words r = rw (r.shaped, r.registers, r.outside, r.undefined kind, r.kinds kind, r.chain) refl

misshapen_fault : (kind : List ℕ → Option Section) (s : Section) (words : List Word) → has_shape (values words) words ≡ false
    → form_fault kind s (ADirective (Some d.Word) words) ≡ Some f.BadDirective
misshapen_fault kind s words h = rw h refl

module _ (labels : Labels) (s : Section) where
  by_values : (words : List Word) → Valued words ⊎ Misshapen words
      → fault_of (word_values labels words >>= λ vs. in_data s vs) ≡ form_fault (kind_by labels) s (ADirective (Some d.Word) words)
  unfolding word_values Misshapen
  by_values words (inl r) =
      let read = ap (λ q. fault_of ((q >>= λ vs. numbers_fit vs >>= λ _. values_of labels vs) >>= λ vs. in_data s vs)) r.reads in
      read
      ∙ fault_bind (numbers_fit r.vs >>= λ _. values_of labels r.vs) (λ vs. in_data s vs) (stored s) (data_is s)
      ∙ ap (λ o. option_or o (stored s)) (both_is labels r.vs _ r.each refl)
      ∙ or_conds _ _ f.NumberOutOfRange f.UndefinedLabel (stored s)
      ∙ sym (shaped_fault (kind_by labels) s words r)
  by_values words (inr r) =
      ap (λ q. fault_of ((q >>= λ vs. numbers_fit vs >>= λ _. values_of labels vs) >>= λ vs. in_data s vs)) r.0
      ∙ sym (misshapen_fault (kind_by labels) s words r.1)

  by_space : (words : List Word)
      → fault_of (space_count words >>= λ k. in_data s (replicate k (Int 0))) ≡ form_fault (kind_by labels) s (ADirective (Some d.Space) words)
  unfolding space_count
  by_space (Number negative value ∷ []) = space_is s (in_range 0 65280 negative value) value
  by_space _ = refl

  directed_is : (o : Option Directive) (words : List Word) → fault_of (directed labels s o words) ≡ form_fault (kind_by labels) s (ADirective o words)
  unfolding directed
  directed_is None words = refl
  directed_is (Some d.Code) [] = refl
  directed_is (Some d.Code) (_ ∷ _) = refl
  directed_is (Some d.Data) [] = refl
  directed_is (Some d.Data) (_ ∷ _) = refl
  directed_is (Some d.Input) [] = refl
  directed_is (Some d.Input) (_ ∷ _) = refl
  directed_is (Some d.Word) words = by_values words (valued words)
  directed_is (Some d.Space) words = by_space words

  by_dot : (dotted : Bool) (name : List ℕ) (words : List Word)
      → fault_of (cond dotted (directed labels s (directive_named name) words) (instruction labels name words >>= λ statement. in_code s statement))
      ≡ form_fault (kind_by labels) s (cond dotted (ADirective (directive_named name) words) (AnInstruction (mnemonic_named name) words))
  by_dot true name words = directed_is (directive_named name) words
  by_dot false name words = instruction_is labels s name words

  -- the fault of a statement is the least that holds of its form
  pub statement_is : (words : List Word) → fault_of (effect_of labels s words) ≡ form_fault (kind_by labels) s (form words)
  unfolding effect_of
  statement_is [] = refl
  statement_is (Name name ∷ words) = by_dot (is_dotted name) name words
  statement_is (Number negative value ∷ words) = refl
  statement_is (Comma ∷ words) = refl
  statement_is (Open ∷ words) = refl
  statement_is (Close ∷ words) = refl
  statement_is (Hash ∷ words) = refl
  statement_is (Colon ∷ words) = refl
  statement_is (End ∷ words) = refl
