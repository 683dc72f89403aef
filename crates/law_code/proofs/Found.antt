-- The statements of lines in a source.
use Rattle.std.proofs.Common.{◌≡◌, ℕ, suc, ◌+◌, List, [], ◌∷◌, ◌++◌, Option, Some, None, Result, Ok, Err, refl, sym, ap, ◌∙◌, subst, arith, cond}
use Rattle.std.specs.Prelude.{All, count_by, slice_get, ok_or}
use Rattle.std.proofs.lemmas.List.Elements.{All-head, All-tail}
use Rattle.std.proofs.lemmas.List.Sums.{sum_by-cons}
use Rattle.mx_source.specs.declared.statement.Label.TheVariants.{Code, Data}
use Rattle.mx_source.specs.declared.statement.Label.{Label}
use Rattle.mx_source.specs.declared.statement.Statement.{Statement}
use Rattle.mx_lines.specs.declared.fault.Fault.{Fault}
use Rattle.mx_lines.specs.declared.fault.Fault.TheVariants.{UndefinedLabel}
use Rattle.mx_lines.specs.Instructions.{Labels}
use Rattle.mx_lines.specs.Operands.{label_named, any_label, code_label, data_label, code_index, data_address}
use Rattle.mx_lines.specs.Reading.{◌>>=◌}
use Rattle.mx_lines.specs.Words.{Word, Name}
use Rattle.mx_asm.specs.Positions.{statement_words, line_words, instruction_count}
use Rattle.cc_program.specs.declared.program.Program.{Program}
use Rattle.cc_emit.specs.declared.line.Line.{Line}
use Rattle.cc_emit.specs.declared.line.Line.TheVariants.{Plain as PlainLine, Transfer as TransferLine, Constant, Take, Mark, Told, Written}
use Rattle.cc_emit.specs.Lines.{is_statement}
use Rattle.law_emit.specs.Reading.{IsCode, LineFits, line_statement, statement_count, words_statement}
use Rattle.law_emit.specs.Lines.{before, resolve}
use Rattle.law_emit.proofs.Places.{one_count}

abbrev Said : Type 0
Said = Option (Result Statement Fault)

-- a line counts as one statement where it is one
abbrev pub Counts : Said → ℕ → Type 0
Counts None n = n ≡ 0
Counts (Some result) n = n ≡ 1

words_count : (labels : Labels) (words : List Word) (n : ℕ) → IsCode words → instruction_count words ≡ n → Counts (words_statement labels words) n
words_count labels [] n code e = sym e
words_count labels (Name name ∷ words) n code e = sym e ∙ one_count name words code
words_count labels (_ ∷ words) n code e = absurd code

pub counts : (labels : Labels) (p : Program) (line : Line) → LineFits p line → Counts (line_statement labels p line) (statement_count line)
counts labels p (PlainLine plain) fits = refl
counts labels p (Constant value rd) fits = refl
counts labels p (Take word base rd) fits = refl
counts labels p (TransferLine transfer) fits = refl
counts labels p (Mark target) fits = refl
counts labels p (Told unit file line) fits = refl
counts labels p (Written text) fits = words_count labels (statement_words (line_words text.now)) _ fits.code fits.counts

pub count_cons : (line : Line) (lines : List Line) → count_by is_statement (line ∷ lines) ≡ statement_count line + count_by is_statement lines
count_cons line lines = sum_by-cons (λ l. cond (is_statement l) 1 0) line lines

pub ok_is : {X : Type 0} (x y : X) → (let a : Result X Fault = Ok x in let b : Result X Fault = Ok y in a ≡ b) → x ≡ y
ok_is x y e = cc

-- from a place on, a source has the statements of these lines
pub record Rest (labels : Labels) (p : Program) (all : List Statement) (k : ℕ) (lines : List Line) : Type 0 where
  pub own : List Statement
  pub is : resolve labels p lines ≡ Ok own
  pub at : (i : ℕ) → slice_get all (k + i) ≡ slice_get own i

module _ (all : List Statement) (k : ℕ) where
  -- what follows a line
  record Follow (n : ℕ) (r : Result (List Statement) Fault) : Type 0 where
    own : List Statement
    is : r ≡ Ok own
    at : (i : ℕ) → slice_get all (k + n + i) ≡ slice_get own i

  follow : (said : Said) (n : ℕ) (r : Result (List Statement) Fault) (own : List Statement) → Counts said n → before said r ≡ Ok own
      → ((i : ℕ) → slice_get all (k + i) ≡ slice_get own i) → Follow n r
  follow None n r own c h at = record {
    own = own;
    is = h;
    at = λ i. ap (slice_get all) (let e : k + n + i ≡ k + i = omega (arith, c) in e) ∙ at i;
  }
  follow (Some (Err fault)) n r own c h at = absurd (cc)
  follow (Some (Ok s)) n (Err fault) own c h at = absurd (cc)
  follow (Some (Ok s)) n (Ok ss) own c h at = record {
    own = ss;
    is = refl;
    at =
        λ i. ap (slice_get all) (let e : k + n + i ≡ k + suc i = omega (arith, c) in e)
        ∙ at (suc i)
        ∙ ap (λ x. slice_get x (suc i)) (sym (ok_is (s ∷ ss) own h));
  }

  -- the statement of a line
  pub record Here (result : Result Statement Fault) : Type 0 where
    pub statement : Statement
    pub is : result ≡ Ok statement
    pub at : slice_get all k ≡ Some statement

  here : (result : Result Statement Fault) (r : Result (List Statement) Fault) (own : List Statement) → before (Some result) r ≡ Ok own
      → ((i : ℕ) → slice_get all (k + i) ≡ slice_get own i) → Here result
  here (Err fault) r own h at = absurd (cc)
  here (Ok s) (Err fault) own h at = absurd (cc)
  here (Ok s) (Ok ss) own h at = record {
    statement = s;
    is = refl;
    at =
        ap (slice_get all) (let e : k ≡ k + 0 = omega arith in e)
        ∙ at 0
        ∙ ap (λ x. slice_get x 0) (sym (ok_is (s ∷ ss) own h));
  }

module _ (labels : Labels) (p : Program) (all : List Statement) where
  pub onward : (k : ℕ) (line : Line) (lines : List Line) → LineFits p line → Rest labels p all k (line ∷ lines)
      → Rest labels p all (k + statement_count line) lines
  onward k line lines fits r =
      let f = follow all k (line_statement labels p line) (statement_count line) (resolve labels p lines) r.own (counts labels p line fits) r.is r.at in
      record { own = f.own; is = f.is; at = f.at }

  pub statement_at : (k : ℕ) (line : Line) (lines : List Line) (result : Result Statement Fault) → line_statement labels p line ≡ Some result
      → Rest labels p all k (line ∷ lines) → Here all k result
  statement_at k line lines result said r =
      here all k result (resolve labels p lines) r.own (ap (λ o. before o (resolve labels p lines)) (sym said) ∙ r.is) r.at

  pub past : (k : ℕ) (first more : List Line) → All (LineFits p) (first ++ more) → Rest labels p all k (first ++ more)
      → Rest labels p all (k + count_by is_statement first) more × All (LineFits p) more
  past k [] more fits r = (subst (λ n. Rest labels p all n more) (omega arith) r, fits)
  past k (line ∷ first) more fits r =
      let one = onward k line (first ++ more) (All-head (LineFits p) line (first ++ more) fits) r in
      let others = past (k + statement_count line) first more (All-tail (LineFits p) line (first ++ more) fits) one in
      let same : k + statement_count line + count_by is_statement first ≡ k + count_by is_statement (line ∷ first) =
      omega (arith, count_cons line first) in
      (subst (λ n. Rest labels p all n more) same others.0, others.1)

-- what labels in statements name
pub code_named : {X : Type 0} (labels : Labels) (name : List ℕ) (make : ℕ → X) (x : X) → (code_label labels name >>= λ i. Ok (make i)) ≡ Ok x
    → (i : ℕ) × (label_named labels name ≡ Some (Code i)) × (make i ≡ x)
unfolding code_label any_label
code_named labels name make x h = by_label (label_named labels name) refl h
  where
    by_label : (o : Option Label) → label_named labels name ≡ o → ((ok_or o UndefinedLabel >>= code_index) >>= λ i. Ok (make i)) ≡ Ok x
        → (i : ℕ) × (label_named labels name ≡ Some (Code i)) × (make i ≡ x)
    by_label None e k = absurd (cc)
    by_label (Some (Data a)) e k = absurd (cc)
    by_label (Some (Code i)) e k = (i, e, ok_is (make i) x k)

pub data_named : (labels : Labels) (name : List ℕ) (a : ℕ) → label_named labels name ≡ Some (Data a) → data_label labels name ≡ Ok a
unfolding data_label any_label
data_named labels name a h = ap (λ o. ok_or o UndefinedLabel >>= data_address) h
