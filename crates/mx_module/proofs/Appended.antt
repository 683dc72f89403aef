-- What the lines of modules do, one module after the other.
use Rattle.std.proofs.Common.{◌≡◌, ℕ, List, [], ◌∷◌, ◌++◌, Option, Some, None, refl, ap, sym, ◌∙◌, append_assoc}
use Rattle.mx_source.specs.declared.Statement.{Statement}
use Rattle.mx_source.specs.declared.Value.{Value}
use Rattle.mx_lines.specs.declared.Fault.{Fault}
use Rattle.mx_lines.specs.declared.AsmError.{AsmError}
use Rattle.mx_lines.specs.declared.AsmError.TheVariants as asm
use Rattle.mx_asm.specs.Directives.{Effect, Nothing, Instruction, Data, Input}
use Rattle.mx_asm.specs.Effects.{first_input}
use Rattle.mx_asm.specs.Listings.{IsRefusal}
use Rattle.mx_asm.specs.Texts.{statements_in, lines_in, values_in, input_in, onto_statements, onto_lines, onto_values, onto_input}
use Rattle.mx_module.specs.declared.error.JoinError.{JoinError}
use Rattle.mx_module.specs.declared.error.JoinError.TheVariants as errors
use Rattle.mx_module.specs.LinkFaults.{Refusal, refusal_or}
use Rattle.mx_module.specs.Joined.{line_of, IsJoinRefusal}
use Rattle.mx_module.specs.ModuleView.{line_refusal}

put_statements : (e : Effect) (xs ys : List Statement) → onto_statements e (xs ++ ys) ≡ onto_statements e xs ++ ys
put_statements Nothing xs ys = refl
put_statements (Instruction s) xs ys = refl
put_statements (Data vs) xs ys = refl
put_statements Input xs ys = refl

pub statements_both : (a b : List (ℕ × Effect)) → statements_in (a ++ b) ≡ statements_in a ++ statements_in b
statements_both [] b = refl
statements_both (e ∷ a) b = ap (onto_statements e.1) (statements_both a b) ∙ put_statements e.1 (statements_in a) (statements_in b)

put_lines : (n : ℕ) (e : Effect) (xs ys : List ℕ) → onto_lines n e (xs ++ ys) ≡ onto_lines n e xs ++ ys
put_lines n Nothing xs ys = refl
put_lines n (Instruction s) xs ys = refl
put_lines n (Data vs) xs ys = refl
put_lines n Input xs ys = refl

pub lines_both : (a b : List (ℕ × Effect)) → lines_in (a ++ b) ≡ lines_in a ++ lines_in b
lines_both [] b = refl
lines_both (e ∷ a) b = ap (onto_lines e.0 e.1) (lines_both a b) ∙ put_lines e.0 e.1 (lines_in a) (lines_in b)

put_values : (e : Effect) (xs ys : List Value) → onto_values e (xs ++ ys) ≡ onto_values e xs ++ ys
put_values Nothing xs ys = refl
put_values (Instruction s) xs ys = refl
put_values (Data vs) xs ys = sym (append_assoc vs xs ys)
put_values Input xs ys = refl

pub values_both : (a b : List (ℕ × Effect)) → values_in (a ++ b) ≡ values_in a ++ values_in b
values_both [] b = refl
values_both (e ∷ a) b = ap (onto_values e.1) (values_both a b) ∙ put_values e.1 (values_in a) (values_in b)

put_input : (n : ℕ) (e : Effect) (x y : Option ℕ) → onto_input n e (first_input x y) ≡ first_input (onto_input n e x) y
put_input n Nothing x y = refl
put_input n (Instruction s) x y = refl
put_input n (Data vs) x y = refl
put_input n Input x y = refl

pub input_both : (a b : List (ℕ × Effect)) → input_in (a ++ b) ≡ first_input (input_in a) (input_in b)
input_both [] b = refl
input_both (e ∷ a) b = ap (onto_input e.0 e.1) (input_both a b) ∙ put_input e.0 e.1 (input_in a) (input_in b)

pub first_of_three : (x y z : Option ℕ) → first_input (first_input x y) z ≡ first_input x (first_input y z)
first_of_three (Some n) y z = refl
first_of_three None y z = refl

-- what was listed, with what the next module adds
pub items_more : {A : Type 0} (part : List (ℕ × Effect) → List A) (both : (a b : List (ℕ × Effect)) → part (a ++ b) ≡ part a ++ part b)
    (was more new all : List A) (own later left : List (ℕ × Effect)) → left ≡ own ++ later
    → new ≡ was ++ more → more ≡ part own → was ++ part left ≡ all → new ++ part later ≡ all
items_more part both was more new all own later left parts added is h =
    ap (λ x. x ++ part later) added
    ∙ ap (λ x. (was ++ x) ++ part later) is
    ∙ append_assoc was (part own) (part later)
    ∙ ap (λ x. was ++ x) (sym (both own later))
    ∙ ap (λ x. was ++ part x) (sym parts) ∙ h

pub line_refused : (place : ℕ) (found : Option (ℕ × Fault)) (e : AsmError) → IsRefusal found e → IsJoinRefusal (line_of place found) (line_refusal place e)
line_refused place found (asm.Refused line fault) h = ap (line_of place) h
line_refused place found asm.Memory h = tt

pub program_refused : (found later : Option Refusal) (e : JoinError) → IsJoinRefusal found e → IsJoinRefusal (refusal_or found later) e
program_refused found later (errors.Refused m line fault) h = ap (λ f. refusal_or f later) h
program_refused found later errors.Memory h = tt
