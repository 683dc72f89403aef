-- What is read fits in a source.
use Rattle.std.proofs.Common.{◌≡◌, ℕ, List, [], ◌∷◌, cond, Option, Some, None, Result, Bool, true, false, ◌||◌, refl, ap, ◌∙◌, arith}
use Rattle.std.specs.Prelude.{IfSome, IfOk, ok_or}
use Rattle.std.specs.Str.{bytes_eq}
use Rattle.std.proofs.lemmas.List.Elements.{All-head, All-tail}
use Rattle.std.proofs.lemmas.Bool.Decides.{nat_tests}
use Rattle.mx_isa.specs.Fields.{OpFits}
use Rattle.mx_isa.specs.declared.inst.Op.{Op}
use Rattle.mx_isa.specs.declared.inst.Op.TheVariants.{Add, Sub, Subnc, And, Or, Xor, Bic, Not, Rotlb, Mstart, Mstep, Dstep, Asr, Sh}
use Rattle.mx_source.specs.declared.statement.Label.{Label}
use Rattle.mx_source.specs.declared.statement.Label.TheVariants.{Code, Data}
use Rattle.mx_source.specs.declared.statement.Statement.{Statement}
use Rattle.mx_source.specs.Labels.{LabelFits, names_index, is_labelled}
use Rattle.mx_lines.specs.declared.fault.Fault.{Fault}
use Rattle.mx_lines.specs.Operands.{label_named}
use Rattle.mx_lines.specs.Fitting.{LabelsFit, NamedFits, FitsAlone, FitsBy, uses_both}

pub by_alone : (labels : List (List ℕ × Label)) (result : Result Statement Fault) → FitsAlone result → FitsBy labels result
by_alone labels result h = λ count fits. h labels count

pub fits_both : (op : Op) (a b : ℕ) → uses_both op ≡ true → OpFits op a b
fits_both Add a b h = tt
fits_both Sub a b h = tt
fits_both Subnc a b h = tt
fits_both And a b h = tt
fits_both Or a b h = tt
fits_both Xor a b h = tt
fits_both Bic a b h = tt
fits_both Not a b h = cc
fits_both Rotlb a b h = tt
fits_both Mstart a b h = cc
fits_both Mstep a b h = tt
fits_both Dstep a b h = tt
fits_both (Asr n) a b h = cc
fits_both (Sh n) a b h = cc

if_some_cond : {A : Type 0} (P : A → Type 0) (b : Bool) (x : A) (o : Option A) → P x → IfSome o P → IfSome (cond b (Some x) o) P
if_some_cond P true x o here there = here
if_some_cond P false x o here there = there

if_some_weaker : {A : Type 0} (P Q : A → Type 0) (o : Option A) → ((x : A) → P x → Q x) → IfSome o P → IfSome o Q
if_some_weaker P Q None f h = tt
if_some_weaker P Q (Some x) f h = f x h

or_true : (b : Bool) → b || true ≡ true
or_true true = refl
or_true false = refl

same_index : (i : ℕ) (rest : Bool) → names_index i (Code i) || rest ≡ true
same_index i rest = grind (arith, nat_tests)

-- the first of the labels fits, and the rest fit among the rest
first_fits : (e : List ℕ × Label) (es : List (List ℕ × Label)) (count : ℕ) (l : Label) → e.1 ≡ l → LabelFits count l → NamedFits (e ∷ es) count l
first_fits e es count (Code i) is h = record { within = h; labelled = ap (λ l. names_index i l || is_labelled es i) is ∙ same_index i (is_labelled es i) }
first_fits e es count (Data a) is h = h.1

rest_fits : (e : List ℕ × Label) (es : List (List ℕ × Label)) (count : ℕ) (l : Label) → NamedFits es count l → NamedFits (e ∷ es) count l
rest_fits e es count (Code i) h = record { within = h.within; labelled = ap (λ b. names_index i e.1 || b) h.labelled ∙ or_true (names_index i e.1) }
rest_fits e es count (Data a) h = h

pub found_fits : (labels : List (List ℕ × Label)) (name : List ℕ) (count : ℕ) → LabelsFit count labels
    → IfSome (label_named labels name) (NamedFits labels count)
found_fits [] name count h = tt
found_fits (e ∷ es) name count h =
    if_some_cond (NamedFits (e ∷ es) count) (bytes_eq name e.0) e.1 (label_named es name)
    (first_fits e es count e.1 refl (All-head (λ p. LabelFits count p.1) e es h))
    (if_some_weaker (NamedFits es count) (NamedFits (e ∷ es) count) (label_named es name) (rest_fits e es count)
    (found_fits es name count (All-tail (λ p. LabelFits count p.1) e es h)))

if_ok_or : {A : Type 0} (P : A → Type 0) (o : Option A) (fault : Fault) → IfSome o P → IfOk (ok_or o fault) P
if_ok_or P None fault h = tt
if_ok_or P (Some x) fault h = h

pub any_fits : (labels : List (List ℕ × Label)) (name : List ℕ) (count : ℕ) (fault : Fault) → LabelsFit count labels
    → IfOk (ok_or (label_named labels name) fault) (NamedFits labels count)
any_fits labels name count fault h = if_ok_or (NamedFits labels count) (label_named labels name) fault (found_fits labels name count h)
