-- The first fault in order that holds is the least that holds.
use Rattle.std.proofs.Common.{◌≡◌, ℕ, ◌≤◌, List, [], ◌∷◌, ◌++◌, take, drop, cond, Bool, true, false, Option, Some, None, refl, subst, arith}
use Rattle.std.specs.Prelude.{find, nat_le}
use Rattle.std.specs.List.{list_all}
use Rattle.std.proofs.lemmas.Bool.{and_parts, false≢true}
use Rattle.std.proofs.lemmas.Bool.Decides.{nat_tests}
use Rattle.mx_lines.specs.declared.fault.Fault.{Fault}
use Rattle.mx_lines.specs.declared.fault.Fault.TheVariants as f
use Rattle.mx_faults.specs.Holding.{LineInText, holds, all_faults, least_of}
use Rattle.mx_faults.specs.Found.{number_of, IsLeast}

-- a fault was found, and its number is at most this
abbrev AtMost : ℕ → Option Fault → Type 0
AtMost n None = ⊥
AtMost n (Some fault) = number_of fault ≤ n

le_of : (a b : ℕ) → nat_le a b ≡ true → a ≤ b
le_of a b h = grind (arith, nat_tests)

here : (n : ℕ) (b : Bool) (x : Fault) (rest : Option Fault) → b ≡ true → number_of x ≤ n → AtMost n (cond b (Some x) rest)
here n true x rest e h = h
here n false x rest e h = absurd (false≢true e)

there : (n : ℕ) (b : Bool) (x : Fault) (rest : Option Fault) → number_of x ≤ n → AtMost n rest → AtMost n (cond b (Some x) rest)
there n true x rest h k = h
there n false x rest h k = k

found_by : (h : Fault → Bool) (front : List Fault) (x : Fault) (rest : List Fault) (n : ℕ) → list_all (λ y. nat_le (number_of y) n) front ≡ true
    → number_of x ≤ n → h x ≡ true
    → AtMost n (find h (front ++ x ∷ rest))
found_by h [] x rest n all le e = here n (h x) x (find h rest) e le
found_by h (y ∷ front) x rest n all le e =
    let parts = and_parts (nat_le (number_of y) n) (list_all (λ y. nat_le (number_of y) n) front) all in
    there n (h y) y (find h (front ++ x ∷ rest)) (le_of (number_of y) n parts.0) (found_by h front x rest n parts.1 le e)

-- where a fault holds, one is found whose number is no greater
found_at_most : (h : Fault → Bool) (x : Fault) → h x ≡ true → AtMost (number_of x) (find h all_faults)
found_at_most h f.BadByte e = found_by h (take 0 all_faults) f.BadByte (drop 1 all_faults) 1 refl (omega arith) e
found_at_most h f.BadToken e = found_by h (take 1 all_faults) f.BadToken (drop 2 all_faults) 2 refl (omega arith) e
found_at_most h f.UnknownMnemonic e = found_by h (take 2 all_faults) f.UnknownMnemonic (drop 3 all_faults) 3 refl (omega arith) e
found_at_most h f.BadOperands e = found_by h (take 3 all_faults) f.BadOperands (drop 4 all_faults) 4 refl (omega arith) e
found_at_most h f.BadRegister e = found_by h (take 4 all_faults) f.BadRegister (drop 5 all_faults) 5 refl (omega arith) e
found_at_most h f.NumberOutOfRange e = found_by h (take 5 all_faults) f.NumberOutOfRange (drop 6 all_faults) 6 refl (omega arith) e
found_at_most h f.DuplicateLabel e = found_by h (take 6 all_faults) f.DuplicateLabel (drop 7 all_faults) 7 refl (omega arith) e
found_at_most h f.UndefinedLabel e = found_by h (take 7 all_faults) f.UndefinedLabel (drop 8 all_faults) 8 refl (omega arith) e
found_at_most h f.WrongLabelKind e = found_by h (take 8 all_faults) f.WrongLabelKind (drop 9 all_faults) 9 refl (omega arith) e
found_at_most h f.SystemInstruction e = found_by h (take 9 all_faults) f.SystemInstruction (drop 10 all_faults) 10 refl (omega arith) e
found_at_most h f.BadDirective e = found_by h (take 10 all_faults) f.BadDirective (drop 11 all_faults) 11 refl (omega arith) e
found_at_most h f.TooManyInstructions e = found_by h (take 11 all_faults) f.TooManyInstructions (drop 12 all_faults) 12 refl (omega arith) e
found_at_most h f.DataFull e = found_by h (take 12 all_faults) f.DataFull (drop 13 all_faults) 13 refl (omega arith) e
found_at_most h f.LineTooLong e = found_by h (take 13 all_faults) f.LineTooLong (drop 14 all_faults) 14 refl (omega arith) e

cond_some : (b : Bool) (x y : Fault) (rest : Option Fault) (P : Fault → Type 0) → (b ≡ true → P x) → (rest ≡ Some y → P y) → cond b (Some x) rest ≡ Some y → P y
cond_some true x y rest P here there e = let q : x ≡ y = cc in subst P q (here refl)
cond_some false x y rest P here there e = there e

found_holds : (h : Fault → Bool) (xs : List Fault) (y : Fault) → find h xs ≡ Some y → h y ≡ true
found_holds h [] y e = cc
found_holds h (x ∷ xs) y e = cond_some (h x) x y (find h xs) (λ z. h z ≡ true) (λ b. b) (found_holds h xs y) e

not_true : (b : Bool) → (b ≡ true → ⊥) → b ≡ false
not_true true k = absurd (k refl)
not_true false k = refl

least_by : (l : LineInText) (o : Option Fault) → find (holds l) all_faults ≡ o → IsLeast l o
least_by l None e = λ fault. not_true (holds l fault) (λ h. subst (AtMost (number_of fault)) e (found_at_most (holds l) fault h))
least_by l (Some least) e = (
  found_holds (holds l) all_faults least e,
  λ fault lesser. not_true (holds l fault) (λ h. let le = subst (AtMost (number_of fault)) e (found_at_most (holds l) fault h) in
      absurd (omega (arith, le, lesser))),
)

pub the_least : (l : LineInText) → IsLeast l (least_of l)
the_least l = least_by l (least_of l) refl
