-- Labels that the translation makes are names of the language.
use Rattle.std.proofs.Common.{◌≡◌, ℕ, ◌^◌, ◌≤◌, ◌<◌, true, ◌&&◌, List, [], ◌∷◌, ◌++◌, refl, ap, ◌∙◌, arith, decimal}
use Rattle.std.specs.Prelude.{codes}
use Rattle.std.specs.List.{list_all}
use Rattle.std.specs.Char.{digit_value}
use Rattle.std.specs.Str.Parse.{AllDigits}
use Rattle.std.proofs.lemmas.Bool.Decides.{nat_tests}
use Rattle.std.proofs.lemmas.Fmt.{decimal_is_IsNumeral}
use Rattle.std.proofs.lemmas.List.Folds.{list_all-append}
use Rattle.std.proofs.lemmas.Str.Parse.{digit_from_value}
use Rattle.mx_lex.specs.Bytes.{begins_name, continues_name}
use Rattle.mx_asm.specs.Printable.{is_name}
use Rattle.mx_asm.proofs.Spelled.{and_both}
use Rattle.cc_lines.specs.declared.instruction.Shift.{Shift}
use Rattle.cc_lines.specs.declared.instruction.Shift.TheVariants.{Left, Right, Arithmetic, Rotate}
use Rattle.cc_program.specs.declared.symbols.Symbol.{Symbol}
use Rattle.cc_emit.specs.declared.line.Word.{Word}
use Rattle.cc_emit.specs.declared.line.Word.TheVariants.{Number, End, Stack, Shifts, Mask as MaskWord}
use Rattle.cc_emit.specs.declared.line.Mask.{Mask}
use Rattle.cc_emit.specs.declared.line.Mask.TheVariants.{LoadLeft, LoadRight, StoreLeft, StoreRight}
use Rattle.cc_emit.specs.declared.line.Routine.{Routine}
use Rattle.cc_emit.specs.declared.line.Routine.TheVariants as routine
use Rattle.cc_emit.specs.declared.line.Target.{Target}
use Rattle.cc_emit.specs.declared.line.Target.TheVariants.{Symbol as SymbolTarget, Routine as RoutineTarget, Shifted, Skip}
use Rattle.cc_emit.specs.Labels.{routine_label, mask_label}
use Rattle.cc_emit.specs.Statements.{word_label, target_label, shift_label}
use Rattle.law_emit.specs.Reading.{WordFits, TargetFits}

digit_continues : (b : ℕ) → digit_value b < 10 → continues_name b ≡ true
digit_continues b h = let r = digit_from_value b h in plain b (omega arith) (omega arith)
  where
    plain : (b : ℕ) → 48 ≤ b → b ≤ 57 → continues_name b ≡ true
    plain b h k = grind (arith, nat_tests)

digits_continue : (ds : List ℕ) → AllDigits 10 ds → list_all continues_name ds ≡ true
digits_continue [] h = refl
digits_continue (d ∷ ds) h = ap (λ t. t && list_all continues_name ds) (digit_continues d h.0) ∙ digits_continue ds h.1

pub name_goes_on : (name more : List ℕ) → is_name name ≡ true → list_all continues_name more ≡ true → is_name (name ++ more) ≡ true
name_goes_on [] more h k = cc
name_goes_on (b ∷ bytes) more h k =
    let both = and_both (begins_name b) (list_all continues_name bytes) h in
    ap (λ t. t && list_all continues_name (bytes ++ more)) both.0
    ∙ list_all-append continues_name bytes more
    ∙ ap (λ t. t && list_all continues_name more) both.1
    ∙ k

-- a number, and a name before one
pub decimal_continues : (n : ℕ) → n < 2 ^ 32 → list_all continues_name (decimal n) ≡ true
decimal_continues n small = digits_continue (decimal n) (decimal_is_IsNumeral n (omega arith)).0.1

pub numbered : (name : List ℕ) (n : ℕ) → is_name name ≡ true → n < 2 ^ 32 → is_name (name ++ decimal n) ≡ true
numbered name n h small = name_goes_on name (decimal n) h (decimal_continues n small)

routine_named : (r : Routine) → is_name (routine_label r) ≡ true
routine_named routine.Low = refl
routine_named routine.Product = refl
routine_named routine.SignedProduct = refl
routine_named routine.Quotient = refl
routine_named routine.SignedQuotient = refl
routine_named routine.ShiftLeft = refl
routine_named routine.ShiftRight = refl
routine_named routine.ShiftArithmetic = refl
routine_named routine.RotateLeft = refl
routine_named routine.Trap = refl
routine_named routine.Zero = refl
routine_named routine.Null = refl
routine_named routine.Stack = refl

shift_named : (op : Shift) → is_name (shift_label op) ≡ true
shift_named Left = refl
shift_named Right = refl
shift_named Arithmetic = refl
shift_named Rotate = refl

mask_named : (mask : Mask) → is_name (mask_label mask) ≡ true
mask_named LoadLeft = refl
mask_named LoadRight = refl
mask_named StoreLeft = refl
mask_named StoreRight = refl

pub word_named : (word : Word) → WordFits word → is_name (word_label word) ≡ true
word_named (Number n) h = numbered (codes "k.") n refl h
word_named (End addend) h = numbered (codes "k.end.") addend refl h
word_named Stack h = refl
word_named (Shifts op) h = shift_named op
word_named (MaskWord mask) h = mask_named mask

pub target_named : (symbols : List Symbol) (target : Target) → TargetFits symbols target → is_name (target_label symbols target) ≡ true
target_named symbols (SymbolTarget number) h = h
target_named symbols (RoutineTarget r) h = routine_named r
target_named symbols (Shifted r count) h =
    numbered (routine_label r ++ codes ".n") count (name_goes_on (routine_label r) (codes ".n") (routine_named r) refl) (omega arith)
target_named symbols (Skip number) h = numbered (codes "_.s") number refl h
