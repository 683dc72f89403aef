-- The names that the translation looks at are names of the language.
use Rattle.std.proofs.Common.{◌≡◌, ℕ, ◌^◌, ◌<◌, Bool, true, false, cond, not, ◌&&◌, List, [], ◌∷◌, ◌++◌, drop, Option, Some, None, refl, ap, ◌∙◌, arith, decimal}
use Rattle.std.specs.Prelude.{codes, ◌==◌, slice_get, option_map, unwrap_or}
use Rattle.std.specs.Char.{is_ascii_digit}
use Rattle.std.specs.List.{list_all}
use Rattle.std.proofs.lemmas.Bool.{ltb-true}
use Rattle.std.proofs.lemmas.Bool.Decides.{nat_tests}
use Rattle.std.proofs.lemmas.List.Folds.{list_all-append}
use Rattle.mx_lex.specs.Bytes.{begins_name, continues_name}
use Rattle.mx_asm.specs.Printable.{is_name}
use Rattle.mx_asm.proofs.Spelled.{and_both}
use Rattle.cc_lines.specs.Bytes.{is_named}
use Rattle.cc_lines.specs.Numbered.{is_numbered}
use Rattle.cc_program.specs.declared.symbols.Symbol.{Symbol}
use Rattle.cc_program.specs.Programs.{resolved}
use Rattle.cc_emit.specs.Names.{letter, letters, is_made, owner_text, owned_name, symbol_text}
use Rattle.cc_fits.specs.Fits.{is_word, has_digit_second, name_fits, symbol_fits}
use Rattle.law_emit.proofs.Names.{decimal_continues, name_goes_on, numbered}

-- the bytes of a name of the assembly
named_begins : (b : ℕ) → is_named b ≡ true → (b == 36) ≡ false → is_ascii_digit b ≡ false → begins_name b ≡ true
named_begins b h dollar digit = grind (arith, nat_tests)

named_continues : (b : ℕ) → is_named b ≡ true → (b == 36) ≡ false → continues_name b ≡ true
named_continues b h dollar = grind (arith, nat_tests)

letter_continues : (b : ℕ) → is_named b ≡ true → list_all continues_name (letter b) ≡ true
letter_continues b h = by_dollar (b == 36) refl
  where
    by_dollar : (t : Bool) → (b == 36) ≡ t → list_all continues_name (cond t (codes ".S.") (b ∷ [])) ≡ true
    by_dollar true e = refl
    by_dollar false e = ap (λ t. t && true) (named_continues b h e)

letters_continue : (name : List ℕ) → list_all is_named name ≡ true → list_all continues_name (letters name) ≡ true
letters_continue [] h = refl
letters_continue (b ∷ name) h =
    let both = and_both (is_named b) (list_all is_named name) h in
    list_all-append continues_name (letter b) (letters name)
    ∙ ap (λ t. t && list_all continues_name (letters name)) (letter_continues b both.0)
    ∙ letters_continue name both.1

-- the name of a symbol that the compiler made, without its `$`
made_begins : (name : List ℕ) → list_all is_named name ≡ true → has_digit_second name ≡ false → is_name (letters (drop 1 name) ++ codes ".") ≡ true
made_begins [] h k = refl
made_begins (d ∷ []) h k = refl
made_begins (d ∷ b ∷ rest) h k =
    let tail = (and_both (is_named d) (list_all is_named (b ∷ rest)) h).1 in
    let both = and_both (is_named b) (list_all is_named rest) tail in
    by_dollar (b == 36) refl both.0 (letters_continue rest both.1)
  where
    by_dollar : (t : Bool) → (b == 36) ≡ t → is_named b ≡ true → list_all continues_name (letters rest) ≡ true
        → is_name (cond t (codes ".S.") (b ∷ []) ++ letters rest ++ codes ".") ≡ true
    by_dollar true e n more = name_goes_on (codes ".S." ++ letters rest) (codes ".") (name_goes_on (codes ".S.") (letters rest) refl more) refl
    by_dollar false e n more =
        name_goes_on ((b ∷ []) ++ letters rest) (codes ".")
        (name_goes_on (b ∷ []) (letters rest) (ap (λ t. t && true) (named_begins b n e k)) more) refl

no_digit : (m d : Bool) → not (m && d) ≡ true → m ≡ true → d ≡ false
no_digit true true h e = cc
no_digit true false h e = refl
no_digit false d h e = cc

owned_named : (name : List ℕ) (owner : ℕ) → name_fits name ≡ true → owner < 2 ^ 32 → is_name (owned_name name owner) ≡ true
owned_named name owner h small = by_number (is_numbered name)
  where
    all : list_all is_named name ≡ true
    all = (and_both (not (is_made name && has_digit_second name)) (list_all is_named name) h).1

    second : is_made name ≡ true → has_digit_second name ≡ false
    second e =
        no_digit (is_made name) (has_digit_second name) (and_both (not (is_made name && has_digit_second name)) (list_all is_named name) h).0 e

    owner_continues : (t : Bool) → list_all continues_name (cond t [] (codes ".." ++ decimal owner)) ≡ true
    owner_continues true = refl
    owner_continues false = list_all-append continues_name (codes "..") (decimal owner) ∙ decimal_continues owner small

    by_made : (t : Bool) → is_made name ≡ t
        → is_name (cond t (letters (drop 1 name) ++ codes "." ++ decimal owner) (codes "_" ++ letters name ++ owner_text owner)) ≡ true
    by_made true e = numbered (letters (drop 1 name) ++ codes ".") owner (made_begins name all (second e)) small
    by_made false e =
        name_goes_on (codes "_" ++ letters name) (owner_text owner) (name_goes_on (codes "_") (letters name) refl (letters_continue name all))
        (owner_continues (owner == 0))

    by_number : (t : Bool)
        → is_name (cond t (codes "_.n" ++ letters name ++ codes "." ++ decimal owner)
        (cond (is_made name) (letters (drop 1 name) ++ codes "." ++ decimal owner) (codes "_" ++ letters name ++ owner_text owner))) ≡ true
    by_number true =
        numbered (codes "_.n" ++ letters name ++ codes ".") owner
        (name_goes_on (codes "_.n" ++ letters name) (codes ".") (name_goes_on (codes "_.n") (letters name) refl (letters_continue name all)) refl) small
    by_number false = by_made (is_made name) refl

pub symbol_named : (symbols : List Symbol) (number : ℕ) → symbol_fits symbols number ≡ true → is_name (symbol_text symbols number) ≡ true
symbol_named symbols number h = by_entry (slice_get symbols (resolved symbols number)) h
  where
    by_entry : (o : Option Symbol) → unwrap_or (option_map (λ s. name_fits s.name.now && is_word s.owner) o) false ≡ true
        → is_name (unwrap_or (option_map (λ s. owned_name s.name.now s.owner) o) []) ≡ true
    by_entry None h = cc
    by_entry (Some s) h =
        let both = and_both (name_fits s.name.now) (is_word s.owner) h in
        owned_named s.name.now s.owner both.0 (ltb-true s.owner (2 ^ 32) both.1)
