-- Lines and data that the translation looked at fit, and so their text reads back.
use Rattle.std.proofs.Common.{◌≡◌, ℕ, ◌^◌, ◌≤◌, ◌<◌, Bool, true, false, ◌&&◌, ◌||◌, List, ◌++◌, length, Option, Some, None, Ok, sym, ap, ◌∙◌, subst, arith, Bor}
use Rattle.std.specs.Prelude.{All, leb, nat_le, nat_lt, ℤ, pos, negsuc}
use Rattle.std.specs.List.{list_all}
use Rattle.std.proofs.lemmas.Bool.{ltb-true, leb-true}
use Rattle.std.proofs.lemmas.Bool.Decides.{nat_tests}
use Rattle.std.proofs.lemmas.Grind.{flat_map-append}
use Rattle.std.proofs.lemmas.List.Elements.{All-append}
use Rattle.mx_isa.specs.Fields.{IsSignedField}
use Rattle.mx_isa.specs.Registers.{IsRegister}
use Rattle.mx_source.specs.SourceValue.{SourceValue}
use Rattle.mx_lines.specs.declared.labels.TheConstants.{PAST_END}
use Rattle.mx_asm.specs.Texts.{ReadsAs as TextReadsAs}
use Rattle.mx_asm.proofs.Spelled.{and_both}
use Rattle.cc_program.specs.declared.program.Program.{Program}
use Rattle.cc_program.specs.declared.symbols.Symbol.{Symbol}
use Rattle.cc_emit.specs.declared.line.Line.{Line}
use Rattle.cc_emit.specs.declared.line.Line.TheVariants.{Plain as PlainLine, Transfer as TransferLine, Constant, Take, Mark, Told, Written}
use Rattle.cc_emit.specs.declared.line.Plain.{Plain}
use Rattle.cc_emit.specs.declared.line.Plain.TheVariants.{Compute, Move, Not, Addi, Asr, Sh, Load, Store}
use Rattle.cc_emit.specs.declared.line.Target.{Target}
use Rattle.cc_emit.specs.declared.line.Target.TheVariants.{Symbol as SymbolTarget, Routine as RoutineTarget, Shifted, Skip}
use Rattle.cc_emit.specs.declared.line.Transfer.{Transfer}
use Rattle.cc_emit.specs.declared.line.Transfer.TheVariants.{Branch, Jump, Call, CallReg, JumpReg, Halt}
use Rattle.cc_emit.specs.declared.line.Word.{Word}
use Rattle.cc_emit.specs.declared.line.Word.TheVariants.{Number, End, Stack, Shifts, Mask}
use Rattle.cc_emit.specs.declared.output.Output.{Output}
use Rattle.cc_emit.specs.Lines.{is_short, file_name, line_text, lines_text}
use Rattle.cc_fits.specs.Fits.{is_register, is_count, is_byte, is_word, is_one_line, file_fits, plain_fits, word_fits, target_fits, transfer_fits, line_fits, object_fits, data_fits}
use Rattle.cc_fits.specs.Translations.{HasLines, IsTranslation}
use Rattle.law_emit.specs.Lines.{DataFits, resolve}
use Rattle.law_emit.specs.Reading.{PlainFits, WordFits, TargetFits, TransferFits, FileFits, LineFits}
use Rattle.law_emit.specs.Routines.{routine_lines}
use Rattle.law_emit.proofs.Data.{source_read}
use Rattle.law_emit.proofs.FitData.{checked, image_good}
use Rattle.law_emit.proofs.FitNames.{symbol_named}
use Rattle.law_emit.proofs.Routines.{routines_fit, routines_same}

-- two and three tests that hold
two : {P Q : Type 0} (x y : Bool) → (x ≡ true → P) → (y ≡ true → Q) → (x && y) ≡ true → P × Q
two x y f g h = let both = and_both x y h in (f both.0, g both.1)

three : {P Q R : Type 0} (x y z : Bool) → (x ≡ true → P) → (y ≡ true → Q) → (z ≡ true → R) → (x && y && z) ≡ true → P × Q × R
three x y z f g k h =
    let both = and_both (x && y) z h in
    let first = and_both x y both.0 in
    (f first.0, g first.1, k both.1)

four : {P Q R S : Type 0} (x y z w : Bool) → (x ≡ true → P) → (y ≡ true → Q) → (z ≡ true → R) → (w ≡ true → S) → (x && y && z && w) ≡ true
    → P × Q × R × S
four x y z w f g k l h =
    let both = and_both (x && y && z) w h in
    let second = and_both (x && y) z both.0 in
    let first = and_both x y second.0 in
    (f first.0, g first.1, k second.1, l both.1)

-- numbers
register_in : (r : ℕ) → is_register r ≡ true → IsRegister r
register_in r h = let l = ltb-true r 32 h in omega (arith, l)

count_in : (n : ℕ) → is_count n ≡ true → n ≤ 31
count_in n h = let l = ltb-true n 32 h in omega (arith, l)

byte_in : (n : ℕ) → is_byte n ≡ true → n < 2 ^ 8
byte_in n h = ltb-true n 256 h

word_in : (n : ℕ) → is_word n ≡ true → n < 2 ^ 32
word_in n h = ltb-true n (2 ^ 32) h

short_in : (z : ℤ) → is_short z ≡ true → IsSignedField 16 z
short_in (pos v) h = let l = leb-true v 65535 (and_both true (leb v 65535) h).1 in omega arith
short_in (negsuc v) h = let l = leb-true v 65535 (and_both (leb v 65535) true h).0 in omega arith

-- lines
plain_in : (plain : Plain) → plain_fits plain ≡ true → PlainFits plain
plain_in (Compute op a b rd) h = three (is_register a) (is_register b) (is_register rd) (register_in a) (register_in b) (register_in rd) h
plain_in (Move rs rd) h = two (is_register rs) (is_register rd) (register_in rs) (register_in rd) h
plain_in (Not rs rd) h = two (is_register rs) (is_register rd) (register_in rs) (register_in rd) h
plain_in (Addi rs number rd) h = three (is_register rs) (is_short number) (is_register rd) (register_in rs) (short_in number) (register_in rd) h
plain_in (Asr rs count rd) h = three (is_register rs) (is_count count) (is_register rd) (register_in rs) (count_in count) (register_in rd) h
plain_in (Sh a b count rd) h =
    four (is_register a) (is_register b) (is_count count) (is_register rd) (register_in a) (register_in b) (count_in count) (register_in rd) h
plain_in (Load words base rd) h = three (is_short words) (is_register base) (is_register rd) (short_in words) (register_in base) (register_in rd) h
plain_in (Store words base rs) h = three (is_short words) (is_register base) (is_register rs) (short_in words) (register_in base) (register_in rs) h

label_in : (word : Word) → word_fits word ≡ true → WordFits word
label_in (Number n) h = word_in n h
label_in (End addend) h = word_in addend h
label_in Stack h = tt
label_in (Shifts op) h = tt
label_in (Mask mask) h = tt

target_in : (symbols : List Symbol) (target : Target) → target_fits symbols target ≡ true → TargetFits symbols target
target_in symbols (SymbolTarget number) h = symbol_named symbols number h
target_in symbols (RoutineTarget routine) h = tt
target_in symbols (Shifted routine count) h = byte_in count h
target_in symbols (Skip number) h = word_in number h

transfer_in : (symbols : List Symbol) (transfer : Transfer) → transfer_fits symbols transfer ≡ true → TransferFits symbols transfer
transfer_in symbols (Branch condition a b to) h =
    three (is_register a) (is_register b) (target_fits symbols to) (register_in a) (register_in b) (target_in symbols to) h
transfer_in symbols (Jump to) h = target_in symbols to h
transfer_in symbols (Call to link) h = two (target_fits symbols to) (is_register link) (target_in symbols to) (register_in link) h
transfer_in symbols (CallReg rs link) h = two (is_register rs) (is_register link) (register_in rs) (register_in link) h
transfer_in symbols (JumpReg rs) h = register_in rs h
transfer_in symbols Halt h = tt

short_name : (n : ℕ) → nat_le n 160 ≡ true → nat_lt 160 n ≡ false
short_name n h = grind (arith, nat_tests)

file_in : (o : Option (Bor (List ℕ))) → file_fits o ≡ true → FileFits o
file_in None h = tt
file_in (Some name) h = λ short. ap (λ t. t || is_one_line name.now) (sym (short_name (length name.now) short)) ∙ h

line_in : (p : Program) (line : Line) → line_fits p line ≡ true → LineFits p line
line_in p (PlainLine plain) h = plain_in plain h
line_in p (Constant value rd) h = two (is_word value) (is_register rd) (word_in value) (register_in rd) h
line_in p (Take word base rd) h =
    three (word_fits word) (is_register base) (is_register rd) (label_in word) (register_in base) (register_in rd) h
line_in p (TransferLine transfer) h = transfer_in p.symbols.list.items transfer h
line_in p (Mark target) h = target_in p.symbols.list.items target h
line_in p (Told unit file line) h =
    two (file_fits (file_name p unit file)) (is_word line) (file_in (file_name p unit file)) (word_in line) h
line_in p (Written text) h = cc

-- the lines of an output, where those of the routines are written as they are in `routine_lines`
abbrev pub all_lines : (p : Program) (out : Output) → HasLines p out → List Line
all_lines p out has = has.lines ++ routine_lines has.called

lines_fit : (p : Program) (out : Output) (has : HasLines p out) → All (LineFits p) (all_lines p out has)
lines_fit p out has =
    All-append (LineFits p) has.lines (routine_lines has.called) (checked (line_fits p) (LineFits p) (line_in p) has.lines has.fit) (routines_fit p has.called)

lines_same : (p : Program) (out : Output) (has : HasLines p out) → lines_text p out.lines.items ≡ lines_text p (all_lines p out has)
lines_same p out has =
    ap (lines_text p) has.added.1
    ∙ flat_map-append (line_text p) has.lines has.added.0
    ∙ ap (λ t. lines_text p has.lines ++ t) (has.added.2 p ∙ sym (routines_same p has.called))
    ∙ sym (flat_map-append (line_text p) has.lines (routine_lines has.called))

data_in : (p : Program) (out : Output) (behind end : ℕ) → data_fits p out ≡ true → end < 2 ^ 32 → DataFits p out behind end
data_in p out behind end h last =
    let objects = list_all (object_fits p.symbols.list.items) p.objects.items in
    let numbers = list_all is_word out.numbers.keys in
    let ends = list_all is_word out.ends.keys in
    let first = and_both objects (numbers && ends && is_word out.statements && is_word out.instructions) h in
    let added = and_both (numbers && ends && is_word out.statements) (is_word out.instructions) first.1 in
    let counted = and_both (numbers && ends) (is_word out.statements) added.0 in
    let listed = and_both numbers ends counted.0 in
    let image = image_good p behind end first.0 in
    record {
      bytes = image.0;
      said = image.1;
      numbers = checked is_word (λ n. n < 2 ^ 32) word_in out.numbers.keys listed.0;
      ends = checked is_word (λ n. n < 2 ^ 32) word_in out.ends.keys listed.1;
      statements = word_in out.statements counted.1;
      instructions = word_in out.instructions added.1;
      last = last;
    }

-- the text of a translation
pub translation_read : (text : List ℕ) (t : IsTranslation text) (address limit : ℕ) → address ≤ PAST_END → (source : SourceValue)
    → TextReadsAs address limit text source → resolve source.labels t.program (t.lines.lines ++ routine_lines t.lines.called) ≡ Ok source.statements
translation_read text t address limit near source h =
    source_read t.program t.out t.behind t.printed.end (all_lines t.program t.out t.lines) (lines_fit t.program t.out t.lines)
    (lines_same t.program t.out t.lines) (data_in t.program t.out t.behind t.printed.end t.printed.fit t.printed.last) address limit near source
    (subst (λ x. TextReadsAs address limit x source) t.printed.source h)
