-- Which token of a line shows a fault of it. The tokens of a line stand at the places 0, 1 and so on.
use Rattle.std.specs.Prelude.{ℕ, zero, suc, ◌+◌, ◌-◌, Bool, true, false, not, ◌||◌, ◌&&◌, nat_lt, List, [], ◌∷◌, length, drop, unwrap_or, bytes_eq, Option, Some, None, Result, Ok, Err, if◌then◌else◌}
use Rattle.std.specs.List.{list_any, prefix_len}
use Rattle.mx_lex.specs.Bytes.{is_allowed, continues_name}
use Rattle.mx_lex.specs.Tokens.{next_token, tokens_of}
use Rattle.mx_lex.specs.declared.token.Token.{Token}
use Rattle.mx_lex.specs.declared.token.LexFault.{LexFault}
use Rattle.mx_lex.specs.declared.token.LexFault.TheVariants.{BadToken}
use Rattle.mx_lines.specs.declared.fault.Fault.{Fault}
use Rattle.mx_lines.specs.declared.fault.Fault.TheVariants as faults
use Rattle.mx_asm.specs.declared.position.Section.{Section}
use Rattle.mx_lines.specs.Words.{Word}
use Rattle.mx_asm.specs.Directives.{is_dotted}
use Rattle.mx_asm.specs.Positions.{front_names, statement_words, line_words}
use Rattle.mx_faults.specs.declared.span.Span.{Span}
use Rattle.mx_faults.specs.Forms.{Role, Form, AnInstruction, ADirective, form, shape, directive_shape, suits, is_no_register, is_outside, is_undefined, is_wrong_kind, moves_chain}
use Rattle.mx_faults.specs.Before.{defines, kind_in}
use Rattle.mx_faults.specs.Holding.{LineInText}

-- the bytes from one place to before another
abbrev pub span : ℕ → ℕ → Span
span start end = record { start = start; end = end }

-- the first byte that is neither a tab nor 32 to 126
abbrev pub byte_span : List ℕ → Span
byte_span line = span (prefix_len is_allowed line) (prefix_len is_allowed line + 1)

-- the byte at which no token begins, and the bytes of a name directly behind it
abbrev pub lex_fault_span : List ℕ → LexFault → Option Span
lex_fault_span line (BadToken at) = if nat_lt at (length line) then Some (span at (at + 1 + prefix_len continues_name (drop (at + 1) line))) else None
lex_fault_span line _ = None

abbrev pub no_token : List ℕ → Result (List Token) LexFault → Option Span
no_token line (Ok tokens) = None
no_token line (Err fault) = lex_fault_span line fault

-- what stands behind a token, if there is one
abbrev pub behind_token : Result Token LexFault → (ℕ → Result Token LexFault) → Result Token LexFault
behind_token (Ok t) next = next t.end
behind_token (Err fault) next = Err fault

-- the token so many tokens behind the next one
abbrev pub token_behind : ℕ → List ℕ → ℕ → Result Token LexFault
token_behind zero line at = next_token line at
token_behind (suc n) line at = behind_token (next_token line at) (token_behind n line)

abbrev pub span_of : Result Token LexFault → Option Span
span_of (Ok t) = Some (span t.start t.end)
span_of (Err fault) = None

-- the bytes of the token at a place of a line
abbrev pub token_span : List ℕ → ℕ → Option Span
token_span line place = span_of (token_behind place line 0)

-- a name is known, or is this label
abbrev pub with_label : List ℕ → (List ℕ → Bool) → List ℕ → Bool
with_label label known name = known name || (not (is_dotted label) && bytes_eq name label)

-- the place of the first label at the front that is known, or stands there before. A name takes two tokens, with its colon
abbrev pub first_known : (List ℕ → Bool) → ℕ → List (List ℕ) → Option ℕ
first_known known place [] = None
first_known known place (name ∷ names) = if not (is_dotted name) && known name then Some place else first_known (with_label name known) (place + 2) names

-- the place of the first name at the front that begins with `.`
abbrev pub first_dotted : ℕ → List (List ℕ) → Option ℕ
first_dotted place [] = None
first_dotted place (name ∷ names) = if is_dotted name then Some place else first_dotted (place + 2) names

-- the place of the first word that is not of the kind that stands in its place, or is one too many: 0, the statement's name, where there is none such
abbrev pub first_misfit : ℕ → List Role → List Word → ℕ
first_misfit place (role ∷ roles) (word ∷ words) = if suits role word then first_misfit (place + 1) roles words else place
first_misfit place [] (word ∷ words) = place
first_misfit place _ [] = 0

-- a word in its place shows a fault
abbrev pub shows : (List ℕ → Option Section) → Fault → Role × Word → Bool
shows kind faults.BadRegister operand = is_no_register operand
shows kind faults.NumberOutOfRange operand = is_outside operand
shows kind faults.UndefinedLabel operand = is_undefined kind operand
shows kind faults.WrongLabelKind operand = is_wrong_kind kind operand
shows kind faults.SystemInstruction operand = moves_chain operand
shows kind _ operand = false

-- the place of the first word that shows a fault: 0, the statement's name, where none does
abbrev pub first_shown : (List ℕ → Option Section) → Fault → ℕ → List Role → List Word → ℕ
first_shown kind fault place (role ∷ roles) (word ∷ words) = if shows kind fault (role, word) then place else first_shown kind fault (place + 1) roles words
first_shown kind fault place [] (word ∷ words) = 0
first_shown kind fault place _ [] = 0

-- what stands in the places behind a statement's name, if that is known
abbrev pub places : Form → Option (List Role)
places (AnInstruction (Some mnemonic) words) = Some (shape mnemonic)
places (ADirective (Some directive) words) = Some (directive_shape directive words)
places _ = None

-- the words behind a statement's name
abbrev pub behind_name : List Word → List Word
behind_name [] = []
behind_name (name ∷ words) = words

-- a fault of the shape of a statement
abbrev pub is_of_shape : Fault → Bool
is_of_shape faults.BadOperands = true
is_of_shape faults.BadDirective = true
is_of_shape _ = false

-- the place in a statement of the word that shows a fault, by the places behind its name
abbrev pub shown_by : (List ℕ → Option Section) → Fault → Option (List Role) → List Word → ℕ
shown_by kind fault None words = 0
shown_by kind fault (Some roles) words = if is_of_shape fault then first_misfit 1 roles words else first_shown kind fault 1 roles words

-- the place in a statement of the word that shows a fault
abbrev pub shown_in : (List ℕ → Option Section) → Fault → List Word → ℕ
shown_in kind fault statement = shown_by kind fault (places (form statement)) (behind_name statement)

-- its place in the line
abbrev pub statement_place : (List ℕ → Option Section) → Fault → List Word → ℕ
statement_place kind fault words = length words - length (statement_words words) + shown_in kind fault (statement_words words)

-- the place of the token that shows a fault of a line of these words, if one does, where a label at the front is defined before at the place `again`
abbrev pub place_of : Option ℕ → (List ℕ → Option Section) → List Word → Fault → Option ℕ
place_of again kind words faults.DuplicateLabel = again
place_of again kind words faults.BadDirective = Some (unwrap_or (first_dotted 0 (front_names words)) (statement_place kind faults.BadDirective words))
place_of again kind words faults.TooManyInstructions = None
place_of again kind words faults.DataFull = None
place_of again kind words faults.LineTooLong = None
place_of again kind words fault = Some (statement_place kind fault words)

abbrev pub span_at : List ℕ → Option ℕ → Option Span
span_at line None = None
span_at line (Some place) = token_span line place

-- the bytes that show a fault of a line, where names have these kinds in the text
abbrev pub span_by : Option ℕ → (List ℕ → Option Section) → List ℕ → Fault → Option Span
span_by again kind line faults.BadByte = Some (byte_span line)
span_by again kind line faults.BadToken = no_token line (tokens_of line)
span_by again kind line fault = span_at line (place_of again kind (line_words line) fault)

-- the bytes of a line within its text that show a fault of it, where one token does:
-- F1 the byte; F2 what is no token; F3 the name; F4 the first word that is not of the kind of its place or is too many, or else the first word of the
-- statement; F5 and F6 the first such name or number; F7 the label at the front; F8 and F9 the label in the operand; F10 the name of the special word, or
-- else that of the instruction; F11 the label, or what F4 has
abbrev pub fault_span : LineInText → Fault → Option Span
fault_span l fault =
    let again = first_known (λ name. list_any (defines name) l.before) 0 (front_names (line_words l.line)) in
    span_by again (kind_in l.all) l.line fault
