-- The words of a line: its tokens, with what they say.
use Rattle.std.specs.Prelude.{ℕ, Bool, List, [], ◌∷◌, map, slice_range, Result, Ok, Err, if◌then◌else◌, ◌==◌, ◌||◌, not, false}
use Rattle.std.specs.Borrow.{Bor}
use Rattle.mx_lex.specs.Bytes.{is_allowed}
use Rattle.mx_lex.specs.Tokens.{tokens_of}
use Rattle.mx_lex.specs.declared.token.Token.{Token}
use Rattle.mx_lex.specs.declared.token.Kind.{Kind}
use Rattle.mx_lex.specs.declared.token.LexFault.{LexFault}
use Rattle.mx_lex.specs.declared.token.Kind.TheVariants as kinds
use Rattle.mx_lines.specs.declared.fault.Fault.{Fault}
use Rattle.mx_lines.specs.declared.fault.Fault.TheVariants.{BadByte, BadToken}

-- a token with what it says
pub data Word : Type 0 where
  Name : (bytes : List ℕ) → Word
  Number : (negative : Bool) (value : ℕ) → Word
  Comma : Word
  Open : Word
  Close : Word
  Hash : Word
  Colon : Word
  End : Word

-- a name says its bytes
abbrev pub word_of : Kind → List ℕ → Word
word_of kinds.Name bytes = Name bytes
word_of (kinds.Number negative value) bytes = Number negative value
word_of kinds.Comma bytes = Comma
word_of kinds.Open bytes = Open
word_of kinds.Close bytes = Close
word_of kinds.Hash bytes = Hash
word_of kinds.Colon bytes = Colon
word_of kinds.End bytes = End

-- the word of a token of the line
abbrev pub word_at : List ℕ → Token → Word
word_at line t = word_of t.kind (slice_range line t.start t.end)

-- a byte before the comment may not stand in a line
abbrev pub has_bad_byte : List ℕ → Bool
has_bad_byte [] = false
has_bad_byte (b ∷ line) = if b == 59 then false else (not (is_allowed b) || has_bad_byte line)

-- the words of the tokens of a line
abbrev pub words_at : List ℕ → Result (List Token) LexFault → Result (List Word) Fault
words_at line (Ok tokens) = Ok (map (word_at line) tokens)
words_at line (Err fault) = Err BadToken

-- the words of a line, or why there are none
unfoldable pub words_of : List ℕ → Result (List Word) Fault
words_of line = if has_bad_byte line then Err BadByte else words_at line (tokens_of line)

-- the lines that the program keeps
abbrev pub texts : List (Bor (List ℕ)) → List (List ℕ)
texts lines = map (λ line. line.now) lines
