-- How far a line has been read, and the bytes of its next token.
use Rattle.std.specs.Prelude.{ℕ, List, length, ◌≤◌, ◌<◌, ◌≢◌}
use Rattle.mx_lex.specs.declared.token.Token.{Token}
use Rattle.mx_lex.specs.declared.token.Kind.TheVariants.{End}

-- a line, and the place up to which it has been read
pub record Reading : Type 0 where
  pub line : List ℕ
  pub at : ℕ

-- the bytes of a token: from a place on or later, up to an end within the line, and at least one unless the line ends
pub record IsSpan (line : List ℕ) (at : ℕ) (t : Token) : Type 0 where
  pub after : at ≤ t.start
  pub ordered : t.start ≤ t.end
  pub within : t.end ≤ length line
  pub taken : t.kind ≢ End → t.start < t.end
