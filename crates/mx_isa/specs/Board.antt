-- The place of the board: code from 4096, user data from 256 to 65535, the console at 255 and the input at 254.
use Rattle.std.specs.Prelude.{◌≢◌, ℕ, Bool, true, false, eqb}
use Rattle.std.proofs.Common.{lit<, lit≤, subst}
use Rattle.mx_isa.specs.declared.place.Place.{Place}
use Rattle.mx_isa.specs.declared.board.TheConstants.{CODE_BASE, DATA_BASE, DATA_END, CONSOLE, INPUT}

-- a type that only true has
abbrev holds : Bool → Type 0
holds true = Unit {0}
holds false = ⊥

abbrev two_words : ◌≢◌ {A = ℕ} 254 255
two_words e = subst (λ n. holds (eqb 254 n)) e tt

abbrev pub board : Place
board = record {
  code = CODE_BASE;
  user_data = DATA_BASE;
  end = DATA_END;
  console = CONSOLE;
  input = INPUT;
  code_from = lit≤ tt;
  code_to = lit≤ tt;
  apart = two_words;
  console_below = lit< tt;
  input_below = lit< tt;
  ordered = lit≤ tt;
  within = lit≤ tt;
}
