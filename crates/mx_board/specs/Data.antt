-- What the data memory answers to user code and to the system, whoever keeps it.
use Rattle.std.specs.Prelude.{ℕ, ◌-◌, ◌%◌, Bool, cond, eqb, leb, ltb, not, ◌&&◌, Option, Some, None, List, slice_index}
use Rattle.mx_isa.specs.declared.board.TheConstants.{DATA_BASE, DATA_END, CONSOLE, INPUT}
use Rattle.mx_isa.specs.Words.{Words, put}
use Rattle.mx_isa.specs.Effect.{Bus}
use Rattle.mx_isa.specs.UserBus.{plain_word, from_input}
use Rattle.mx_board.specs.Contents.{Contents}

-- the address of a word of user data, which user code and the system both read and write
abbrev pub is_user_data : ℕ → Bool
is_user_data a = leb DATA_BASE a && ltb a DATA_END

-- below the user data, user code reads the input and 0 elsewhere, and writes nothing; the system reads and writes the words below the console;
-- a store to the console is a byte of the console for both
abbrev pub board : Bool → Option (List ℕ) → Bus
board user input = record {
  load = λ m taken a.
      cond (is_user_data a) (plain_word (m a))
      (cond user (cond (eqb a INPUT) (from_input input taken) (plain_word 0)) (plain_word (cond (ltb a CONSOLE) (m a) 0)));
  store = λ m a v. cond (is_user_data a) (put m a v) (cond (not user && ltb a CONSOLE) (put m a v) m);
  byte = λ a v. cond (eqb a CONSOLE) (Some (v % 256)) None;
}

-- the words of a board, 0 beyond its last
abbrev pub words_of : Contents → Words
words_of b = slice_index b.words

-- the words before the first cycle: these from the first of user data on, and 0 elsewhere
abbrev pub words_at_start : List ℕ → Words
words_at_start user_data a = cond (leb DATA_BASE a) (slice_index user_data (a - DATA_BASE)) 0
