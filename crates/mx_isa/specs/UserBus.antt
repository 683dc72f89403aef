-- What user code reaches at a place: its own data words, the console, and the input, if there is one.
use Rattle.std.specs.Prelude.{ℕ, ◌%◌, Bool, false, cond, eqb, leb, ltb, ◌&&◌, Option, Some, None, List}
use Rattle.mx_isa.specs.declared.place.Place.{Place}
use Rattle.mx_isa.specs.Words.{put}
use Rattle.mx_isa.specs.Effect.{Found, Bus, next_byte}

-- the address of a word of user data
abbrev pub is_user : Place → ℕ → Bool
is_user p a = leb p.user_data a && ltb a p.end

-- a word that takes no byte of the input
abbrev pub plain_word : ℕ → Found
plain_word w = record { word = w; takes = false }

-- what a load of input finds; 0 where there is no input
abbrev pub from_input : Option (List ℕ) → ℕ → Found
from_input None taken = plain_word 0
from_input (Some bytes) taken = next_byte bytes taken

abbrev pub user_bus : Place → Option (List ℕ) → Bus
user_bus p input = record {
  load = λ m taken a. cond (is_user p a) (plain_word (m a)) (cond (eqb a p.input) (from_input input taken) (plain_word 0));
  store = λ m a v. cond (is_user p a) (put m a v) m;
  byte = λ a v. cond (eqb a p.console) (Some (v % 256)) None;
}
