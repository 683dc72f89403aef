-- How the words of a command line are read: options, their values, and names.
use Rattle.std.specs.Prelude.{ℕ, List, [], ◌∷◌, ◌++◌, Bool, false, not, ◌==◌, ◌&&◌, leb, Option, Some, None, option_map, option_and_then, map, fold, find, length, if◌then◌else◌}
use Rattle.std.specs.List.{list_any, before_first, after_first}
use Rattle.std.specs.Str.{bytes_eq}

-- the bytes of a word or a name
abbrev pub Text : Type 0
Text = List ℕ

-- an option as it stands among the words: two or more bytes, of which the first is `-` (45)
abbrev pub is_option_word : Text → Bool
is_option_word [] = false
is_option_word (x ∷ []) = false
is_option_word (x ∷ y ∷ rest) = x == 45

-- what an option word is: `--` alone; `--NAME=VALUE`, or `--NAME` with no value in it; or one `-` before something else
pub data OptionWord : Type 0 where
  dashes : OptionWord
  long : Text → Option Text → OptionWord
  short : OptionWord

-- what stands after `--`: the name ends before the first `=` (61)
abbrev pub after_dashes : Text → OptionWord
after_dashes [] = dashes
after_dashes (x ∷ rest) = long (before_first (λ b. b == 61) (x ∷ rest))
    (if list_any (λ b. b == 61) (x ∷ rest) then Some (after_first (λ b. b == 61) (x ∷ rest)) else None)

-- what an option word is, by the byte after its first `-`
abbrev pub option_word : Text → OptionWord
option_word [] = short
option_word (x ∷ []) = short
option_word (x ∷ y ∷ rest) = if y == 45 then after_dashes rest else short

-- what was read: the names in order, and the options that were given, each with its value
pub record Reading : Type 0 where
  pub names : List Text
  pub given : List (Text × Text)

-- before the first word
abbrev pub nothing : Reading
nothing = record { names = []; given = [] }

-- one name more
abbrev pub with_name : Reading → Text → Reading
with_name q word = record q { names = q.names ++ word ∷ [] }

-- one option more, with its value
abbrev pub with_value : Reading → Text → Text → Reading
with_value q name value = record q { given = (name, value) ∷ q.given }

-- whether the option was given
abbrev pub is_given : Text → List (Text × Text) → Bool
is_given name given = list_any (λ p. bytes_eq p.0 name) given

-- the value that the option was given
abbrev pub value_of : Text → List (Text × Text) → Option Text
value_of name given = option_map (λ p. p.1) (find (λ p. bytes_eq p.0 name) given)

-- where the reading stands between two words: anything may come, this option's value comes, only names come, or the words
-- are refused
pub data State : Type 0 where
  ready : Reading → State
  awaits : Text → Reading → State
  trailing : Reading → State
  refused : State

-- a name of the command's options
abbrev pub is_known : List Text → Text → Bool
is_known options name = list_any (λ o. bytes_eq o name) options

-- `--NAME=VALUE` gives the value, `--NAME` awaits it
abbrev pub after_option : Reading → Text → Option Text → State
after_option q name (Some value) = ready (with_value q name value)
after_option q name None = awaits name q

-- each of the command's options comes at most once, and no other
abbrev pub after_option_word : List Text → Reading → OptionWord → State
after_option_word options q dashes = trailing q
after_option_word options q (long name value) =
    if is_known options name && not (is_given name q.given) then after_option q name value else refused
after_option_word options q short = refused

-- the reading goes over the words from left to right
abbrev pub after_word : List Text → State → Text → State
after_word options (ready q) word =
    if is_option_word word then after_option_word options q (option_word word) else ready (with_name q word)
after_word options (awaits name q) word = if is_option_word word then refused else ready (with_value q name word)
after_word options (trailing q) word = trailing (with_name q word)
after_word options refused word = refused

-- what was read once the words have ended: an option that awaits its value is refused
abbrev pub ended : State → Option Reading
ended (ready q) = Some q
ended (awaits name q) = None
ended (trailing q) = Some q
ended refused = None

-- what the words say of a command with these options, where they are not refused
abbrev pub reading : List Text → List Text → Option Reading
reading options words = ended (fold (after_word options) (ready nothing) words)

-- how many names a command takes
abbrev pub is_between : ℕ → ℕ → ℕ → Bool
is_between fewest most count = leb fewest count && leb count most

-- the names, and the value of each option in turn, where there are `fewest` to `most` names
abbrev pub answer : List Text → ℕ → ℕ → Reading → Option (List Text × List (Option Text))
answer options fewest most q =
    if is_between fewest most (length q.names) then Some (q.names, map (λ o. value_of o q.given) options) else None

-- what the words ask of a command with these options and that many names
abbrev pub asked : List Text → ℕ → ℕ → List Text → Option (List Text × List (Option Text))
asked options fewest most words = option_and_then (answer options fewest most) (reading options words)
