-- The rules that `clap` is given, and the names under which it keeps what it read.
use Rattle.std.specs.Prelude.{◌≡◌, ◌≢◌, codes, Option, Some, None, true, List, [], ◌∷◌, map}
use Rattle.std.specs.Borrow.{Bor}
use Rattle.clap.specs.Words.{App, Rule, Text, new_app, new_rule, fault_of, matches_of, rows_of, found_of}
use Rattle.clap.specs.declared.parser.matches.ArgMatches.{ArgMatches}
use Rattle.clap.specs.Simple.{on_top}
use Rattle.clap.specs.declared.builder.ArgAction.TheVariants.{Set, Append}

-- the texts behind references
abbrev pub texts : List (Bor Text) → List Text
texts = map (λ s. s.now)

-- an option with one value
abbrev pub option_rule : Text → Rule
option_rule name = record (new_rule name) { long = Some name; action = Some Set }

-- under which id the names are kept
abbrev pub names_id : Text
names_id = codes "NAMES"

-- all names, as one argument
abbrev pub names_rule : Rule
names_rule = record (new_rule names_id) { action = Some Append }

-- the command before it has any argument
abbrev pub bare_command : App
bare_command = on_top (λ s. record s { no_binary_name = true; disable_help_flag = true; disable_version_flag = true }) (new_app (codes "words"))

-- what a parse reads of the command with these options
abbrev pub command_for : List Text → App
command_for options = on_top (λ s. record s { rules = names_rule ∷ map option_rule options }) bare_command

-- what a parse answers at the words: none where it fails, and else the rows that `clap` says
abbrev pub IsParse : List Text → List Text → Option ArgMatches → Type 0
IsParse options words None = fault_of (command_for options) words ≢ []
IsParse options words (Some found) = (fault_of (command_for options) words ≡ []) × (rows_of (found_of found) ≡ matches_of (command_for options) words)
