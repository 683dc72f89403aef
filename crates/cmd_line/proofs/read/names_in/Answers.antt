use Rattle.std.proofs.Common.{◌≡◌, [], List, ◌∙◌, ap}
use Rattle.std.specs.Prelude.{Option, Some, None, option_map, unwrap_or}
use Rattle.clap.specs.Words.{Text, all_of, rows_of, found_of, raw_values, matched_of}
use Rattle.clap.specs.declared.parser.matches.Found.{Found}
use Rattle.clap.proofs.WalkLemmas.{raw_values-rows}
use Rattle.cmd_line.specs.Command.{names_id, texts}
use Rattle.cmd_line.proofs.read.names_in.Goals as goal

-- what `get_strs` gives
names_are : (r : Option (List Text)) (f : Found) → r ≡ option_map raw_values (matched_of f names_id)
    → unwrap_or r [] ≡ unwrap_or (all_of names_id (rows_of f)) []
names_are r f e = ap (λ x. unwrap_or x []) (e ∙ raw_values-rows f names_id)

pub returns-in-None : goal.returns-in-None
returns-in-None c = ap texts c.new.ensures.items ∙ names_are None (found_of c.args.matches.now) c.in-None.ensures

pub returns-in-Ok : goal.returns-in-Ok
returns-in-Ok c = ap texts c.in-Ok.ensures.items ∙ names_are (Some (texts c.in-Some.names.now)) (found_of c.args.matches.now) c.in-Some.ensures
