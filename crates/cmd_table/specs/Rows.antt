-- What the private calls see of the table in the code.
use Rattle.std.specs.Prelude.{Option}
use Rattle.cmd_line.specs.Command.{texts}
use Rattle.cmd_table.specs.declared.command.Row.{Row}
use Rattle.cmd_table.specs.declared.command.Form.{Form}
use Rattle.cmd_table.specs.declared.command.Form.TheVariants as form
use Rattle.cmd_table.specs.Commands.{Command}
use Rattle.cmd_table.specs.Asked as asked
use Rattle.cmd_table.specs.Asked.{Words, run_of, meaning_of, build_of, exec_of, list_of, gen_of, soak_of, migrate_of, share_of, debug_of, best_of, join_of}

-- what is made of the words that were read
abbrev pub reads_of : Form → Words → Option Command
reads_of form.Run = run_of
reads_of form.Meaning = meaning_of
reads_of form.Build = build_of
reads_of form.Exec = exec_of
reads_of form.List = list_of
reads_of form.Best = best_of
reads_of form.Gen = gen_of
reads_of form.Soak = soak_of
reads_of form.Migrate = migrate_of
reads_of form.Share = share_of
reads_of form.Debug = debug_of
reads_of form.Join = join_of

abbrev pub seen_row : Row → asked.Row
seen_row row = record { word = row.word.now; options = texts row.options.now; fewest = row.fewest; most = row.most; reads = reads_of row.form }
