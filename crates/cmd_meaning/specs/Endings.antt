-- How a run of the meaning ends, beside the marks of its states.
use Rattle.std.specs.Prelude.{ℕ, List, ◌++◌, codes, Option, Some, None}
use Rattle.mx_source.specs.Meaning.{Mark, Going, Halted, Stuck, State}
use Rattle.mx_text.specs.Text.{count_line, console_lines}
use Rattle.cmd_meaning.specs.Told.{mark_text, last_text}
use Rattle.cmd_meaning.specs.declared.steps.Progress.{Progress}
use Rattle.cmd_meaning.specs.declared.steps.Ending.{Ending}
use Rattle.cmd_meaning.specs.declared.steps.Ending.TheVariants as ending

-- how the run stands
abbrev pub mark_of : Ending → Mark
mark_of ending.Running = Going
mark_of ending.Halted = Halted
mark_of (ending.Stuck why) = Stuck why

-- how it stands after a step that ended it, or did not
abbrev pub mark_after : Option Ending → Mark
mark_after None = Going
mark_after (Some e) = mark_of e

-- the text of a run, by the progress that the code keeps
unfoldable pub told_text : List ℕ → State → List ℕ → Progress → List ℕ
told_text lines s console progress =
    ((mark_text lines s.index (mark_of progress.ending) ++ count_line (codes "steps") progress.steps) ++ console_lines console)
    ++ last_text (mark_of progress.ending) s
