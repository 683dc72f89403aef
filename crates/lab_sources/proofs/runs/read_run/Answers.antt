-- The run is made of what each step gave.
use Rattle.std.proofs.Common.{◌∙◌}
use Rattle.lab_sources.proofs.Asked.{is_run}
use Rattle.lab_sources.proofs.runs.read_run.Goals as goal

pub returns-clause-run : goal.returns-clause-run
returns-clause-run g c =
    is_run {program = c.in_ok-read.read} (record {
      first_tells = c.in_ok-read.ensures.told_stays;
      then_tells = c.in_ok-made.ensures.told_stays ∙ c.in_ok-read.ensures.told_stays;
      source = c.in_ok-read.ensures.read;
      linked = c.in_ok-made.ensures.linked;
      same = c.in_ok-made.ensures.text;
      asked = c.in_ok-made.ensures.by;
      parts = c.in_ok-run.ensures.made;
      given = c.in_ok-run.ensures.given;
    })
