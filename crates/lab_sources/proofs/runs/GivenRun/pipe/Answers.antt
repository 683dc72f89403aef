-- The machine runs the program with the input that is asked for, which is that of the run.
use Rattle.std.proofs.Common.{ℕ, List, subst}
use Rattle.std.specs.Prelude.{[], Option}
use Rattle.mx_icache.specs.LineSets.{CacheHolds}
use Rattle.mx_turn.specs.Handler.{shipped}
use Rattle.mx_turn.specs.Program.{program_of}
use Rattle.mx_pipe.specs.Kept.{StandsFor}
use Rattle.lab_watch.specs.Within.{within}
use Rattle.lab_sources.proofs.runs.GivenRun.pipe.Goals as goal

pub returns : goal.returns
returns g c =
    let image = c.args.self.now.program.linked.image in
    subst
    (λ (o : Option (List ℕ)). StandsFor CacheHolds (within c.in_ok-pipe.pipe) (program_of shipped image.code.items image.user_data.items o) [])
    c.asked_input-input.ensures.given
    c.in_ok-pipe.ensures
