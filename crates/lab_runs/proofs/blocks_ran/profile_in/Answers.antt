-- The profile is that of the program with the input that is asked for, which is that of the run.
use Rattle.std.proofs.Common.{ℕ, List, subst}
use Rattle.std.specs.Prelude.{Option}
use Rattle.mx_turn.specs.Handler.{shipped}
use Rattle.mx_turn.specs.Program.{program_of}
use Rattle.lab_profile.specs.Tallies.{IsProfile}
use Rattle.lab_runs.specs.Ran.{words_of}
use Rattle.lab_runs.proofs.blocks_ran.profile_in.Goals as goal

pub returns : goal.returns
returns g c =
    let run = c.args.run.now in
    let image = run.program.linked.image in
    subst
    (λ (o : Option (List ℕ)). IsProfile (program_of shipped image.code.items image.user_data.items o) run.stimulus.requests (words_of run) run.budget
    c.in_ok-profile.profile)
    c.asked_input-input.ensures.given
    c.in_ok-profile.ensures
