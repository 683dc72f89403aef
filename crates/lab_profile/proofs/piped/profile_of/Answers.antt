use Rattle.std.proofs.Common.{subst}
use Rattle.std.specs.Option.{option_copied}
use Rattle.mx_turn.specs.Handler.{shipped}
use Rattle.mx_turn.specs.Program.{Program, program_of}
use Rattle.lab_profile.specs.Tallies.{IsProfile}
use Rattle.lab_profile.proofs.piped.profile_of.Goals as goal

pub returns : goal.returns
returns g c =
    let image = c.args.image.now in
    let p : Program = program_of shipped image.code.items image.user_data.items (option_copied c.args.input) in
    subst (λ words. IsProfile p c.args.requests.now words c.args.budget c.in_ok-profile.profile) c.len.ensures
    (c.in_ok-profile.ensures.profile p c.in_ok-machine.ensures)
