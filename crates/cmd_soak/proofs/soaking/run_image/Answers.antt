use Rattle.std.proofs.Common.{None}
use Rattle.std.proofs.lemmas.Result.{IfOk-weaker}
use Rattle.mx_turn.specs.Handler.{shipped}
use Rattle.mx_turn.specs.Program.{Program, program_of}
use Rattle.cmd_soak.proofs.soaking.run_image.Goals as goal

pub returns-clause-counts : goal.returns-clause-counts
returns-clause-counts c =
    let p : Program = program_of shipped c.args.image.now.code.items c.args.image.now.user_data.items None in
    IfOk-weaker c.drive.result _ _ (λ d e. e p c.in_ok-machine.ensures) c.drive.ensures.counts

pub returns-clause-console : goal.returns-clause-console
returns-clause-console c =
    let p : Program = program_of shipped c.args.image.now.code.items c.args.image.now.user_data.items None in
    IfOk-weaker c.drive.result _ _ (λ d e. e p c.in_ok-machine.ensures) c.drive.ensures.console
