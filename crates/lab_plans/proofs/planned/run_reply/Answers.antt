use Rattle.std.proofs.Common.{None, ap, ◌∙◌}
use Rattle.std.specs.Option.{option_copied}
use Rattle.mx_source.specs.Meaning.{given}
use Rattle.mx_turn.specs.Handler.{shipped}
use Rattle.mx_turn.specs.Program.{program_of}
use Rattle.cmd_simulate.specs.Simulated.{image_answer}
use Rattle.lab_plans.proofs.Reported.{report_is}
use Rattle.lab_plans.proofs.planned.run_reply.Goals as goal

pub returns : goal.returns
returns g c =
    let requests = c.args.requests.now in
    let budget = c.args.budget in
    let code = c.args.linked.now.image.code.items in
    let user_data = c.args.linked.now.image.user_data.items in
    c.in_ok-run.ensures (program_of shipped code user_data (option_copied c.given_to-given.result)) c.in_ok-machine.ensures
    ∙ ap (λ o. image_answer code user_data o requests (record { budget = budget; trace = 0; dump = None; count = 1 })) c.given_to-given.ensures
    ∙ report_is code user_data (given c.args.source.now.input c.args.input.now) requests budget
