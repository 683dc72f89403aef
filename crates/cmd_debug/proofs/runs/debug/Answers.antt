use Rattle.std.proofs.Common.{[], length, take, arith, ap, ◌∙◌}
use Rattle.std.specs.Option.{option_copied}
use Rattle.std.proofs.lemmas.List.{length-map, length-take}
use Rattle.mx_turn.specs.Handler.{shipped}
use Rattle.mx_turn.specs.Program.{Program, program_of}
use Rattle.cmd_answer.specs.Answer.{prints}
use Rattle.mx_debug.specs.Stops.{stop_at}
use Rattle.mx_debug.specs.Sessions.{Session, session, all_stops}
use Rattle.cmd_debug.specs.Texts.{session_text}
use Rattle.cmd_debug.specs.Sessions.{status_of, session_answer}
use Rattle.cmd_debug.proofs.runs.debug.Goals as goal

pub session_text-requires : goal.session_text-requires
session_text-requires c =
    let limits = c.args.limits.now in
    let p : Program = program_of shipped c.args.image.now.code.items c.args.image.now.user_data.items (option_copied c.args.input) in
    let s : Session = session p c.args.requests.now c.args.address limits.stops limits.watch limits.budget in
    let told = ap length (c.in_ok-stopped.ensures.stops p c.in_ok-machine.ensures)
    ∙ length-map (take limits.stops (all_stops s)) (stop_at p c.args.requests.now limits.watch) in
    let few = length-take limits.stops (all_stops s) in
    let most = c.requires.asked.stops in
    omega (arith, told, few, most)

pub returns : goal.returns
unfolding session_answer
returns c =
    let limits = c.args.limits.now in
    let p : Program = program_of shipped c.args.image.now.code.items c.args.image.now.user_data.items (option_copied c.args.input) in
    let start = c.in_ok-machine.ensures in
    let stopped = c.in_ok-stopped.ensures in
    let text = c.in-Ok.ensures ∙ (λ k. session_text limits.watch (stopped.stops p start k) (stopped.ending p start k) (stopped.console p start k)) in
    let status = c.ended-status.ensures.status ∙ ap status_of (stopped.ending p start) in
    λ k. prints (status k) (text k)
