-- The session has the bytes that the named files gave.
use Rattle.std.proofs.Common.{inl, inr, subst}
use Rattle.mx_io.specs.Shelves.{Told, Counts}
use Rattle.cmd_answer.specs.Replies.{reply_answer}
use Rattle.cmd_options.specs.declared.SessionLimits.{SessionLimits}
use Rattle.mx_plans.specs.Files.{lines_said}
use Rattle.lab_failure.specs.declared.failure.LabFailure.{LabFailure}
use Rattle.lab_sources.proofs.Failures.{fails}
use Rattle.lab_runs.specs.Sessions.{IsSession, IsNoSession}
use Rattle.lab_runs.proofs.debugging.labelled_reply.Goals as goal

pub returns-clause-session : goal.returns-clause-session
returns-clause-session g c =
    let stimulus = c.in_ok-stimulus.stimulus in
    record {
      stimulus = stimulus;
      given = c.in_ok-stimulus.ensures.given;
      session = subst
          (λ (limits : SessionLimits). IsSession c.args.source.now (lines_said c.args.lines.now) c.args.index stimulus.cycles.items stimulus.input.items
          limits (reply_answer c.in_ok-reply.reply)) c.session_limits-limits.ensures.limits c.in_ok-reply.ensures.stopped;
    }

pub returns-in_err-stimulus-clause-refused : goal.returns-in_err-stimulus-clause-refused
returns-in_err-stimulus-clause-refused g c =
    let told : Told = g.S.Shelf.told c.args.shelf.now in
    let before : Counts = g.S.Shelf.counts c.args.shelf.now in
    let after : Counts = g.S.Shelf.counts c.read_stimulus.new.shelf in
    let refused : LabFailure → Type 0 = IsNoSession told c.args.options.now c.args.source.now (lines_said c.args.lines.now) before after in
    fails c.from_residual.result c.in_err-stimulus.field-0.0 refused c.from_residual.ensures.1 (inl c.in_err-stimulus.ensures.refused)

pub returns-in_err-reply-clause-refused : goal.returns-in_err-reply-clause-refused
returns-in_err-reply-clause-refused g c =
    let told : Told = g.S.Shelf.told c.args.shelf.now in
    let before : Counts = g.S.Shelf.counts c.args.shelf.now in
    let after : Counts = g.S.Shelf.counts c.read_stimulus.new.shelf in
    let refused : LabFailure → Type 0 = IsNoSession told c.args.options.now c.args.source.now (lines_said c.args.lines.now) before after in
    fails c.from_residual-in_err-reply.result c.in_err-reply.field-0.0 refused c.from_residual-in_err-reply.ensures.1 (inr c.in_err-reply.ensures.refused)
