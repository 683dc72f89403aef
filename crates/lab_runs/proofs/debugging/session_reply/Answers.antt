-- The lines are those of the plan file, and the session reads the other files after it.
use Rattle.std.proofs.Common.{List, subst}
use Rattle.mx_io.specs.Shelves.{Told, Counts}
use Rattle.mx_plans.specs.declared.PlanLine.{PlanLine}
use Rattle.mx_plans.specs.Files.{lines_said}
use Rattle.cmd_answer.specs.Replies.{reply_answer}
use Rattle.lab_runs.specs.Sessions.{IsSessionGiven}
use Rattle.lab_runs.proofs.debugging.session_reply.Goals as goal

pub returns-clause-session : goal.returns-clause-session
returns-clause-session g c =
    let options = c.args.options.now in
    let source = c.args.source.now in
    let lines = c.in_ok-lines.lines.items in
    let told : Told = g.S.Shelf.told c.args.shelf.now in
    let told_read : Told = g.S.Shelf.told c.read_lines.new.shelf in
    let between : Counts = g.S.Shelf.counts c.read_lines.new.shelf in
    let after : Counts = g.S.Shelf.counts c.labelled_reply.new.shelf in
    let answer = reply_answer c.in_ok-reply.reply in
    record {
      lines = lines_said lines;
      between = between;
      read = c.in_ok-lines.ensures.read;
      session = subst (λ (t : Told). IsSessionGiven t options source (lines_said lines) c.args.index between after answer)
          c.in_ok-lines.ensures.told_stays
          (subst (λ (l : List PlanLine). IsSessionGiven told_read options source (lines_said l) c.args.index between after answer)
          c.as_slice.ensures.value c.in_ok-reply.ensures.session);
    }
