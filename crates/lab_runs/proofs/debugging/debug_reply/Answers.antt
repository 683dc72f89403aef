-- The source is that of the named file, and the other files are read after it.
use Rattle.std.proofs.Common.{subst, sym}
use Rattle.mx_io.specs.Shelves.{Told, Counts}
use Rattle.cmd_answer.specs.Replies.{reply_answer}
use Rattle.lab_runs.specs.Sessions.{IsSessionPlanned}
use Rattle.lab_runs.proofs.debugging.debug_reply.Goals as goal

pub returns-in-Some-clause-session : goal.returns-in-Some-clause-session
returns-in-Some-clause-session g c =
    let options = c.args.options.now in
    let source = c.in_ok-source.source in
    let between : Counts = g.S.Shelf.counts c.read_source.new.shelf in
    let after : Counts = g.S.Shelf.counts c.session_reply.new.shelf in
    record {
      text = c.in_ok-source.ensures.read.0;
      source = source;
      index = c.in-Some.index;
      between = between;
      read = c.in_ok-source.ensures.read.1;
      labelled = sym c.in-Some.ensures.statement;
      session = subst (λ (t : Told). IsSessionPlanned t options source c.in-Some.index between after (reply_answer c.in_ok-reply-in-Some.reply))
          c.in_ok-source.ensures.told_stays c.in_ok-reply-in-Some.ensures.session;
    }
