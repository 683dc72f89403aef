use Rattle.mx_lines.proofs.LineEnds.{ends_at, ends_nowhere}
use Rattle.mx_lines.proofs.lines.line_end.Goals as goal

pub returns-in-Some-clause-end : goal.returns-in-Some-clause-end
returns-in-Some-clause-end c =
    let found = c.in-Some.ensures in
    ends_at c.args.text.now c.in-Some.end found.0.high found.1 found.0.before

pub returns-in-None-clause-end : goal.returns-in-None-clause-end
returns-in-None-clause-end c = ends_nowhere c.args.text.now c.in-None.ensures
