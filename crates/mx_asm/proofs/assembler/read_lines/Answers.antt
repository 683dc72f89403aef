use Rattle.std.proofs.Common.{arith}
use Rattle.std.proofs.lemmas.Result.{err_from_is_err_and}
use Rattle.mx_lines.specs.Words.{texts}
use Rattle.mx_lines.proofs.NextLine.{at_line, past_lines}
use Rattle.mx_asm.proofs.Listed.{IsRead, read_more, read_refused, all_read}
use Rattle.mx_asm.proofs.assembler.read_lines.Goals as goal

pub returns-in_err-read-clause-refused : goal.returns-in_err-read-clause-refused
returns-in_err-read-clause-refused c =
    let lines = c.args.lines.now in
    let Left = IsRead c.args.labels.now c.args.end c.args.from (texts lines) c.args.repeated c.loop-line.reading in
    let here = at_line Left lines c.loop-line.line-index (omega arith) c.loop-line.invariant.read in
    let p = err_from_is_err_and c.from_residual.result c.from_residual.ensures.1 in
    rw (p.1, p.2) (read_refused c.in_err-read.field-0.0 here c.in_err-read.ensures.refused)

pub loop-line-preserved : goal.loop-line-preserved
loop-line-preserved c =
    let lines = c.args.lines.now in
    let Left = IsRead c.args.labels.now c.args.end c.args.from (texts lines) c.args.repeated c.loop-line.reading in
    let reads = c.in_ok-read.ensures.reads in
    record {
      number = omega (arith, reads.number);
      read = read_more (at_line Left lines c.loop-line.line-index (omega arith) c.loop-line.invariant.read) reads c.requires.within;
    }

pub returns-clause-read : goal.returns-clause-read
returns-clause-read c =
    let Left = IsRead c.args.labels.now c.args.end c.args.from (texts c.args.lines.now) c.args.repeated c.loop-line.reading in
    all_read (past_lines Left c.args.lines.now c.loop-line.line-index (omega (arith, c.loop-line-test.false)) c.loop-line.invariant.read)
