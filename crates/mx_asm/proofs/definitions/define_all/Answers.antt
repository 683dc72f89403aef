use Rattle.std.proofs.Common.{arith}
use Rattle.mx_lines.specs.Words.{texts}
use Rattle.mx_lines.proofs.NextLine.{at_line, past_lines}
use Rattle.mx_asm.proofs.Defining.{IsDefined, begun, defined, all_labels, first_again, ends_at}
use Rattle.mx_asm.proofs.definitions.define_all.Goals as goal

pub loop-line-init : goal.loop-line-init
loop-line-init c =
    let new = c.new-found.ensures in
    record {
      number = omega arith;
      index = rw new.last (omega arith);
      defined = begun c.args.from (texts c.args.lines.now) c.new-found.result new.labels new.repeated new.last c.requires.near;
    }

pub loop-line-preserved : goal.loop-line-preserved
loop-line-preserved c =
    let Left = IsDefined c.args.from (texts c.args.lines.now) c.loop-line.found c.loop-line.number in
    let more = c.in_ok-add_line.ensures in
    record {
      number = omega arith;
      index = omega (arith, more.index, c.loop-line.invariant.index);
      defined = defined (at_line Left c.args.lines.now c.loop-line.line-index (omega arith) c.loop-line.invariant.defined) more;
    }

pub returns : goal.returns
returns c =
    let Left = IsDefined c.args.from (texts c.args.lines.now) c.loop-line.found c.loop-line.number in
    let h = past_lines Left c.args.lines.now c.loop-line.line-index (omega (arith, c.loop-line-test.false)) c.loop-line.invariant.defined in
    record {
      labels = all_labels h;
      repeated = first_again h;
      last = ends_at h;
      index = omega arith;
      address = h.near;
    }
