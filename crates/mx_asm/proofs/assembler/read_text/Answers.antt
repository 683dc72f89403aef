use Rattle.std.proofs.Common.{◌≡◌, length, subst, arith}
use Rattle.std.proofs.lemmas.Result.{err_from_is_err_and}
use Rattle.std.proofs.lemmas.Bool.Decides.{nat_tests}
use Rattle.mx_lex.specs.Lines.{lines_of}
use Rattle.mx_lines.proofs.Pieces.{no_lines}
use Rattle.mx_asm.proofs.Listed.{IsRead, read_more, read_refused, all_read}
use Rattle.mx_asm.proofs.assembler.read_text.Goals as goal

pub split_line-requires : goal.split_line-requires
split_line-requires c = grind (arith, nat_tests)

pub returns-in_err-read-clause-refused : goal.returns-in_err-read-clause-refused
returns-in_err-read-clause-refused c =
    let Left = IsRead c.args.labels.now c.args.end c.args.from (lines_of c.args.text.now) c.args.repeated c.loop-rest.reading in
    let p = err_from_is_err_and c.from_residual.result c.from_residual.ensures.1 in
    rw (p.1, p.2) (read_refused c.in_err-read.field-0.0 (subst Left c.split_line.ensures.lines c.loop-rest.invariant.read) c.in_err-read.ensures.refused)

pub loop-rest-preserved : goal.loop-rest-preserved
loop-rest-preserved c =
    let Left = IsRead c.args.labels.now c.args.end c.args.from (lines_of c.args.text.now) c.args.repeated c.loop-rest.reading in
    record {
      number = omega (arith, c.split_line.ensures.shorter, c.loop-rest.invariant.number, c.in_ok-read.ensures.reads.number);
      read = read_more (subst Left c.split_line.ensures.lines c.loop-rest.invariant.read) c.in_ok-read.ensures.reads c.requires.within;
    }

pub returns-clause-read : goal.returns-clause-read
returns-clause-read c =
    let Left = IsRead c.args.labels.now c.args.end c.args.from (lines_of c.args.text.now) c.args.repeated c.loop-rest.reading in
    let none : length c.loop-rest.rest.now ≡ 0 = grind (arith, nat_tests) in
    all_read (subst Left (no_lines c.loop-rest.rest.now none) c.loop-rest.invariant.read)
