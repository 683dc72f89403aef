use Rattle.std.proofs.Common.{◌≡◌, length, subst, arith}
use Rattle.std.proofs.lemmas.Bool.Decides.{nat_tests}
use Rattle.mx_lex.specs.Lines.{lines_of}
use Rattle.mx_asm.proofs.Defining.{IsDefined, begun, defined, none_left, all_labels, first_again}
use Rattle.mx_asm.proofs.definitions.define_text.Goals as goal

pub split_line-requires : goal.split_line-requires
split_line-requires c = grind (arith, nat_tests)

pub loop-rest-init : goal.loop-rest-init
loop-rest-init c =
    let new = c.new-found.ensures in
    record {
      number = omega arith;
      index = rw new.last (omega arith);
      defined = begun c.args.from (lines_of c.args.text.now) c.new-found.result new.labels new.repeated new.last c.requires.near;
    }

pub loop-rest-preserved : goal.loop-rest-preserved
loop-rest-preserved c =
    let Left = IsDefined c.args.from (lines_of c.args.text.now) c.loop-rest.found c.loop-rest.number in
    let more = c.in_ok-add_line.ensures in
    record {
      number = omega (arith, c.split_line.ensures.shorter, c.loop-rest.invariant.number);
      index = omega (arith, more.index, c.split_line.ensures.shorter, c.loop-rest.invariant.index);
      defined = defined (subst Left c.split_line.ensures.lines c.loop-rest.invariant.defined) more;
    }

pub returns : goal.returns
returns c =
    let none : length c.loop-rest.rest.now ≡ 0 = grind (arith, nat_tests) in
    let h = none_left c.loop-rest.rest.now none c.loop-rest.invariant.defined in
    record { labels = all_labels h; repeated = first_again h }
