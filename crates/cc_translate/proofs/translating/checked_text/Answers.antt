use Rattle.std.proofs.Common.{arith}
use Rattle.cc_translate.proofs.translating.checked_text.Goals as goal

pub returns-clause-source : goal.returns-clause-source
returns-clause-source c =
    let small = c.ranges.end.fits in
    record {
      end = c.args.end;
      source = c.in_ok-text.ensures;
      fit = c.in_ok-check_data.ensures.fit;
      last = omega (arith, small);
    }
