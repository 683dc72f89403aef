use Rattle.cc_translate.proofs.translating.source_of.Goals as goal

pub returns-clause-source : goal.returns-clause-source
returns-clause-source c = record {
  program = c.args.program.now;
  out = _;
  behind = c.args.behind;
  lines = c.in_ok-out.ensures.lines;
  printed = c.in_ok-text.ensures.source;
}
