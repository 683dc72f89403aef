use Rattle.std.proofs.Common.{sym, ap, ◌∙◌}
use Rattle.std.specs.List.{list_all}
use Rattle.cc_emit.specs.Routines.{all_needed}
use Rattle.cc_fits.specs.Fits.{line_fits}
use Rattle.cc_translate.proofs.translating.put_rest.Goals as goal

pub returns-clause-lines : goal.returns-clause-lines
returns-clause-lines c = record {
  lines = c.args.out.now.lines.items;
  called = all_needed c.args.out.now.routines.items;
  fit = ap (list_all (line_fits c.args.program.now)) (sym c.deref.ensures.value) ∙ c.in_ok-check_lines.ensures.fit;
  added = c.in_ok-put_routines.ensures.lines;
}
