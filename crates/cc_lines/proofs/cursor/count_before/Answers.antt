use Rattle.std.proofs.Common.{sym}
use Rattle.cc_lines.specs.Marks.{fits}
use Rattle.cc_lines.proofs.Cuts.{place-at, at-within, place-none}
use Rattle.cc_lines.proofs.cursor.count_before.Goals as goal

pub returns-in-Some-clause-count : goal.returns-in-Some-clause-count
returns-in-Some-clause-count c = place-at (λ b. fits c.args.mark b) c.args.text.now c.in-Some.at (sym c.in-Some.ensures)

pub returns-in-Some-clause-within : goal.returns-in-Some-clause-within
returns-in-Some-clause-within c = at-within (λ b. fits c.args.mark b) c.args.text.now c.in-Some.at (sym c.in-Some.ensures)

pub returns-in-None-clause-count : goal.returns-in-None-clause-count
returns-in-None-clause-count c = place-none (λ b. fits c.args.mark b) c.args.text.now (sym c.in-None.ensures)
