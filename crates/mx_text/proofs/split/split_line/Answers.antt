use Rattle.std.proofs.Common.{sym}
use Rattle.std.specs.Prelude.{◌==◌}
use Rattle.mx_text.proofs.Cuts.{pieces-first, pieces-last}
use Rattle.mx_text.proofs.split.split_line.Goals as goal

pub returns-in-Some-clause-more : goal.returns-in-Some-clause-more
returns-in-Some-clause-more c = pieces-first (λ b. b == 10) c.args.text.now c.in-Some.at (sym c.in-Some.ensures)

pub returns-in-None-clause-last : goal.returns-in-None-clause-last
returns-in-None-clause-last c = pieces-last (λ b. b == 10) c.args.text.now (sym c.in-None.ensures)
