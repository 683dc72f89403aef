use Rattle.std.proofs.Common.{sym}
use Rattle.mx_plans.specs.Files.{is_gap}
use Rattle.mx_text.proofs.Cuts.{pieces-first, pieces-last}
use Rattle.mx_plans.proofs.pieces.first_piece.Goals as goal

pub returns-in-Some-clause-more : goal.returns-in-Some-clause-more
returns-in-Some-clause-more c = pieces-first is_gap c.args.line.now c.in-Some.at (sym c.in-Some.ensures)

pub returns-in-None-clause-last : goal.returns-in-None-clause-last
returns-in-None-clause-last c = pieces-last is_gap c.args.line.now (sym c.in-None.ensures)
