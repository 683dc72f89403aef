use Rattle.std.proofs.Common.{◌∙◌}
use Rattle.mx_board.proofs.Wanted.{wanted}
use Rattle.mx_board.proofs.requests.is_among.Goals as goal

pub returns : goal.returns
returns c = c.is_ok.ensures.value ∙ wanted c.args.cycles.now c.args.cycle c.binary_search.result c.requires c.binary_search.ensures.position
