use Rattle.std.proofs.Common.{◌∙◌}
use Rattle.lab_draw.proofs.Recorded.{more_rows, comes_first}
use Rattle.lab_draw.proofs.rows.add_row.Goals as goal

pub returns-clause-so_far : goal.returns-clause-so_far
returns-clause-so_far c =
    let frames = c.args.frames.now in
    let rows = c.args.rows.now.items in
    let come = comes_first frames c.args.first c.args.begins c.args.fetch rows c.requires.so_far c.requires.begins c.requires.next c.requires.come in
    more_rows frames c.args.first c.args.begins rows c.push.new.self.items c.in_ok-row.row c.requires.so_far (c.in_ok-row.ensures.row come)
    (c.in_ok-row.ensures.fetch ∙ c.requires.next) c.in_ok-push.ensures.items
