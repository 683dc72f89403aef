use Rattle.std.proofs.Common.{◌∙◌, sym}
use Rattle.mx_report.proofs.Rising.{passed_unwanted, passed_same}
use Rattle.mx_report.proofs.cursor.Cursor.comes.Goals as goal

pub returns-then-from-self-clause-result : goal.returns-then-from-self-clause-result
returns-then-from-self-clause-result c =
    sym
    (passed_unwanted c.args.list.now c.requires.ascending c.args.self.now c.args.cycle c.requires.before
    (λ e. c.if-from-self.true (c.from.ensures ∙ sym e)))

pub returns-then-from-self-clause-after : goal.returns-then-from-self-clause-after
returns-then-from-self-clause-after c = (
  passed_same c.args.list.now c.requires.ascending c.args.self.now c.args.cycle c.requires.before
      (λ e. c.if-from-self.true (c.from.ensures ∙ sym e)),
  c.requires.before.1,
)
