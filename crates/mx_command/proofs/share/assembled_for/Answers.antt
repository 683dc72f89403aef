use Rattle.mx_command.proofs.Pairs.{shared_right, shared_wrong}
use Rattle.mx_command.proofs.share.assembled_for.Goals as goal

pub returns-in-Ok-clause-source : goal.returns-in-Ok-clause-source
returns-in-Ok-clause-source c =
    shared_right c.args.place c.args.text.now c.in-Ok.source c.in-Ok.ensures.source c.shareable.result c.shareable.ensures.right

pub returns-in-Ok-clause-refused : goal.returns-in-Ok-clause-refused
returns-in-Ok-clause-refused c =
    shared_wrong c.args.place c.args.text.now c.in-Ok.source c.in-Ok.ensures.source c.shareable.result c.args.program c.shareable.ensures.wrong
