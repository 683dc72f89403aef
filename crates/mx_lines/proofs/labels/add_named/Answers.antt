use Rattle.mx_source.proofs.Named.{named_push}
use Rattle.mx_lines.proofs.labels.add_named.Goals as goal

pub returns-clause-ok : goal.returns-clause-ok
returns-clause-ok c =
    named_push c.args.named.now.entries c.insert.new.self.entries c.in-Ok.key c.args.label c.args.name.now c.in-Ok.ensures c.requires
    c.in_ok-insert.ensures.entries
