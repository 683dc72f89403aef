use Rattle.mx_source.proofs.Named.{keys_apart}
use Rattle.mx_source.proofs.source.Source.make.Goals as goal

pub invariant_of-result : goal.invariant_of-result
invariant_of-result c = c.requires (keys_apart c.args.labels.entries c.len-count.ensures.unique)
