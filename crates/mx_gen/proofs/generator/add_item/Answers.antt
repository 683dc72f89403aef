use Rattle.std.proofs.Common.{arith}
use Rattle.mx_gen.proofs.Sounds.{new_name}
use Rattle.mx_gen.proofs.generator.add_item.Goals as goal

pub round-requires-clause-new : goal.round-requires-clause-new
round-requires-clause-new c = new_name 76 c.args.j c.args.draft.now.labels (omega arith) c.requires.sound.older

pub skip-requires-clause-new : goal.skip-requires-clause-new
skip-requires-clause-new c = new_name 83 c.args.j c.args.draft.now.labels (omega arith) c.requires.sound.older
