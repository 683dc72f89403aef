use Rattle.cmd_soak.proofs.Reach.{never_refused}
use Rattle.cmd_soak.proofs.soaking.link_greedily.Goals as goal

pub unreachable-requires : goal.unreachable-requires
unreachable-requires c =
    never_refused _ c.args.source.now _ c.in-Err-Displacement.field-0 _ _ _ c.requires.near
    c.in-Err-Displacement.field-0-is c.in-Err-Displacement.ensures.refused
