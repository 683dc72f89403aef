use Rattle.std.proofs.Common.{length, ap, ◌∙◌, arith}
use Rattle.mx_blocks.proofs.UniqueBlocks.{blocks_unique}
use Rattle.cmd_best.specs.Lengths.{lengths_text}
use Rattle.cmd_best.proofs.Blocks.{few_blocks}
use Rattle.cmd_best.proofs.lines.lengths_text.Goals as goal

pub text_of-requires : goal.text_of-requires
text_of-requires c =
    let few = few_blocks c.args.source.now c.in_ok-blocks.blocks.items c.statements-statements.ensures.source c.in_ok-blocks.ensures in
    let size = ap length c.as_slice.ensures.value in
    omega arith

pub returns-in-Ok : goal.returns-in-Ok
returns-in-Ok c = λ blocks are.
    c.in-Ok.ensures
    ∙ ap (lengths_text c.args.source.now)
    (c.as_slice.ensures.value ∙ blocks_unique c.args.source.now c.in_ok-blocks.blocks.items blocks c.in_ok-blocks.ensures are)
