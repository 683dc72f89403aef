use Rattle.std.proofs.Common.{◌++◌, ap, ◌∙◌}
use Rattle.mx_blocks.proofs.UniqueBlocks.{blocks_unique}
use Rattle.mx_plans.specs.Printed.{plans_text}
use Rattle.mx_plans.proofs.printing.print_plans.Goals as goal

pub returns-in-Ok : goal.returns-in-Ok
returns-in-Ok c = λ blocks are.
    c.in-Ok.ensures
    ∙ ap (λ l. l ++ plans_text c.as_slice.result.now) c.new-text.ensures.items
    ∙ ap plans_text (c.as_slice.ensures.value ∙ blocks_unique c.args.source.now c.in_ok-blocks.blocks.items blocks c.in_ok-blocks.ensures are)
