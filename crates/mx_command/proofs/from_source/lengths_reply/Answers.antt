use Rattle.std.proofs.Common.{List, sym, subst, ap}
use Rattle.mx_blocks.specs.Leaders.{AreBlocks}
use Rattle.mx_squash.specs.Copies.{Site}
use Rattle.mx_layout.specs.Layout.{blocks_in}
use Rattle.law_schedule.proofs.Layouts.{layout_exists}
use Rattle.mx_isa.specs.Board.{board}
use Rattle.cmd_answer.specs.declared.Status.TheVariants.{Done}
use Rattle.cmd_answer.specs.Answer.{prints}
use Rattle.mx_command.proofs.from_source.lengths_reply.Goals as goal

pub returns : goal.returns
returns c = λ layout_of is.
    let source = c.args.source.now in
    let found = layout_exists source board c.statements-statements.ensures.source in
    let are : AreBlocks source (blocks_in (layout_of source)) =
    subst (λ (s : List Site). AreBlocks source (blocks_in s)) (sym (is source found.0 found.1)) found.1.blocks in
    ap (prints Done) (c.in_ok-output.ensures (blocks_in (layout_of source)) are)
