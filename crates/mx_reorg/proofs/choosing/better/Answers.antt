use Rattle.std.proofs.Common.{◌≡◌, ℕ, ◌≤◌, sym, subst}
use Rattle.mx_blocks.specs.declared.block.Item.TheVariants.{Op}
use Rattle.mx_validate.specs.Padded.{insts_of}
use Rattle.mx_reorg.specs.Making.{IsBetter}
use Rattle.mx_reorg.proofs.Choices.{op_same, better_later, better_earlier}
use Rattle.mx_reorg.proofs.choosing.better.Goals as goal

pub returns-then-height-clause-one : goal.returns-then-height-clause-one
returns-then-height-clause-one c = λ b e l.
    let block = c.args.block.now in
    let s : c.in-Op.b ≡ b = op_same c.in-Op.b b c.args.best c.in-Op.is e in
    subst (λ (i : ℕ). IsBetter block i c.args.x (Op c.args.x)) s
    (better_later block c.in-Op.b c.args.x _ _ (c.height.ensures.exact (insts_of block) block.input c.requires.graph)
    (c.height-in-Op.ensures.exact (insts_of block) block.input c.requires.graph) c.if-height.true)

pub returns-else-height-clause-one : goal.returns-else-height-clause-one
returns-else-height-clause-one c = λ b e l.
    let block = c.args.block.now in
    let s : b ≡ c.in-Op.b = op_same b c.in-Op.b c.args.best e c.in-Op.is in
    subst (λ (i : ℕ). IsBetter block i c.args.x (Op c.in-Op.b)) (sym s)
    (better_earlier block c.in-Op.b c.args.x _ _ (c.height.ensures.exact (insts_of block) block.input c.requires.graph)
    (c.height-in-Op.ensures.exact (insts_of block) block.input c.requires.graph) c.if-height.false
    (subst (λ (i : ℕ). i ≤ c.args.x) s l))
