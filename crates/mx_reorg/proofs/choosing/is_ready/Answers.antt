use Rattle.std.proofs.Common.{sym, ◌∙◌}
use Rattle.std.proofs.lemmas.Bool.{false≢true}
use Rattle.mx_validate.specs.Padded.{insts_of}
use Rattle.mx_reorg.proofs.choosing.is_ready.Goals as goal

pub returns-else-is_within : goal.returns-else-is_within
returns-else-is_within c = (
  λ t. absurd (false≢true (sym c.if-is_within.false ∙ t)),
  λ r. c.is_within.ensures.1
      (λ k h. (c.requires.placed k).1 (r.follows k ((c.before-2.ensures.exact (insts_of c.args.block.now) c.args.block.now.input c.requires.graph k).0 h))),
)
