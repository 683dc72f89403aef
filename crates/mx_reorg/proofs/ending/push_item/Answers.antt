use Rattle.std.proofs.Common.{sym, ap, ◌∙◌, length}
use Rattle.std.specs.Prelude.{slice_get}
use Rattle.mx_validate.specs.Padded.{insts_of}
use Rattle.mx_reorg.proofs.Choices.{low_push}
use Rattle.mx_reorg.proofs.ending.push_item.Goals as goal

pub returns-clause-known : goal.returns-clause-known
returns-clause-known c = λ p k s.
    low_push (length (insts_of c.args.block.now)) c.args.items.now.items c.args.item c.requires.known c.requires.item p k
    (sym (ap (λ l. slice_get l p) c.push.ensures.items) ∙ s)
