use Rattle.std.proofs.Common.{refl, ap, ◌∙◌}
use Rattle.std.proofs.lemmas.Option.{slice_get_read}
use Rattle.mx_squash.specs.Copies.{site_of, is_target}
use Rattle.mx_squash.specs.Chosen.{copies_wanted}
use Rattle.mx_link.specs.Parts.{sites_of}
use Rattle.mx_link.proofs.Wanted.{listed_there}
use Rattle.mx_link.proofs.code.wanted_at.Goals as goal

pub returns : goal.returns
returns c = λ s e.
    let l = c.args.layout.now in
    let block = slice_get_read l.blocks.items _ c.args.k c.index.result.now refl c.requires.within c.index.ensures in
    c.so_many_at.ensures s e
    ∙ ap (λ m. copies_wanted m s (site_of (is_target s.block.end) (sites_of l)))
    (c.wanted_for-count.ensures
    ∙ listed_there l c.requires.plans c.requires.starts c.args.k s c.index.result.now c.args.counts.now 0 e block)
