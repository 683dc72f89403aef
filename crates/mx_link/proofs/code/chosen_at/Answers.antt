use Rattle.std.proofs.Common.{None, refl, sym, ap, ◌∙◌}
use Rattle.std.proofs.lemmas.Option.{slice_get_read}
use Rattle.mx_squash.specs.Copies.{site_of, is_target}
use Rattle.mx_link.specs.Origins.{copies_chosen}
use Rattle.mx_link.specs.Parts.{sites_of}
use Rattle.mx_link.proofs.Wanted.{listed_there}
use Rattle.mx_link.proofs.code.chosen_at.Goals as goal

pub returns-in-Some : goal.returns-in-Some
returns-in-Some c = λ s e.
    let l = c.args.layout.now in
    let block = slice_get_read l.blocks.items _ c.args.k c.index.result.now refl c.requires.within c.index.ensures in
    c.so_many_at.ensures s e
    ∙ ap (λ o. copies_chosen o s (site_of (is_target s.block.end) (sites_of l)))
    (sym c.in-Some.is ∙ c.chosen_for.ensures
    ∙ listed_there l c.requires.plans c.requires.starts c.args.k s c.index.result.now c.args.choices.now None e block)

pub returns-in-None : goal.returns-in-None
returns-in-None c = λ s e.
    let l = c.args.layout.now in
    let block = slice_get_read l.blocks.items _ c.args.k c.index.result.now refl c.requires.within c.index.ensures in
    c.most_at.ensures s e
    ∙ ap (λ o. copies_chosen o s (site_of (is_target s.block.end) (sites_of l)))
    (sym c.in-None.is ∙ c.chosen_for.ensures
    ∙ listed_there l c.requires.plans c.requires.starts c.args.k s c.index.result.now c.args.choices.now None e block)
