use Rattle.std.proofs.Common.{◌+◌, ◌++◌, ◌∷◌, map, drop, sym, ap, ◌∙◌, subst, append_assoc, arith}
use Rattle.std.proofs.lemmas.List.{at_drop_more}
use Rattle.mx_source.specs.Names.{named_labels}
use Rattle.mx_module.specs.Joined.{AreApart, labels_in, renamed}
use Rattle.mx_module.proofs.Apart.{front_apart}
use Rattle.mx_module.proofs.names.names_of.Goals as goal

pub add_names-requires-clause-apart : goal.add_names-requires-clause-apart
add_names-requires-clause-apart c =
    let ms = c.args.modules.now in
    let i = c.loop-module.module-index in
    let place = c.loop-module.place in
    let m = c.module-item.result in
    let before = named_labels c.loop-module.named.entries in
    let own = map (renamed m place) m.labels in
    let later = labels_in (place + 1) (drop (i + 1) ms) in
    let step = at_drop_more (λ xs. before ++ labels_in place xs) ms i m (omega arith) ∙ ap (λ x. before ++ labels_in place (x ∷ drop (i + 1) ms))
    (sym c.module-item.is) in
    front_apart (before ++ own) later
    (subst AreApart (sym c.loop-module.invariant.named ∙ step ∙ sym (append_assoc before own later)) c.requires.apart)
