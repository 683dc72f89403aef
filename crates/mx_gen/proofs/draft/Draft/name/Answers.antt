use Rattle.std.proofs.Common.{sym, ap, ◌∙◌, refl, subst, ◌∷◌, length, decimal}
use Rattle.mx_source.specs.declared.statement.Label.TheVariants.{Code}
use Rattle.mx_source.specs.Names.{name_bytes, named_labels}
use Rattle.mx_gen.specs.Sound.{IsNew}
use Rattle.mx_gen.proofs.Fresh.{named_new, with_name}
use Rattle.mx_gen.proofs.draft.Draft.name.Goals as goal

pub returns : goal.returns
returns c =
    let inside = c.self.inside in
    let key = c.in_ok-name.name in
    let bytes = c.args.letter ∷ decimal c.args.j in
    let new : IsNew (name_bytes key) (named_labels inside.labels.entries) =
    subst (λ n. IsNew n (named_labels inside.labels.entries)) (sym c.in_ok-name.ensures) (subst (λ d. IsNew bytes d.labels)
    (sym c.self.view_is) c.requires.new) in
    let all = named_new key (Code c.index.result) inside.labels.entries c.insert.new.self.entries bytes c.index.result (length inside.statements.items) new
    c.in_ok-name.ensures (c.index.ensures ∙ ap (λ d. length d.statements) (sym c.self.view_is)) refl c.in-Ok.ensures.entries in
    with_name inside.statements.items inside.lines.items (named_labels inside.labels.entries) (named_labels c.insert.new.self.entries) inside.line
    c.args.self.now bytes c.self.view_is all
