use Rattle.std.proofs.Common.{◌++◌, [], ◌∷◌, ap, ◌∙◌, Bor, List, ℕ}
use Rattle.std.specs.Str.{bytes_eq}
use Rattle.indexmap.proofs.CallerLemmas.{insert_entry-new}
use Rattle.mx_module.proofs.Lent.{lookup_by_bytes, view_push}
use Rattle.mx_module.specs.ExportTable.{export_line}
use Rattle.mx_module.proofs.exports.Exports.put.Goals as goal

pub returns : goal.returns
returns c =
    let entries = c.self.inside.table.entries in
    let name = c.args.name.now in
    let absent = lookup_by_bytes entries name ∙ ap (λ es. export_line es name) c.self.view_is ∙ c.requires in
    view_push entries c.insert.new.self.entries c.args.name c.args.number
    (c.in_ok-insert.ensures.entries ∙ insert_entry-new (λ (x y : Bor (List ℕ)). bytes_eq x.now y.now) c.self.inside.table c.args.name c.args.number absent)
    ∙ ap (λ es. es ++ (name, c.args.number) ∷ []) c.self.view_is
