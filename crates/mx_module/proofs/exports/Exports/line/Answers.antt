use Rattle.std.proofs.Common.{ap, ◌∙◌}
use Rattle.mx_module.proofs.Lent.{lookup_by_bytes}
use Rattle.mx_module.specs.ExportTable.{export_line}
use Rattle.mx_module.proofs.exports.Exports.line.Goals as goal

pub returns : goal.returns
returns c = c.copied.ensures ∙ c.get.ensures.value ∙ lookup_by_bytes c.self.inside.table.entries c.args.name.now
    ∙ ap (λ es. export_line es c.args.name.now) c.self.view_is
