use Rattle.std.proofs.Common.{◌||◌, sym, ap, ◌∙◌}
use Rattle.std.specs.List.{list_any}
use Rattle.indexmap.specs.IndexMap.{values}
use Rattle.mx_source.specs.Labels.{is_data_label}
use Rattle.mx_source.proofs.Printing.{no_words}
use Rattle.mx_source.proofs.print.has_section.Goals as goal

pub returns-else-not-is_empty : goal.returns-else-not-is_empty
returns-else-not-is_empty c = c.has_data_label.ensures
    ∙ ap (λ b. b || list_any is_data_label (values c.args.labels.now)) (sym (no_words c.args.words.now (sym c.if-not-is_empty.ensures)))
