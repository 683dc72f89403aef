use Rattle.std.proofs.Common.{◌++◌, sym, ap, ◌∙◌, subst}
use Rattle.mx_source.specs.declared.group.Section.TheVariants.{Code}
use Rattle.mx_source.specs.Names.{named_labels}
use Rattle.mx_source.specs.Groups.{AreGroups}
use Rattle.mx_source.specs.Printed.{input_text}
use Rattle.mx_source.proofs.Printing.{whole}
use Rattle.mx_source.proofs.print.printed.Goals as goal

pub data_section-requires-clause-groups : goal.data_section-requires-clause-groups
data_section-requires-clause-groups c =
    subst (λ gs. AreGroups Code (named_labels c.labels-labels.result.now.entries) gs) (sym c.as_slice-2.ensures.value) c.in_ok-places.ensures.groups

pub returns : goal.returns
returns c = let labels = named_labels c.labels-labels.result.now.entries in
    let groups = subst (λ gs. AreGroups Code labels gs) (sym c.as_slice.ensures.value) c.in_ok-places.ensures.groups in
    let input = c.in_ok-input_line.ensures ∙ (ap (λ t. t ++ input_text c.input.result) c.new-text.ensures ∙ ap input_text c.input.ensures) in
    c.into_bytes.ensures ∙ whole c.args.source.now labels c.statements-statements.result.now c.user_data.result.now
    c.input_line.new.text c.code.new.text c.data_section.new.text
    c.labels-labels.ensures.value c.statements-statements.ensures.value c.user_data.ensures.value
    input (c.in_ok-code.ensures labels groups) c.in_ok-data_section.ensures
