use Rattle.std.proofs.Common.{sym, subst, refl}
use Rattle.std.proofs.lemmas.Result.{on_ok_weaker}
use Rattle.mx_source.specs.declared.group.Section.TheVariants.{Data}
use Rattle.mx_source.specs.Names.{named_labels}
use Rattle.mx_source.specs.Groups.{AreGroups}
use Rattle.mx_source.proofs.Printing.{section_text, no_section}
use Rattle.mx_source.proofs.print.data_section.Goals as goal

pub returns : goal.returns
returns c = let entries = c.args.labels.now.entries in let labels = named_labels entries in
    let at : AreGroups Data labels c.as_slice.result.now = subst (λ gs. AreGroups Data labels gs) (sym c.as_slice.ensures.value) c.in_ok-at.ensures.groups in
    on_ok_weaker c.user_data.result (λ h.
    section_text labels entries c.args.words.now c.args.text.now c.put.new.self c.user_data.new.text refl
    (sym c.if-not-has_section.ensures) c.in_ok-put.ensures (h labels c.requires.groups at)) c.user_data.ensures

pub returns-then-not-has_section : goal.returns-then-not-has_section
returns-then-not-has_section c = no_section (named_labels c.args.labels.now.entries) c.args.labels.now.entries
    c.args.words.now c.args.text.now refl (sym c.if-not-has_section.ensures)
