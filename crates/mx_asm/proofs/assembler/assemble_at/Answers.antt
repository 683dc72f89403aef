use Rattle.std.proofs.Common.{[], refl, ap, ◌∙◌, subst}
use Rattle.mx_lex.specs.Lines.{lines_of}
use Rattle.mx_asm.specs.Positions.{labels_from}
use Rattle.mx_asm.specs.Listings.{IsListingOf, IsRefusal}
use Rattle.mx_asm.specs.Faults.{first_fault}
use Rattle.mx_source.specs.Names.{named_labels}
use Rattle.mx_asm.proofs.Whole.{whole_fault, whole_reads, whole_fits}
use Rattle.mx_asm.proofs.assembler.assemble_at.Goals as goal

pub listed_source-requires : goal.listed_source-requires
listed_source-requires c = λ apart.
    let labels = c.in_ok-labels.field-0.labels in
    let lines = lines_of c.args.text.now in
    let defined = c.in_ok-labels.ensures.labels ∙ ap (λ p. labels_from p [] lines) c.start-start.ensures in
    let listing = subst (λ p. IsListingOf labels c.args.end p lines c.in-Ok.listing) c.start-start.ensures c.in-Ok.ensures.read in
    whole_fits c.args.user_data c.args.end c.args.text.now lines labels (named_labels c.into_table.result.entries) refl defined c.into_table.ensures
    c.in-Ok.listing c.requires.low c.requires.within listing apart

pub returns-in-Ok-clause-source : goal.returns-in-Ok-clause-source
returns-in-Ok-clause-source c =
    let labels = c.in_ok-labels.field-0.labels in
    let lines = lines_of c.args.text.now in
    let defined = c.in_ok-labels.ensures.labels ∙ ap (λ p. labels_from p [] lines) c.start-start.ensures in
    let listing = subst (λ p. IsListingOf labels c.args.end p lines c.in-Ok.listing) c.start-start.ensures c.in-Ok.ensures.read in
    whole_reads c.args.user_data c.args.end c.args.text.now lines labels (named_labels c.into_table.result.entries) refl defined c.into_table.ensures
    c.in-Ok.listing c.listed_source.result listing c.listed_source.ensures

pub returns-in-Err-clause-refused : goal.returns-in-Err-clause-refused
returns-in-Err-clause-refused c =
    let labels = c.in_ok-labels.field-0.labels in
    let lines = lines_of c.args.text.now in
    let defined = c.in_ok-labels.ensures.labels ∙ ap (λ p. labels_from p [] lines) c.start-start.ensures in
    let fault = ap (λ p. first_fault labels c.args.end p [] 1 lines) c.start-start.ensures
    ∙ whole_fault c.args.user_data c.args.end c.args.text.now lines labels labels refl defined refl in
    subst (λ f. IsRefusal f c.in-Err.error) fault c.in-Err.ensures.refused
