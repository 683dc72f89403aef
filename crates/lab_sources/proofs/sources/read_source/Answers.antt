-- The bytes that were read are the text, which the source was assembled from.
use Rattle.std.proofs.Common.{ℕ, List, inl, inr, subst}
use Rattle.mx_io.specs.Shelves.{Told, Counts}
use Rattle.lab_failure.specs.declared.failure.LabFailure.{LabFailure}
use Rattle.lab_sources.specs.Sources.{Spells, IsFaultOf, IsNoSource}
use Rattle.lab_sources.proofs.Failures.{fails}
use Rattle.lab_sources.proofs.sources.read_source.Goals as goal

pub returns-clause-read : goal.returns-clause-read
returns-clause-read g c = (
  c.in_ok-text.text.items,
  record {
    read = c.in_ok-text.ensures.read;
    spells = subst (λ (t : List ℕ). Spells t c.in_ok-source.source) c.as_slice.ensures.value c.in_ok-source.ensures.spells;
  },
)

pub returns-in_err-text-clause-refused : goal.returns-in_err-text-clause-refused
returns-in_err-text-clause-refused g c =
    let told : Told = g.S.Shelf.told c.args.shelf.now in
    let before : Counts = g.S.Shelf.counts c.args.shelf.now in
    let after : Counts = g.S.Shelf.counts c.read_lab_file.new.shelf in
    let refused : LabFailure → Type 0 = IsNoSource told c.args.name.now before after in
    fails c.from_residual.result c.in_err-text.field-0.0 refused c.from_residual.ensures.1 (inl c.in_err-text.ensures.unread)

pub returns-in_err-source-clause-refused : goal.returns-in_err-source-clause-refused
returns-in_err-source-clause-refused g c =
    let told : Told = g.S.Shelf.told c.args.shelf.now in
    let before : Counts = g.S.Shelf.counts c.args.shelf.now in
    let after : Counts = g.S.Shelf.counts c.read_lab_file.new.shelf in
    let refused : LabFailure → Type 0 = IsNoSource told c.args.name.now before after in
    let failure = c.in_err-source.field-0.0 in
    fails c.from_residual-in_err-source.result failure refused c.from_residual-in_err-source.ensures.1 (inr (
      c.in_ok-text.text.items,
      c.in_ok-text.ensures.read,
      subst (λ (t : List ℕ). IsFaultOf c.args.name.now t failure) c.as_slice.ensures.value c.in_err-source.ensures.refused,
    ))
