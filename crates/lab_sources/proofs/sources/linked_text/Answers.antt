-- The text has a fault, or its source is linked by greedy plans, or refused by them.
use Rattle.std.proofs.Common.{ℕ, List, inl, inr, subst}
use Rattle.mx_reorg.specs.Greedy.{IsGreedy}
use Rattle.lab_failure.specs.declared.failure.LabFailure.{LabFailure}
use Rattle.lab_sources.specs.Sources.{Spells, IsFaultOf, IsNoProgramOf}
use Rattle.lab_sources.proofs.Failures.{fails}
use Rattle.lab_sources.proofs.TooFar.{too_far}
use Rattle.lab_sources.proofs.sources.linked_text.Goals as goal

pub returns-in_err-source-clause-refused : goal.returns-in_err-source-clause-refused
returns-in_err-source-clause-refused c =
    let name = c.args.name.now in
    let failure = c.in_err-source.field-0.0 in
    let refused : LabFailure → Type 0 = IsNoProgramOf name c.args.text.items in
    fails c.from_residual.result failure refused c.from_residual.ensures.1
    (inl (subst (λ (t : List ℕ). IsFaultOf name t failure) c.as_slice.ensures.value c.in_err-source.ensures.refused))

pub returns-clause-refused : goal.returns-clause-refused
returns-clause-refused c =
    let name = c.args.name.now in
    let source = c.in_ok-source.source in
    inr (
      source,
      subst (λ (t : List ℕ). Spells t source) c.as_slice.ensures.value c.in_ok-source.ensures.spells,
      too_far IsGreedy name source c.in-Err.error c.unlinked.result c.in-Err.ensures.refused c.unlinked.ensures,
    )
