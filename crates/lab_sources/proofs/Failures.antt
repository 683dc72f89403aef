-- A failure that `?` hands on is that of the step.
use Rattle.std.proofs.Common.{◌≡◌, Result, Err, IfErr, subst, sym, ap, ◌∙◌}
use Rattle.std.specs.Result.{IsErrAnd}
use Rattle.std.proofs.lemmas.Result.{err_from_is_err_and}
use Rattle.lab_failure.specs.declared.failure.LabFailure.{LabFailure}

pub fails : {T : Type 0} (r : Result T LabFailure) (failure : LabFailure) (P : LabFailure → Type 0)
    → IsErrAnd r (λ e. e ≡ failure) → P failure → IfErr r P
fails {T} r failure P is holds =
    let same = err_from_is_err_and r is in
    subst (λ (x : Result T LabFailure). IfErr x P) (sym (same.1 ∙ ap Err same.2)) holds
