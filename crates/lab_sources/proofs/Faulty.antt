-- What a failure tells of an interrupt file is what is wrong with it.
use Rattle.std.proofs.Common.{◌≡◌, ◌≢◌, ◌∙◌, ℕ, List, Option, Some, None, Err, IfSome, ap, sym}
use Rattle.std.specs.Prelude.{option_map, unwrap_or}
use Rattle.mx_board.specs.RequestFile.{requests_of}
use Rattle.mx_board.specs.declared.requests.EventError.{EventError}
use Rattle.mx_board.specs.declared.requests.EventError.TheVariants as errors
use Rattle.lab_failure.specs.declared.failure.LineFault.{LineFault}
use Rattle.lab_failure.specs.declared.failure.LineFault.TheVariants as faults
use Rattle.lab_failure.specs.declared.failure.LabFailure.{LabFailure}
use Rattle.lab_failure.specs.declared.failure.LabFailure.TheVariants.{Memory, Arguments, Unread, Image, Line, Source, Overlong, NoLabel}
use Rattle.lab_sources.specs.Stimuli.{error_of, TellsError, IsFaultyFile}

-- a line that is told is not memory that ran out
of_line : (line : ℕ) (fault : LineFault) (error : EventError) → error_of line fault ≡ Some error → error ≢ errors.Memory
of_line line faults.BadCycle error is = λ same. let bad : Some (errors.BadLine line) ≡ Some errors.Memory = is ∙ ap Some same in absurd (cc)
of_line line faults.TooManyCycles error is = λ same. let bad : Some (errors.TooMany line) ≡ Some errors.Memory = is ∙ ap Some same in absurd (cc)
of_line line faults.NotAscending error is = λ same. let bad : Some (errors.NotAscending line) ≡ Some errors.Memory = is ∙ ap Some same in absurd (cc)
of_line line (faults.Plan fault) error is = absurd (cc)
of_line line (faults.Certificate fault) error is = absurd (cc)

pub faulty : (name bytes : List ℕ) (error : EventError) (failure : LabFailure) → (error ≢ errors.Memory → requests_of bytes ≡ Err error)
    → TellsError name error failure → IsFaultyFile name bytes failure
faulty name bytes error (Line n line fault) refused (named, is) = (named, error, is, refused (of_line line fault error is))
faulty name bytes error Memory refused tells = tt
faulty name bytes error (Arguments fault) refused tells = absurd tells
faulty name bytes error (Unread n kind fault) refused tells = absurd tells
faulty name bytes error (Image n e) refused tells = absurd tells
faulty name bytes error (Source n l fault) refused tells = absurd tells
faulty name bytes error (Overlong n l f t) refused tells = absurd tells
faulty name bytes error (NoLabel n label) refused tells = absurd tells

-- the name in place of which another one stands where there is none
pub named : {T : Type 0} (now : T → List ℕ) (o : Option T) (d r : T) → r ≡ unwrap_or o d → IfSome (option_map now o) (λ n. n ≡ now r)
named now None d r is = tt
named now (Some n) d r is = ap now (sym is)
