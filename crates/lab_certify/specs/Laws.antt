-- A verdict on an image is one.
use Rattle.std.specs.Prelude.{ℕ, List}
use Rattle.mx_source.specs.SourceValue.{SourceValue}
use Rattle.mx_code.specs.declared.Image.{Image}
use Rattle.lab_certify.specs.declared.rejection.Rejection.{Rejection}
use Rattle.lab_certify.specs.Texts.{Claims}
use Rattle.lab_certify.specs.Verified.{IsVerified, IsRejection}

-- no image is both verified and rejected
abbrev pub VerifiedIsNotRejected : Type 0
VerifiedIsNotRejected =
    (text : List ℕ) (source : SourceValue) (image : Image) (c : Claims) → IsVerified text source image c → (r : Rejection)
    → ¬ IsRejection text source image c r
