-- When an image file is a source, linked as a certificate claims.
use Rattle.std.specs.Prelude.{◌≡◌, ◌≢◌, ℕ, List}
use Rattle.std.specs.Option.{is_some}
use Rattle.mx_source.specs.SourceValue.{SourceValue}
use Rattle.mx_image.specs.declared.file.ImageFile.{ImageFile}
use Rattle.lab_certify.specs.declared.filed.FileError.{FileError}
use Rattle.lab_certify.specs.declared.filed.FileError.TheVariants.{Image as NotTheImage, Input}
use Rattle.lab_certify.specs.Texts.{Claims}
use Rattle.lab_certify.specs.Verified.{IsVerified, IsUnverified}

-- its image is, and its flag says whether the source has an input
pub record IsFileVerified (text : List ℕ) (source : SourceValue) (file : ImageFile) (c : Claims) : Type 0 where
  pub image : IsVerified text source file.image c
  pub input : file.input ≡ is_some source.input

abbrev pub IsFileUnverified : List ℕ → SourceValue → ImageFile → Claims → FileError → Type 0
IsFileUnverified text source file c (NotTheImage error) = IsUnverified text source file.image c error
IsFileUnverified text source file c Input = IsVerified text source file.image c × (file.input ≢ is_some source.input)
