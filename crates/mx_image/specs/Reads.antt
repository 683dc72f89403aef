-- What a reading of an image file answers.
use Rattle.std.specs.Prelude.{◌≡◌, ◌⊎◌, List, ℕ, Some, None, Result, MatchResult}
use Rattle.mx_code.specs.declared.image.Image.{Image}
use Rattle.mx_image.specs.declared.error.ImageError.{ImageError}
use Rattle.mx_image.specs.declared.error.ImageError.TheVariants.{Memory}
use Rattle.mx_image.specs.declared.file.ImageFile.{ImageFile}
use Rattle.mx_image.specs.Contents.{contents_of}
use Rattle.mx_image.specs.Files.{image_in, file_in, image_refusal, file_refusal}

-- the image that the bytes hold, where they are not refused; else their first refusal, or Memory
abbrev pub ReadsImage : List ℕ → Result Image ImageError → Type 0
ReadsImage bs result =
    MatchResult result
    (λ image. (image_refusal bs ≡ None) × (image.code.items ≡ (image_in bs).code) × (image.user_data.items ≡ (image_in bs).user_data))
    (λ e. (e ≡ Memory) ⊎ (image_refusal bs ≡ Some e))

-- the same of a file in either version
abbrev pub ReadsFile : List ℕ → Result ImageFile ImageError → Type 0
ReadsFile bs result =
    MatchResult result
    (λ file. (file_refusal bs ≡ None) × (contents_of file ≡ file_in bs))
    (λ e. (e ≡ Memory) ⊎ (file_refusal bs ≡ Some e))
