-- What the answer of a reading tells of the bytes.
use Rattle.std.proofs.Common.{◌≡◌, ℕ, List, length, Some, None, sym, subst, ap, ◌∙◌, ⊎_elim}
use Rattle.std.specs.Prelude.{Result, Ok, Err, IfOk, MatchResult, Option}
use Rattle.mx_code.specs.declared.image.Image.{Image}
use Rattle.mx_image.specs.declared.error.ImageError.{ImageError}
use Rattle.mx_image.specs.declared.error.ImageError.TheVariants.{Memory}
use Rattle.mx_image.specs.declared.file.ImageFile.{ImageFile}
use Rattle.mx_image.specs.Contents.{Contents, contents_of, plain, IsImage, IsFile, LinksFit}
use Rattle.mx_image.specs.Files.{image_bytes, file_bytes, image_in, file_in, image_refusal, file_refusal, Spells}
use Rattle.mx_image.specs.Reads.{ReadsImage, ReadsFile}
use Rattle.mx_image.proofs.Numbers.{AreBytes}
use Rattle.mx_image.proofs.Laws.{image_spelled, file_spelled, file_links, code_again, data_again, image_accepted, plain_accepted, plain_again, file_again, file_accepted}

-- where nothing is refused, memory alone is wanting
only_memory : (o : Option ImageError) (e : ImageError) → o ≡ None → o ≡ Some e → e ≡ Memory
only_memory o e h k = absurd (cc)

pub image_spells : (bs : List ℕ) (r : Result Image ImageError) → AreBytes bs → ReadsImage bs r
    → IfOk r (λ image. bs ≡ image_bytes image.code.items image.user_data.items)
image_spells bs (Ok image) a h =
    image_spelled bs a h.0 ∙ ap (λ xs. image_bytes xs (image_in bs).user_data) (sym h.1) ∙ ap (image_bytes image.code.items) (sym h.2)
image_spells bs (Err e) a h = tt

pub image_back : (bs : List ℕ) (r : Result Image ImageError) → ReadsImage bs r → (code user_data : List ℕ) → IsImage code user_data
    → bs ≡ image_bytes code user_data
    → MatchResult r (λ image. (image.code.items ≡ code) × (image.user_data.items ≡ user_data)) (λ e. e ≡ Memory)
image_back bs (Ok image) h code user_data k e =
    (h.1 ∙ ap (λ b. (image_in b).code) e ∙ code_again code user_data k, h.2 ∙ ap (λ b. (image_in b).user_data) e ∙ data_again code user_data k)
image_back bs (Err e) h code user_data k s =
    ⊎_elim (λ m. m) (λ q. only_memory (image_refusal bs) e (ap image_refusal s ∙ image_accepted code user_data k) q) h

pub file_spells : (bs : List ℕ) (r : Result ImageFile ImageError) → AreBytes bs → ReadsFile bs r → IfOk r (λ file. Spells bs (contents_of file))
file_spells bs (Ok file) a h = subst (Spells bs) (sym h.1) (file_spelled bs a h.0)
file_spells bs (Err e) a h = tt

pub file_fits : (bs : List ℕ) (r : Result ImageFile ImageError) → ReadsFile bs r → IfOk r (λ file. LinksFit (length file.image.code.items) file.links.items)
file_fits bs (Ok file) h = subst (λ (f : Contents). LinksFit (length f.code) f.links) (sym h.1) (file_links bs h.0)
file_fits bs (Err e) h = tt

pub file_back : (bs : List ℕ) (r : Result ImageFile ImageError) → ReadsFile bs r → (f : Contents) → IsFile f → bs ≡ file_bytes f
    → MatchResult r (λ file. contents_of file ≡ f) (λ e. e ≡ Memory)
file_back bs (Ok file) h f k e = h.1 ∙ ap file_in e ∙ file_again f k
file_back bs (Err e) h f k s = ⊎_elim (λ m. m) (λ q. only_memory (file_refusal bs) e (ap file_refusal s ∙ file_accepted f k) q) h

pub plain_back : (bs : List ℕ) (r : Result ImageFile ImageError) → ReadsFile bs r → (code user_data : List ℕ) → IsImage code user_data
    → bs ≡ image_bytes code user_data
    → MatchResult r (λ file. contents_of file ≡ plain code user_data) (λ e. e ≡ Memory)
plain_back bs (Ok file) h code user_data k e = h.1 ∙ ap file_in e ∙ plain_again code user_data k
plain_back bs (Err e) h code user_data k s = ⊎_elim (λ m. m) (λ q. only_memory (file_refusal bs) e (ap file_refusal s ∙ plain_accepted code user_data k) q) h
