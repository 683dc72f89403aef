-- One more word of an image.
use Rattle.std.proofs.Common.{◌≡◌, ℕ, zero, suc, ◌+◌, ◌<◌, List, [], ◌∷◌, ◌++◌, length, drop, get_or, Some, sym, ap, ◌∙◌, add-one, append_assoc, arith}
use Rattle.std.specs.List.{slice_get}
use Rattle.std.proofs.lemmas.Option.{none-some}
use Rattle.std.proofs.Math.Seq.{drop-length}
use Rattle.std.proofs.lemmas.List.{at_drop_more}
use Rattle.cc_program.specs.declared.item.Object.{Object}
use Rattle.cc_program.specs.declared.program.Program.{Program}
use Rattle.cc_emit.specs.declared.words.Said.{Said}
use Rattle.cc_emit.specs.declared.words.Writing.{Writing}
use Rattle.cc_emit.specs.Images.{ended, said_text, after_said, first_word, image_text, DataImage, with_object, with_objects}

some_inj : {A : Type 0} {x y : A} → Some x ≡ Some y → x ≡ y
some_inj e = cc

drop-slice_get : {A : Type 0} (xs : List A) (i : ℕ) (x : A) → slice_get xs i ≡ Some x → drop i xs ≡ x ∷ drop (suc i) xs
drop-slice_get [] i x e = absurd (none-some x e)
drop-slice_get (y ∷ xs) zero x e = ap (λ z. z ∷ xs) (some_inj e)
drop-slice_get (y ∷ xs) (suc i) x e = drop-slice_get xs i x e

-- one more word
pub image_step : (p : Program) (bytes : List ℕ) (writing : Writing) (all : List Said) (i : ℕ) (said : Said) (text : List ℕ) → slice_get all i ≡ Some said →
    (text ++ said_text p writing said (first_word bytes)) ++ image_text p (drop 4 bytes) (after_said p writing said (first_word bytes)) (drop (i + 1) all)
    ≡ text ++ image_text p bytes writing (drop i all)
image_step p bytes writing all i said text e =
    rw add-one (append_assoc text (said_text p writing said (first_word bytes)) (image_text p (drop 4 bytes) (after_said p writing said (first_word bytes)) (drop (suc i) all))
    ∙ ap (λ xs. text ++ image_text p bytes writing xs) (sym (drop-slice_get all i said e)))

-- the end
pub image_end : (p : Program) (bytes : List ℕ) (writing : Writing) (all : List Said) (i : ℕ) → i ≡ length all → image_text p bytes writing (drop i all) ≡ ended writing
image_end p bytes writing all i e = ap (λ n. image_text p bytes writing (drop n all)) e ∙ ap (image_text p bytes writing) (drop-length all)

-- one more datum
pub objects_step : (p : Program) (end i : ℕ) (objects : List Object) (object : Object) (image after : DataImage) → i < length objects
    → object ≡ get_or objects i object → after ≡ with_object p end i object image
    → with_objects p end (i + 1) (drop (i + 1) objects) after ≡ with_objects p end i (drop i objects) image
objects_step p end i objects object image after lt is e =
    let n : i + 1 ≡ suc i = omega arith in
    ap (with_objects p end (i + 1) (drop (i + 1) objects)) e
    ∙ ap (λ k. with_objects p end k (drop (i + 1) objects) (with_object p end i object image)) n
    ∙ ap (λ o. with_objects p end i (o ∷ drop (i + 1) objects) image) is
    ∙ sym (at_drop_more (λ xs. with_objects p end i xs image) objects i object lt)
