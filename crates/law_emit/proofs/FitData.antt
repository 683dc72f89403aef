-- The image of data that the translation looked at has bytes, and its symbols have names of the language.
use Rattle.std.proofs.Common.{◌≡◌, ℕ, zero, suc, ◌+◌, ◌-◌, ◌/◌, ◌%◌, ◌^◌, ◌<◌, Bool, true, false, cond, not, ◌&&◌, ◌||◌, List, [], ◌∷◌, ◌++◌, length, take, drop, set, Option, Some, None, refl, sym, ap, ◌∙◌, subst, arith}
use Rattle.std.specs.Prelude.{All, ◌==◌, replicate, slice_get, option_map, unwrap_or}
use Rattle.std.specs.Int.{w32, byte_at, to_be_bytes}
use Rattle.std.specs.List.{fold, list_all}
use Rattle.std.proofs.lemmas.Bool.{ltb-true}
use Rattle.std.proofs.lemmas.List.Elements.{All-nil, All-cons, All-head, All-tail, All-append, All-set, All-take, All-drop, All-replicate}
use Rattle.std.proofs.lemmas.Option.{none-some, same_Some}
use Rattle.mx_asm.proofs.Spelled.{and_both}
use Rattle.cc_program.specs.declared.item.Object.{Object}
use Rattle.cc_program.specs.declared.item.Reference.{Reference}
use Rattle.cc_program.specs.declared.program.Program.{Program}
use Rattle.cc_rules.specs.declared.numbers.TheConstants.{FIRST_BYTE}
use Rattle.cc_emit.specs.declared.words.Said.{Said}
use Rattle.cc_emit.specs.Images.{DataImage, overlay, changed, is_label, reference_word, with_reference, start_of, is_descriptor, with_content, with_front, with_object, with_objects, empty_image, image_of}
use Rattle.cc_fits.specs.Fits.{is_byte, symbol_fits, reference_fits, object_fits}
use Rattle.law_emit.specs.Lines.{ObjectFits, SaidFits}
use Rattle.law_emit.proofs.FitNames.{symbol_named}

pub checked : {X : Type 0} (p : X → Bool) (P : X → Type 0) → ((x : X) → p x ≡ true → P x) → (xs : List X) → list_all p xs ≡ true → All P xs
checked p P each [] h = All-nil P
checked p P each (x ∷ xs) h =
    let both = and_both (p x) (list_all p xs) h in
    All-cons P x xs (each x both.0) (checked p P each xs both.1)

slice_get_holds : {X : Type 0} (P : X → Type 0) (xs : List X) (i : ℕ) (x : X) → slice_get xs i ≡ Some x → All P xs → P x
slice_get_holds P [] i x e h = absurd (none-some x e)
slice_get_holds P (y ∷ xs) zero x e h = subst P (same_Some y x e) (All-head P y xs h)
slice_get_holds P (y ∷ xs) (suc i) x e h = slice_get_holds P xs i x e (All-tail P y xs h)

abbrev Bytes : List ℕ → Type 0
Bytes bytes = All (λ b. b < 256) bytes

overlay_bytes : (at : ℕ) (new old : List ℕ) → Bytes new → Bytes old → Bytes (overlay at new old)
overlay_bytes at new old h k =
    let rest = drop (at + length new) old in
    All-take (λ b. b < 256) (length old) (take at old ++ (new ++ rest))
    (All-append (λ b. b < 256) (take at old) (new ++ rest) (All-take (λ b. b < 256) at old k)
    (All-append (λ b. b < 256) new rest h (All-drop (λ b. b < 256) (at + length new) old k)))

byte_small : (i n : ℕ) → byte_at i n < 256
byte_small zero n = omega arith
byte_small (suc i) n = small (n / 256 ^ suc i)
  where
    small : (m : ℕ) → m % 256 < 256
    small m = omega arith

word_bytes : (n : ℕ) → Bytes (to_be_bytes w32 n)
word_bytes n =
    let P = λ (b : ℕ). b < 256 in
    All-cons P (byte_at 3 n) (byte_at 2 n ∷ byte_at 1 n ∷ byte_at 0 n ∷ []) (byte_small 3 n)
    (All-cons P (byte_at 2 n) (byte_at 1 n ∷ byte_at 0 n ∷ []) (byte_small 2 n)
    (All-cons P (byte_at 1 n) (byte_at 0 n ∷ []) (byte_small 1 n)
    (All-cons P (byte_at 0 n) [] (byte_small 0 n) (All-nil P))))

module _ (p : Program) where
  record Good (image : DataImage) : Type 0 where
    bytes : Bytes image.bytes
    said : All (SaidFits p) image.said

  changed_fits : (f : Said → Said) → ((one : Said) → SaidFits p one → SaidFits p (f one)) → (word : ℕ) (said : List Said)
      → All (SaidFits p) said → All (SaidFits p) (changed f word said)
  changed_fits f keeps word said h = by_entry (slice_get said word) refl
    where
      by_entry : (o : Option Said) → slice_get said word ≡ o
          → All (SaidFits p) (unwrap_or (option_map (λ one. set said word (f one)) o) said)
      by_entry None e = h
      by_entry (Some one) e = All-set (SaidFits p) said word (f one) (keeps one (slice_get_holds (SaidFits p) said word one e h)) h

  reference_good : (end start : ℕ) (image : DataImage) (one : Reference) → reference_fits p.symbols.list.items one ≡ true → Good image
      → Good (with_reference p end start image one)
  reference_good end start image one h good = by_label (is_label p one.symbol)
    where
      by_label : (t : Bool)
          → Good (cond t (record {
            bytes = image.bytes;
            said = changed (λ old. record { place = Some one.symbol; begins = old.begins }) ((start + one.at) / 4) image.said;
          }) (record { bytes = overlay (start + one.at) (to_be_bytes w32 (reference_word p end one)) image.bytes; said = image.said }))
      by_label true = record {
        bytes = good.bytes;
        said = changed_fits (λ old. record { place = Some one.symbol; begins = old.begins })
            (λ old k. (symbol_named p.symbols.list.items one.symbol h, k.1)) ((start + one.at) / 4) image.said good.said;
      }
      by_label false = record {
        bytes = overlay_bytes (start + one.at) (to_be_bytes w32 (reference_word p end one)) image.bytes (word_bytes (reference_word p end one)) good.bytes;
        said = good.said;
      }

  references_good : (end start : ℕ) (references : List Reference) (image : DataImage) → list_all (reference_fits p.symbols.list.items) references ≡ true
      → Good image → Good (fold (with_reference p end start) image references)
  references_good end start [] image h good = good
  references_good end start (one ∷ references) image h good =
      let both = and_both (reference_fits p.symbols.list.items one) (list_all (reference_fits p.symbols.list.items) references) h in
      references_good end start references (with_reference p end start image one) both.1 (reference_good end start image one both.0 good)

  -- the content of a datum
  content_good : (end : ℕ) (object : Object) (image : DataImage) → symbol_fits p.symbols.list.items object.symbol ≡ true
      → list_all (reference_fits p.symbols.list.items) object.content.references.items ≡ true → Bytes object.content.bytes.items
      → Good image → Good (with_content p end object image)
  content_good end object image named held bytes good = by_place (is_descriptor p object)
    where
      by_place : (t : Bool)
          → Good (cond t (record {
            bytes = image.bytes;
            said = changed (λ old. record { place = Some object.symbol; begins = old.begins }) (start_of object / 4) image.said;
          }) (fold (with_reference p end (start_of object))
          (record { bytes = overlay (start_of object) object.content.bytes.items image.bytes; said = image.said }) object.content.references.items))
      by_place true = record {
        bytes = good.bytes;
        said = changed_fits (λ old. record { place = Some object.symbol; begins = old.begins })
            (λ old k. (symbol_named p.symbols.list.items object.symbol named, k.1)) (start_of object / 4) image.said good.said;
      }
      by_place false =
          references_good end (start_of object) object.content.references.items
          (record { bytes = overlay (start_of object) object.content.bytes.items image.bytes; said = image.said }) held
          (record { bytes = overlay_bytes (start_of object) object.content.bytes.items image.bytes bytes good.bytes; said = good.said })

  front_good : (number : ℕ) (object : Object) (image : DataImage) → slice_get p.objects.items number ≡ Some object
      → symbol_fits p.symbols.list.items object.symbol ≡ true → Good image → Good (with_front number object image)
  front_good number object image is named good = by_place (object.standing.address % 4 == 0)
    where
      begins : (old : Said) → SaidFits p old → SaidFits p (record { place = old.place; begins = Some number })
      begins old k = (k.0, subst (λ o. ObjectFits p o) (sym is) (symbol_named p.symbols.list.items object.symbol named))

      by_place : (t : Bool)
          → Good (cond t (record {
            bytes = image.bytes;
            said = changed (λ old. record { place = old.place; begins = Some number }) (start_of object / 4) image.said;
          }) image)
      by_place true = record {
        bytes = good.bytes;
        said = changed_fits (λ old. record { place = old.place; begins = Some number }) begins (start_of object / 4) image.said good.said;
      }
      by_place false = good

  object_good : (end number : ℕ) (object : Object) (image : DataImage) → slice_get p.objects.items number ≡ Some object
      → object_fits p.symbols.list.items object ≡ true → Good image → Good (with_object p end number object image)
  object_good end number object image is h good = by_kept object.kept refl
    where
      by_kept : (t : Bool) → object.kept ≡ t → Good (cond t (with_content p end object (with_front number object image)) image)
      by_kept true e =
          let named = symbol_fits p.symbols.list.items object.symbol in
          let held = list_all (reference_fits p.symbols.list.items) object.content.references.items in
          let bytes = list_all is_byte object.content.bytes.items in
          let all : (named && held && bytes) ≡ true = ap (λ t. not t || (named && held && bytes)) (sym e) ∙ h in
          let two = and_both (named && held) bytes all in
          let one = and_both named held two.0 in
          content_good end object (with_front number object image) one.0 one.1
          (checked is_byte (λ b. b < 256) (λ b k. ltb-true b 256 k) object.content.bytes.items two.1)
          (front_good number object image is one.0 good)
      by_kept false e = good

  objects_good : (end number : ℕ) (objects : List Object) (image : DataImage)
      → ((i : ℕ) (object : Object) → slice_get objects i ≡ Some object → slice_get p.objects.items (number + i) ≡ Some object)
      → list_all (object_fits p.symbols.list.items) objects ≡ true → Good image → Good (with_objects p end number objects image)
  objects_good end number [] image are h good = good
  objects_good end number (object ∷ objects) image are h good =
      let both = and_both (object_fits p.symbols.list.items object) (list_all (object_fits p.symbols.list.items) objects) h in
      let here : number ≡ number + 0 = omega arith in
      objects_good end (suc number) objects (with_object p end number object image)
      (λ i other e. ap (slice_get p.objects.items) (next i) ∙ are (suc i) other e) both.1
      (object_good end number object image (ap (slice_get p.objects.items) here ∙ are 0 object refl) both.0 good)
    where
      next : (i : ℕ) → suc number + i ≡ number + suc i
      next i = omega arith

  empty_good : (bytes : ℕ) → Good (empty_image bytes)
  empty_good bytes = record {
    bytes = All-replicate (λ b. b < 256) bytes 0 (omega arith);
    said = All-replicate (SaidFits p) (bytes / 4) (record { place = None; begins = None }) (tt, tt);
  }

  pub image_good : (behind end : ℕ) → list_all (object_fits p.symbols.list.items) p.objects.items ≡ true
      → Bytes (image_of p behind end).bytes × All (SaidFits p) (image_of p behind end).said
  image_good behind end h =
      let good = objects_good end 0 p.objects.items (empty_image (behind - FIRST_BYTE)) (λ i object e. ap (slice_get p.objects.items) (plain i) ∙ e) h
      (empty_good (behind - FIRST_BYTE)) in
      (good.bytes, good.said)
    where
      plain : (i : ℕ) → 0 + i ≡ i
      plain i = omega arith
