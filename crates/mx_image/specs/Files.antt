-- The bytes of an image file, what bytes hold, and why bytes are no image file.
use Rattle.std.specs.Prelude.{◌≡◌, ◌⊎◌, ℕ, ◌+◌, ◌*◌, Bool, true, false, ◌==◌, ◌||◌, nat_lt, nat_eq, if◌then◌else◌, List, [], ◌∷◌, ◌++◌, length, take, drop, Option, Some, None, position}
use Rattle.std.specs.List.{starts_with}
use Rattle.mx_isa.specs.declared.board.TheConstants.{CODE_BASE, MAX_CODE_WORDS, MAX_DATA_WORDS}
use Rattle.mx_image.specs.declared.error.ImageError.{ImageError}
use Rattle.mx_image.specs.declared.error.ImageError.TheVariants.{BadMagic, Truncated, BadRange, Trailing}
use Rattle.mx_image.specs.Bytes.{words_bytes, number_at, numbers}
use Rattle.mx_image.specs.Contents.{Contents}

-- `MXIM`
abbrev pub magic : List ℕ
magic = 0x4d ∷ 0x58 ∷ 0x49 ∷ 0x4d ∷ []

-- version 1: the magic, then the version, the numbers of code and data words, and these words
abbrev pub image_bytes : List ℕ → List ℕ → List ℕ
image_bytes code user_data = magic ++ words_bytes (1 ∷ length code ∷ length user_data ∷ (code ++ user_data))

abbrev pub flag_of : Bool → ℕ
flag_of true = 1
flag_of false = 0

-- version 2: the magic, then the version, the flag of the input, the numbers of code words, data words and links, and these
abbrev pub file_bytes : Contents → List ℕ
file_bytes f =
    magic ++ words_bytes (2 ∷ flag_of f.input ∷ length f.code ∷ length f.user_data ∷ length f.links ∷ ((f.code ++ f.user_data) ++ f.links))

-- what the bytes of version 1 hold
abbrev pub image_in : List ℕ → Contents
image_in bs = record {
  code = numbers (number_at 8 bs) (drop 16 bs);
  user_data = numbers (number_at 12 bs) (drop (16 + 4 * number_at 8 bs) bs);
  input = false;
  links = [];
}

-- the offset of the links of version 2
abbrev pub links_offset : List ℕ → ℕ
links_offset bs = 24 + 4 * (number_at 12 bs + number_at 16 bs)

-- what the bytes of version 2 hold
abbrev pub file_in_2 : List ℕ → Contents
file_in_2 bs = record {
  code = numbers (number_at 12 bs) (drop 24 bs);
  user_data = numbers (number_at 16 bs) (drop (24 + 4 * number_at 12 bs) bs);
  input = number_at 8 bs == 1;
  links = numbers (number_at 20 bs) (drop (links_offset bs) bs);
}

-- what the bytes of either version hold
abbrev pub file_in : List ℕ → Contents
file_in bs = if number_at 4 bs == 1 then image_in bs else file_in_2 bs

-- the first of two refusals
abbrev pub or_next : Option ImageError → Option ImageError → Option ImageError
or_next None next = next
or_next (Some e) next = Some e

-- the bytes end before `end`
abbrev pub short_refusal : ℕ → List ℕ → Option ImageError
short_refusal end bs = if nat_lt (length bs) end then Some (Truncated (length bs)) else None

-- the bytes go on after `end`
abbrev pub long_refusal : ℕ → List ℕ → Option ImageError
long_refusal end bs = if nat_lt end (length bs) then Some (Trailing end) else None

-- one of the first four bytes, as far as they are there, is not the magic's
abbrev pub magic_refusal : List ℕ → Option ImageError
magic_refusal bs = if starts_with nat_eq magic (take 4 bs) then None else Some BadMagic

-- the number at an offset is not there, or is more than it may be
abbrev pub field_refusal : ℕ → ℕ → List ℕ → Option ImageError
field_refusal at most bs = or_next (short_refusal (at + 4) bs) (if nat_lt most (number_at at bs) then Some (BadRange at) else None)

-- a number that is no link
abbrev pub is_outside : ℕ → ℕ → Bool
is_outside words link = nat_lt link CODE_BASE || nat_lt (CODE_BASE + words) link

-- the place of the first number that is no link
abbrev pub outside_refusal : ℕ → Option ℕ → Option ImageError
outside_refusal from None = None
outside_refusal from (Some k) = Some (BadRange (from + 4 * k))

-- a link is outside
abbrev pub links_refusal : List ℕ → Option ImageError
links_refusal bs = outside_refusal (links_offset bs) (position (is_outside (number_at 12 bs)) (file_in_2 bs).links)

-- the first refusal of version 1 after the version
abbrev pub refusal_1 : List ℕ → Option ImageError
refusal_1 bs =
    let end = 16 + 4 * (number_at 8 bs + number_at 12 bs) in
    or_next (field_refusal 8 MAX_CODE_WORDS bs)
    (or_next (field_refusal 12 MAX_DATA_WORDS bs)
    (or_next (short_refusal end bs) (long_refusal end bs)))

-- the first refusal of version 2 after the version
abbrev pub refusal_2 : List ℕ → Option ImageError
refusal_2 bs =
    let end = links_offset bs + 4 * number_at 20 bs in
    or_next (field_refusal 8 1 bs)
    (or_next (field_refusal 12 MAX_CODE_WORDS bs)
    (or_next (field_refusal 16 MAX_DATA_WORDS bs)
    (or_next (field_refusal 20 20001 bs)
    (or_next (short_refusal end bs)
    (or_next (links_refusal bs) (long_refusal end bs))))))

-- why bytes are no image of version 1; None where they are one
abbrev pub image_refusal : List ℕ → Option ImageError
image_refusal bs =
    or_next (magic_refusal bs)
    (or_next (short_refusal 8 bs)
    (if number_at 4 bs == 1 then refusal_1 bs else Some (BadRange 4)))

-- why bytes are no image file of either version; None where they are one
abbrev pub file_refusal : List ℕ → Option ImageError
file_refusal bs =
    or_next (magic_refusal bs)
    (or_next (short_refusal 8 bs)
    (if number_at 4 bs == 1 then refusal_1 bs
    else (if number_at 4 bs == 2 then refusal_2 bs else Some (BadRange 4))))

-- the bytes are a file's, in either version; version 1 has no input and no links
abbrev pub Spells : List ℕ → Contents → Type 0
Spells bs f = (bs ≡ file_bytes f) ⊎ ((bs ≡ image_bytes f.code f.user_data) × (f.input ≡ false) × (f.links ≡ []))
