-- The image of all data, and its text.
use Rattle.std.specs.Prelude.{ℕ, suc, ◌+◌, ◌-◌, ◌*◌, ◌/◌, ◌%◌, ◌^◌, min, Bool, true, false, cond, ◌==◌, nat_le, List, [], ◌∷◌, ◌++◌, length, take, drop, set, replicate, codes, decimal, Option, Some, None, slice_get, option_map, unwrap_or}
use Rattle.std.specs.Int.{w32, to_be_bytes}
use Rattle.std.specs.List.{fold}
use Rattle.cc_rules.specs.Names.{spelled_len}
use Rattle.cc_rules.specs.Numbers.{saturated, words_with}
use Rattle.cc_rules.specs.declared.numbers.TheConstants.{FIRST_BYTE}
use Rattle.cc_program.specs.declared.symbols.Meaning.{Meaning}
use Rattle.cc_program.specs.declared.symbols.Meaning.TheVariants.{Function, Place, End}
use Rattle.cc_program.specs.declared.item.Object.{Object}
use Rattle.cc_program.specs.declared.item.Reference.{Reference}
use Rattle.cc_program.specs.declared.program.Program.{Program}
use Rattle.cc_program.specs.Programs.{resolved, meaning_of, address_of}
use Rattle.cc_emit.specs.declared.words.Said.{Said}
use Rattle.cc_emit.specs.declared.words.Image.{Image}
use Rattle.cc_emit.specs.declared.words.Writing.{Writing}
use Rattle.cc_emit.specs.declared.words.Writing.TheVariants.{Nothing, Zeros, Words}
use Rattle.cc_emit.specs.Names.{symbol_text}

-- the byte at a place; bytes that there are not are 0
abbrev pub byte_at : List ℕ → ℕ → ℕ
byte_at bytes at = unwrap_or (slice_get bytes at) 0

-- the first four bytes as a word, most significant first
abbrev pub first_word : List ℕ → ℕ
first_word bytes = (byte_at bytes 0 * 256 + byte_at bytes 1) * 65536 + (byte_at bytes 2 * 256 + byte_at bytes 3)

-- a datum holds the place of a function, or of a label in one
abbrev pub is_place : Meaning → Bool
is_place (Function number) = true
is_place (Place item function) = true
is_place _ = false

abbrev pub is_descriptor : Program → Object → Bool
is_descriptor p object = is_place (meaning_of p.symbols.list.items object.symbol)

-- ---- the image of all data: its bytes, and of each word the symbol that it is the place of and the datum that begins there

pub record DataImage : Type 0 where
  pub bytes : List ℕ
  pub said : List Said

abbrev pub seen : Image → DataImage
seen image = record { bytes = image.bytes.items; said = image.said.items }

-- bytes over others from a place on, without those past the end
abbrev pub overlay : ℕ → List ℕ → List ℕ → List ℕ
overlay at new old = take (length old) (take at old ++ (new ++ drop (at + length new) old))

-- a word is the place of a symbol, or a datum begins there, if there is such a word
abbrev pub changed : (Said → Said) → ℕ → List Said → List Said
changed f word said = unwrap_or (option_map (λ one. set said word (f one)) (slice_get said word)) said

abbrev pub with_place : ℕ → ℕ → List Said → List Said
with_place word symbol said = changed (λ one. record { place = Some symbol; begins = one.begins }) word said

abbrev pub with_begin : ℕ → ℕ → List Said → List Said
with_begin word number said = changed (λ one. record { place = one.place; begins = Some number }) word said

-- the word of a reference: an address so many bytes after all data or after a symbol, less that of another symbol
abbrev pub from_address : Program → Option ℕ → ℕ
from_address p (Some from) = address_of p from
from_address p None = 0

abbrev pub word_of : Program → ℕ → Reference → Meaning → ℕ
word_of p end one End = (end + one.addend) % 2 ^ 32
word_of p end one _ = ((address_of p one.symbol + one.addend) % 2 ^ 32 + (2 ^ 32 - from_address p one.from)) % 2 ^ 32

abbrev pub reference_word : Program → ℕ → Reference → ℕ
reference_word p end one = word_of p end one (meaning_of p.symbols.list.items one.symbol)

-- a symbol is a label in a function, and no word holds its place
abbrev pub is_label_of : Program → ℕ → Meaning → Bool
is_label_of p symbol (Place item function) = address_of p symbol == 0
is_label_of p symbol _ = false

abbrev pub is_label : Program → ℕ → Bool
is_label p symbol = is_label_of p symbol (meaning_of p.symbols.list.items symbol)

-- a reference of a datum that starts at a byte: the place of a label, or a word
abbrev pub with_reference : Program → ℕ → ℕ → DataImage → Reference → DataImage
with_reference p end start image one =
    cond (is_label p one.symbol) (record { bytes = image.bytes; said = with_place ((start + one.at) / 4) one.symbol image.said })
    (record { bytes = overlay (start + one.at) (to_be_bytes w32 (reference_word p end one)) image.bytes; said = image.said })

-- where a datum is in the image
abbrev pub start_of : Object → ℕ
start_of object = object.standing.address - FIRST_BYTE

-- what a datum holds: the place of a function or a label, or its bytes, and references over them
abbrev pub with_content : Program → ℕ → Object → DataImage → DataImage
with_content p end object image =
    cond (is_descriptor p object) (record { bytes = image.bytes; said = with_place (start_of object / 4) object.symbol image.said })
    (fold (with_reference p end (start_of object)) (record { bytes = overlay (start_of object) object.content.bytes.items image.bytes; said = image.said })
    object.content.references.items)

-- its label, where it is at a multiple of 4
abbrev pub with_front : ℕ → Object → DataImage → DataImage
with_front number object image =
    cond (object.standing.address % 4 == 0) (record { bytes = image.bytes; said = with_begin (start_of object / 4) number image.said }) image

-- the datum with a number, if it is kept
abbrev pub with_object : Program → ℕ → ℕ → Object → DataImage → DataImage
with_object p end number object image = cond object.kept (with_content p end object (with_front number object image)) image

-- the data from a number on, one over the other
abbrev pub with_objects : Program → ℕ → ℕ → List Object → DataImage → DataImage
with_objects p end number [] image = image
with_objects p end number (object ∷ objects) image = with_objects p end (suc number) objects (with_object p end number object image)

-- words of 0, in which no datum begins
abbrev pub empty_image : ℕ → DataImage
empty_image bytes = record { bytes = replicate bytes 0; said = replicate (bytes / 4) (record { place = None; begins = None }) }

-- the image of all data of a program, which end before the byte `behind`; with those of the translation they end before the byte `end`
abbrev pub image_of : Program → ℕ → ℕ → DataImage
image_of p behind end = with_objects p end 0 p.objects.items (empty_image (behind - FIRST_BYTE))

-- ---- its text

-- the label of the datum with a number
abbrev pub object_label : Program → Object → List ℕ
object_label p object = cond (is_descriptor p object) (codes "d.") [] ++ symbol_text p.symbols.list.items object.symbol ++ codes ":\n"

abbrev pub datum_label : Program → ℕ → List ℕ
datum_label p number = unwrap_or (option_map (object_label p) (slice_get p.objects.items number)) []

-- so many words of 0
abbrev pub space_line : ℕ → List ℕ
space_line count = codes "        .space " ++ decimal count ++ codes "\n"

-- what ends a line that is being written: words of 0 are one `.space`
abbrev pub ended : Writing → List ℕ
ended Nothing = []
ended (Zeros count) = space_line count
ended (Words count) = codes "\n"

-- a word of 0: what is written before it, and the line that is being written then
abbrev pub zero_front : Writing → List ℕ
zero_front (Zeros count) = []
zero_front writing = ended writing

abbrev pub zero_after : Writing → Writing
zero_after (Zeros count) = Zeros (min (count + 1) (2 ^ 32 - 1))
zero_after writing = Zeros 1

-- how many words the line holds with one more, if it has room for it
abbrev pub more : Writing → Option ℕ
more (Words count) = words_with count
more writing = None

-- another word: a comma, or a new line
abbrev pub front_of : Option ℕ → Writing → List ℕ
front_of (Some count) writing = codes ","
front_of None writing = ended writing ++ codes "        .word "

abbrev pub line_with : Option ℕ → Writing
line_with (Some count) = Words count
line_with None = Words 1

abbrev pub word_front : Writing → List ℕ
word_front writing = front_of (more writing) writing

abbrev pub word_after : Writing → Writing
word_after writing = line_with (more writing)

-- a name may share a line with other words
abbrev pub may_share : Program → ℕ → Bool
may_share p symbol =
    unwrap_or (option_map (λ s. nat_le (saturated (spelled_len s.name.now)) 16) (slice_get p.symbols.list.items (resolved p.symbols.list.items symbol))) true

-- the place of a symbol: its name, on a line of its own where it is long
abbrev pub name_text : Program → Writing → ℕ → List ℕ
name_text p writing symbol = word_front writing ++ symbol_text p.symbols.list.items symbol

abbrev pub place_text : Program → Writing → ℕ → List ℕ
place_text p writing symbol =
    cond (may_share p symbol) (name_text p writing symbol) (ended writing ++ name_text p Nothing symbol ++ codes "\n")

abbrev pub place_after : Program → Writing → ℕ → Writing
place_after p writing symbol = cond (may_share p symbol) (word_after writing) Nothing

-- a word: the place of a symbol, or a number
abbrev pub word_text : Program → Writing → Option ℕ → ℕ → List ℕ
word_text p writing (Some symbol) word = place_text p writing symbol
word_text p writing None word = cond (word == 0) (zero_front writing) (word_front writing ++ decimal word)

abbrev pub after_word : Program → Writing → Option ℕ → ℕ → Writing
after_word p writing (Some symbol) word = place_after p writing symbol
after_word p writing None word = cond (word == 0) (zero_after writing) (word_after writing)

-- where a datum begins, the line ends, and the label of the datum follows
abbrev pub begin_text : Program → Writing → Option ℕ → List ℕ
begin_text p writing (Some number) = ended writing ++ datum_label p number
begin_text p writing None = []

abbrev pub after_begin : Writing → Option ℕ → Writing
after_begin writing (Some number) = Nothing
after_begin writing None = writing

-- a word of an image, after the label of a datum that begins there
abbrev pub said_text : Program → Writing → Said → ℕ → List ℕ
said_text p writing said word =
    begin_text p writing said.begins ++ word_text p (after_begin writing said.begins) said.place word

abbrev pub after_said : Program → Writing → Said → ℕ → Writing
after_said p writing said word = after_word p (after_begin writing said.begins) said.place word

-- the words of bytes, of which this is said
abbrev pub image_text : Program → List ℕ → Writing → List Said → List ℕ
image_text p bytes writing [] = ended writing
image_text p bytes writing (said ∷ rest) =
    said_text p writing said (first_word bytes) ++ image_text p (drop 4 bytes) (after_said p writing said (first_word bytes)) rest
