-- What `link` and `link_plain` give, as linked code of their source.
use Rattle.std.specs.Prelude.{◌≡◌, ℕ, ◌+◌, ◌*◌, ◌≤◌, List, length, Some, slice_get, slice_index}
use Rattle.mx_isa.specs.declared.Inst.{Inst}
use Rattle.mx_isa.specs.declared.Place.{Place}
use Rattle.mx_isa.specs.Words.{Words}
use Rattle.mx_code.specs.Codes.{Codes}
use Rattle.mx_code.specs.Decoding.{inst_of as spelled_inst}
use Rattle.mx_delay.specs.Delay.{Code, code_from, data_from}
use Rattle.mx_source.specs.SourceValue.{SourceValue, IsSource}
use Rattle.mx_blocks.specs.declared.Block.{Block}
use Rattle.mx_blocks.specs.declared.Plan.{Plan}
use Rattle.mx_squash.specs.Copies.{Site}
use Rattle.mx_link.specs.declared.linked.Linked.{Linked}
use Rattle.mx_link.specs.Origins.{Filling}
use Rattle.mx_link.specs.Words.{insts_of}
use Rattle.mx_link.specs.Parts.{HaveRegisters}
use Rattle.mx_link.specs.Linked.{IsLinked, link_map}
use Rattle.law_link.specs.Runs.{IsFilling, Linking, IsLinking, words_in, code_in, data_in}

-- linked code of a source, by what fills its slots and by its layout, with these bytes as its input
abbrev pub linking_of : Filling → SourceValue → Place → List Site → List ℕ → Linking
linking_of filling source place sites bytes = record { filling = filling; source = source; place = place; sites = sites; bytes = bytes }

-- what the code and the data words of a result put at each address
abbrev pub image_code : Place → Linked → Code
image_code place r = code_from spelled_inst place.code r.image.code.items

abbrev pub image_data : Place → Linked → Words
image_data place r = data_from place.user_data r.image.user_data.items

-- the instructions of linked code, in order
abbrev pub insts_in : Linking → List Inst
insts_in l = insts_of l.filling (link_map l.place l.sites) l.source.statements l.sites

-- word n of a result spells an instruction, and that is what stands at its address
pub record IsWord (place : Place) (r : Linked) (n : ℕ) (inst : Inst) : Type 0 where
  pub word : ℕ
  pub there : slice_get r.image.code.items n ≡ Some word
  pub codes : Codes inst word
  pub stands : image_code place r (place.code + n) ≡ inst

-- the image and the link map of a result are those of linked code, word for word
pub record IsResult (l : Linking) (r : Linked) : Type 0 where
  pub linking : IsLinking l
  pub words : r.image.code.items ≡ words_in l
  pub code : image_code l.place r ≡ code_in l
  pub user_data : image_data l.place r ≡ data_in l
  pub links : (i : ℕ) → i ≤ length l.source.statements → slice_index r.links.items i ≡ link_map l.place l.sites i
  pub count : length r.image.code.items ≡ length (insts_in l)
  pub insts : (n : ℕ) (inst : Inst) → slice_get (insts_in l) n ≡ Some inst → IsWord l.place r n inst

-- So it is for every source and place that the two calls take, whatever was proposed: what the other laws say of linked code
-- they say of each result.
abbrev pub ResultsAreLinked : (Block → Plan → Type 0) → Type 0
ResultsAreLinked Proposes =
    (filling : Filling) (source : SourceValue) (place : Place) (bytes : List ℕ) (r : Linked)
    → IsSource source → HaveRegisters source.statements → place.code + 3 * length source.statements ≤ 65535 → IsFilling filling
    → (k : IsLinked Proposes filling source place r) → IsResult (linking_of filling source place k.sites bytes) r
