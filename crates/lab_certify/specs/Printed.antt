-- The text of the certificate of a source that is laid out, with as many copies as its targets give.
use Rattle.std.specs.Prelude.{◌≡◌, ℕ, Bool, true, false, List, [], ◌++◌, codes, Some, None, slice_get}
use Rattle.std.specs.Fmt.{decimal}
use Rattle.std.specs.List.{flat_map}
use Rattle.mx_isa.specs.Board.{board}
use Rattle.mx_source.specs.SourceValue.{SourceValue}
use Rattle.mx_blocks.specs.declared.Block.{Block}
use Rattle.mx_blocks.specs.declared.Plan.{Plan}
use Rattle.mx_validate.specs.Validity.{Valid}
use Rattle.mx_squash.specs.declared.Copied.{Copied}
use Rattle.mx_squash.specs.Copies.{Site}
use Rattle.mx_layout.specs.Layout.{IsLayout, blocks_in}
use Rattle.mx_layout.specs.Overlong.{overlong}
use Rattle.mx_link.specs.Origins.{from_target}
use Rattle.mx_plans.specs.Printed.{words_from, marks_of_plan}
use Rattle.mx_reorg.specs.Greedy.{IsGreedy}
use Rattle.lab_certify.specs.declared.certificate.Head.{Head}
use Rattle.lab_certify.specs.Hash.{hash_digits}

abbrev pub squash_sign : Bool → List ℕ
squash_sign true = codes "s"
squash_sign false = []

-- the items of a block's line before its plan
abbrev pub head_text : Head → List ℕ
head_text h =
    ((((codes "block " ++ decimal h.address) ++ codes " ") ++ decimal h.copies) ++ squash_sign h.squashes) ++ codes " "

abbrev pub block_line : Head → Block → Plan → List ℕ
block_line h block plan = (head_text h ++ words_from true (marks_of_plan block plan)) ++ codes "\n"

-- what a certificate says of a block with these copies
abbrev pub head_of : ℕ → Copied → Head
head_of start c = record { address = start; copies = c.count; squashes = c.squash }

abbrev pub site_line : List Site → Site → List ℕ
site_line all s = block_line (head_of s.start (from_target all s)) s.block s.plan

abbrev pub certificate_text : List ℕ → List Site → List ℕ
certificate_text digits all = ((codes "zanderanvil certificate 1\nsource " ++ digits) ++ codes "\n") ++ flat_map (site_line all) all

-- the text certifies the source, linked with the plans of the list scheduler
pub record IsCertificate (bytes : List ℕ) (source : SourceValue) (text : List ℕ) : Type 0 where
  pub sites : List Site
  pub layout : IsLayout Valid source board sites
  pub reach : overlong source board (blocks_in sites) ≡ None
  pub plans : (k : ℕ) (s : Site) → slice_get sites k ≡ Some s → IsGreedy s.block s.plan
  pub is : text ≡ certificate_text (hash_digits bytes) sites
