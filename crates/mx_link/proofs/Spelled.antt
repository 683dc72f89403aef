-- Each word of linked code spells its instruction.
use Rattle.std.proofs.Common.{◌≡◌, ℕ, ◌+◌, List, Option, Some, None, refl, arith}
use Rattle.std.specs.Prelude.{slice_get}
use Rattle.mx_isa.specs.declared.Place.{Place}
use Rattle.mx_code.specs.Codes.{HasRegisters, word_of_row}
use Rattle.mx_code.specs.Decoding.{inst_of as spelled_by}
use Rattle.mx_code.proofs.Rows.{spelled}
use Rattle.mx_source.specs.declared.Statement.{Statement}
use Rattle.mx_source.specs.SourceValue.{SourceValue, IsSource}
use Rattle.mx_blocks.specs.Leaders.{inst_of}
use Rattle.mx_squash.specs.declared.Copied.{Copied}
use Rattle.mx_squash.specs.Copies.{Site, no_copies}
use Rattle.mx_layout.specs.Layout.{link_of}
use Rattle.mx_link.specs.declared.code.Slots.{Slots}
use Rattle.mx_link.specs.declared.linked.Origin.{Origin}
use Rattle.mx_link.specs.declared.linked.Origin.TheVariants.{Own, Copy, Pad}
use Rattle.mx_link.specs.Words.{linked_statement, inst_at}
use Rattle.mx_link.specs.Parts.{filling_of, origin_at, EachInst, HaveRegisters}
use Rattle.mx_link.proofs.Places.{at_place}
use Rattle.mx_link.proofs.Registers.{linked_registers}
use Rattle.mx_link.proofs.Linkable.{Laid, all_fit}

place_registers :
    (link : ℕ → ℕ) (statements : List Statement) (c : Copied) (at i : ℕ) → HaveRegisters statements
    → HasRegisters (linked_statement link c at (slice_get statements i))
place_registers link statements c at i h = by_place (slice_get statements i) refl
  where
    by_place : (o : Option Statement) → slice_get statements i ≡ o → HasRegisters (linked_statement link c at o)
    by_place None e = (omega arith, omega arith, omega arith)
    by_place (Some t) e = (linked_registers link c at t).0 (at_place (λ (s : Statement). HasRegisters (inst_of s)) statements i t h e)

-- the registers of each instruction are registers
pub inst_registers :
    (link : ℕ → ℕ) (statements : List Statement) (c : Copied) (at : ℕ) (o : Origin) → HaveRegisters statements
    → HasRegisters (inst_at link statements c at o)
inst_registers link statements c at (Own i) h = place_registers link statements c at i h
inst_registers link statements c at (Copy i) h = place_registers link statements no_copies at i h
inst_registers link statements c at Pad h = (omega arith, omega arith, omega arith)

-- the word of each instruction of a laid out source spells it
pub each_spelled :
    (source : SourceValue) (place : Place) (all : List Site) (slots : Slots) (k : ℕ) (s : Site) → IsSource source → HaveRegisters source.statements
    → Laid source place all → slice_get all k ≡ Some s →
    EachInst (λ i. spelled_by (word_of_row i) ≡ Some i) (link_of place.code all) source.statements s (filling_of slots all s)
each_spelled source place all slots k s is registers h e p item f =
    let c = filling_of slots all s in
    let link = link_of place.code all in
    let i = inst_at link source.statements c (s.start + p) (origin_at s c p item) in
    spelled i (word_of_row i) (record {
      fits = all_fit source place all slots k s is h e p item f;
      registers = inst_registers link source.statements c (s.start + p) (origin_at s c p item) registers;
      word_is = refl;
    })
