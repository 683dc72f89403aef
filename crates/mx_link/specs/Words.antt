-- The words of linked code and data.
use Rattle.std.specs.Prelude.{ℕ, suc, ◌+◌, ◌-◌, ℤ, pos, negsuc, cond, leb, List, [], ◌∷◌, map, Option, Some, None, slice_get}
use Rattle.std.specs.List.{flat_map}
use Rattle.mx_isa.specs.declared.Inst.{Inst}
use Rattle.mx_isa.specs.declared.Inst.TheVariants.{Addi, Jspci}
use Rattle.mx_isa.specs.declared.Inst.TheVariants.{Branch as BranchInst}
use Rattle.mx_code.specs.Codes.{word_of_row}
use Rattle.mx_delay.specs.Delay.{idle}
use Rattle.mx_source.specs.declared.Statement.{Statement}
use Rattle.mx_source.specs.declared.Statement.TheVariants.{LaCode, Branch, Call}
use Rattle.mx_source.specs.declared.Value.{Value}
use Rattle.mx_source.specs.declared.Value.TheVariants.{Int, Code}
use Rattle.mx_blocks.specs.Leaders.{inst_of}
use Rattle.mx_squash.specs.declared.Copied.{Copied}
use Rattle.mx_squash.specs.Copies.{Site, no_copies}
use Rattle.mx_link.specs.declared.linked.Origin.{Origin}
use Rattle.mx_link.specs.declared.linked.Origin.TheVariants.{Own, Copy, Pad}
use Rattle.mx_link.specs.Origins.{Filling, origins_at}

-- one address minus another
abbrev pub displacement : ℕ → ℕ → ℤ
displacement from to = cond (leb from to) (pos (to - from)) (negsuc (from - to - 1))

-- the instruction of a statement that stands at an address, by the link map; a transfer goes on behind the words that are copied from its target
abbrev pub linked_inst : (ℕ → ℕ) → Copied → ℕ → Statement → Inst
linked_inst link c at (LaCode dest target) = Addi 0 dest (pos (link target))
linked_inst link c at (Branch a b condition target) = BranchInst a b condition c.squash (displacement at (link target + c.count))
linked_inst link c at (Call dest target) = Jspci 0 dest (pos (link target + c.count))
linked_inst link c at s = inst_of s

abbrev pub linked_statement : (ℕ → ℕ) → Copied → ℕ → Option Statement → Inst
linked_statement link c at None = idle
linked_statement link c at (Some s) = linked_inst link c at s

-- the instruction at an address, by its origin; only a block's own words can be transfers
abbrev pub inst_at : (ℕ → ℕ) → List Statement → Copied → ℕ → Origin → Inst
inst_at link statements c at (Own i) = linked_statement link c at (slice_get statements i)
inst_at link statements c at (Copy i) = linked_statement link no_copies at (slice_get statements i)
inst_at link statements c at Pad = idle

-- instructions from an address on
abbrev pub insts_from : (ℕ → ℕ) → List Statement → Copied → ℕ → List Origin → List Inst
insts_from link statements c at [] = []
insts_from link statements c at (origin ∷ origins) = inst_at link statements c at origin ∷ insts_from link statements c (suc at) origins

-- the instructions of a layout, in order
abbrev pub insts_of : Filling → (ℕ → ℕ) → List Statement → List Site → List Inst
insts_of filling link statements sites =
    flat_map (λ s. insts_from link statements (filling sites s) s.start (origins_at s (filling sites s))) sites

-- the code words of a layout
abbrev pub code_of : Filling → (ℕ → ℕ) → List Statement → List Site → List ℕ
code_of filling link statements sites = map word_of_row (insts_of filling link statements sites)

-- a value as a word: a place of code is its address
abbrev pub value_word : (ℕ → ℕ) → Value → ℕ
value_word link (Int word) = word
value_word link (Code i) = link i

abbrev pub words_of : (ℕ → ℕ) → List Value → List ℕ
words_of link values = map (value_word link) values
