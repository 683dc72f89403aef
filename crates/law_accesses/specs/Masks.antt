-- Lines that take masks from tables of the translation's own, and what loads and stores with them leave.
use Rattle.std.specs.Prelude.{◌≡◌, ◌≢◌, ℕ, ◌+◌, ◌<◌, pos, List, [], ◌∷◌, slice_index_or, Option}
use Rattle.mx_isa.specs.declared.inst.Inst.TheVariants.{Load}
use Rattle.mx_isa.specs.Words.{Words, reg}
use Rattle.mx_isa.specs.Effect.{Core, Bus, act}
use Rattle.cc_emit.specs.declared.line.Line.{Line}
use Rattle.cc_emit.specs.declared.line.Line.TheVariants.{Take}
use Rattle.cc_emit.specs.declared.line.Mask.{Mask}
use Rattle.cc_emit.specs.declared.line.Word.{Word}
use Rattle.cc_emit.specs.declared.line.Word.TheVariants.{Mask as MaskWord}
use Rattle.cc_emit.specs.Labels.{mask_words}
use Rattle.cc_meaning.specs.declared.value.Value.{Value}
use Rattle.cc_meaning.specs.declared.layout.Layout.{Layout}
use Rattle.cc_meaning.specs.States.{State}
use Rattle.cc_operations.specs.declared.between.TheConstants.{FIRST, SECOND, THIRD}
use Rattle.law_operations.specs.Runs.{ran_lines, HoldsWords, HoldsFirst, ShowsValue}
use Rattle.law_accesses.specs.Memories.{IsData, ShowsMemory}

-- lines without branches, one after the other, where the words that the translation adds have these addresses: a line may take one
abbrev pub ran_taking : (Word → ℕ) → Bus → List Line → Core → Core
ran_taking held bus [] s = s
ran_taking held bus (Take word base rd ∷ rest) s = ran_taking held bus rest (act bus (Load base rd (pos (held word))) 0 s.regs s)
ran_taking held bus (line ∷ rest) s = ran_taking held bus rest (ran_lines bus (line ∷ []) s)

-- the four words of a table of masks are in data
abbrev pub HasTable : (Word → ℕ) → Mask → Words → Type 0
HasTable held mask mem =
    (k : ℕ) → k < 4 → IsData (held (MaskWord mask) + k) × (mem (held (MaskWord mask) + k) ≡ slice_index_or (mask_words mask) k 0)

-- register d shows a value, unless it is r0, after a load with a mask, for which r27 is written besides r1 and r26. Each other register,
-- MD, data and input are as they were
pub record LeavesMasked (d : ℕ) (value : Value) (first : Option ℕ) (before after : Core) : Type 0 where
  pub given : d ≢ 0 → ShowsValue value (reg after.regs d)
  pub known : HoldsFirst first after.regs
  pub kept : (n : ℕ) → (n ≡ d → n ≡ 0) → n ≢ FIRST → n ≢ SECOND → n ≢ THIRD → reg after.regs n ≡ reg before.regs n
  pub md : after.md ≡ before.md
  pub mem : after.mem ≡ before.mem
  pub taken : after.taken ≡ before.taken
  pub words : HoldsWords after.regs

-- data show the assembly's memory after a store with a mask to the word with this number, for which r22 and r27 are written besides r1
-- and r26. Each other word and register, MD and the input are as they were
pub record StoredMasked (l : Layout) (a : State) (number : ℕ) (before after : Core) : Type 0 where
  pub shown : ShowsMemory l a after.mem
  pub others : (n : ℕ) → n ≢ number → after.mem n ≡ before.mem n
  pub kept : (n : ℕ) → n ≢ FIRST → n ≢ SECOND → n ≢ THIRD → n ≢ 22 → reg after.regs n ≡ reg before.regs n
  pub md : after.md ≡ before.md
  pub taken : after.taken ≡ before.taken
  pub words : HoldsWords after.regs
