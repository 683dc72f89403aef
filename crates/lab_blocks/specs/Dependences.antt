-- Why a later instruction depends on an earlier one.
use Rattle.std.specs.Prelude.{Bool, Option, Some, None}
use Rattle.mx_isa.specs.declared.inst.Inst.{Inst}
use Rattle.mx_isa.specs.Views.{reads, writes, access}
use Rattle.mx_depend.specs.Independence.{Apart, OtherWord, Independent}
use Rattle.lab_blocks.specs.declared.kinds.Kind.{Kind}
use Rattle.lab_blocks.specs.declared.kinds.Kind.TheVariants.{True, Anti, Output, Memory}

-- the first reason, in this order: y reads what x writes, y writes what x reads, both write a name, they may reach one word of memory
abbrev pub IsKind : Inst → Inst → Bool → Option Kind → Type 0
IsKind x y input None = Independent x y input
IsKind x y input (Some True) = ¬ Apart (writes x) (reads y)
IsKind x y input (Some Anti) = Apart (writes x) (reads y) × (¬ Apart (writes y) (reads x))
IsKind x y input (Some Output) = Apart (writes x) (reads y) × Apart (writes y) (reads x) × (¬ Apart (writes x) (writes y))
IsKind x y input (Some Memory) =
    Apart (writes x) (reads y) × Apart (writes y) (reads x) × Apart (writes x) (writes y) × (¬ OtherWord input (access x) (access y))
