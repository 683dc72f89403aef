-- Which way the operands of the word in ALU come.
use Rattle.std.specs.Prelude.{ℕ, Bool, false, cond, eqb, not, ◌&&◌, Option, Some, None}
use Rattle.mx_isa.specs.declared.inst.Inst.{Inst}
use Rattle.mx_isa.specs.Views.{dest, is_load}
use Rattle.lab_draw.specs.declared.ways.Way.{Way}
use Rattle.lab_draw.specs.declared.ways.Way.TheVariants.{Nowhere, File, BypassInRf, BypassInAlu}

-- whether a word writes a register
abbrev pub writes_to : Option Inst → ℕ → Bool
writes_to None register = false
writes_to (Some i) register = eqb (dest i) register

abbrev pub is_loading : Option Inst → Bool
is_loading None = false
is_loading (Some i) = is_load i

-- by the words in MEM and in WB: the one in MEM passes its number on, but not that of a load, and the one in WB was in MEM as this
-- word was in RF
abbrev pub way_by : Option Inst → Option Inst → ℕ → Way
way_by mem wb register =
    cond (eqb register 0) Nowhere
    (cond (writes_to mem register && not (is_loading mem)) BypassInAlu (cond (writes_to wb register) BypassInRf File))
