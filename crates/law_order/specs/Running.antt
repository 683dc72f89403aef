-- What instructions do one after another, in source order and in the order of a plan.
use Rattle.std.specs.Prelude.{ℕ, Bool, cond, ◌&&◌, List, [], ◌∷◌, ◌++◌, Option, option_to_list}
use Rattle.mx_isa.specs.declared.inst.Inst.{Inst}
use Rattle.mx_isa.specs.declared.place.Place.{Place}
use Rattle.mx_isa.specs.Effect.{Core, Decision, decides, act}
use Rattle.mx_isa.specs.Views.{access, is_transfer}
use Rattle.mx_isa.specs.UserBus.{user_bus}
use Rattle.mx_delay.specs.Delay.{user_byte}
use Rattle.mx_delay.specs.Clean.{is_lawful}
use Rattle.mx_depend.specs.Graphs.{inst_at}
use Rattle.mx_blocks.specs.declared.block.Item.{Item}
use Rattle.mx_blocks.specs.declared.block.Item.TheVariants.{Op, Nop}

-- registers with MD, data and the input bytes taken; the bytes of the console so far; whether each access so far was lawful;
-- and where the last transfer leads
pub record Ran : Type 0 where
  pub core : Core
  pub bytes : List ℕ
  pub clean : Bool
  pub leads : Decision

-- one instruction, as if it stood at this address
abbrev pub run_one : Place → Option (List ℕ) → ℕ → Inst → Ran → Ran
run_one p input at i s = record {
  core = act (user_bus p input) i at s.core.regs s.core;
  bytes = s.bytes ++ option_to_list (user_byte p input i at s.core);
  clean = s.clean && is_lawful p input (access i) s.core.regs;
  leads = cond (is_transfer i) (decides i at s.core.regs) s.leads;
}

-- the instructions in source order
abbrev pub run_source : Place → Option (List ℕ) → ℕ → List Inst → Ran → Ran
run_source p input at [] s = s
run_source p input at (i ∷ insts) s = run_source p input at insts (run_one p input at i s)

-- the items of a plan of these instructions; a no-op does nothing
abbrev pub run_items : Place → Option (List ℕ) → ℕ → List Inst → List Item → Ran → Ran
run_items p input at insts [] s = s
run_items p input at insts (Op k ∷ items) s = run_items p input at insts items (run_one p input at (inst_at insts k) s)
run_items p input at insts (Nop ∷ items) s = run_items p input at insts items s
