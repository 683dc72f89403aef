-- The state that the code keeps of a run of the meaning.
use Rattle.std.specs.Prelude.{◌≡◌, ℕ, ◌+◌, suc, cond, length, ℤ, Option, Some, None}
use Rattle.std.specs.Int.{cast_unsigned, w32}
use Rattle.mx_isa.specs.Arithmetic.{word_of}
use Rattle.mx_isa.specs.Effect.{Found}
use Rattle.mx_source.specs.declared.statement.Value.{Value}
use Rattle.mx_source.specs.declared.statement.Value.TheVariants.{Int, Code}
use Rattle.mx_source.specs.Meaning.{State, Step, goes}
use Rattle.mx_seq.specs.Lists.{values_of}
use Rattle.mx_seq.specs.Marks.{mark_of}
use Rattle.mx_seq.specs.Answers.{answer_of}
use Rattle.mx_seq.specs.declared.execution.Execution.{Execution}
use Rattle.mx_seq.specs.declared.execution.Stepped.{Stepped}

-- the state that the code keeps
abbrev pub execution_state : Execution → State
execution_state m = record {
  index = m.index;
  regs = values_of m.registers;
  md = m.md;
  mem = values_of m.user_data;
  taken = m.taken;
  mark = mark_of m.mark;
}

-- a call did this step, and answered it
pub record Does (step : Step) (old new : Execution) (result : Stepped) : Type 0 where
  pub after : execution_state new ≡ step.after
  pub answer : result ≡ answer_of step
  pub room : length new.user_data ≡ length old.user_data

-- the word that a value is and a number, as one word; none where it is a place of code
abbrev pub sum_from : Value → ℤ → Option ℕ
sum_from (Int word) imm = Some (word_of (word + cast_unsigned w32 imm))
sum_from (Code place) imm = None

-- a load of input: what was found is put into a register, and counted where it was a byte
abbrev pub takes : Found → ℕ → State → Step
takes found dest s = goes (suc s.index) dest (Int found.word) (record s { taken = cond found.takes (suc s.taken) s.taken })
