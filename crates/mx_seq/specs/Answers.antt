-- What a step of the meaning answers.
use Rattle.std.specs.Prelude.{ℕ, Option}
use Rattle.mx_source.specs.Meaning.{Mark, Going, Halted, Stuck, Step}
use Rattle.mx_seq.specs.declared.execution.Stepped.{Stepped}
use Rattle.mx_seq.specs.declared.execution.Stepped.TheVariants as stepped

abbrev pub answer_by : Mark → Option ℕ → Stepped
answer_by Going byte = stepped.Went byte
answer_by Halted byte = stepped.Halted
answer_by (Stuck why) byte = stepped.Stuck why

-- what a step answers: the byte that it sent, where the run goes on
abbrev pub answer_of : Step → Stepped
answer_of step = answer_by step.after.mark step.byte
