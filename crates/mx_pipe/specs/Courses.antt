-- Where a word in ALU leads.
use Rattle.std.specs.Prelude.{ℕ, ◌+◌, ◌%◌, ◌^◌, true, false, cond, Some, None}
use Rattle.std.specs.Int.{w32, cast_unsigned}
use Rattle.mx_isa.specs.declared.inst.Inst.{Inst}
use Rattle.mx_isa.specs.declared.inst.Inst.TheVariants.{Branch, Jspci, Jpc, Jpcrs}
use Rattle.mx_isa.specs.Arithmetic.{condition_holds}
use Rattle.mx_isa.specs.Words.{Words, reg}
use Rattle.mx_isa.specs.Effect.{offset_by}
use Rattle.mx_delay.specs.Delay.{next_of}
use Rattle.mx_turn.specs.declared.alu_stage.Decided.{Decided}
use Rattle.mx_pipe.specs.declared.alu.Course.{Course}
use Rattle.mx_pipe.specs.declared.alu.Course.TheVariants.{To, Cancels, Pops, Returns}

-- what a course decides
abbrev pub told : Course → Decided
told (To a) = record { target = Some a; cancels = false; pops = false; restores = false }
told Cancels = record { target = None; cancels = true; pops = false; restores = false }
told Pops = record { target = None; cancels = false; pops = true; restores = false }
told Returns = record { target = None; cancels = false; pops = true; restores = true }

-- by its address, that of the fetch, and the registers that it sees; most words lead to the fetch behind
abbrev pub course_of : Inst → ℕ → ℕ → Words → Course
course_of (Branch a b condition squash by) at last r =
    cond (condition_holds condition (reg r a) (reg r b)) (To ((at + cast_unsigned w32 by) % 2 ^ 31)) (cond squash Cancels (To (next_of None last)))
course_of (Jspci a dest imm) at last r = To (offset_by r a imm % 2 ^ 31)
course_of Jpc at last r = Pops
course_of Jpcrs at last r = Returns
course_of _ at last r = To (next_of None last)

-- where a course leads at once: 2^31, which is no code address, for one that cancels or pops
abbrev pub target_of : Course → ℕ
target_of (To a) = a
target_of course = 2 ^ 31

-- the course of an instruction that leads nowhere at once
abbrev pub course_aside : Inst → Course
course_aside Jpc = Pops
course_aside Jpcrs = Returns
course_aside i = Cancels
