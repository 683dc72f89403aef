-- How the reply to what was asked ends.
use Rattle.std.specs.Prelude.{◌≡◌, ◌⊎◌, Bool, true, false}
use Rattle.cmd_answer.specs.declared.Status.{Status}
use Rattle.cmd_answer.specs.declared.Status.TheVariants.{Usage, ReadFault, WriteFault, Memory}
use Rattle.cmd_answer.specs.Answer.{Answer}

-- a status that words which ask for nothing, a fault outside and want of memory do not give
abbrev pub is_answered : Status → Bool
is_answered Usage = false
is_answered ReadFault = false
is_answered WriteFault = false
is_answered Memory = false
is_answered _ = true

-- the answer to what was asked, or a read fault
abbrev pub IsReplied : Answer → Type 0
IsReplied answer = (is_answered answer.status ≡ true) ⊎ (answer.status ≡ ReadFault)
