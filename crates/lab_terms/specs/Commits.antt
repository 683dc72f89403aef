-- What an instruction does that commits.
use Rattle.std.specs.Prelude.{ℕ, ◌==◌, if◌then◌else◌, Option, Some, None}
use Rattle.mx_isa.specs.declared.inst.Inst.{Inst}
use Rattle.mx_isa.specs.Views.{dest, writes_md, is_store}
use Rattle.lab_terms.specs.declared.committed.Committed.{Committed}

-- the register that it writes, unless it is r0
abbrev pub register_of : Inst → Option ℕ
register_of i = if dest i == 0 then None else Some (dest i)

-- the register, whether it writes MD, and whether it stores a word
abbrev pub does : Inst → Committed
does i = record { register = register_of i; md = writes_md i; store = is_store i }
