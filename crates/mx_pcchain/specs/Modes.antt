-- The current mode and the other one.
use Rattle.std.specs.Prelude.{true, false}
use Rattle.mx_pcchain.specs.declared.psw.Mode.{Mode}
use Rattle.mx_pcchain.specs.declared.psw.Psw.{Psw}

-- user mode with interrupts on
abbrev pub user_mode : Mode
user_mode = record { user = true; interrupts = true }

-- system mode with interrupts off
abbrev pub system_mode : Mode
system_mode = record { user = false; interrupts = false }

-- before the first cycle
abbrev pub psw_at_start : Psw
psw_at_start = record { current = user_mode; other = system_mode }

-- when an interrupt is taken
abbrev pub psw_entered : Psw → Psw
psw_entered p = record { current = system_mode; other = p.current }

-- when the other mode is restored
abbrev pub psw_restored : Psw → Psw
psw_restored p = record { current = p.other; other = p.other }
