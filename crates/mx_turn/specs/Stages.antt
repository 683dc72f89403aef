-- The fetches in the stages of the pipeline.
use Rattle.std.specs.Prelude.{ℕ, Bool, false, cond, ◌||◌, Option, Some, None}
use Rattle.mx_isa.specs.declared.inst.Inst.{Inst}
use Rattle.mx_delay.specs.Delay.{Code, idle}
use Rattle.mx_pcchain.specs.Fetch.{Fetch}
use Rattle.mx_turn.specs.declared.latches.Stage.{Stage}
use Rattle.mx_turn.specs.declared.latches.Stage.TheVariants.{Empty, Live, Squashed}

-- a fetch that is not squashed
abbrev pub fetch_of : ℕ → Fetch
fetch_of a = record { address = a; squashed = false }

-- what a stage does; one that is empty, killed or squashed does nothing
abbrev pub live : Code → Option Fetch → Inst
live code None = idle
live code (Some f) = cond f.squashed idle (code f.address)

abbrev pub address_of : Option Fetch → ℕ
address_of None = 0
address_of (Some f) = f.address

abbrev pub squash : Bool → Option Fetch → Option Fetch
squash b None = None
squash b (Some f) = Some (record { address = f.address; squashed = b || f.squashed })

-- what the chain keeps of a stage
abbrev pub saved : Option Fetch → Fetch
saved None = fetch_of 0
saved (Some f) = f

-- what a trace shows of a stage
abbrev pub stage_of : Option Fetch → Stage
stage_of None = Empty
stage_of (Some f) = cond f.squashed (Squashed f.address) (Live f.address)
