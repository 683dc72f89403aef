-- The files of a call.
use Rattle.std.specs.Prelude.{ℕ, List, codes, Option, Some, None, if◌then◌else◌}
use Rattle.std.specs.Str.{bytes_eq}
use Rattle.embed_call.specs.declared.call.Call.{Call}

-- what each name holds: just these five hold bytes
abbrev pub held_by : Call → List ℕ → Option (List ℕ)
held_by call name =
    if bytes_eq (codes "source") name then Some call.source.now
    else if bytes_eq (codes "second") name then Some call.second.now
    else if bytes_eq (codes "input") name then Some call.input.now
    else if bytes_eq (codes "interrupts") name then Some call.interrupts.now
    else if bytes_eq (codes "image") name then Some call.image.now
    else None
