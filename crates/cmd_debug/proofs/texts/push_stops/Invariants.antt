use Rattle.std.proofs.Common.{◌≡◌, ◌+◌, ◌++◌, drop}
use Rattle.cmd_debug.specs.Texts.{stops_text}
use Rattle.cmd_debug.proofs.texts.push_stops.Given as goal

-- the stops from the index on are left
abbrev pub invariant-loop-index : goal.invariant-loop-index
invariant-loop-index l =
    l.text.items ++ stops_text l.watch (l.index + 1) (drop l.index l.stops) ≡ l.fn.text.items ++ stops_text l.watch 1 l.stops
