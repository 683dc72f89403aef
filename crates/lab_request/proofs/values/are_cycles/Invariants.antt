use Rattle.std.proofs.Common.{◌≡◌, ◌≤◌, drop, map}
use Rattle.serde_json.specs.View.{view}
use Rattle.lab_request.specs.Fields.{are_cycles}
use Rattle.lab_request.proofs.values.are_cycles.Given as goal

abbrev pub invariant-loop-item : goal.invariant-loop-item
invariant-loop-item l = (l.least ≤ 4294967296) × (are_cycles 0 (map view l.items) ≡ are_cycles l.least (map view (drop l.item-index l.items)))
