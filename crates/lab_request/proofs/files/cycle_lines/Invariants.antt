use Rattle.std.proofs.Common.{◌≡◌, map, take}
use Rattle.std.specs.List.{flat_map}
use Rattle.serde_json.specs.View.{view}
use Rattle.lab_request.specs.Requests.{cycle_line}
use Rattle.lab_request.proofs.files.cycle_lines.Given as goal

abbrev pub invariant-loop-item : goal.invariant-loop-item
invariant-loop-item l = l.lines.items ≡ flat_map cycle_line (map view (take l.item-index l.items))
