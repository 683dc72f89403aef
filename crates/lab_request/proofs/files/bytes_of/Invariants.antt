use Rattle.std.proofs.Common.{◌≡◌, map, take}
use Rattle.serde_json.specs.View.{view}
use Rattle.lab_request.specs.Requests.{byte_in}
use Rattle.lab_request.proofs.files.bytes_of.Given as goal

abbrev pub invariant-loop-item : goal.invariant-loop-item
invariant-loop-item l = l.bytes.items ≡ map byte_in (map view (take l.item-index l.items))
