use Rattle.std.proofs.Common.{◌≡◌, drop}
use Rattle.std.specs.List.{list_all}
use Rattle.serde_json.specs.View.{view}
use Rattle.lab_request.specs.Fields.{is_within}
use Rattle.lab_request.proofs.values.are_bytes.Given as goal

abbrev pub invariant-loop-item : goal.invariant-loop-item
invariant-loop-item l = list_all (λ v. is_within 0 255 (view v)) l.items ≡ list_all (λ v. is_within 0 255 (view v)) (drop l.item-index l.items)
