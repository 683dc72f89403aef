use Rattle.std.proofs.Common.{◌≡◌, drop}
use Rattle.serde_json.specs.View.{view}
use Rattle.lab_request.specs.Fields.{first_wrong}
use Rattle.lab_request.proofs.first.first_wrong.Given as goal

abbrev pub invariant-loop-field : goal.invariant-loop-field
invariant-loop-field l = first_wrong l.fields (view l.value) ≡ first_wrong (drop l.field-index l.fields) (view l.value)
