use Rattle.std.proofs.Common.{◌≡◌, drop}
use Rattle.lab_request.specs.Fields.{is_field}
use Rattle.lab_request.proofs.first.is_field.Given as goal

abbrev pub invariant-loop-field : goal.invariant-loop-field
invariant-loop-field l = is_field l.fields l.key ≡ is_field (drop l.field-index l.fields) l.key
