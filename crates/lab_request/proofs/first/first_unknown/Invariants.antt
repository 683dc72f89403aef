use Rattle.std.proofs.Common.{◌≡◌, map, string_bytes}
use Rattle.serde_json.specs.View.{members_view}
use Rattle.lab_request.specs.Fields.{keys_of, first_unknown}
use Rattle.lab_request.proofs.first.first_unknown.Given as goal

abbrev pub invariant-loop-key : goal.invariant-loop-key
invariant-loop-key l = first_unknown l.fields (keys_of (members_view l.members.entries)) ≡ first_unknown l.fields (map string_bytes l.key-iterator)
