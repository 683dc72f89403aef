use Rattle.std.proofs.Common.{◌≡◌, ◌++◌, map, string_bytes, take}
use Rattle.serde_json.specs.View.{view}
use Rattle.lab_request.specs.Requests.{options_in}
use Rattle.lab_request.proofs.words.push_options.Given as goal

abbrev pub invariant-loop-field : goal.invariant-loop-field
invariant-loop-field l = map string_bytes l.words.items ≡ map string_bytes l.initial.words.items ++ options_in (take l.field-index l.fields) (view l.value)
