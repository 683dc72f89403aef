use Rattle.std.proofs.Common.{◌≡◌, drop}
use Rattle.std.specs.List.{list_all}
use Rattle.lab_request.specs.Fields.{is_name_sign}
use Rattle.lab_request.proofs.values.are_name_signs.Given as goal

abbrev pub invariant-loop-byte : goal.invariant-loop-byte
invariant-loop-byte l = list_all is_name_sign l.bytes ≡ list_all is_name_sign (drop l.byte-index l.bytes)
