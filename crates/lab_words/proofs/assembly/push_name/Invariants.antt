use Rattle.std.proofs.Common.{◌≡◌, ◌++◌, drop, string_bytes, encode_utf8_all}
use Rattle.lab_words.proofs.assembly.push_name.Given as goal

-- what was appended, and the text of the bytes that are left
abbrev pub invariant-loop-byte : goal.invariant-loop-byte
invariant-loop-byte l = string_bytes l.text ++ encode_utf8_all (drop l.byte-index l.name) ≡ string_bytes l.fn.text ++ encode_utf8_all l.name
