-- The hash of a source, as a certificate has it.
use Rattle.std.specs.Prelude.{ℕ, List}
use Rattle.hex.specs.Hex.{encode_lower}
use Rattle.sha2.specs.Sha256.{sha256}

-- the SHA-256 of bytes, as 64 hexadecimal digits
abbrev pub hash_digits : List ℕ → List ℕ
hash_digits bytes = encode_lower (sha256 bytes)
