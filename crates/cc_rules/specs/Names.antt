-- Names in a source.
use Rattle.std.specs.Prelude.{ℕ, ◌+◌, ◌*◌, ◌==◌, List, length, count_by}

-- how many bytes a name takes, where each `$` is spelled as three
abbrev pub spelled_len : List ℕ → ℕ
spelled_len name = length name + count_by (λ b. b == 36) name * 2
