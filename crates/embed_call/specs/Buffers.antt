-- A text in a buffer that is lent.
use Rattle.std.specs.Prelude.{ℕ, List, ◌++◌, length, take, drop}

-- a buffer with a text at its front, as much of it as there is room for, and behind it what stood there
abbrev pub filled : List ℕ → List ℕ → List ℕ
filled text buffer = take (length buffer) text ++ drop (length text) buffer
