-- The shipped handler.
use Rattle.std.specs.Prelude.{ℕ, List, [], ◌∷◌}

-- counts the interrupt in system word 0 and returns to the fetches that it interrupted
abbrev pub shipped : List ℕ
shipped =
    0x88020001 ∷ 0x88040002 ∷ 0x50001001 ∷ 0x50002002 ∷ 0x88020003 ∷ 0x88040004 ∷ 0x50001003 ∷ 0x88020005
    ∷ 0x80040000 ∷ 0x80020003 ∷ 0xc0840001 ∷ 0x88040000 ∷ 0x58400001 ∷ 0x80040004 ∷ 0x80020005 ∷ 0x58800002 ∷ 0x58400003
    ∷ 0x80040002 ∷ 0x80020001 ∷ 0x40000000 ∷ 0xd0000000 ∷ 0xd0000000 ∷ 0xd8000000 ∷ []
