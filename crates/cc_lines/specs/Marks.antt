-- The kinds of bytes at which texts are split.
use Rattle.std.specs.Prelude.{ℕ, Bool, not, ◌||◌, ◌==◌}
use Rattle.cc_lines.specs.Bytes.{is_blank, is_named}
use Rattle.cc_lines.specs.declared.cursor.Mark.{Mark}
use Rattle.cc_lines.specs.declared.cursor.Mark.TheVariants.{Byte, Gap, Separator, Unnamed, Seen}

-- a byte is of this kind
abbrev pub fits : Mark → ℕ → Bool
fits (Byte own) b = b == own
fits Gap b = b == 32 || b == 9
fits Separator b = b == 32 || b == 9 || b == 44
fits Unnamed b = not (is_named b)
fits Seen b = not (is_blank b)
