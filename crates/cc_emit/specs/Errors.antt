-- What is known of a translation that is refused.
use Rattle.std.specs.Prelude.{◌<◌}
use Rattle.cc_emit.specs.declared.error.TranslateError.{TranslateError}
use Rattle.cc_emit.specs.declared.error.TranslateError.TheVariants.{Statements, Words}
use Rattle.cc_emit.specs.declared.limits.TheConstants.{MOST_STATEMENTS, MOST_WORDS}

-- a number of statements or of words that is told is more than there may be
abbrev pub IsTooMany : TranslateError → Type 0
IsTooMany (Statements count crossing) = MOST_STATEMENTS < count
IsTooMany (Words count) = MOST_WORDS < count
IsTooMany _ = Unit {0}
