-- How far a name may be from a word that was meant to be it.
use Rattle.std.specs.Prelude.{ℕ, ◌/◌, max}

abbrev pub most_slips : ℕ → ℕ
most_slips bytes = max (bytes / 3) 1
