-- The canonical text of the source that texts join as.
use Rattle.std.specs.Prelude.{◌≡◌, ℕ, ◌≤◌, List, length, All, None}
use Rattle.mx_isa.specs.declared.Place.{Place}
use Rattle.mx_source.specs.declared.Label.{Label}
use Rattle.mx_source.specs.SourceValue.{SourceValue}
use Rattle.mx_source.specs.Meaning.{meaning}
use Rattle.mx_asm.specs.Printable.{IsSameProgram, ReadsBack}
use Rattle.mx_module.specs.Joined.{joined, join_fault}

-- at most 16 texts of at most 4,194,304 bytes, without faults, whose labels have names of at most 200 bytes in the program
pub record AreJoined (texts : List (List ℕ)) : Type 0 where
  pub few : length texts ≤ 16
  pub short : All (λ text. length text ≤ 4194304) texts
  pub faultless : join_fault texts ≡ None
  pub names : All (λ (p : List ℕ × Label). length p.0 ≤ 200) (joined texts).labels

-- The canonical text of the source that texts join as has no fault, and reads as the same program.
abbrev pub JoinedReadsBack : Type 0
JoinedReadsBack = (texts : List (List ℕ)) → AreJoined texts → ReadsBack (joined texts)

-- The same program has the same meaning: at any place, with any input, after any number of steps.
abbrev pub SameMeaning : Type 0
SameMeaning = (s t : SourceValue) → IsSameProgram s t → (place : Place) (bytes : List ℕ) (n : ℕ) → meaning t place bytes n ≡ meaning s place bytes n
