-- What holds of every run of the machine with delay slots.
use Rattle.std.specs.Prelude.{◌≡◌, ℕ, ◌+◌, ◌≤◌, Bool, true, List, Option}
use Rattle.mx_isa.specs.declared.place.Place.{Place}
use Rattle.mx_isa.specs.Words.{Words}
use Rattle.mx_delay.specs.Delay.{Code, delay_for, delay}
use Rattle.mx_delay.specs.Clean.{watch_for, watch_start, IsClean}
use Rattle.mx_delay.specs.Prefixes.{IsPrefix}

-- m steps and n more are m + n steps
abbrev pub StepsAdd : Type 0
StepsAdd =
    (code : Code) (p : Place) (input : Option (List ℕ)) (data_words : Words) (m n : ℕ)
    → delay code p input data_words (m + n) ≡ delay_for code p input n (delay code p input data_words m)

-- no byte that was sent is taken back
abbrev pub ConsoleGrows : Type 0
ConsoleGrows =
    (code : Code) (p : Place) (input : Option (List ℕ)) (data_words : Words) (m n : ℕ) → m ≤ n
    → IsPrefix (delay code p input data_words m).console (delay code p input data_words n).console

-- after a halt nothing changes
abbrev pub HaltStays : Type 0
HaltStays =
    (code : Code) (p : Place) (input : Option (List ℕ)) (data_words : Words) (m n : ℕ) → m ≤ n
    → (delay code p input data_words m).halted ≡ true
    → delay code p input data_words n ≡ delay code p input data_words m

-- that its steps are watched changes nothing
abbrev pub WatchedIsDelay : Type 0
WatchedIsDelay =
    (code : Code) (inside : ℕ → Bool) (p : Place) (input : Option (List ℕ)) (data_words : Words) (n : ℕ)
    → (watch_for code inside p input n (watch_start p data_words)).at ≡ delay code p input data_words n

-- what is clean for n steps is clean for fewer
abbrev pub CleanForFewer : Type 0
CleanForFewer =
    (code : Code) (inside : ℕ → Bool) (p : Place) (input : Option (List ℕ)) (data_words : Words) (m n : ℕ) → m ≤ n
    → IsClean code inside p input data_words n → IsClean code inside p input data_words m
