-- What the run of a program fetches.
use Rattle.std.specs.Prelude.{ℕ, List, [], ◌∷◌}
use Rattle.mx_turn.specs.declared.latches.Stage.{Stage}
use Rattle.mx_turn.specs.declared.latches.Stage.TheVariants.{Empty, Live, Squashed}
use Rattle.mx_turn.specs.Program.{Program}
use Rattle.mx_turn.specs.Run.{run_of}

-- the addresses that a run with these requests fetches until it ends, the newest first: those of all completed turns
abbrev pub fetches_of : Program → List ℕ → ℕ → List ℕ
fetches_of p requests budget = (run_of p requests budget).last.past

-- the address in a stage, if it holds a fetch
abbrev pub address_in : Stage → List ℕ
address_in Empty = []
address_in (Live address) = address ∷ []
address_in (Squashed address) = address ∷ []
