-- How far an undisturbed run has come.
use Rattle.std.specs.Prelude.{◌≡◌, ◌<◌, ℕ, false, []}
use Rattle.mx_icache.specs.LineSets.{CacheHolds}
use Rattle.mx_turn.specs.Program.{Program, image_program, state_after}
use Rattle.mx_turn.specs.Run.{bits, console_after}
use Rattle.mx_pipe.specs.Kept.{StandsFor}
use Rattle.lab_measures.specs.declared.forward.Forward.{Forward}
use Rattle.lab_measures.specs.declared.sweep.Swept.{Swept}
use Rattle.lab_measures.specs.Entries.{signals_of}
use Rattle.lab_measures.specs.Progress.{Reached}

-- it has come so many cycles of the run of a program, and did not halt before the last of them
pub record HasCome (p : Program) (f : Forward) : Type 0 where
  pub stands : StandsFor CacheHolds f.machine p (bits [] f.cycle)
  pub halted : f.halted ≡ (state_after p (bits [] f.cycle)).halted
  pub going : (k : ℕ) → k < f.cycle → (state_after p (bits [] k)).halted ≡ false
  pub console : f.notes.console.items ≡ console_after p (bits [] f.cycle)
  pub reached : Reached (signals_of p []) f.cycle f.cycle f.notes.progress

-- that of what is swept has
abbrev pub ComesFor : Swept → Forward → Type 0
ComesFor swept f = HasCome (image_program swept.image.now swept.input) f
