-- What the options of a command ask for.
use Rattle.std.specs.Prelude.{ℕ, ◌≤◌, List, Option, option_map}
use Rattle.std.specs.Int.{IsInRange}
use Rattle.cmd_options.specs.declared.RunFiles.{RunFiles}
use Rattle.cmd_options.specs.declared.SessionLimits.{SessionLimits}

-- the files that a run reads besides its program: interrupt requests, and the input
pub record Files : Type 0 where
  pub interrupts : Option (List ℕ)
  pub input : Option (List ℕ)

-- what contracts see of them
abbrev pub seen_files : RunFiles → Files
seen_files files = record { interrupts = option_map (λ s. s.now) files.interrupts; input = option_map (λ s. s.now) files.input }

-- what may be asked of a session: 1 to 1,000 stops, a word of user data, and at most 100,000,000 cycles
pub record IsAsked (limits : SessionLimits) : Type 0 where
  pub stops : IsInRange 1 1000 limits.stops
  pub watch : IsInRange 256 65535 limits.watch
  pub budget : limits.budget ≤ 100000000
