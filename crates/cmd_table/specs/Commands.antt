-- What a command line may ask for.
use Rattle.std.specs.Prelude.{ℕ, List, Option}
use Rattle.cmd_options.specs.declared.Limits.{Limits}
use Rattle.cmd_options.specs.declared.SessionLimits.{SessionLimits}
use Rattle.cmd_options.specs.Options.{Files}

pub data Command : Type 0 where
  -- runs a source
  Run : (source : List ℕ) → (files : Files) → (limits : Limits) → Command
  -- tells what a source means after some steps
  Meaning : (source : List ℕ) → (steps : ℕ) → (input : Option (List ℕ)) → Command
  -- writes the image file of a source
  Build : (source : List ℕ) → (target : List ℕ) → Command
  -- runs an image file
  Exec : (image : List ℕ) → (files : Files) → (limits : Limits) → Command
  -- lists the words of a linked source
  Listing : (source : List ℕ) → Command
  -- tells how long the plans of each block of a source are
  Best : (source : List ℕ) → Command
  -- prints a generated source
  Gen : (seed : ℕ) → (count : ℕ) → Command
  -- runs a generated source under many interrupts
  Soak : (seed : ℕ) → (count : ℕ) → Command
  -- writes an image file in the newest version
  Migrate : (image : List ℕ) → (target : List ℕ) → Command
  -- runs two sources that share the machine
  Share : (first : List ℕ) → (second : List ℕ) → (interrupts : Option (List ℕ)) → (budget : ℕ) → Command
  -- runs a source and tells its stops at a label
  Debug : (source : List ℕ) → (label : List ℕ) → (files : Files) → (limits : SessionLimits) → Command
  -- joins modules to one source
  Join : (names : List (List ℕ)) → Command
