-- What a command runs: a linked source, and what its run is given.
use Rattle.std.specs.Prelude.{◌≡◌, ℕ, ◌≤◌, List, [], Option, option_map}
use Rattle.mx_io.specs.declared.limits.TheConstants.{MAX_FILE_BYTES}
use Rattle.mx_io.specs.Shelves.{Told, Counts}
use Rattle.mx_board.specs.Contents.{bytes_in}
use Rattle.mx_icache.specs.LineSets.{CacheHolds}
use Rattle.mx_icache.specs.declared.line_cache.LineCache.{LineCache}
use Rattle.mx_source.specs.Meaning.{given}
use Rattle.mx_turn.specs.Handler.{shipped}
use Rattle.mx_turn.specs.Program.{Program, program_of}
use Rattle.mx_pipe.specs.declared.pipe.Pipe.{Pipe}
use Rattle.mx_pipe.specs.Kept.{StandsFor}
use Rattle.lab_watch.specs.declared.watched.Watched.{Watched}
use Rattle.lab_watch.specs.Within.{within}
use Rattle.lab_sources.specs.declared.runs.GivenRun.{GivenRun}
use Rattle.lab_options.specs.declared.options.RunOptions.{RunOptions}
use Rattle.lab_sources.specs.Sources.{IsSourceOf}
use Rattle.lab_sources.specs.Stimuli.{AreGiven}
use Rattle.lab_sources.specs.Planners.{IsLinkedAs, IsAskedFor}

-- the run that was asked for: the named source, linked by the named plans, with what the named files give it; each was read once,
-- in this order
pub record IsRunOf (told : Told) (options : RunOptions) (before after : Counts) (run : GivenRun) : Type 0 where
  pub read : Counts
  pub planned : Counts
  pub source : IsSourceOf told options.source.now before read run.program.text.items run.program.source
  pub asked : IsAskedFor told options.plans run.program.source read planned run.by
  pub linked : IsLinkedAs run.by run.program
  pub stimulus : AreGiven told (option_map (λ s. s.now) options.stimulus.interrupts) (option_map (λ s. s.now) options.stimulus.input)
      planned after run.stimulus
  pub budget : run.budget ≡ options.budget

-- an input has no more bytes than a file may have
abbrev pub IsOfFile : Option (List ℕ) → Type 0
IsOfFile input = bytes_in input ≤ MAX_FILE_BYTES

-- the bytes of the input, where the source asks for one
abbrev pub input_of : GivenRun → Option (List ℕ)
input_of run = given run.program.source.input run.stimulus.input.items

-- the program that runs: the image's code and data under the shipped handler, with the input
abbrev pub loaded : GivenRun → Program
loaded run = program_of shipped run.program.linked.image.code.items run.program.linked.image.user_data.items (input_of run)

-- a watched pipeline stands before the first cycle of the run
abbrev pub IsLoaded : {W : Type 0} → GivenRun → Watched (Pipe LineCache) W → Type 0
IsLoaded run machine = StandsFor CacheHolds (within machine) (loaded run) []
