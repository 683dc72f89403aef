-- The command that the words after the program's name ask for.
use Rattle.std.specs.Prelude.{ℕ, List, [], ◌∷◌, codes, Option, Some, None, option_map, option_and_then, find, length, if◌then◌else◌}
use Rattle.std.specs.Str.{bytes_eq}
use Rattle.cmd_line.specs.Reading.{asked, is_between}
use Rattle.cmd_options.specs.declared.Limits.{Limits}
use Rattle.cmd_options.specs.declared.SessionLimits.{SessionLimits}
use Rattle.cmd_table.specs.Numbers.{number, number_or, optional}
use Rattle.cmd_table.specs.Commands.{Command, Run, Meaning, Build, Exec, Listing, Gen, Soak, Migrate, Share, Debug, Best, Join}

-- the options of a run
abbrev pub run_options : List (List ℕ)
run_options = codes "budget" ∷ codes "trace" ∷ codes "dump" ∷ codes "count" ∷ codes "interrupts" ∷ codes "input" ∷ []

-- the limits of a run, by the values of `--budget`, `--trace`, `--dump` and `--count`; none where a number is faulty
abbrev pub limits_of : Option (List ℕ) → Option (List ℕ) → Option (List ℕ) → Option (List ℕ) → Option Limits
limits_of budget trace dump count =
    option_and_then (λ b.
    option_and_then (λ t.
    option_and_then (λ d.
    option_map (λ c. record { budget = b; trace = t; dump = d; count = c })
    (number_or 1 1 65536 count))
    (optional 0 65535 dump))
    (number_or 0 0 10000 trace))
    (number_or 1000000 0 100000000 budget)

-- what was read: the names, and the values of the options in turn
abbrev pub Words : Type 0
Words = List (List ℕ) × List (Option (List ℕ))

abbrev pub run_of : Words → Option Command
run_of (source ∷ [], budget ∷ trace ∷ dump ∷ count ∷ interrupts ∷ input ∷ []) =
    option_map (Run source (record { interrupts = interrupts; input = input })) (limits_of budget trace dump count)
run_of _ = None

abbrev pub meaning_options : List (List ℕ)
meaning_options = codes "steps" ∷ codes "input" ∷ []

abbrev pub meaning_of : Words → Option Command
meaning_of (source ∷ [], steps ∷ input ∷ []) = option_map (λ n. Meaning source n input) (number_or 1000000 0 100000064 steps)
meaning_of _ = None

abbrev pub build_of : Words → Option Command
build_of (source ∷ target ∷ [], []) = Some (Build source target)
build_of _ = None

abbrev pub exec_of : Words → Option Command
exec_of (image ∷ [], budget ∷ trace ∷ dump ∷ count ∷ interrupts ∷ input ∷ []) =
    option_map (Exec image (record { interrupts = interrupts; input = input })) (limits_of budget trace dump count)
exec_of _ = None

abbrev pub list_of : Words → Option Command
list_of (source ∷ [], []) = Some (Listing source)
list_of _ = None

abbrev pub best_of : Words → Option Command
best_of (source ∷ [], []) = Some (Best source)
best_of _ = None

abbrev pub gen_of : Words → Option Command
gen_of (seed ∷ count ∷ [], []) = option_and_then (λ s. option_map (Gen s) (number 0 4000 count)) (number 0 4294967295 seed)
gen_of _ = None

abbrev pub soak_of : Words → Option Command
soak_of (seed ∷ count ∷ [], []) = option_and_then (λ s. option_map (Soak s) (number 0 4000 count)) (number 0 4294967295 seed)
soak_of _ = None

abbrev pub migrate_of : Words → Option Command
migrate_of (image ∷ target ∷ [], []) = Some (Migrate image target)
migrate_of _ = None

abbrev pub share_options : List (List ℕ)
share_options = codes "budget" ∷ codes "interrupts" ∷ []

abbrev pub share_of : Words → Option Command
share_of (first ∷ second ∷ [], budget ∷ interrupts ∷ []) = option_map (Share first second interrupts) (number_or 1000000 0 100000000 budget)
share_of _ = None

abbrev pub debug_options : List (List ℕ)
debug_options = codes "stops" ∷ codes "watch" ∷ codes "budget" ∷ codes "interrupts" ∷ codes "input" ∷ []

-- the limits of a session, by the values of `--stops`, `--watch` and `--budget`; none where a number is faulty
abbrev pub session_limits_of : Option (List ℕ) → Option (List ℕ) → Option (List ℕ) → Option SessionLimits
session_limits_of stops watch budget =
    option_and_then (λ s.
    option_and_then (λ w.
    option_map (λ b. record { stops = s; watch = w; budget = b })
    (number_or 1000000 0 100000000 budget))
    (number_or 256 256 65535 watch))
    (number_or 1 1 1000 stops)

abbrev pub debug_of : Words → Option Command
debug_of (source ∷ label ∷ [], stops ∷ watch ∷ budget ∷ interrupts ∷ input ∷ []) =
    option_map (Debug source label (record { interrupts = interrupts; input = input })) (session_limits_of stops watch budget)
debug_of _ = None

-- two to sixteen modules
abbrev pub join_of : Words → Option Command
join_of (names, values) = if is_between 2 16 (length names) then Some (Join names) else None

-- a row of the table of commands: its first word, the names of its options, how few and how many names it takes, and
-- what it reads of them
pub record Row : Type 0 where
  pub word : List ℕ
  pub options : List (List ℕ)
  pub fewest : ℕ
  pub most : ℕ
  pub reads : Words → Option Command

-- the table of commands
abbrev pub rows : List Row
rows =
    record { word = codes "run"; options = run_options; fewest = 1; most = 1; reads = run_of }
    ∷ record { word = codes "meaning"; options = meaning_options; fewest = 1; most = 1; reads = meaning_of }
    ∷ record { word = codes "build"; options = []; fewest = 2; most = 2; reads = build_of }
    ∷ record { word = codes "exec"; options = run_options; fewest = 1; most = 1; reads = exec_of }
    ∷ record { word = codes "list"; options = []; fewest = 1; most = 1; reads = list_of }
    ∷ record { word = codes "best"; options = []; fewest = 1; most = 1; reads = best_of }
    ∷ record { word = codes "gen"; options = []; fewest = 2; most = 2; reads = gen_of }
    ∷ record { word = codes "soak"; options = []; fewest = 2; most = 2; reads = soak_of }
    ∷ record { word = codes "migrate"; options = []; fewest = 2; most = 2; reads = migrate_of }
    ∷ record { word = codes "share"; options = share_options; fewest = 2; most = 2; reads = share_of }
    ∷ record { word = codes "debug"; options = debug_options; fewest = 2; most = 2; reads = debug_of }
    ∷ record { word = codes "join"; options = []; fewest = 2; most = 16; reads = join_of }
    ∷ []

-- the row of a first word, spelled exactly
abbrev pub row_of : List ℕ → Option Row
row_of first = find (λ row. bytes_eq row.word first) rows

-- the first word names the command, and the others are read by its row
abbrev pub command_of : List (List ℕ) → Option Command
command_of [] = None
command_of (first ∷ words) =
    option_and_then (λ row. option_and_then row.reads (asked row.options row.fewest row.most words)) (row_of first)
