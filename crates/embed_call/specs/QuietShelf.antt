-- What contracts see of the shelf of a call: files in memory, of which no read or write fails.
use Rattle.std.specs.Prelude.{ℕ, List, Option}
use Rattle.mx_io.specs.Shelves.{Told, Counts}
use Rattle.mx_io.specs.MemoryShelf as memory
use Rattle.embed_call.specs.declared.quiet_shelf.QuietShelf.{QuietShelf}

-- what a name holds
abbrev pub held_in : QuietShelf → List ℕ → Option (List ℕ)
held_in shelf = memory.held_in shelf.files

-- it tells what its names hold
abbrev pub told_of : QuietShelf → Told
told_of shelf = memory.told_of shelf.files

-- the counts of its reads, none of which is a fault
abbrev pub counts_of : QuietShelf → Counts
counts_of shelf = record { reads = memory.reads_of shelf.files; taken = memory.taken_of shelf.files; faults = 0; log = memory.log_of shelf.files }
