-- What contracts see of the files of a session in memory, of which no read or write fails.
use Rattle.mx_io.specs.Shelves.{Told, Counts}
use Rattle.mx_io.specs.MemoryShelf as memory
use Rattle.lab_runs.specs.declared.quiet_files.QuietFiles.{QuietFiles}

-- it tells what its names hold
abbrev pub told_of : QuietFiles → Told
told_of shelf = memory.told_of shelf.files

-- the counts of its reads, none of which is a fault
abbrev pub counts_of : QuietFiles → Counts
counts_of shelf = record { reads = memory.reads_of shelf.files; taken = memory.taken_of shelf.files; faults = 0; log = memory.log_of shelf.files }
