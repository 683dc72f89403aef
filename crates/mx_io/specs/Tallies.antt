-- What contracts see of the counts and the logs of a shelf.
use Rattle.mx_io.specs.Shelves.{Counts}
use Rattle.mx_io.specs.declared.tally.Tally.{Tally}

-- the counts of its reads
abbrev pub counts_in : Tally → Counts
counts_in tally = record { reads = tally.reads; taken = tally.taken; faults = tally.read_faults; log = tally.log.reads }
