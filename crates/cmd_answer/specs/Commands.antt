-- What a command is known to have done: from the files that it may read and its answer by what they hold, to what came out.
use Rattle.std.specs.Prelude.{◌≡◌, ◌≢◌, ◌++◌, ℕ, ◌⊎◌, List, true, Option}
use Rattle.mx_io.specs.Counts.{Rose}
use Rattle.cmd_answer.specs.declared.file.FileKind.{FileKind}
use Rattle.cmd_answer.specs.declared.status.Status.{Status}
use Rattle.cmd_answer.specs.declared.status.Status.TheVariants.{Done, ReadFault, WriteFault, Memory}
use Rattle.cmd_answer.specs.Answer.{Answer, failed_answer}
use Rattle.mx_io.specs.Reads.{Read}
use Rattle.mx_io.specs.Shelves.{Told, Counts}
use Rattle.cmd_answer.specs.Protocol.{Protocol, resolved, Faulted}
use Rattle.cmd_answer.specs.Logged.{answer_by, AreAsked, Agree}
use Rattle.cmd_answer.specs.Delivery.{Delivered, PutsPrefix, FailsToWrite}

-- what a shelf tells and counts, what a sink counts, and what was put out
pub record Outside : Type 0 where
  pub told : Told
  pub counts : Counts
  pub write_faults : ℕ
  pub sink_faults : ℕ
  pub written : List ℕ

-- what putting an answer out did
pub record Finished (answer : Answer) (before after : Outside) (result : Status) : Type 0 where
  pub delivered : result ≢ WriteFault → result ≢ Memory → Delivered answer result before.told after.told before.written after.written
  pub write_fault : result ≡ WriteFault → FailsToWrite answer before.sink_faults after.sink_faults before.write_faults after.write_faults
  pub put_out : result ≡ WriteFault → PutsPrefix answer before.written after.written
  pub memory : result ≡ Memory → after.written ≡ before.written
  pub unwrote : (result ≡ WriteFault) ⊎ (result ≡ Memory) → after.told.wrote ≡ before.told.wrote
  pub kept : (result ≡ WriteFault) ⊎ (result ≡ Memory) → before.told.tells ≡ true → (n : List ℕ) → after.told.held n ≡ before.told.held n

-- The reads of the command: the log grew by just these, and they are those that it asks for.
pub record Made (p : Protocol) (before after : Counts) (reads : List Read) : Type 0 where
  pub logged : after.log ≡ before.log ++ reads
  pub asked : AreAsked p reads

pub record Commanded (p : Protocol) (before after : Outside) (result : Status) : Type 0 where
  -- OF EVERY SHELF AND SINK: the reads are those that the words ask for, and the answer by what they gave is what came out, unless
  -- the sink or the shelf refused to take it, or memory ran out
  pub exact : result ≢ WriteFault → result ≢ Memory
      → (reads : List Read) × Made p before.counts after.counts reads
      × Delivered (answer_by p reads) result before.told after.told before.written after.written
  -- so it is the answer by what the names hold, whatever these hold that agrees with what each read gave
  pub exact_held : result ≢ WriteFault → result ≢ Memory
      → (reads : List Read) × (after.counts.log ≡ before.counts.log ++ reads)
      × ((held : List ℕ → Option (List ℕ)) → Agree held reads
      → Delivered (resolved p held) result before.told after.told before.written after.written)
  -- where it was refused, a prefix of that answer's output is out
  pub exact_prefix : result ≡ WriteFault
      → (reads : List Read) × Made p before.counts after.counts reads × PutsPrefix (answer_by p reads) before.written after.written
  -- no file was taken whole but where the command is done
  pub unwrote : result ≢ Done → after.told.wrote ≡ before.told.wrote
  -- where the shelf tells what it holds and no count of faults rises, the answer is that of what it holds, or memory ran out
  pub complete : before.told.tells ≡ true
      → ¬ Rose before.counts.faults after.counts.faults → ¬ Rose before.write_faults after.write_faults → ¬ Rose before.sink_faults after.sink_faults
      → (result ≡ Memory) ⊎ Delivered (resolved p before.told.held) result before.told after.told before.written after.written
  -- whatever the counts do, every status but three is that of the same answer
  pub sound : before.told.tells ≡ true → result ≢ ReadFault → result ≢ WriteFault → result ≢ Memory
      → Delivered (resolved p before.told.held) result before.told after.told before.written after.written
  -- a read fault is the fault of one of the files, and exactly its line is put out
  pub read_fault : result ≡ ReadFault
      → (answer : Answer) × Faulted before.told p before.counts after.counts answer × (after.written ≡ before.written ++ answer.output)
  -- a write fault was counted
  pub write_fault : result ≡ WriteFault → Rose before.sink_faults after.sink_faults ⊎ Rose before.write_faults after.write_faults
  -- after it a prefix of the answer's output is out, or of the line of a read fault that was counted
  pub put_out : result ≡ WriteFault → before.told.tells ≡ true → PutsPrefix (resolved p before.told.held) before.written after.written
      ⊎ (Rose before.counts.faults after.counts.faults × (kind : FileKind) × PutsPrefix (failed_answer kind) before.written after.written)
  -- want of memory comes before anything is put out
  pub memory : result ≡ Memory → after.written ≡ before.written
  -- what the names hold changes only where the command is done
  pub kept : before.told.tells ≡ true → result ≢ Done → (n : List ℕ) → after.told.held n ≡ before.told.held n
