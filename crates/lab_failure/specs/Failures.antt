-- How a command ends by a failure, and how many bytes a file may have.
use Rattle.std.specs.Prelude.{ℕ}
use Rattle.mx_io.specs.declared.limits.TheConstants.{MAX_FILE_BYTES, MAX_SOURCE_BYTES}
use Rattle.cmd_answer.specs.declared.status.Status.{Status}
use Rattle.cmd_answer.specs.declared.status.Status.TheVariants as status
use Rattle.lab_failure.specs.declared.failure.LabFailure.{LabFailure}
use Rattle.lab_failure.specs.declared.failure.LabFailure.TheVariants.{Memory, Arguments, Unread, Image, Line, Source, Overlong, NoLabel}
use Rattle.lab_failure.specs.declared.failure.LabFile.{LabFile}
use Rattle.lab_failure.specs.declared.failure.LabFile.TheVariants as file

-- the status of a command that has no answer
abbrev pub status_of : LabFailure → Status
status_of Memory = status.Memory
status_of (Arguments fault) = status.Usage
status_of (Unread name kind fault) = status.ReadFault
status_of (Image name error) = status.BadImage
status_of (Line name line fault) = status.BadEvents
status_of (Source name line fault) = status.Refused
status_of (Overlong name line from to) = status.Refused
status_of (NoLabel name label) = status.Refused

-- how many bytes a file of a kind may have
abbrev pub limit_of : LabFile → ℕ
limit_of file.Source = MAX_SOURCE_BYTES
limit_of _ = MAX_FILE_BYTES
