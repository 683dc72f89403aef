-- The kinds of files that a command reads: how long each may be, and its word in the line of a fault.
use Rattle.std.specs.Prelude.{ℕ, ◌++◌, List, codes}
use Rattle.std.specs.Fmt.{decimal}
use Rattle.mx_io.specs.declared.limits.TheConstants.{MAX_FILE_BYTES, MAX_SOURCE_BYTES}
use Rattle.cmd_answer.specs.declared.file.FileKind.{FileKind}
use Rattle.cmd_answer.specs.declared.file.FileKind.TheVariants.{Source, First, Second, Module, Image, Interrupts, Input}

-- how many bytes a file may have
abbrev pub limit_of : FileKind → ℕ
limit_of Source = MAX_SOURCE_BYTES
limit_of First = MAX_SOURCE_BYTES
limit_of Second = MAX_SOURCE_BYTES
limit_of (Module number) = MAX_SOURCE_BYTES
limit_of _ = MAX_FILE_BYTES

-- the words for it in the line of a read fault
abbrev pub file_word : FileKind → List ℕ
file_word Source = codes "source"
file_word First = codes "program 1"
file_word Second = codes "program 2"
file_word (Module number) = codes "module " ++ decimal number
file_word Image = codes "image"
file_word Interrupts = codes "interrupts"
file_word Input = codes "input"
