-- What contracts see of the program's own types.
use Rattle.std.specs.Prelude.{◌≡◌, ◌≤◌, ◌+◌, ℕ, [], List, All, Vec, length, map, None}
use Rattle.std.specs.Global.{Global}
use Rattle.std.specs.Option.{option_map}
use Rattle.std.specs.Borrow.{Bor}
use Rattle.mx_lines.specs.declared.AsmError.{AsmError}
use Rattle.mx_lines.specs.declared.AsmError.TheVariants as asm
use Rattle.mx_asm.specs.declared.Listing.{Listing}
use Rattle.mx_asm.specs.Texts.{statements_in, lines_in, values_in, input_in}
use Rattle.mx_module.specs.declared.error.JoinFault.TheVariants.{Line}
use Rattle.mx_module.specs.declared.error.JoinError.{JoinError}
use Rattle.mx_module.specs.declared.error.JoinError.TheVariants as errors
use Rattle.mx_module.specs.Joined.{fault_in_lines, effects_in}
use Rattle.mx_lines.specs.Words.{texts}
use Rattle.mx_asm.specs.Faults.{first_repeat}
use Rattle.mx_module.specs.declared.link.Link.{Link as Kept}
use Rattle.mx_module.specs.declared.module.Module.TheInside.{Inside}
use Rattle.mx_module.specs.Links.{Link}
use Rattle.mx_module.specs.ExportTable.{exports_from}
use Rattle.mx_module.specs.Modules.{ModuleValue, modules_of}

-- an import or export line of the program
abbrev pub link_value : Kept → Link
link_value l = record { number = l.number; kind = l.kind; name = option_map (λ (name : Bor (List ℕ)). name.now) l.name }

-- a module of the program
abbrev pub module_value : Inside → ModuleValue
module_value m = record { start = m.start; lines = texts m.lines.items; links = map link_value m.links.items; labels = m.labels }

-- what else it keeps
pub record IsKept (m : Inside) : Type 0 where
  pub few : length m.lines.items ≤ 4194304
  pub exports : m.exports ≡ exports_from [] (map link_value m.links.items)
  pub repeated : m.repeated ≡ first_repeat m.start [] 1 (texts m.lines.items)

-- the bytes of a text
abbrev pub text_bytes : Vec ℕ Global → List ℕ
text_bytes text = text.items

-- a text of at most 4,194,304 bytes
abbrev pub IsShort : Vec ℕ Global → Type 0
IsShort text = length text.items ≤ 4194304

-- modules of at most 16 texts of at most 4,194,304 bytes
pub record IsProgram (ms : List ModuleValue) : Type 0 where
  pub texts : List (List ℕ)
  pub same : ms ≡ modules_of texts
  pub few : length texts ≤ 16
  pub short : All (λ text. length text ≤ 4194304) texts

-- the listing has what the lines of all modules do, and none of them has a fault
pub record IsListingOfAll (ms : List ModuleValue) (l : Listing) : Type 0 where
  pub faultless : fault_in_lines ms 0 ms ≡ None
  pub statements : l.statements.items ≡ statements_in (effects_in ms 0 ms)
  pub lines : l.lines.items ≡ lines_in (effects_in ms 0 ms)
  pub user_data : l.user_data.items ≡ values_in (effects_in ms 0 ms)
  pub input : l.input ≡ input_in (effects_in ms 0 ms)

-- the refusal of a program by a line of the module at this place
abbrev pub line_refusal : ℕ → AsmError → JoinError
line_refusal place (asm.Refused line fault) = errors.Refused (place + 1) line (Line fault)
line_refusal place asm.Memory = errors.Memory
