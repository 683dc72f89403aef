-- What the stops of the pipelined machine on the compiled code of a source show of what the source means.
use Rattle.std.specs.Prelude.{◌≡◌, ℕ, ◌+◌, ◌<◌, ◌≤◌, true, List, length, take, slice_get, slice_index, Some}
use Rattle.mx_isa.specs.UserBus.{is_user}
use Rattle.mx_source.specs.SourceValue.{SourceValue}
use Rattle.mx_source.specs.Meaning.{Run, given, meaning}
use Rattle.mx_blocks.specs.Leaders.{is_leader}
use Rattle.mx_squash.specs.Copies.{Site}
use Rattle.mx_link.specs.Origins.{from_nowhere}
use Rattle.mx_link.specs.Words.{value_word}
use Rattle.mx_link.specs.Linked.{link_map, linked_code, linked_data}
use Rattle.mx_turn.specs.Handler.{shipped}
use Rattle.mx_turn.specs.Program.{Program, program_of}
use Rattle.mx_turn.specs.Run.{bound}
use Rattle.mx_isa.specs.Board.{board}
use Rattle.law_link.specs.Runs.{IsLaid}
use Rattle.law_link.specs.Matches.{block_ahead}
use Rattle.law_end_to_end.specs.EndToEnd.{IsUnstuck}
use Rattle.mx_debug.specs.declared.Stop.{Stop}
use Rattle.mx_debug.specs.Sessions.{Session, session, stops_of, console_of}
use Rattle.law_debug.specs.Visits.{IsVisit}

-- a source that is linked by a layout without copies, under the shipped handler, with these bytes as its input
abbrev pub plain_program : SourceValue → List Site → List ℕ → Program
plain_program source sites bytes =
    program_of shipped (linked_code from_nowhere source board sites) (linked_data source board sites) (given source.input bytes)

-- such a source, run with requests at these cycles, and what is asked of the session: how many stops at which statement, the
-- data word that is watched, and the budget of cycles
pub record Debugged : Type 0 where
  pub source : SourceValue
  pub sites : List Site
  pub requests : List ℕ
  pub bytes : List ℕ
  pub index : ℕ
  pub limit : ℕ
  pub watch : ℕ
  pub budget : ℕ

-- it stops at the address of the block that begins with the statement
abbrev pub session_of : Debugged → Session
session_of d = session (plain_program d.source d.sites d.bytes) d.requests (link_map board d.sites d.index) d.limit d.watch d.budget

-- what the source means, after m statements
abbrev pub meant_in : Debugged → ℕ → Run
meant_in d m = meaning d.source board d.bytes m

-- a stop shows the meaning after m statements: registers 1 to 31 and the watched word, places of code being their addresses, MD, and the console so far
pub record ShowsMeaning (d : Debugged) (stop : Stop) (m : ℕ) : Type 0 where
  pub registers : (n : ℕ) → 1 ≤ n → n ≤ 31 → slice_index stop.registers n ≡ value_word (link_map board d.sites) ((meant_in d m).state.regs n)
  pub md : stop.md ≡ (meant_in d m).state.md
  pub word : stop.word ≡ value_word (link_map board d.sites) ((meant_in d m).state.mem d.watch)
  pub bytes : stop.bytes ≡ length (meant_in d m).console
  pub console : take stop.bytes (console_of (session_of d)) ≡ (meant_in d m).console

-- The stop after j others is the visit after j others; and each stop comes, up to their number, within the bound of cycles for
-- the statements before its visit and 64 more.
pub record StopsAsMeant (d : Debugged) : Type 0 where
  pub told : (j : ℕ) (stop : Stop) → slice_get (stops_of (session_of d)) j ≡ Some stop
      → (m : ℕ) × IsVisit d.source d.bytes d.index j m × ShowsMeaning d stop m
  pub comes : (j m : ℕ) → j < d.limit → IsVisit d.source d.bytes d.index j m
      → bound (m + block_ahead) (length d.requests) ≤ d.budget → j < length (stops_of (session_of d))

-- This holds of each leader, where the meaning does not get stuck in 64 statements more than the budget has cycles.
abbrev pub StopsAreVisits : Type 0
StopsAreVisits =
    (d : Debugged) → IsLaid d.source board d.sites → is_leader d.source d.index ≡ true → d.index < length d.source.statements
    → is_user board d.watch ≡ true → IsUnstuck d.source d.bytes (d.budget + block_ahead) → StopsAsMeant d
