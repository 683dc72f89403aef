-- What `debug` promises of a source that is accepted, whatever interrupts come.
use Rattle.std.specs.Prelude.{◌≡◌, ◌++◌, ℕ, ◌+◌, List, Option, Some, None}
use Rattle.mx_isa.specs.declared.board.TheConstants.{DATA_BASE, DATA_END}
use Rattle.mx_squash.specs.Copies.{Site}
use Rattle.mx_layout.specs.Layout.{IsLayout, blocks_in}
use Rattle.mx_layout.specs.Overlong.{overlong}
use Rattle.mx_reorg.specs.Greedy.{IsGreedy}
use Rattle.cmd_answer.specs.declared.FileKind.TheVariants.{Source}
use Rattle.cmd_answer.specs.declared.Status.{Status}
use Rattle.cmd_options.specs.Options.{Files}
use Rattle.mx_asm.specs.Texts.{source_of, text_fault}
use Rattle.mx_isa.specs.Board.{board}
use Rattle.law_end_to_end.specs.EndToEnd.{IsUnstuck}
use Rattle.mx_debug.specs.Sessions.{Session, stops_of, ending_of, console_of}
use Rattle.law_debug.specs.Laws.{Debugged, session_of, StopsAsMeant}
use Rattle.cmd_options.specs.declared.SessionLimits.{SessionLimits}
use Rattle.cmd_debug.specs.Sessions.{status_of}
use Rattle.cmd_debug.specs.Texts.{session_text}
use Rattle.cmd_table.specs.Commands.{Command, Debug}
use Rattle.mx_command.specs.Protocols.{statement_named}
use Rattle.mx_command.specs.Accepted.{Held, Holds, AreRequests, IsInput}
use Rattle.law_link.specs.Matches.{block_ahead}

-- `debug` is asked for, of a text without faults that has a statement at this code label and in which no branch is overlong, and
-- the other files that it names can be used
pub record AcceptedStops (asked : Option Command) (held : Held) : Type 0 where
  pub name : List ℕ
  pub label : List ℕ
  pub files : Files
  pub limits : SessionLimits
  pub asks : asked ≡ Some (Debug name label files limits)
  pub text : List ℕ
  pub is_text : Holds held Source name text
  pub faultless : text_fault DATA_BASE DATA_END text ≡ None
  pub index : ℕ
  pub labelled : statement_named (source_of DATA_BASE text) label ≡ Some index
  pub sites : List Site
  pub layout : IsLayout IsGreedy (source_of DATA_BASE text) board sites
  pub reach : overlong (source_of DATA_BASE text) board (blocks_in sites) ≡ None
  pub requests : List ℕ
  pub are_requests : AreRequests held files.interrupts requests
  pub input : List ℕ
  pub is_input : IsInput held files.input input

module _ (asked : Option Command) (held : Held) (a : AcceptedStops asked held) where
  -- the source, linked without copies, and what is asked of the session
  abbrev pub accepted_stops : Debugged
  accepted_stops = record {
    source = source_of DATA_BASE a.text;
    sites = a.sites;
    requests = a.requests;
    bytes = a.input;
    index = a.index;
    limit = a.limits.stops;
    watch = a.limits.watch;
    budget = a.limits.budget;
  }

  abbrev pub accepted_session : Session
  accepted_session = session_of accepted_stops

  -- the status says how the session ended, exactly its stops, its end and its console were put out, and where the meaning is not
  -- stuck within the budget and a block more, its stops are the visits of the meaning
  pub record StopsHeadline (result : Status) (before after : List ℕ) : Type 0 where
    pub status : result ≡ status_of (ending_of accepted_session)
    pub output : after ≡ before ++
        (session_text a.limits.watch (stops_of accepted_session) (ending_of accepted_session) (console_of accepted_session))
    pub means : IsUnstuck (source_of DATA_BASE a.text) a.input (a.limits.budget + block_ahead) → StopsAsMeant accepted_stops
