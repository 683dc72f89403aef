-- What each command reads and answers, in the order in which it is refused.
use Rattle.std.specs.Prelude.{ℕ, ◌+◌, ◌++◌, [], ◌∷◌, codes, List, map, cond, ltb, length, slice_get, Option, Some, None, is_some, option_and_then, pos, ◌-ℤ◌}
use Rattle.std.specs.Fmt.{decimal}
use Rattle.mx_isa.specs.declared.board.TheConstants.{DATA_BASE, DATA_END}
use Rattle.mx_isa.specs.declared.Place.{Place}
use Rattle.mx_source.specs.declared.Label.{Label}
use Rattle.mx_source.specs.declared.Label.TheVariants.{Code, Data}
use Rattle.mx_source.specs.SourceValue.{SourceValue}
use Rattle.mx_source.specs.Printed.{printed}
use Rattle.mx_gen.specs.Generated.{generated}
use Rattle.mx_squash.specs.Copies.{Site}
use Rattle.mx_layout.specs.Layout.{blocks_in}
use Rattle.mx_layout.specs.Overlong.{Overlong, overlong}
use Rattle.mx_link.specs.Origins.{from_target, from_nowhere}
use Rattle.mx_link.specs.Linked.{link_map, linked_code, linked_data, links_of}
use Rattle.cmd_list.specs.Listing.{layout_listing}
use Rattle.cmd_best.specs.Lengths.{lengths_text}
use Rattle.cmd_soak.specs.Soak.{soak_text}
use Rattle.mx_image.specs.declared.ImageError.{ImageError}
use Rattle.mx_image.specs.declared.ImageError.TheVariants as image
use Rattle.mx_image.specs.Contents.{Contents}
use Rattle.mx_image.specs.Files.{file_refusal, file_in, file_bytes}
use Rattle.cmd_answer.specs.declared.FileKind.TheVariants.{Source, First, Second, Module, Image}
use Rattle.cmd_answer.specs.declared.Status.TheVariants.{Done, Refused, BadImage}
use Rattle.cmd_answer.specs.Answer.{Answer, prints, writes, text_line, usage}
use Rattle.cmd_answer.specs.Protocol.{Protocol, Answers, Reads}
use Rattle.cmd_options.specs.declared.Limits.{Limits}
use Rattle.cmd_options.specs.Options.{Files}
use Rattle.cmd_simulate.specs.Machines.{input_protocol, machine_protocol}
use Rattle.mx_lines.specs.declared.Fault.{Fault}
use Rattle.mx_lines.specs.Operands.{label_named}
use Rattle.mx_asm.specs.Texts.{source_of, text_fault}
use Rattle.mx_module.specs.declared.JoinFault.{JoinFault}
use Rattle.mx_module.specs.declared.JoinFault.TheVariants.{BadName, NotDefined, DuplicateExport, NoExport, LocalClash, Line}
use Rattle.mx_module.specs.LinkFaults.{Refusal}
use Rattle.mx_module.specs.Joined.{joined, join_fault}
use Rattle.mx_isa.specs.Board.{board}
use Rattle.cmd_meaning.specs.Told.{meaning_answer}
use Rattle.cmd_options.specs.declared.SessionLimits.{SessionLimits}
use Rattle.cmd_debug.specs.Sessions.{session_protocol}
use Rattle.mx_tasks.specs.Places.{lower, upper}
use Rattle.mx_tasks.specs.Images.{shared_code, shared_data}
use Rattle.cmd_share.specs.Runs.{sharing_protocol}
use Rattle.mx_lines.specs.FaultTexts.{fault_text}
use Rattle.cmd_source.specs.Refusals.{fault_line, overlong_text}
use Rattle.cmd_source.specs.Protocols.{unless_faulty, unless_overlong, Layouts, AfterLayout, linked_protocol}
use Rattle.cmd_table.specs.Commands.{Command, Run, Meaning, Build, Exec, Listing, Gen, Soak, Migrate, Share, Debug, Best, Join}

-- the meaning of a text after some steps, with the input of a file
abbrev pub meaning_protocol : ℕ → Option (List ℕ) → List ℕ → Protocol
meaning_protocol steps input text =
    unless_faulty (text_fault DATA_BASE DATA_END text) (input_protocol input (λ bytes. Answers (meaning_answer (source_of DATA_BASE text) board bytes steps)))

-- the run of a source
abbrev pub run_protocol : Files → Limits → AfterLayout
run_protocol files limits source sites =
    machine_protocol files limits (linked_code from_target source board sites) (linked_data source board sites) (is_some source.input)

-- what an image file keeps of a source
abbrev pub linked_contents : SourceValue → List Site → Contents
linked_contents source sites = record {
  code = linked_code from_target source board sites;
  user_data = linked_data source board sites;
  input = is_some source.input;
  links = links_of source board sites;
}

-- the image file of a source, under this name
abbrev pub build_protocol : List ℕ → AfterLayout
build_protocol target source sites = Answers (writes target (file_bytes (linked_contents source sites)))

-- the listing of a source
abbrev pub list_protocol : AfterLayout
list_protocol source sites = Answers (prints Done (layout_listing source board sites))

-- how long the plans of each block of a source are; whether a branch reaches its target is not asked
abbrev pub measured : SourceValue → List Site → Option (ℕ × Fault) → Answer
measured source sites (Some found) = prints Refused (fault_line found.0 found.1)
measured source sites None = prints Done (lengths_text source (blocks_in sites))

abbrev pub best_answer : Layouts → List ℕ → Answer
best_answer layout_of text = let source = source_of DATA_BASE text in measured source (layout_of source) (text_fault DATA_BASE DATA_END text)

abbrev pub image_text : ℕ → List ℕ → List ℕ
image_text at cause = text_line (codes "image: " ++ cause ++ codes " at " ++ decimal at)

-- the line of bytes that are no image file
abbrev pub image_line : ImageError → List ℕ
image_line image.BadMagic = text_line (codes "image: BadMagic")
image_line (image.Truncated at) = image_text at (codes "Truncated")
image_line (image.BadRange at) = image_text at (codes "BadRange")
image_line (image.Trailing at) = image_text at (codes "Trailing")
image_line image.Memory = []

-- an image file's bytes: refused, or what follows
abbrev pub unless_refused : Option ImageError → Protocol → Protocol
unless_refused (Some error) next = Answers (prints BadImage (image_line error))
unless_refused None next = next

-- the run of the image in a file's bytes
abbrev pub exec_protocol : Files → Limits → List ℕ → Protocol
exec_protocol files limits bytes =
    let file = file_in bytes in unless_refused (file_refusal bytes) (machine_protocol files limits file.code file.user_data file.input)

-- the same file in the newest version, under another name
abbrev pub migrated : List ℕ → List ℕ → Option ImageError → Answer
migrated target bytes (Some error) = prints BadImage (image_line error)
migrated target bytes None = writes target (file_bytes (file_in bytes))

abbrev pub migrate_answer : List ℕ → List ℕ → Answer
migrate_answer target bytes = migrated target bytes (file_refusal bytes)

-- what is said of program 1 or 2
abbrev pub of_program : ℕ → List ℕ → List ℕ
of_program program text = codes "program " ++ decimal program ++ codes " " ++ text

abbrev pub line_cause : ℕ → List ℕ → List ℕ
line_cause line cause = codes "line " ++ decimal line ++ codes ": " ++ cause

-- what is wrong with a source that is to share the machine: its first fault, its first input, or its 10,001st statement, by their lines
abbrev pub wrong_by : Option (ℕ × Fault) → Option ℕ → Option ℕ → Option (List ℕ)
wrong_by (Some found) input many = Some (line_cause found.0 (fault_text found.1))
wrong_by None (Some line) many = Some (line_cause line (codes "input"))
wrong_by None None (Some line) = Some (line_cause line (codes "too many instructions"))
wrong_by None None None = None

abbrev pub wrong_with : Place → List ℕ → Option (List ℕ)
wrong_with place text =
    let source = source_of place.user_data text in
    wrong_by (text_fault place.user_data place.end text) source.input (slice_get source.lines 10000)

-- the text of a program: refused by what is wrong with it, or what follows its source
abbrev pub unless_wrong : ℕ → Option (List ℕ) → Protocol → Protocol
unless_wrong program (Some cause) next = Answers (prints Refused (text_line (of_program program cause)))
unless_wrong program None next = next

abbrev pub assembled_protocol : ℕ → Place → (SourceValue → Protocol) → List ℕ → Protocol
assembled_protocol program place next text = unless_wrong program (wrong_with place text) (next (source_of place.user_data text))

-- a program: refused by its first branch that does not reach its target, or what follows
abbrev pub unless_far : ℕ → Option Overlong → Protocol → Protocol
unless_far program (Some found) next =
    Answers (prints Refused (text_line (of_program program (overlong_text found.line (pos found.to -ℤ pos found.from) found.from found.to))))
unless_far program None next = next

-- a layout that begins so many words later
abbrev pub moved : ℕ → List Site → List Site
moved by sites = map (λ (s : Site). record { block = s.block; plan = s.plan; start = by + s.start }) sites

-- the layout of the second program, whose code begins 30,000 words behind that of a program alone
abbrev pub upper_layout : Layouts → SourceValue → List Site
upper_layout layout_of source = moved 30000 (layout_of source)

-- the code words and the data words of two sources in one image
abbrev pub pair_code : Layouts → SourceValue → SourceValue → List ℕ
pair_code layout_of first second =
    shared_code (linked_code from_target first lower (layout_of first)) (linked_code from_target second upper (upper_layout layout_of second))

abbrev pub pair_data : Layouts → SourceValue → SourceValue → List ℕ
pair_data layout_of first second =
    shared_data (linked_data first lower (layout_of first)) (linked_data second upper (upper_layout layout_of second))

-- two sources, which are linked into one image: refused by a displacement of the first, then of the second, or their run
abbrev pub pair_protocol : Layouts → Option (List ℕ) → ℕ → SourceValue → SourceValue → Protocol
pair_protocol layout_of interrupts budget first second =
    unless_far 1 (overlong first lower (blocks_in (layout_of first)))
    (unless_far 2 (overlong second upper (blocks_in (upper_layout layout_of second)))
    (sharing_protocol interrupts budget (pair_code layout_of first second) (pair_data layout_of first second)))

-- two programs that share the machine: the second is read where nothing is wrong with the first
abbrev pub share_protocol : Layouts → List ℕ → List ℕ → Option (List ℕ) → ℕ → Protocol
share_protocol layout_of first second interrupts budget =
    Reads First first (assembled_protocol 1 lower (λ one.
    Reads Second second (assembled_protocol 2 upper (λ two.
    pair_protocol layout_of interrupts budget one two))))

-- the statement of a source of so many at which a label stands, if it is a code label and one stands there
abbrev pub statement_at : ℕ → Label → Option ℕ
statement_at count (Code i) = cond (ltb i count) (Some i) None
statement_at count (Data a) = None

-- the statement at the code label of this name
abbrev pub statement_named : SourceValue → List ℕ → Option ℕ
statement_named source name = option_and_then (statement_at (length source.statements)) (label_named source.labels name)

abbrev pub no_label_line : List ℕ → List ℕ
no_label_line name = text_line (codes "no code label " ++ name)

-- a source without a fault: refused where no statement stands at such a label, or what follows
abbrev pub unless_unlabelled : List ℕ → Option ℕ → (ℕ → Protocol) → Protocol
unless_unlabelled name None next = Answers (prints Refused (no_label_line name))
unless_unlabelled name (Some index) next = next index

-- the session of a source that is linked without copies, stopped where a block begins
abbrev pub stopped_protocol : Files → SessionLimits → ℕ → AfterLayout
stopped_protocol files limits index source sites =
    session_protocol files limits (linked_code from_nowhere source board sites) (linked_data source board sites)
    (is_some source.input) (link_map board sites index)

-- the session of a source at a label: refused by its label, then by a displacement
abbrev pub labelled_protocol : Layouts → List ℕ → Files → SessionLimits → SourceValue → Protocol
labelled_protocol layout_of label files limits source =
    let sites = layout_of source in
    unless_unlabelled label (statement_named source label) (λ index.
    unless_overlong (overlong source board (blocks_in sites)) (stopped_protocol files limits index source sites))

-- of a text, which is refused by its first fault before
abbrev pub debug_protocol : Layouts → List ℕ → Files → SessionLimits → List ℕ → Protocol
debug_protocol layout_of label files limits text =
    unless_faulty (text_fault DATA_BASE DATA_END text) (labelled_protocol layout_of label files limits (source_of DATA_BASE text))

-- the fault of a module's line
abbrev pub join_fault_text : JoinFault → List ℕ
join_fault_text BadName = codes "G1 BadName"
join_fault_text NotDefined = codes "G2 NotDefined"
join_fault_text DuplicateExport = codes "G3 DuplicateExport"
join_fault_text NoExport = codes "G4 NoExport"
join_fault_text LocalClash = codes "G5 LocalClash"
join_fault_text (Line f) = fault_text f

-- the line of modules that are refused: the module, its line and the fault
abbrev pub refusal_line : Refusal → List ℕ
refusal_line found = text_line (codes "module " ++ decimal found.0 ++ codes " line " ++ decimal found.1 ++ codes ": " ++ join_fault_text found.2)

-- refused by the first fault, or the canonical text of a source
abbrev pub printed_unless : Option Refusal → SourceValue → Answer
printed_unless (Some found) source = prints Refused (refusal_line found)
printed_unless None source = prints Done (printed source)

-- the texts of modules: refused by their first fault, or the canonical text of the source that they join as
abbrev pub join_answer : List (List ℕ) → Answer
join_answer texts = printed_unless (join_fault texts) (joined texts)

-- the files of modules are read, in order, behind these texts of the modules before them; then all texts are judged
abbrev pub modules_protocol : List (List ℕ) → List (List ℕ) → Protocol
modules_protocol [] texts = Answers (join_answer texts)
modules_protocol (name ∷ names) texts = Reads (Module (length texts + 1)) name (λ text. modules_protocol names (texts ++ text ∷ []))

-- what a command reads and answers, where this is the layout of each source
abbrev pub protocol_of : Layouts → Option Command → Protocol
protocol_of layout_of None = Answers usage
protocol_of layout_of (Some (Run source files limits)) = Reads Source source (linked_protocol layout_of (run_protocol files limits))
protocol_of layout_of (Some (Meaning source steps input)) = Reads Source source (meaning_protocol steps input)
protocol_of layout_of (Some (Build source target)) = Reads Source source (linked_protocol layout_of (build_protocol target))
protocol_of layout_of (Some (Exec image files limits)) = Reads Image image (exec_protocol files limits)
protocol_of layout_of (Some (Listing source)) = Reads Source source (linked_protocol layout_of list_protocol)
protocol_of layout_of (Some (Best source)) = Reads Source source (λ text. Answers (best_answer layout_of text))
protocol_of layout_of (Some (Gen seed count)) = Answers (prints Done (printed (generated seed count)))
protocol_of layout_of (Some (Soak seed count)) = Answers (prints Done (soak_text layout_of seed count))
protocol_of layout_of (Some (Migrate image target)) = Reads Image image (λ bytes. Answers (migrate_answer target bytes))
protocol_of layout_of (Some (Share first second interrupts budget)) = share_protocol layout_of first second interrupts budget
protocol_of layout_of (Some (Debug source label files limits)) = Reads Source source (debug_protocol layout_of label files limits)
protocol_of layout_of (Some (Join names)) = modules_protocol names []
