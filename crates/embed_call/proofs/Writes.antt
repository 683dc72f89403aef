-- `build` and `migrate` write their target where they are done, and nothing else.
use Rattle.std.proofs.Common.{◌≡◌, ◌≢◌, ℕ, ◌⊎◌, inl, inr, List, [], length, Bool, true, false, Option, Some, None, refl, sym, ap, ◌∙◌}
use Rattle.std.specs.Prelude.{nat_lt, if◌then◌else◌}
use Rattle.std.specs.Option.{unwrap_or}
use Rattle.std.proofs.lemmas.Slice.Eq.{bytes_eq-Decides}
use Rattle.mx_isa.specs.declared.board.TheConstants.{DATA_BASE, DATA_END}
use Rattle.cmd_answer.specs.declared.FileKind.{FileKind}
use Rattle.cmd_answer.specs.declared.FileKind.TheVariants.{Source, Image}
use Rattle.cmd_answer.specs.declared.Status.{Status}
use Rattle.cmd_answer.specs.declared.Status.TheVariants.{Halted, Done, Refused, Usage, OutOfBudget, ReadFault, WriteFault, Memory, BadImage, BadEvents, Stuck}
use Rattle.cmd_answer.specs.Files.{limit_of}
use Rattle.cmd_answer.specs.Answer.{Answer, writes, held_with}
use Rattle.cmd_answer.specs.Protocol.{Protocol, Given, TooLong, reading_of, answered, resolved}
use Rattle.cmd_table.specs.Commands.{Command, Run, Meaning, Build, Exec, Listing, Gen, Soak, Migrate, Share, Debug, Best, Join}
use Rattle.mx_lines.specs.declared.Fault.{Fault}
use Rattle.mx_asm.specs.Texts.{source_of, text_fault}
use Rattle.mx_image.specs.declared.ImageError.{ImageError}
use Rattle.mx_image.specs.Files.{file_refusal, file_in}
use Rattle.mx_image.specs.Files as image
use Rattle.mx_layout.specs.Layout.{blocks_in}
use Rattle.mx_layout.specs.Overlong.{Overlong, overlong}
use Rattle.mx_isa.specs.Board.{board}
use Rattle.mx_command.specs.Accepted.{Held}
use Rattle.cmd_source.specs.Protocols.{Layouts, unless_faulty, unless_overlong, linked_protocol}
use Rattle.mx_command.specs.Protocols.{build_protocol, linked_contents, migrated, migrate_answer}
use Rattle.mx_command.specs.Layouts.{greedy_layout, command_protocol}
use Rattle.mx_command.specs.Writing.{writes_a_file}
use Rattle.embed_call.specs.Answered.{file_bytes}
use Rattle.embed_call.specs.Targets.{target_in, target_bytes}

-- it is not done and writes nothing, or it writes this name
abbrev pub WritesTo : List ℕ → Answer → Type 0
WritesTo target answer = ((answer.file ≡ None) × (answer.status ≢ Done)) ⊎ ((bytes : List ℕ) × (answer ≡ writes target bytes))

by_length : (target : List ℕ) (over : Bool) (kind : FileKind) (bytes : List ℕ) (next : List ℕ → Answer) → WritesTo target (next bytes)
    → WritesTo target (answered kind (if over then TooLong else Given bytes) next)
by_length target true kind bytes next writes = inl (refl, λ e. absurd (cc))
by_length target false kind bytes next writes = writes

reading_writes : (target : List ℕ) (kind : FileKind) (h : Option (List ℕ)) (next : List ℕ → Answer) → ((bytes : List ℕ) → WritesTo target (next bytes))
    → WritesTo target (answered kind (reading_of kind h) next)
reading_writes target kind None next writes = inl (refl, λ e. absurd (cc))
reading_writes target kind (Some bytes) next writes = by_length target (nat_lt (limit_of kind) (length bytes)) kind bytes next (writes bytes)

faulty_writes : (target : List ℕ) (found : Option (ℕ × Fault)) (next : Protocol) (held : Held) → WritesTo target (resolved next held)
    → WritesTo target (resolved (unless_faulty found next) held)
faulty_writes target (Some found) next held writes = inl (refl, λ e. absurd (cc))
faulty_writes target None next held writes = writes

overlong_writes : (target : List ℕ) (found : Option Overlong) (next : Protocol) (held : Held) → WritesTo target (resolved next held)
    → WritesTo target (resolved (unless_overlong found next) held)
overlong_writes target (Some found) next held writes = inl (refl, λ e. absurd (cc))
overlong_writes target None next held writes = writes

migrated_writes : (target bytes : List ℕ) (refusal : Option ImageError) → WritesTo target (migrated target bytes refusal)
migrated_writes target bytes (Some error) = inl (refl, λ e. absurd (cc))
migrated_writes target bytes None = inr (image.file_bytes (file_in bytes), refl)

built_writes : (layout_of : Layouts) (target text : List ℕ) (held : Held)
    → WritesTo target (resolved (linked_protocol layout_of (build_protocol target) text) held)
built_writes layout_of target text held =
    let source = source_of DATA_BASE text in
    let sites = layout_of source in
    let far = overlong source board (blocks_in sites) in
    let next = build_protocol target source sites in
    faulty_writes target (text_fault DATA_BASE DATA_END text) (unless_overlong far next) held
    (overlong_writes target far next held (inr (image.file_bytes (linked_contents source sites), refl)))

-- the target of a command that writes a file, and how it writes it
abbrev Targets : Option Command → Held → Type 0
Targets asked held = (target : List ℕ) × (target_in asked ≡ Some target) × WritesTo target (resolved (command_protocol asked) held)

pub command_writes : (asked : Option Command) (held : Held) → writes_a_file asked ≡ true → Targets asked held
command_writes None held only = absurd (cc)
command_writes (Some (Run source files limits)) held only = absurd (cc)
command_writes (Some (Meaning source steps input)) held only = absurd (cc)
command_writes (Some (Build source target)) held only = (
  target,
  refl,
  reading_writes target Source (held source) (λ text. resolved (linked_protocol greedy_layout (build_protocol target) text) held)
      (λ text. built_writes greedy_layout target text held),
)
command_writes (Some (Exec image files limits)) held only = absurd (cc)
command_writes (Some (Listing source)) held only = absurd (cc)
command_writes (Some (Best source)) held only = absurd (cc)
command_writes (Some (Gen seed count)) held only = absurd (cc)
command_writes (Some (Soak seed count)) held only = absurd (cc)
command_writes (Some (Migrate image target)) held only =
    (target, refl, reading_writes target Image (held image) (λ bytes. migrate_answer target bytes) (λ bytes. migrated_writes target bytes (file_refusal bytes)))
command_writes (Some (Share first second interrupts budget)) held only = absurd (cc)
command_writes (Some (Debug source label files limits)) held only = absurd (cc)
command_writes (Some (Join names)) held only = absurd (cc)

-- any other command has none
pub no_target : (asked : Option Command) → writes_a_file asked ≡ false → target_in asked ≡ None
no_target None only = refl
no_target (Some (Run source files limits)) only = refl
no_target (Some (Meaning source steps input)) only = refl
no_target (Some (Build source target)) only = absurd (cc)
no_target (Some (Exec image files limits)) only = refl
no_target (Some (Listing source)) only = refl
no_target (Some (Best source)) only = refl
no_target (Some (Gen seed count)) only = refl
no_target (Some (Soak seed count)) only = refl
no_target (Some (Migrate image target)) only = absurd (cc)
no_target (Some (Share first second interrupts budget)) only = refl
no_target (Some (Debug source label files limits)) only = refl
no_target (Some (Join names)) only = refl

not_done : (held : Held) (status : Status) (target : List ℕ) → status ≢ Done → target_bytes held (Some target) status ≡ []
not_done held Halted target undone = refl
not_done held Done target undone = absurd (undone refl)
not_done held Refused target undone = refl
not_done held Usage target undone = refl
not_done held OutOfBudget target undone = refl
not_done held ReadFault target undone = refl
not_done held WriteFault target undone = refl
not_done held Memory target undone = refl
not_done held BadImage target undone = refl
not_done held BadEvents target undone = refl
not_done held Stuck target undone = refl

-- so what the target holds in the end is the file of the answer
pub file_comes : (target : List ℕ) (answer : Answer) (status : Status) (held held' : Held) (file : List ℕ) → WritesTo target answer → status ≡ answer.status
    → ((n : List ℕ) → held' n ≡ held_with answer.file held n) → file ≡ target_bytes held' (Some target) status → file ≡ file_bytes answer.file
file_comes target answer status held held' file (inl (none, undone)) is after got =
    got ∙ not_done held' status target (λ e. undone (sym is ∙ e)) ∙ sym (ap file_bytes none)
file_comes target answer status held held' file (inr (bytes, writes)) is after got =
    let done : status ≡ Done = is ∙ ap (λ (a : Answer). a.status) writes in
    let own_name = (bytes_eq-Decides target target).1 refl in
    let holds : held' target ≡ Some bytes =
    after target ∙ ap (λ (a : Answer). held_with a.file held target) writes ∙ ap (λ b. if b then Some bytes else held target) own_name in
    got ∙ ap (target_bytes held' (Some target)) done ∙ ap (λ o. unwrap_or o []) holds ∙ sym (ap (λ (a : Answer). file_bytes a.file) writes)
