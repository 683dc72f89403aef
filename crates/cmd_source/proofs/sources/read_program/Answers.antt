use Rattle.std.proofs.Common.{◌≡◌, refl, subst, sym}
use Rattle.cmd_answer.specs.declared.FileKind.TheVariants.{Source}
use Rattle.mx_io.specs.Shelves.{Told, Counts}
use Rattle.cmd_answer.specs.Protocol.{Protocol, Answers, Performed}
use Rattle.cmd_answer.proofs.Replies.{step_fails}
use Rattle.law_schedule.specs.Schedule.{IsScheduler}
use Rattle.cmd_source.specs.Protocols.{Layouts, AfterLayout, linked_protocol}
use Rattle.cmd_source.specs.Replied.{IsReplied}
use Rattle.cmd_source.proofs.Readings.{FileRefused, ProgramRefused}
use Rattle.cmd_source.proofs.sources.read_program.Goals as goal

pub returns-in_err-text-clause-refused : goal.returns-in_err-text-clause-refused
returns-in_err-text-clause-refused g c =
    let told : Told = g.S.Shelf.told c.args.shelf.now in
    let before : Counts = g.S.Shelf.counts c.args.shelf.now in
    let between : Counts = g.S.Shelf.counts c.read_named.new.shelf in
    step_fails c.from_residual.result c.in_err-text.field-0.0 (FileRefused told Source c.args.name.now before between)
    (ProgramRefused told c.args.name.now before between) c.from_residual.ensures.1 c.in_err-text.ensures.refused
    (λ answer refused layout_of is next. refused (linked_protocol layout_of next))

pub returns-in_err-text-clause-replied : goal.returns-in_err-text-clause-replied
returns-in_err-text-clause-replied g c =
    step_fails c.from_residual.result c.in_err-text.field-0.0 IsReplied IsReplied c.from_residual.ensures.1 c.in_err-text.ensures.replied (λ answer is. is)

pub returns-in_err-program-clause-refused : goal.returns-in_err-program-clause-refused
returns-in_err-program-clause-refused g c =
    let told : Told = g.S.Shelf.told c.args.shelf.now in
    let before : Counts = g.S.Shelf.counts c.args.shelf.now in
    let between : Counts = g.S.Shelf.counts c.read_named.new.shelf in
    step_fails c.from_residual-in_err-program.result c.in_err-program.field-0.0
    (λ answer. (layout_of : Layouts) → IsScheduler layout_of → (next : AfterLayout)
    → linked_protocol layout_of next c.in_ok-text.text.items ≡ Answers answer)
    (ProgramRefused told c.args.name.now before between) c.from_residual-in_err-program.ensures.1 c.in_err-program.ensures.refused
    (λ answer refused layout_of is next. c.in_ok-text.ensures.given (linked_protocol layout_of next) between answer
    (subst (λ (p : Protocol). Performed told p between between answer) (sym (refused layout_of is next)) (refl, refl)))

pub returns-in_err-program-clause-replied : goal.returns-in_err-program-clause-replied
returns-in_err-program-clause-replied g c =
    step_fails c.from_residual-in_err-program.result c.in_err-program.field-0.0 IsReplied IsReplied
    c.from_residual-in_err-program.ensures.1 c.in_err-program.ensures.replied (λ answer is. is)

pub returns-clause-given : goal.returns-clause-given
returns-clause-given g c = λ layout_of is next after answer performed.
    let told : Told = g.S.Shelf.told c.args.shelf.now in
    let between : Counts = g.S.Shelf.counts c.read_named.new.shelf in
    c.in_ok-text.ensures.given (linked_protocol layout_of next) after answer
    (subst (λ (p : Protocol). Performed told p between after answer) (sym (c.in_ok-program.ensures.given layout_of is next)) performed)
