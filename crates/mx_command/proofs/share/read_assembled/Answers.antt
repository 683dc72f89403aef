use Rattle.std.proofs.Common.{◌≡◌, ℕ, List, Some, refl, subst, sym, ap, ◌∙◌}
use Rattle.cmd_answer.specs.declared.Status.TheVariants.{Refused}
use Rattle.cmd_answer.specs.Answer.{prints, text_line}
use Rattle.mx_io.specs.Shelves.{Told, Counts}
use Rattle.cmd_answer.specs.Protocol.{Protocol, Answers, Performed}
use Rattle.cmd_answer.proofs.Replies.{step_fails}
use Rattle.mx_command.specs.Protocols.{of_program, wrong_with, assembled_protocol}
use Rattle.mx_command.proofs.Pairs.{fitting_goes, wrong_stops}
use Rattle.cmd_source.proofs.Readings.{FileRefused}
use Rattle.mx_command.proofs.Readings.{SourceRefused}
use Rattle.mx_command.proofs.share.read_assembled.Goals as goal

pub returns-in_err-text-clause-refused : goal.returns-in_err-text-clause-refused
returns-in_err-text-clause-refused g c =
    step_fails c.from_residual.result c.in_err-text.field-0.0 (FileRefused (g.S.Shelf.told c.args.shelf.now) c.args.kind c.args.name.now _ _)
    (SourceRefused (g.S.Shelf.told c.args.shelf.now) c.args.kind c.args.name.now c.args.program c.args.place _ _)
    c.from_residual.ensures.1 c.in_err-text.ensures.refused (λ answer refused next. refused (assembled_protocol c.args.program c.args.place next))

pub returns-in_err-source-clause-refused : goal.returns-in_err-source-clause-refused
returns-in_err-source-clause-refused g c =
    let told : Told = g.S.Shelf.told c.args.shelf.now in
    let before : Counts = g.S.Shelf.counts c.args.shelf.now in
    let between : Counts = g.S.Shelf.counts c.read_named.new.shelf in
    let text : List ℕ = c.as_slice.result.now in
    step_fails c.from_residual-in_err-source.result c.in_err-source.field-0.0
    (λ answer. (cause : List ℕ) × (wrong_with c.args.place text ≡ Some cause) × (answer ≡ prints Refused (text_line (of_program c.args.program cause))))
    (SourceRefused told c.args.kind c.args.name.now c.args.program c.args.place before between)
    c.from_residual-in_err-source.ensures.1 c.in_err-source.ensures.refused
    (λ answer wrong next.
    let stops : assembled_protocol c.args.program c.args.place next text ≡ Answers answer =
    wrong_stops c.args.program c.args.place next text wrong.0 wrong.1 ∙ ap Answers (sym wrong.2) in
    c.in_ok-text.ensures.given (assembled_protocol c.args.program c.args.place next) between answer
    (subst (λ (p : Protocol). Performed told p between between answer)
    (sym stops ∙ ap (assembled_protocol c.args.program c.args.place next) c.as_slice.ensures.value) (refl, refl)))

pub returns-clause-given : goal.returns-clause-given
returns-clause-given g c = λ next after answer performed.
    let told : Told = g.S.Shelf.told c.args.shelf.now in
    let between : Counts = g.S.Shelf.counts c.read_named.new.shelf in
    c.in_ok-text.ensures.given (assembled_protocol c.args.program c.args.place next) after answer
    (subst (λ (p : Protocol). Performed told p between after answer)
    (sym (fitting_goes c.args.program c.args.place next c.as_slice.result.now c.in_ok-source.source c.in_ok-source.ensures.source)
    ∙ ap (assembled_protocol c.args.program c.args.place next) c.as_slice.ensures.value) performed)
