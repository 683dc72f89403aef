use Rattle.std.proofs.Common.{refl, inl, subst, sym, ap, ◌∙◌}
use Rattle.cmd_answer.specs.declared.FileKind.TheVariants.{Source}
use Rattle.cmd_answer.specs.Answer.{Answer}
use Rattle.mx_io.specs.Shelves.{Told, Counts}
use Rattle.cmd_answer.specs.Protocol.{Protocol, Performed}
use Rattle.cmd_answer.proofs.Replies.{step_fails}
use Rattle.cmd_source.specs.Protocols.{source_protocol}
use Rattle.cmd_source.specs.Replied.{IsReplied, is_answered}
use Rattle.cmd_source.proofs.Laid.{IsFaulty, sourced, stops}
use Rattle.cmd_source.proofs.Readings.{FileRefused, AssembledRefused}
use Rattle.cmd_source.proofs.sources.read_source.Goals as goal

pub returns-in_err-text-clause-refused : goal.returns-in_err-text-clause-refused
returns-in_err-text-clause-refused g c =
    let told : Told = g.S.Shelf.told c.args.shelf.now in
    let before : Counts = g.S.Shelf.counts c.args.shelf.now in
    let between : Counts = g.S.Shelf.counts c.read_named.new.shelf in
    step_fails c.from_residual.result c.in_err-text.field-0.0 (FileRefused told Source c.args.name.now before between)
    (AssembledRefused told c.args.name.now before between) c.from_residual.ensures.1 c.in_err-text.ensures.refused
    (λ answer refused next. refused (source_protocol next))

pub returns-in_err-text-clause-replied : goal.returns-in_err-text-clause-replied
returns-in_err-text-clause-replied g c =
    step_fails c.from_residual.result c.in_err-text.field-0.0 IsReplied IsReplied c.from_residual.ensures.1 c.in_err-text.ensures.replied (λ answer is. is)

pub returns-in_err-source-clause-refused : goal.returns-in_err-source-clause-refused
returns-in_err-source-clause-refused g c =
    let told : Told = g.S.Shelf.told c.args.shelf.now in
    let before : Counts = g.S.Shelf.counts c.args.shelf.now in
    let between : Counts = g.S.Shelf.counts c.read_named.new.shelf in
    step_fails c.from_residual-in_err-source.result c.in_err-source.field-0.0 (IsFaulty c.as_slice.result.now)
    (AssembledRefused told c.args.name.now before between) c.from_residual-in_err-source.ensures.1 c.in_err-source.ensures.refused
    (λ answer wrong next. c.in_ok-text.ensures.given (source_protocol next) between answer
    (subst (λ (p : Protocol). Performed told p between between answer)
    (sym (stops next c.as_slice.result.now answer wrong) ∙ ap (source_protocol next) c.as_slice.ensures.value) (refl, refl)))

pub returns-in_err-source-clause-replied : goal.returns-in_err-source-clause-replied
returns-in_err-source-clause-replied g c =
    step_fails c.from_residual-in_err-source.result c.in_err-source.field-0.0 (IsFaulty c.as_slice.result.now) IsReplied
    c.from_residual-in_err-source.ensures.1 c.in_err-source.ensures.refused (λ answer wrong. inl (ap (λ (a : Answer). is_answered a.status) wrong.3))

pub returns-clause-given : goal.returns-clause-given
returns-clause-given g c = λ next after answer performed.
    let told : Told = g.S.Shelf.told c.args.shelf.now in
    let between : Counts = g.S.Shelf.counts c.read_named.new.shelf in
    let read = c.in_ok-source.ensures.source in
    c.in_ok-text.ensures.given (source_protocol next) after answer
    (subst (λ (p : Protocol). Performed told p between after answer)
    (sym (sourced next c.as_slice.result.now c.in_ok-source.source read.0 read.1) ∙ ap (source_protocol next) c.as_slice.ensures.value) performed)
