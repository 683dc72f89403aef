use Rattle.std.proofs.Common.{◌≡◌, inl, sym, ap, ◌∙◌}
use Rattle.cmd_answer.specs.Answer.{Answer}
use Rattle.cmd_answer.specs.Protocol.{Answers}
use Rattle.cmd_answer.proofs.Replies.{step_fails}
use Rattle.law_schedule.specs.Schedule.{IsScheduler}
use Rattle.cmd_source.specs.Protocols.{Layouts, AfterLayout, linked_protocol}
use Rattle.cmd_source.specs.Replied.{IsReplied, is_answered}
use Rattle.cmd_source.proofs.Laid as laid
use Rattle.cmd_source.proofs.Laid.{IsFaulty, IsTooLong}
use Rattle.cmd_source.proofs.sources.linked_text.Goals as goal

pub returns-in_err-source-clause-refused : goal.returns-in_err-source-clause-refused
returns-in_err-source-clause-refused c =
    step_fails c.from_residual.result c.in_err-source.field-0.0 (IsFaulty c.as_slice.result.now)
    (λ answer. (layout_of : Layouts) → IsScheduler layout_of → (next : AfterLayout) → linked_protocol layout_of next c.args.text.items ≡ Answers answer)
    c.from_residual.ensures.1 c.in_err-source.ensures.refused
    (λ answer wrong layout_of is next. sym (ap (linked_protocol layout_of next) c.as_slice.ensures.value)
    ∙ laid.faulty_text layout_of next c.as_slice.result.now answer wrong)

pub returns-in_err-source-clause-replied : goal.returns-in_err-source-clause-replied
returns-in_err-source-clause-replied c =
    step_fails c.from_residual.result c.in_err-source.field-0.0 (IsFaulty c.as_slice.result.now) IsReplied
    c.from_residual.ensures.1 c.in_err-source.ensures.refused (λ answer wrong. inl (ap (λ (a : Answer). is_answered a.status) wrong.3))

pub returns-in_err-linked-clause-refused : goal.returns-in_err-linked-clause-refused
returns-in_err-linked-clause-refused c =
    let text = c.as_slice.result.now in
    let source = c.in_ok-source.source in
    let read = c.in_ok-source.ensures.source in
    step_fails c.from_residual-in_err-linked.result c.in_err-linked.field-0.0 (IsTooLong source)
    (λ answer. (layout_of : Layouts) → IsScheduler layout_of → (next : AfterLayout) → linked_protocol layout_of next c.args.text.items ≡ Answers answer)
    c.from_residual-in_err-linked.ensures.1 c.in_err-linked.ensures.refused
    (λ answer far layout_of is next. sym (ap (linked_protocol layout_of next) c.as_slice.ensures.value)
    ∙ laid.too_long layout_of is source next text read.0 read.1 far.0 far.1 ∙ ap Answers (sym far.2))

pub returns-in_err-linked-clause-replied : goal.returns-in_err-linked-clause-replied
returns-in_err-linked-clause-replied c =
    step_fails c.from_residual-in_err-linked.result c.in_err-linked.field-0.0 (IsTooLong c.in_ok-source.source) IsReplied
    c.from_residual-in_err-linked.ensures.1 c.in_err-linked.ensures.refused (λ answer far. inl (ap (λ (a : Answer). is_answered a.status) far.2))

pub returns-clause-given : goal.returns-clause-given
returns-clause-given c = λ layout_of is next.
    let read = c.in_ok-source.ensures.source in
    sym (ap (linked_protocol layout_of next) c.as_slice.ensures.value)
    ∙ laid.linked_text layout_of is c.in_ok-source.source next c.as_slice.result.now read.0 read.1 c.in_ok-linked.linked c.in_ok-linked.ensures.linked
