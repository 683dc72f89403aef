use Rattle.std.proofs.Common.{◌≡◌, Some, refl, subst, sym, ap, ◌∙◌}
use Rattle.std.specs.Prelude.{is_some}
use Rattle.mx_layout.specs.Overlong.{Overlong, IsOverlong}
use Rattle.mx_link.specs.Origins.{from_nowhere}
use Rattle.mx_link.specs.Linked.{IsLinked}
use Rattle.mx_reorg.specs.Greedy.{IsGreedy}
use Rattle.mx_isa.specs.Board.{board}
use Rattle.cmd_answer.specs.declared.Status.TheVariants.{Refused}
use Rattle.cmd_answer.specs.Answer.{prints}
use Rattle.mx_io.specs.Shelves.{Told, Counts}
use Rattle.cmd_answer.specs.Protocol.{Protocol, Answers, Performed}
use Rattle.cmd_answer.specs.Replies.{OnAnswer}
use Rattle.cmd_answer.proofs.Replies.{reply_fails}
use Rattle.cmd_debug.specs.Sessions.{session_protocol}
use Rattle.cmd_options.specs.Options.{seen_files}
use Rattle.cmd_source.specs.Refusals.{overlong_line}
use Rattle.mx_command.specs.Protocols.{statement_named, labelled_protocol}
use Rattle.mx_command.proofs.StoppedSources.{too_far, linked_plain}
use Rattle.mx_command.proofs.debug.labelled_reply.Goals as goal

pub returns-in_err-linked-clause-performed : goal.returns-in_err-linked-clause-performed
returns-in_err-linked-clause-performed g c = λ layout_of is.
    let source = c.args.source.now in
    let files = seen_files c.args.files.now in
    let limits = c.args.limits.now in
    let named : statement_named source c.args.label.now ≡ Some c.in-Some.index = sym c.in-Some.ensures.statement in
    let told : Told = g.S.Shelf.told c.args.shelf.now in
    let before : Counts = g.S.Shelf.counts c.args.shelf.now in
    reply_fails c.from_residual-in_err-linked.result c.in_err-linked.field-0.0
    (λ answer. (found : Overlong) × IsOverlong IsGreedy source board found × (answer ≡ prints Refused (overlong_line found.line found.from found.to)))
    (Performed told (labelled_protocol layout_of c.args.label.now files limits source) before before)
    c.from_residual-in_err-linked.ensures.1 c.in_err-linked.ensures.refused
    (λ answer found. subst (λ (p : Protocol). Performed told p before before answer)
    (sym (too_far layout_of is source c.args.label.now files limits c.in-Some.index named found.0 found.1 ∙ ap Answers (sym found.2))) (refl, refl))

pub returns-clause-performed : goal.returns-clause-performed
returns-clause-performed g c = λ layout_of is.
    let source = c.args.source.now in
    let files = seen_files c.args.files.now in
    let limits = c.args.limits.now in
    let linked = c.in_ok-linked.linked in
    let named : statement_named source c.args.label.now ≡ Some c.in-Some.index = sym c.in-Some.ensures.statement in
    let told : Told = g.S.Shelf.told c.args.shelf.now in
    let before : Counts = g.S.Shelf.counts c.args.shelf.now in
    let after : Counts = g.S.Shelf.counts c.debug_image.new.shelf in
    let k : IsLinked IsGreedy from_nowhere source board linked = c.in_ok-linked.ensures.linked in
    let asks = c.is_some-asks.ensures ∙ ap is_some c.input.ensures in
    subst (λ (p : Protocol). OnAnswer c.debug_image.result (Performed told p before after))
    ((λ i. session_protocol files limits linked.image.code.items linked.image.user_data.items (asks i) (c.address_of-address.ensures.address k i))
    ∙ linked_plain layout_of is source c.args.label.now files limits c.in-Some.index named linked k)
    c.debug_image.ensures.performed
