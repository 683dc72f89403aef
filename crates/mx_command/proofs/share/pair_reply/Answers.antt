use Rattle.std.proofs.Common.{◌≡◌, ℕ, List, Option, option_map, refl, subst, sym}
use Rattle.mx_io.specs.Shelves.{Told, Counts}
use Rattle.cmd_answer.specs.Protocol.{Protocol, Answers, Performed}
use Rattle.cmd_answer.specs.Replies.{OnAnswer}
use Rattle.cmd_answer.proofs.Replies.{reply_fails}
use Rattle.law_schedule.specs.Schedule.{IsScheduler}
use Rattle.cmd_source.specs.Protocols.{Layouts}
use Rattle.mx_command.specs.Protocols.{pair_protocol}
use Rattle.mx_command.proofs.share.pair_reply.Goals as goal

pub returns-in_err-image-clause-performed : goal.returns-in_err-image-clause-performed
returns-in_err-image-clause-performed g c = λ layout_of is.
    let told : Told = g.S.Shelf.told c.args.shelf.now in
    let before : Counts = g.S.Shelf.counts c.args.shelf.now in
    let interrupts : Option (List ℕ) = option_map (λ s. s.now) c.args.interrupts in
    reply_fails c.from_residual.result c.in_err-image.field-0.0
    (λ answer. (layout_of : Layouts) → IsScheduler layout_of → (interrupts : Option (List ℕ)) (budget : ℕ)
    → pair_protocol layout_of interrupts budget c.args.first.now c.args.second.now ≡ Answers answer)
    (Performed told (pair_protocol layout_of interrupts c.args.budget c.args.first.now c.args.second.now) before before)
    c.from_residual.ensures.1 c.in_err-image.ensures.refused
    (λ answer far. subst (λ (p : Protocol). Performed told p before before answer) (sym (far layout_of is interrupts c.args.budget)) (refl, refl))

pub returns-clause-performed : goal.returns-clause-performed
returns-clause-performed g c = λ layout_of is.
    let told : Told = g.S.Shelf.told c.args.shelf.now in
    let before : Counts = g.S.Shelf.counts c.args.shelf.now in
    let after : Counts = g.S.Shelf.counts c.run_shared.new.shelf in
    subst (λ (p : Protocol). OnAnswer c.run_shared.result (Performed told p before after))
    (sym (c.in_ok-image.ensures.given layout_of is (option_map (λ s. s.now) c.args.interrupts) c.args.budget)) c.run_shared.ensures.performed
