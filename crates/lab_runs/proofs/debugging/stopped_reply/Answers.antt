-- The session is that of the linked program, stopped at the link of the statement.
use Rattle.std.proofs.Common.{ℕ, suc, Bool, length, ap, ◌∙◌, sym, subst, arith}
use Rattle.std.specs.Prelude.{is_some}
use Rattle.mx_isa.specs.Board.{board}
use Rattle.mx_link.specs.Origins.{from_nowhere}
use Rattle.mx_link.specs.Linked.{link_map}
use Rattle.mx_plans.specs.Files.{lines_said}
use Rattle.cmd_answer.specs.Replies.{reply_answer}
use Rattle.lab_failure.specs.declared.failure.LabFailure.{LabFailure}
use Rattle.lab_sources.specs.Refusals.{IsTooFar}
use Rattle.lab_runs.specs.Sessions.{IsSessionOf}
use Rattle.lab_sources.proofs.Links.{in_code, links_count, link_there}
use Rattle.lab_sources.proofs.Failures.{fails}
use Rattle.lab_runs.proofs.debugging.stopped_reply.Goals as goal

pub link_at-address-requires : goal.link_at-address-requires
link_at-address-requires c =
    let source = c.args.source.now in
    let k = c.in_ok-linked.ensures.linked in
    let count = ap length k.links ∙ links_count (link_map board k.sites) 0 (suc (length source.statements)) in
    let low = c.requires.within in
    omega (arith, count, low)

pub session-requires-clause-address : goal.session-requires-clause-address
session-requires-clause-address c =
    let source = c.args.source.now in
    let linked = c.in_ok-linked.linked in
    let k = c.in_ok-linked.ensures.linked in
    let here = c.link_at-address.ensures ∙ link_there source k.sites linked.links.items c.args.index k.links c.requires.within in
    let most = (in_code from_nowhere source k.sites c.args.index).1 in
    let count = ap length k.code in
    let few = linked.image.code_within in
    let long = linked.image.code.ok in
    omega (arith, here, most, count, few, long)

pub returns-clause-stopped : goal.returns-clause-stopped
returns-clause-stopped c =
    let source = c.args.source.now in
    let linked = c.in_ok-linked.linked in
    let code = linked.image.code.items in
    let user_data = linked.image.user_data.items in
    let stimulus = c.args.stimulus.now in
    let limits = c.args.limits.now in
    let answer = reply_answer c.in_ok-reply.reply in
    let k = c.in_ok-linked.ensures.linked in
    let asks = c.is_some-asks.ensures ∙ ap is_some c.input.ensures in
    let here = c.link_at-address.ensures ∙ link_there source k.sites linked.links.items c.args.index k.links c.requires.within in
    record {
      linked = linked;
      is = k;
      session = subst (λ (a : Bool). IsSessionOf code user_data a (link_map board k.sites c.args.index) stimulus.cycles.items stimulus.input.items
          limits answer) asks
          (subst (λ (at : ℕ). IsSessionOf code user_data c.is_some-asks.result at stimulus.cycles.items stimulus.input.items limits answer) here
          c.in_ok-reply.ensures.answered);
    }

pub returns-in_err-linked-clause-refused : goal.returns-in_err-linked-clause-refused
returns-in_err-linked-clause-refused c =
    fails c.from_residual.result c.in_err-linked.field-0.0 (IsTooFar c.args.name.now c.args.source.now (lines_said c.args.lines.now))
    c.from_residual.ensures.1 c.in_err-linked.ensures.refused

pub returns-in_err-reply-clause-refused : goal.returns-in_err-reply-clause-refused
returns-in_err-reply-clause-refused c =
    let far : LabFailure → Type 0 = IsTooFar c.args.name.now c.args.source.now (lines_said c.args.lines.now) in
    fails c.from_residual-in_err-reply.result c.in_err-reply.field-0.0 far c.from_residual-in_err-reply.ensures.1
    (subst far (sym c.in_err-reply.ensures.memory) tt)
