use Rattle.std.proofs.Common.{refl, ◌∙◌}
use Rattle.std.proofs.lemmas.Result.{IfOk-weaker}
use Rattle.cmd_soak.proofs.Layouts.{layout-told, soak-told}
use Rattle.cmd_soak.proofs.soaking.soak.Goals as goal

pub returns : goal.returns
returns c = λ layout_of is.
    let source = c.in_ok-source.source in
    let linked = c.in_ok-linked.linked in
    let driven = c.in_ok-driven.driven in
    let same = layout-told layout_of is source linked c.in_ok-linked.ensures
    c.in_ok-steps.steps _ c.in_ok-requests.requests driven.counts driven.console.items
    c.in_ok-steps.ensures.exact c.in_ok-requests.ensures refl
    (record { counts = c.in_ok-driven.ensures.counts; console = c.in_ok-driven.ensures.console })
    ∙ soak-told layout_of c.args.seed c.args.count source c.in_ok-source.ensures.source in
    IfOk-weaker c.text_of.result _ _ (λ text e. e ∙ same) c.text_of.ensures
