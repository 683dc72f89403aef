use Rattle.std.proofs.Common.{◌<◌, length, refl, sym, ap, ◌∙◌, arith}
use Rattle.std.proofs.lemmas.Option.{slice_get-get_or, slice_get_read}
use Rattle.mx_squash.specs.Copies.{is_target}
use Rattle.mx_squash.specs.Chosen.{copies_asked}
use Rattle.mx_squash.proofs.Targets.{ascends, site, goal_is, site_none}
use Rattle.mx_squash.proofs.choosing.asked_of.Goals as goal

pub target_of-requires : goal.target_of-requires
target_of-requires c = ascends c.args.blocks.now c.requires.blocks

pub returns-in-Some : goal.returns-in-Some
returns-in-Some c =
    let blocks = c.args.blocks.now in
    let plans = c.args.plans.now in
    let starts = c.args.starts.now in
    let i = c.in-Some.goal in
    let within : i < length blocks = c.in-Some.ensures.within in
    let plans_same = c.requires.plans in
    let starts_same = c.requires.starts in
    let plan_within : i < length plans = omega arith in
    let start_within : i < length starts = omega arith in
    c.asked_between.ensures
    ∙ ap (copies_asked c.args.count (site c.args.block.now c.args.plan.now c.args.start))
    (sym (goal_is (is_target c.args.block.now.end) blocks plans starts i _ _ _ c.in-Some.ensures.found
    (slice_get_read blocks _ i c.index-blocks-goal.result refl within c.index-blocks-goal.is)
    (slice_get_read plans _ i c.index-plans-goal.result refl plan_within c.index-plans-goal.is) (slice_get-get_or starts i 0 start_within)))

pub returns-in-None : goal.returns-in-None
returns-in-None c =
    c.asked_nowhere.ensures (site c.args.block.now c.args.plan.now c.args.start)
    ∙ ap (copies_asked c.args.count (site c.args.block.now c.args.plan.now c.args.start))
    (sym (site_none (is_target c.args.block.now.end) c.args.blocks.now c.args.plans.now c.args.starts.now c.in-None.ensures.found))
