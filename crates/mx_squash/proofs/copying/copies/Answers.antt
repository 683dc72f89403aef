use Rattle.std.proofs.Common.{◌<◌, length, refl, sym, ap, ◌∙◌, arith}
use Rattle.std.proofs.lemmas.Option.{slice_get-get_or, slice_get_read}
use Rattle.mx_squash.specs.Copies.{copies_at, sites}
use Rattle.mx_squash.proofs.Targets.{sites_get}
use Rattle.mx_squash.proofs.copying.copies.Goals as goal

pub returns : goal.returns
returns c =
    let blocks = c.args.blocks.now in
    let plans = c.args.plans.now in
    let starts = c.args.starts.now in
    let i = c.args.branch in
    let within : i < length blocks = c.requires.within in
    let plans_same = c.requires.plans in
    let starts_same = c.requires.starts in
    let plan_within : i < length plans = omega arith in
    let start_within : i < length starts = omega arith in
    c.copies_of.ensures
    ∙ ap (copies_at (sites blocks plans starts))
    (sym (sites_get blocks plans starts i _ _ _
    (slice_get_read blocks _ i c.index-blocks-site.result refl within c.index-blocks-site.is)
    (slice_get_read plans _ i c.index-plans-site.result refl plan_within c.index-plans-site.is) (slice_get-get_or starts i 0 start_within)))
