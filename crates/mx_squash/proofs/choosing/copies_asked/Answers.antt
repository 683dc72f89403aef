use Rattle.std.proofs.Common.{◌<◌, length, refl, sym, ap, ◌∙◌, arith}
use Rattle.std.specs.Prelude.{slice_get}
use Rattle.std.proofs.lemmas.Option.{same_Some, slice_get-get_or, slice_get_read}
use Rattle.mx_squash.specs.Copies.{Site, sites, site_of, is_target}
use Rattle.mx_squash.specs.Chosen.{copies_asked}
use Rattle.mx_squash.proofs.Targets.{sites_get}
use Rattle.mx_squash.proofs.choosing.copies_asked.Goals as goal

pub returns : goal.returns
returns c s found =
    let blocks = c.args.blocks.now in
    let plans = c.args.plans.now in
    let starts = c.args.starts.now in
    let all = sites blocks plans starts in
    let i = c.args.branch in
    let within : i < length blocks = c.requires.within in
    let plans_same = c.requires.plans in
    let starts_same = c.requires.starts in
    let plan_within : i < length plans = omega arith in
    let start_within : i < length starts = omega arith in
    c.asked_of.ensures
    ∙ ap (λ (t : Site). copies_asked c.args.count t (site_of (is_target t.block.end) all))
    (same_Some _ s (sym (sites_get blocks plans starts i _ _ _
    (slice_get_read blocks _ i c.index-blocks-site.result refl within c.index-blocks-site.is)
    (slice_get_read plans _ i c.index-plans-site.result refl plan_within c.index-plans-site.is) (slice_get-get_or starts i 0 start_within))
    ∙ found))
