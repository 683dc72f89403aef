use Rattle.std.proofs.Common.{◌<◌, length, slice_index_or, arith}
use Rattle.std.proofs.lemmas.Bool.Decides.{nat_tests}
use Rattle.std.proofs.lemmas.Option.{slice_get-get_or}
use Rattle.mx_link.specs.Parts.{sites_of}
use Rattle.mx_plans.proofs.Picked.{verdict_pushed, verdicts_end}
use Rattle.mx_plans.proofs.Sites.{site_there, site_count}
use Rattle.mx_plans.proofs.copies.copy_verdicts.Goals as goal

pub loop-k-preserved : goal.loop-k-preserved
loop-k-preserved c =
    let l = c.args.layout.now in
    let all = sites_of l in
    let count = c.min-count.ensures in
    let test = c.loop-k-test.true in
    let within : c.loop-k.k < length l.blocks.items = grind (arith, nat_tests) in
    let low : c.loop-k.k < length c.args.lines.now = grind (arith, nat_tests) in
    let there = site_there l.blocks.items l.plans.items l.starts.items c.requires.plans c.requires.starts c.loop-k.k within in
    verdict_pushed all c.args.lines.now c.loop-k.k there.site (slice_index_or c.args.lines.now c.loop-k.k c.index-lines-k.result)
    c.loop-k.verdicts.items _ c.verdict_on.result there.is
    (slice_get-get_or c.args.lines.now c.loop-k.k c.index-lines-k.result low)
    c.in_ok-push.ensures.items (c.verdict_on.ensures there.site there.is) c.loop-k.invariant

pub returns : goal.returns
returns c =
    let l = c.args.layout.now in
    let all = sites_of l in
    let count = site_count l.blocks.items l.plans.items l.starts.items c.requires.plans c.requires.starts in
    verdicts_end all c.args.lines.now c.loop-k.k c.loop-k.verdicts.items (omega (arith, c.loop-k-test.false, c.min-count.ensures, count)) c.loop-k.invariant
