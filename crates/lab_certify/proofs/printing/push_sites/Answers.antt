use Rattle.std.proofs.Common.{◌<◌, length, arith}
use Rattle.mx_link.specs.Parts.{sites_of}
use Rattle.mx_link.proofs.Pushes.{flat_pushed, flat_end}
use Rattle.lab_certify.specs.Printed.{site_line}
use Rattle.mx_plans.proofs.Sites.{site_there, site_count}
use Rattle.lab_certify.proofs.printing.push_sites.Goals as goal

pub loop-k-preserved : goal.loop-k-preserved
loop-k-preserved c =
    let l = c.args.layout.now in
    let all = sites_of l in
    let within : c.loop-k.k < length l.blocks.items = omega (arith, c.loop-k-test.true, c.len-k-end.ensures) in
    let there = site_there l.blocks.items l.plans.items l.starts.items c.requires.plans c.requires.starts c.loop-k.k within in
    flat_pushed (site_line all) all c.loop-k.k there.site c.loop-k.text.items _ _ there.is (c.in_ok-push_site.ensures there.site there.is)
    c.loop-k.invariant

pub returns : goal.returns
returns c =
    let l = c.args.layout.now in
    let all = sites_of l in
    let count = site_count l.blocks.items l.plans.items l.starts.items c.requires.plans c.requires.starts in
    flat_end (site_line all) all c.loop-k.k c.loop-k.text.items _
    (omega (arith, c.loop-k-test.false, c.loop-k.auto.k-end, c.len-k-end.ensures, count)) c.loop-k.invariant
