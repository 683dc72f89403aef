use Rattle.std.proofs.Common.{◌<◌, length, arith}
use Rattle.mx_link.specs.Parts.{sites_of}
use Rattle.lab_certify.specs.Verified.{MayCarry, MayCopy}
use Rattle.lab_certify.proofs.Both.{one_more, at_place, all_places}
use Rattle.mx_plans.proofs.Sites.{site_there, site_count}
use Rattle.lab_certify.proofs.checking.check_copies.Goals as goal

pub returns-in-Err-clause-rejected : goal.returns-in-Err-clause-rejected
returns-in-Err-clause-rejected c =
    let l = c.args.layout.now in
    let within : c.loop-k.k < length l.blocks.items = omega (arith, c.loop-k-test.true, c.len-k-end.ensures) in
    let there = site_there l.blocks.items l.plans.items l.starts.items c.requires.ready.plans c.requires.ready.starts c.loop-k.k within in
    record {
      k = c.loop-k.k;
      x = there.site;
      at = there.is;
      y = c.head_at-head.result;
      other_at = c.head_at-head.ensures;
      found = c.in-Err.ensures.rejected there.site there.is;
      before = c.loop-k.invariant;
    }

pub loop-k-preserved : goal.loop-k-preserved
loop-k-preserved c =
    let l = c.args.layout.now in
    let all = sites_of l in
    let heads = c.args.heads.now in
    let within : c.loop-k.k < length l.blocks.items = omega (arith, c.loop-k-test.true, c.len-k-end.ensures) in
    let there = site_there l.blocks.items l.plans.items l.starts.items c.requires.ready.plans c.requires.ready.starts c.loop-k.k within in
    one_more (MayCopy all heads) c.loop-k.k
    (at_place (MayCarry all) all heads c.loop-k.k there.site c.head_at-head.result there.is c.head_at-head.ensures
    (c.in_default.ensures.may there.site there.is))
    c.loop-k.invariant

pub returns-clause-may : goal.returns-clause-may
returns-clause-may c =
    let l = c.args.layout.now in
    let all = sites_of l in
    let count = site_count l.blocks.items l.plans.items l.starts.items c.requires.ready.plans c.requires.ready.starts in
    all_places (MayCarry all) all c.args.heads.now c.loop-k.k c.loop-k.invariant (omega (arith, c.loop-k-test.false, c.len-k-end.ensures, count))
