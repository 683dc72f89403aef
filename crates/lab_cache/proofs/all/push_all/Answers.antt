use Rattle.std.proofs.Common.{◌≡◌, [], ◌++◌, subst, sym, ◌∙◌, ap, append_assoc}
use Rattle.lab_cache.specs.Alike.{AreAlike}
use Rattle.lab_cache.specs.All.{AllHold}
use Rattle.lab_cache.proofs.Groups.{append_nil, nothing_left, one_more_group, alike_front}
use Rattle.lab_cache.proofs.all.push_all.Goals as goal

pub loop-first-preserved : goal.loop-first-preserved
loop-first-preserved c =
    let front = c.loop-first.invariant.0 in
    let whole = c.loop-first.invariant.1 in
    let alike = c.split_at.result.0.now in
    let parts : c.loop-first.rest.now ≡ alike ++ c.split_at.result.1.now = c.split_at.ensures.by_index.0 in (
      front ++ alike,
      whole ∙ ap (λ xs. front ++ xs) parts ∙ sym (append_assoc front alike c.split_at.result.1.now),
      λ are none. subst (λ xs. AllHold xs (front ++ alike) []) (sym c.in_ok-push.ensures.items)
          (one_more_group c.loop-first.all.items front alike c.in_ok-new.field-0 [] (c.loop-first.invariant.2 are none)
          (c.in_ok-new.ensures (subst (λ xs. AreAlike c.in-Some.first.now.line c.in-Some.first.now.brings xs) (sym c.split_at.ensures.front)
          (alike_front c.args.geometries.now front c.loop-first.rest.now c.in-Some.others.now c.in-Some.first.now c.alike_count-count.result are whole
          c.in-Some.ensures.cases.0 c.alike_count-count.ensures.lines c.alike_count-count.ensures.groups)))),
    )

pub returns : goal.returns
returns c = λ are none.
    subst (λ gs. AllHold c.loop-first.all.items gs [])
    (sym (c.loop-first.invariant.1 ∙ ap (λ xs. c.loop-first.invariant.0 ++ xs) (nothing_left c.loop-first.rest.now c.in_default.ensures.cases)
    ∙ append_nil c.loop-first.invariant.0))
    (c.loop-first.invariant.2 are none)
