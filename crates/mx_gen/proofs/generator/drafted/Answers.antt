use Rattle.std.proofs.Common.{◌≡◌, ◌+◌, ◌-◌, ◌*◌, ◌%◌, ◌≤◌, sym, ap, ◌∙◌, subst, arith, suc}
use Rattle.mx_gen.specs.Drafts.{finished}
use Rattle.mx_gen.specs.Generated.{draw, items}
use Rattle.mx_gen.specs.Sound.{IsSound}
use Rattle.mx_source.specs.Names.{AreApart}
use Rattle.mx_source.specs.SourceValue.{IsSource}
use Rattle.mx_gen.proofs.Sounds.{sound_item, sound_source, items_step, reduced}
use Rattle.mx_gen.proofs.generator.drafted.Goals as goal

pub loop-j-preserved : goal.loop-j-preserved
loop-j-preserved c =
    let x = c.loop-j.x in let j = c.loop-j.j in
    let x' = (x * 1664525 % 4294967296 + 1013904223) % 4294967296 in
    let drawn : x' ≡ draw x = reduced (x * 1664525) 1013904223 4294967296 in
    let next : suc j ≡ j + 1 = omega arith in
    let is = c.in_ok-add_item.ensures in
    record {
      sound = subst (λ k. IsSound k c.add_item.new.draft) next (subst (IsSound (suc j)) (sym is) (sound_item x' j c.loop-j.draft c.loop-j.invariant.sound));
      same = ap (λ d. items (c.args.count - (j + 1)) (j + 1) x' d) is
          ∙ (sym (items_step c.args.count j x x' c.loop-j.draft c.loop-j-test.true drawn) ∙ c.loop-j.invariant.same);
    }

pub finish-requires : goal.finish-requires
finish-requires c = λ apart.
    let j = c.loop-j.j in let few : j ≤ 4000 = omega (arith, c.requires, c.loop-j.auto.j-end) in
    subst (λ d. IsSource (finished d)) (sym c.in_ok-put.ensures)
    (sound_source j c.loop-j.draft few c.loop-j.invariant.sound (subst (λ d. AreApart d.labels) c.in_ok-put.ensures apart))
