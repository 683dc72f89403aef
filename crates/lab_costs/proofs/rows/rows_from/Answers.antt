use Rattle.std.proofs.Common.{rules, ◌≡◌, ◌<◌, ◌∙◌, sym, ap, true, false, arith, length, slice_index_or}
use Rattle.std.proofs.lemmas.List.{get_or_default}
use Rattle.lab_costs.specs.Rows.{no_group}
use Rattle.lab_costs.proofs.Parts.{part_below, rows_more, rows_less, cost_there}
use Rattle.lab_costs.proofs.rows.rows_from.Goals as goal
use Rattle.lab_costs.proofs.rows.rows_from.Goals.{then-index+in_ok-push, else-index}

pub index-requires-then-index : goal.index-requires-then-index
index-requires-then-index c =
    let n = c.loop-number.number in
    let size = c.in_ok-has.ensures.size in
    let same = get_or_default c.in_ok-has.has.items n false c.index.result.now (let l : n < length c.in_ok-has.has.items = omega arith in l) in
    let set : slice_index_or c.in_ok-has.has.items n c.index.result.now ≡ true = search rules in
    let has = sym (c.in_ok-has.ensures.each n c.loop-number-test.true) ∙ same ∙ set in
    let below = part_below c.args.keys.now n (length c.in_ok-sums.sums.items) c.in_ok-sums.ensures.each has in
    search rules

pub loop-number-preserved : goal.loop-number-preserved
loop-number-preserved c =
    let n = c.loop-number.number in
    let size = c.in_ok-has.ensures.size in
    let same = get_or_default c.in_ok-has.has.items n false c.index.result.now (let l : n < length c.in_ok-has.has.items = omega arith in l) in
    let each = sym (c.in_ok-has.ensures.each n c.loop-number-test.true) ∙ same in
    elim c.if-index.branch [
      | then-index+in_ok-push w ↦
          let set : slice_index_or c.in_ok-has.has.items n c.index.result.now ≡ true = search rules in
          let has = each ∙ set in
          let below = part_below c.args.keys.now n (length c.in_ok-sums.sums.items) c.in_ok-sums.ensures.each has in
          let cost = w.index-then-index.result.now in
          let there : cost ≡ slice_index_or c.in_ok-sums.sums.items n cost = search rules in
          let is = there ∙ cost_there c.args.groups.now c.args.keys.now c.args.costs.now n c.in_ok-sums.sums.items cost below c.in_ok-sums.ensures.columns in
          let more = rows_more c.args.groups.now c.args.keys.now c.args.costs.now n cost no_group c.loop-number.rows.items c.loop-number-test.true is has
          c.loop-number.invariant in
          ap (λ v. v.items) w.rows-is ∙ (let pushed : w.push.new.self.items ≡ _ = search rules in pushed) ∙ more
      | else-index w ↦
          let set : slice_index_or c.in_ok-has.has.items n c.index.result.now ≡ false = search rules in
          let has = each ∙ set in
          ap (λ v. v.items) w.rows-is ∙ rows_less c.args.groups.now c.args.keys.now c.args.costs.now n _ has c.loop-number.invariant
    ]
