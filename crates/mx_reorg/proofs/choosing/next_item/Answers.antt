use Rattle.std.proofs.Common.{◌≡◌, ℕ, ◌<◌, ◌+◌, sym, subst, ◌∙◌, length, arith}
use Rattle.std.proofs.lemmas.Bool.{false≢true}
use Rattle.mx_blocks.specs.declared.block.Item.{Item}
use Rattle.mx_validate.specs.Padded.{insts_of, body_count}
use Rattle.mx_reorg.proofs.Choices.{BestBelow, one_candidate, no_candidate, best_fills, fills_low, heights_known}
use Rattle.mx_reorg.proofs.choosing.next_item.Goals as goal
use Rattle.mx_reorg.proofs.choosing.next_item.Goals.{then-is_candidate, else-is_candidate}

pub loop-x-preserved : goal.loop-x-preserved
loop-x-preserved c =
    let block = c.args.block.now in
    let before = c.args.before.now in
    let small = c.body_count-x-end.ensures.within in
    let test = c.loop-x-test.true in
    let within : c.loop-x.x < length (insts_of block) = omega arith in
    elim c.if-is_candidate.branch [
      | then-is_candidate w ↦
          subst (λ (i : Item). BestBelow block before (c.loop-x.x + 1) i) (sym w.best-is)
          (one_candidate block before c.loop-x.x c.loop-x.best _ (heights_known block c.args.graph.now c.requires.graph) within c.loop-x.invariant
          (c.is_candidate.ensures.0 w.if-is_candidate.true) w.better-best.ensures.none w.better-best.ensures.one)
      | else-is_candidate w ↦
          subst (λ (i : Item). BestBelow block before (c.loop-x.x + 1) i) (sym w.best-is)
          (no_candidate block before c.loop-x.x c.loop-x.best c.loop-x.invariant (λ d. false≢true (sym w.if-is_candidate.false ∙ c.is_candidate.ensures.1 d)))
    ]

filled : goal.returns-clause-fills
filled c =
    let block = c.args.block.now in
    let before = c.args.before.now in
    let count = c.body_count-x-end.ensures.count in
    let end : c.loop-x.x ≡ body_count block = omega arith in
    best_fills block before c.loop-x.best (subst (λ (n : ℕ). BestBelow block before n c.loop-x.best) end c.loop-x.invariant)

pub returns-clause-fills : goal.returns-clause-fills
returns-clause-fills c = filled c

pub returns-clause-low : goal.returns-clause-low
returns-clause-low c = fills_low c.args.block.now c.args.before.now c.loop-x.best (filled c)
