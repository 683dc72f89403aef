use Rattle.mx_blocks.specs.declared.block.Block.{Block}
use Rattle.std.proofs.Common.{◌≡◌, ℕ, List, ◌+◌, ◌++◌, ◌∷◌, [], true, cond, not, sym, ap, ◌∙◌, subst, arith}
use Rattle.std.specs.Result.{is_ok}
use Rattle.mx_blocks.specs.Leaders.{BlocksFrom, size}
use Rattle.mx_blocks.proofs.Splits.{one_more_block}
use Rattle.mx_blocks.proofs.splitting.blocks.Goals as goal

pub loop-first-preserved : goal.loop-first-preserved
loop-first-preserved c =
    let source = c.args.source.now in
    let block = c.block_of.result in
    let ok : is_ok c.push.result ≡ true = c.is_err.ensures.negation ∙ ap not c.if-is_err.false in
    let more : c.push.new.self.items ≡ c.loop-first.found.items ++ block ∷ [] =
    c.push.ensures.items ∙ ap (λ b. cond b (c.loop-first.found.items ++ block ∷ []) c.loop-first.found.items) ok in
    let end : c.loop-first.first + size block ≡ c.end_from-end.result = let s = c.block_of.ensures.size in omega arith in
    let split = one_more_block source 0 c.loop-first.first c.loop-first.found.items block c.loop-first.invariant.split c.block_of.ensures.first
    c.block_of.ensures.block in
    record {
      within = c.end_from-end.ensures.within;
      leader = c.end_from-end.ensures.next;
      split = subst (λ (l : List Block). BlocksFrom source 0 c.end_from-end.result l) (sym more)
          (subst (λ (n : ℕ). BlocksFrom source 0 n (c.loop-first.found.items ++ block ∷ [])) end split);
    }
