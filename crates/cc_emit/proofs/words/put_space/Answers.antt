use Rattle.std.proofs.lemmas.Result.{on_ok_weaker}
use Rattle.cc_emit.proofs.More.{three_more}
use Rattle.cc_emit.proofs.words.put_space.Goals as goal

pub returns : goal.returns
returns c = on_ok_weaker c.put-2.result (λ h. three_more c.args.text.now _ _ _ _ _ _ c.in_ok-put.ensures c.in_ok-number.ensures h) c.put-2.ensures
