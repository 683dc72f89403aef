use Rattle.std.proofs.Common.{codes}
use Rattle.std.proofs.lemmas.Result.{on_ok_weaker}
use Rattle.cc_emit.specs.Sources.{count_text}
use Rattle.cc_emit.proofs.More.{four_more}
use Rattle.cc_emit.proofs.source.put_size.Goals as goal

pub returns : goal.returns
returns c =
    on_ok_weaker c.put.result (λ h. four_more c.args.text.now (count_text (codes "; ") c.args.statements (codes " statement"))
    (count_text (codes ", ") c.args.instructions (codes " instruction")) (count_text (codes ", ") c.args.words (codes " data word")) (codes "\n")
    c.put_count.new.text c.put_count-2.new.text c.put_count-3.new.text c.put.new.self
    c.in_ok-put_count.ensures c.in_ok-put_count-2.ensures c.in_ok-put_count-3.ensures h) c.put.ensures
