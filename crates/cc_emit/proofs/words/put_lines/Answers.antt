use Rattle.cc_emit.specs.Data.{word_line}
use Rattle.cc_emit.proofs.More.{item_more}
use Rattle.cc_emit.proofs.words.put_lines.Goals as goal

pub loop-word-preserved : goal.loop-word-preserved
loop-word-preserved c =
    item_more word_line c.args.words.now c.loop-word.word-index 0 c.args.text.now c.loop-word.text c.put_line.new.text c.loop-word-test.true
    c.loop-word.invariant c.in_ok-put_line.ensures
