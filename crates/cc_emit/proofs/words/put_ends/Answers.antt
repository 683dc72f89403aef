use Rattle.std.proofs.Common.{◌≡◌, ◌<◌, length, arith}
use Rattle.cc_emit.specs.Data.{end_text}
use Rattle.cc_emit.proofs.More.{number_more}
use Rattle.cc_emit.proofs.words.put_ends.Goals as goal

pub loop-i-preserved : goal.loop-i-preserved
loop-i-preserved c =
    let keys = c.args.out.now.ends.keys in
    let all : c.len-i-end.result ≡ length keys = c.len-i-end.ensures.len in
    let within : c.loop-i.i < length keys = omega (arith, c.loop-i-test.true, all) in
    number_more (end_text c.args.end) keys c.loop-i.i c.args.text.now c.loop-i.text c.put_end_at.new.text within c.loop-i.invariant c.in_ok-put_end_at.ensures
