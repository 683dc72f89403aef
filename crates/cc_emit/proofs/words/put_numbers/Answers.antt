use Rattle.std.proofs.Common.{◌≡◌, ◌<◌, length, arith}
use Rattle.cc_emit.specs.Data.{number_text}
use Rattle.cc_emit.proofs.More.{number_more}
use Rattle.cc_emit.proofs.words.put_numbers.Goals as goal

pub loop-i-preserved : goal.loop-i-preserved
loop-i-preserved c =
    let keys = c.args.out.now.numbers.keys in
    let all : c.len-i-end.result ≡ length keys = c.len-i-end.ensures.len in
    let within : c.loop-i.i < length keys = omega (arith, c.loop-i-test.true, all) in
    number_more number_text keys c.loop-i.i c.args.text.now c.loop-i.text c.put_number_at.new.text within c.loop-i.invariant c.in_ok-put_number_at.ensures
