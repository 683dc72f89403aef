use Rattle.std.proofs.Common.{length, arith}
use Rattle.cmd_list.proofs.Appended.{line_appended, all_appended}
use Rattle.cmd_list.proofs.lines.push_handler.Goals as goal

pub loop-a-preserved : goal.loop-a-preserved
loop-a-preserved c = line_appended _ _ (length c.args.words.now) c.loop-a.a c.loop-a.invariant (omega arith) c.in_ok-push_listed.ensures

pub returns : goal.returns
returns c = all_appended _ _ (length c.args.words.now) c.loop-a.a c.loop-a.invariant (omega arith)
