use Rattle.std.proofs.lemmas.Result.{on_ok_weaker}
use Rattle.cc_emit.specs.Lines.{lines_text}
use Rattle.cc_emit.specs.Sources.{title}
use Rattle.cc_emit.proofs.More.{two_more}
use Rattle.cc_emit.proofs.source.put_code.Goals as goal

pub returns : goal.returns
returns c =
    on_ok_weaker c.put_lines.result (λ h. two_more c.args.text.now title (lines_text c.args.program.now c.args.lines.now) c.put.new.self
    c.put_lines.new.text c.in_ok-put.ensures h) c.put_lines.ensures
