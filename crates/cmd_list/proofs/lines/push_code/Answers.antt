use Rattle.std.proofs.Common.{◌+◌, ◌++◌, length, ap, ◌∙◌, arith}
use Rattle.std.specs.Prelude.{slice_index}
use Rattle.cmd_list.proofs.Appended.{line_appended, all_appended}
use Rattle.cmd_list.specs.Listing.{listed_line, kind_text}
use Rattle.cmd_list.proofs.lines.push_code.Goals as goal

pub loop-k-preserved : goal.loop-k-preserved
loop-k-preserved c =
    let k = c.loop-k.k in
    line_appended _ _ (length c.args.code.now) k c.loop-k.invariant (omega arith)
    (c.in_ok-push_code_word.ensures
    ∙ ap (λ o. c.loop-k.text.items ++ listed_line (4096 + k) (slice_index c.args.code.now k) (kind_text c.args.lines.now o)) c.origin_at-origin.ensures)

pub returns : goal.returns
returns c = all_appended _ _ (length c.args.code.now) c.loop-k.k c.loop-k.invariant (omega arith)
