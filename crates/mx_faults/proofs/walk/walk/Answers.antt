use Rattle.std.proofs.Common.{◌+◌, ◌++◌, drop, get_or, map, ap, sym, ◌∙◌, arith}
use Rattle.std.specs.List.{cons_option}
use Rattle.mx_lines.specs.Words.{texts}
use Rattle.mx_lines.proofs.NextLine.{past}
use Rattle.mx_asm.specs.Faults.{line_fault}
use Rattle.mx_asm.specs.Positions.{line_words, after}
use Rattle.mx_faults.specs.Found.{numbered}
use Rattle.mx_faults.specs.Walking.{IsShown, walked, with_number}
use Rattle.mx_faults.proofs.Tokens.{one_more_text, before_more, earlier_more, push_shown, shown_here, text_at}
use Rattle.mx_faults.proofs.Settled.{walked_step, push_option}
use Rattle.mx_faults.proofs.walk.walk.Goals as goal

pub loop-line-preserved : goal.loop-line-preserved
loop-line-preserved c =
    let lines = c.args.lines.now in
    let i = c.loop-line.line-index in
    let p = c.loop-line.position in
    let earlier = c.loop-line.earlier in
    let labels = c.args.labels.now in
    let end = c.args.bounds.now.end in
    let number = c.loop-line.number in
    let line = (get_or lines i past).now in
    let words = line_words line in
    let rest = texts (drop (i + 1) lines) in
    let found = map numbered c.loop-line.found.items in
    let more = one_more_text lines i past (omega arith) in
    let low = c.args.bounds.now.data_start in
    record {
      number = omega arith;
      before = before_more low i (texts lines) line p c.in_ok-seen.seen.next more c.loop-line.invariant.before c.in_ok-seen.ensures.next;
      earlier = earlier_more low i
          (texts lines) line p earlier c.see.new.earlier more c.loop-line.invariant.before c.loop-line.invariant.earlier c.in_ok-seen.ensures.earlier;
      spans =
          push_shown (IsShown labels low (texts lines))
          c.loop-line.found.items _ number c.in_ok-seen.seen.span c.in_ok-seen.seen.fault c.in_ok-push_fault.ensures.items c.loop-line.invariant.spans
          (shown_here labels earlier low
          (texts lines) i number line p c.in_ok-seen.seen.span c.in_ok-seen.seen.fault c.loop-line.invariant.number c.loop-line.invariant.before
          c.loop-line.invariant.earlier
          (text_at lines i past (omega arith)) c.in_ok-seen.ensures.span);
      index = omega (arith, c.in_ok-seen.ensures.index, c.loop-line.invariant.index);
      near = c.in_ok-seen.ensures.near;
      few = omega (arith, c.in_ok-push_fault.ensures.few);
      found =
          ap (λ xs. xs ++ walked labels end c.in_ok-seen.seen.next c.see.new.earlier (number + 1) rest) c.in_ok-push_fault.ensures.found
          ∙ push_option found (with_number number c.in_ok-seen.seen.fault) (walked labels end c.in_ok-seen.seen.next c.see.new.earlier (number + 1) rest)
          ∙ ap (λ o. found ++ cons_option (with_number number o) (walked labels end c.in_ok-seen.seen.next c.see.new.earlier (number + 1) rest))
          c.in_ok-seen.ensures.fault
          ∙ ap (λ q. found ++ cons_option (with_number number (line_fault labels end p earlier line)) (walked labels end q c.see.new.earlier (number + 1) rest))
          c.in_ok-seen.ensures.next
          ∙ ap (λ k. found ++ cons_option (with_number number (line_fault labels end p earlier line)) (walked labels end (after p words) k (number + 1) rest))
          c.in_ok-seen.ensures.earlier
          ∙ ap (λ w. found ++ w) (sym (walked_step labels end p earlier number lines i past (omega arith)))
          ∙ c.loop-line.invariant.found;
    }
