use Rattle.std.proofs.Common.{length, take, drop, sym, ap, ◌∙◌}
use lib.Pointwise.{bytes_decides}
use Rattle.lab_measures.proofs.Joined.{take_front, drop_front}
use Rattle.lab_measures.proofs.sweep.are_joined.Goals as goal

pub returns-then-eq-clause-no : goal.returns-then-eq-clause-no
returns-then-eq-clause-no c = λ joined.
    let first = c.args.first.now in
    let back = c.split_at.ensures.back ∙ ap (drop (length first)) (sym joined) ∙ drop_front first c.args.second.now in
    c.eq-then-eq.ensures ∙ (bytes_decides _ _).1 back

pub returns-else-eq-clause-no : goal.returns-else-eq-clause-no
returns-else-eq-clause-no c = λ joined.
    let first = c.args.first.now in
    let front = c.split_at.ensures.front ∙ ap (take (length first)) (sym joined) ∙ take_front first c.args.second.now in
    c.eq.ensures ∙ (bytes_decides _ _).1 front
