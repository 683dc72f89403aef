use Rattle.std.proofs.Common.{rules, tests, ◌∙◌, ap, length, eqb}
use Rattle.std.specs.List.{slice_split}
use Rattle.std.proofs.lemmas.Iterator.Consumers.{YieldsList-end}
use Rattle.std.proofs.lemmas.Iterator.Splits.{YieldsList-from_slice_split}
use Rattle.lab_positions.proofs.spans.line_spans.Goals as goal

pub returns : goal.returns
returns c =
    let same = c.into_iter-line-iterator.ensures.into_iter_gives in
    let end =
    YieldsList-end (YieldsList-from_slice_split _ _ c.lines_of.result.now (ap (λ s. s.rest.now) same ∙ c.split-line-items.ensures.rest)
    (ap (λ s. s.done) same ∙ c.split-line-items.ensures.done) (ap (λ s. s.pred) same ∙ c.split-line-items.ensures.closure)
    (λ x r q k. search (rules, tests))) c.loop-line.yielded _ c.loop-line.yielded_by _ _ c.in-None.is c.next.ensures.steps in
    c.loop-line.invariant ∙ end.1 ∙ ap (λ t. length (slice_split (λ b. eqb b 10) t)) c.lines_of.ensures
