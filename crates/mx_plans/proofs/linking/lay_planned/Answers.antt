use Rattle.std.proofs.Common.{map, ap, ◌∙◌}
use Rattle.mx_blocks.specs.declared.Block.{Block}
use Rattle.mx_plans.specs.Files.{marks_of_lines}
use Rattle.mx_plans.proofs.Kept.{if_kept, if_refused}
use Rattle.mx_plans.proofs.Numbered.{proposed_by}
use Rattle.mx_plans.proofs.Rising.{rising}
use Rattle.mx_plans.proofs.linking.lay_planned.Goals as goal

pub lay_by-requires-clause-rising : goal.lay_by-requires-clause-rising
lay_by-requires-clause-rising c =
    rising c.args.source.now c.in_ok-blocks.blocks.items c.as_slice-2.result.now c.in_ok-blocks.ensures
    (c.as_slice-2.ensures.value ∙ c.in_ok-firsts.ensures ∙ ap (map (λ (b : Block). b.first)) c.as_slice.ensures.value)

pub returns-clause-kept : goal.returns-clause-kept
returns-clause-kept c =
    let firsts = c.as_slice-2.ensures.value ∙ c.in_ok-firsts.ensures ∙ ap (map (λ (b : Block). b.first)) c.as_slice.ensures.value in
    if_kept _ _ (proposed_by c.args.source.now
    (marks_of_lines c.args.lines.now) c.in_ok-blocks.blocks.items c.as_slice-2.result.now c.in_ok-blocks.ensures firsts)
    c.lay_by.result c.lay_by.ensures.kept

pub returns-clause-refused : goal.returns-clause-refused
returns-clause-refused c =
    let firsts = c.as_slice-2.ensures.value ∙ c.in_ok-firsts.ensures ∙ ap (map (λ (b : Block). b.first)) c.as_slice.ensures.value in
    if_refused _ _ (proposed_by c.args.source.now
    (marks_of_lines c.args.lines.now) c.in_ok-blocks.blocks.items c.as_slice-2.result.now c.in_ok-blocks.ensures firsts)
    c.args.source.now c.args.place c.lay_by.result c.lay_by.ensures.refused
