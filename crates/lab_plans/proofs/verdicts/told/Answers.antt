use Rattle.std.proofs.Common.{◌≡◌, List, length, ap, sym, subst, ◌∙◌}
use Rattle.mx_isa.specs.Board.{board}
use Rattle.mx_blocks.specs.declared.Block.{Block}
use Rattle.mx_blocks.specs.declared.Plan.{Plan}
use Rattle.mx_layout.specs.Layout.{blocks_in}
use Rattle.mx_link.specs.Parts.{sites_of}
use Rattle.mx_plans.specs.Files.{lines_said}
use Rattle.mx_plans.proofs.Laid.{laid_blocks}
use Rattle.lab_plans.specs.Verdicts.{AreVerdicts}
use Rattle.lab_plans.proofs.Laid.{ready}
use Rattle.lab_plans.proofs.Listed.{verdicts_count}
use Rattle.lab_plans.proofs.Told.{copies_few, same_lines}
use Rattle.lab_plans.proofs.verdicts.told.Goals as goal

pub verdicts_of-requires : goal.verdicts_of-requires
verdicts_of-requires c = ap length c.as_slice.ensures.value ∙ c.requires.count ∙ ap length (sym c.as_slice-blocks.ensures.value)

pub copy_verdicts-requires : goal.copy_verdicts-requires
copy_verdicts-requires c = ready c.args.source.now c.args.layout.now c.requires.laid

pub rejection_lines-requires-clause-count : goal.rejection_lines-requires-clause-count
rejection_lines-requires-clause-count c =
    ap length c.as_slice-2.ensures.value
    ∙ verdicts_count c.as_slice-blocks.result.now c.as_slice.result.now c.in_ok-verdicts.verdicts.items c.in_ok-verdicts.ensures

pub rejection_lines-requires-clause-few : goal.rejection_lines-requires-clause-few
rejection_lines-requires-clause-few c =
    copies_few c.args.source.now c.args.layout.now c.requires.laid (lines_said c.args.plans.now) c.as_slice-blocks.result.now c.as_slice-3.result.now
    c.as_slice-blocks.ensures.value (c.as_slice-3.ensures.value ∙ c.in_ok-copies.ensures)

pub returns : goal.returns
returns c =
    let source = c.args.source.now in
    let l = c.args.layout.now in
    let verdicts = c.in_ok-verdicts.verdicts.items in
    let blocks : c.as_slice-blocks.result.now ≡ blocks_in (sites_of l) =
    c.as_slice-blocks.ensures.value ∙ sym (laid_blocks source board l c.requires.laid) in
    record {
      verdicts = verdicts;
      judged = subst (λ (bs : List Block). AreVerdicts bs l.proposals.items verdicts) blocks
          (subst (λ (ps : List Plan). AreVerdicts c.as_slice-blocks.result.now ps verdicts) c.as_slice.ensures.value c.in_ok-verdicts.ensures);
      text_is = c.in_ok-text.ensures ∙ same_lines _ _ _ _ _ _ _ _ c.lines.ensures.value blocks c.as_slice-2.ensures.value
          (c.as_slice-3.ensures.value ∙ c.in_ok-copies.ensures);
    }
