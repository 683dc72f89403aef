use Rattle.std.proofs.Common.{◌≡◌, ◌<◌, length, get_or, cond, None, Some, ap, sym, ◌∙◌, refl, arith}
use Rattle.std.specs.Option.{option_or}
use Rattle.std.proofs.lemmas.Grind.{common_steps}
use Rattle.lab_words.specs.Tables.{entry, offset_is, first_from}
use Rattle.lab_words.proofs.Keeping.{none_kept, one_kept, all_kept, whole}
use Rattle.lab_words.proofs.names.first_at.Goals as goal

pub loop-index-init : goal.loop-index-init
loop-index-init c = record {
  long = grind (arith, common_steps);
  first = λ k h. ap (λ t. option_or (entry t k) (first_from k 0 c.args.offsets.now)) c.in_ok-table.ensures ∙ none_kept c.args.count k c.args.offsets.now;
}

pub loop-index-preserved : goal.loop-index-preserved
loop-index-preserved c =
    let long : length c.keep.new.table ≡ c.loop-index.table.len = omega arith in
    let written = whole c.keep.new.table c.loop-index.table.items c.loop-index.table.len long in record {
      long = ap length written ∙ omega arith;
      first = λ k h.
          let within : c.loop-index.index < length c.args.offsets.now = omega arith in
          one_kept c.args.offsets.now c.loop-index.index k _ (entry c.loop-index.table.items k) _ within refl
          (ap (λ t. entry t k) written ∙ (c.keep.ensures k (omega arith)
          ∙ ap (λ t. option_or (entry t k) (cond (offset_is (get_or c.args.offsets.now c.loop-index.index None) k) (Some c.loop-index.index) None))
          c.as_mut_slice.ensures.value))
          (c.loop-index.invariant.first k h);
    }

pub returns-clause-first : goal.returns-clause-first
returns-clause-first c = λ k h.
    sym (all_kept k c.loop-index.index (entry c.loop-index.table.items k) c.args.offsets.now (omega arith)) ∙ c.loop-index.invariant.first k h
