use Rattle.std.proofs.Common.{length, ap, ◌∙◌, slice_index, arith}
use Rattle.std.proofs.lemmas.List.{length-map}
use Rattle.mx_link.specs.Words.{value_word}
use Rattle.mx_link.proofs.Sizes.{few_words, few_origins}
use Rattle.mx_link.proofs.linking.linked.Goals as goal

pub noops_in-noops-requires : goal.noops_in-noops-requires
noops_in-noops-requires c =
    let few = few_words c.args.source.now c.args.layout c.args.slots c.user_data-values.ensures.source c.requires in
    omega (arith, few, ap length (c.as_slice-2.ensures.value ∙ c.in_ok-code.ensures.words))

pub copies_in-copies-requires : goal.copies_in-copies-requires
copies_in-copies-requires c =
    let few = few_origins c.args.source.now c.args.layout c.args.slots c.user_data-values.ensures.source c.requires in
    omega (arith, few, ap length (c.as_slice-3.ensures.value ∙ c.in_ok-code.ensures.origin))

pub invariant_of-result : goal.invariant_of-result
invariant_of-result c =
    let few = few_words c.args.source.now c.args.layout c.args.slots c.user_data-values.ensures.source c.requires in
    let values = c.user_data-values.result.now in
    let words = c.user_data-values.ensures.source.few_words in record {
      code_within = omega (arith, few, ap length c.in_ok-code.ensures.words);
      data_within = omega (
        arith,
        ap length c.in_ok-user_data.ensures,
        length-map values
            (value_word (slice_index c.as_slice.result.now)),
        ap length c.user_data-values.ensures.value,
      );
    }
