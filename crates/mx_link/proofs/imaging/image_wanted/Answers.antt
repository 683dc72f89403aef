use Rattle.std.proofs.Common.{ap, ◌∙◌, length, slice_index, arith}
use Rattle.std.proofs.lemmas.List.{length-map}
use Rattle.mx_link.specs.declared.code.Slots.TheVariants.{Wanted}
use Rattle.mx_link.specs.Linked.{link_map}
use Rattle.mx_link.specs.Origins.{as_wanted}
use Rattle.mx_link.specs.Parts.{sites_of, link_in}
use Rattle.mx_link.specs.Words.{value_word, words_of}
use Rattle.mx_link.proofs.Laid.{laid_out_at}
use Rattle.mx_link.proofs.Relinked.{same_code, same_words}
use Rattle.mx_link.proofs.Sizes.{few_words}
use Rattle.mx_link.proofs.imaging.image_wanted.Goals as goal

pub code_of-requires : goal.code_of-requires
code_of-requires c = laid_out_at c.args.source.now c.args.place c.args.layout.now c.requires

pub invariant_of-result : goal.invariant_of-result
invariant_of-result c =
    let ready = laid_out_at c.args.source.now c.args.place c.args.layout.now c.requires in
    let few = few_words c.args.source.now c.args.layout.now (Wanted c.args.wanted) c.user_data-values.ensures.source ready in
    let values = c.user_data-values.result.now in
    record {
      code_within = omega (arith, few, ap length c.in_ok-code.ensures.words);
      data_within = omega (
        arith,
        ap length c.in_ok-user_data.ensures,
        length-map values
            (value_word (slice_index c.as_slice.result.now)),
        ap length c.user_data-values.ensures.value,
        c.user_data-values.ensures.source.few_words,
      );
    }

pub returns-clause-code : goal.returns-clause-code
returns-clause-code c =
    let l = c.args.layout.now in
    let all = sites_of l in
    c.in_ok-code.ensures.words
    ∙ same_code (as_wanted c.args.wanted.now) c.args.source.now (link_in l) (link_map c.args.place all) all c.user_data-values.ensures.source
    c.requires.links

pub returns-clause-user_data : goal.returns-clause-user_data
returns-clause-user_data c =
    let l = c.args.layout.now in
    let all = sites_of l in
    c.in_ok-user_data.ensures
    ∙ ap (λ xs. words_of (slice_index xs) c.user_data-values.result.now) c.as_slice.ensures.value
    ∙ ap (words_of (link_in l)) c.user_data-values.ensures.value
    ∙ same_words c.args.source.now (link_in l) (link_map c.args.place all) c.user_data-values.ensures.source c.requires.links
