use Rattle.std.proofs.Common.{◌≡◌, ◌<◌, ◌+◌, ◌++◌, ◌∷◌, [], length, Some, slice_index, slice_index_or, ap, ◌∙◌, subst, arith}
use Rattle.std.specs.Prelude.{slice_get}
use Rattle.std.proofs.lemmas.Option.{slice_get-get_or}
use Rattle.mx_isa.specs.declared.Inst.{Inst}
use Rattle.mx_code.specs.Codes.{word_of_row, HasRegisters}
use Rattle.mx_blocks.specs.declared.Item.TheVariants.{Op}
use Rattle.mx_validate.specs.Padded.{items_of}
use Rattle.mx_squash.proofs.Targets.{site}
use Rattle.mx_link.specs.Words.{inst_at}
use Rattle.mx_link.specs.Parts.{origin_at}
use Rattle.mx_link.proofs.Pushes.{origins_after, words_after, origin_pushed, word_pushed, before_next}
use Rattle.mx_link.proofs.code.push_block.Goals as goal

pub loop-p-preserved : goal.loop-p-preserved
loop-p-preserved c =
    let link = slice_index c.args.links.now in
    let statements = c.args.statements.now in
    let s = site c.args.block.now c.args.plan.now c.args.start in
    let copied = c.args.copied.now in
    let p = c.loop-p.p in
    let items = items_of c.args.plan.now in
    let within : p < length items = omega (arith, c.loop-p-test.true, ap length c.as_slice-items.ensures.value) in
    let item = slice_index_or items p (Op 0) in
    let at : slice_get items p ≡ Some item = slice_get-get_or items p (Op 0) within in
    let origin : c.origin_at-origin.result ≡ origin_at s copied p item = c.origin_at-origin.ensures
    ∙ ap (λ xs. origin_at s copied p (slice_index_or xs p (Op 0))) c.as_slice-items.ensures.value in
    let inst : c.inst_at-inst.result ≡ inst_at link statements copied (c.args.start + p) (origin_at s copied p item) =
    c.inst_at-inst.ensures ∙ ap (inst_at link statements copied (c.args.start + p)) origin in
    record {
      words =
          ap (λ ws. ws ++ words_after link statements s copied (p + 1))
          (c.in_ok-push_word.ensures.words ∙ ap (λ (i : Inst). c.loop-p.code.words.items ++ word_of_row i ∷ []) inst)
          ∙ word_pushed link statements s copied p item c.loop-p.code.words.items _ at c.loop-p.invariant.words;
      registers = before_next HasRegisters link statements s copied p item at
          (subst HasRegisters inst c.in_ok-push_word.ensures.registers) c.loop-p.invariant.registers;
      origin =
          ap (λ os. os ++ origins_after s copied (p + 1))
          (c.in_ok-push_word.ensures.origin ∙ ap (λ o. c.loop-p.code.origin.items ++ o ∷ []) origin)
          ∙ origin_pushed s copied p item c.loop-p.code.origin.items _ at c.loop-p.invariant.origin;
    }
