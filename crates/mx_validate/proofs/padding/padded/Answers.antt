use Rattle.std.proofs.Common.{◌≡◌, ◌<◌, ◌∷◌, ◌++◌, length, take, slice_index_or, sym, ap, ◌∙◌, arith}
use Rattle.std.proofs.lemmas.Grind.{common_steps}
use Rattle.std.proofs.lemmas.List.{get_or_read}
use Rattle.mx_isa.specs.declared.inst.Inst.TheVariants.{Halt}
use Rattle.mx_blocks.specs.declared.block.Item.TheVariants.{Op}
use Rattle.mx_validate.specs.Padded.{padded_from, no_ops_after}
use Rattle.mx_validate.proofs.PaddedLists.{padded_more, padded_length, quiet_body, tail_of, valid_padded}
use Rattle.mx_validate.proofs.padding.padded.Goals as goal

pub push_padded-requires : goal.push_padded-requires
push_padded-requires c =
    let insts = c.args.block.now.insts.items in
    let within : c.loop-k.k < length insts = omega arith in
    let short : length (take c.loop-k.k insts) ≡ c.loop-k.k = grind (arith, common_steps) in
    let bound = padded_length 0 (take c.loop-k.k insts) (quiet_body insts c.loop-k.k c.args.block.now.body within) in
    let same = ap length c.loop-k.invariant in
    omega arith

pub loop-k-preserved : goal.loop-k-preserved
loop-k-preserved c =
    let insts = c.args.block.now.insts.items in
    let within : c.loop-k.k < length insts = omega arith in
    let read : c.index-deref-k.result ≡ slice_index_or insts c.loop-k.k Halt =
    get_or_read insts c.loop-k.k c.index-deref-k.result within
    (c.index-deref-k.is ∙ ap (λ l. slice_index_or l c.loop-k.k c.index-deref-k.result) c.deref.ensures.0) Halt in
    c.push_padded.ensures
    ∙ ap (λ l. l ++ Op c.loop-k.k ∷ no_ops_after c.index-deref-k.result) c.loop-k.invariant
    ∙ ap (λ x. padded_from 0 (take c.loop-k.k insts) ++ Op c.loop-k.k ∷ no_ops_after x) read
    ∙ sym (padded_more insts c.loop-k.k Halt within)

pub overflow_sub-place : goal.overflow_sub-place
overflow_sub-place c =
    let block = c.args.block.now in
    let whole : length c.loop-k.items.items ≡ length (padded_from 0 block.insts.items) =
    ap length c.loop-k.invariant ∙ ap (λ l. length (padded_from 0 l)) (grind (arith, common_steps)) in
    let tail = tail_of block.end block.insts.items block.last in
    omega arith

pub returns-clause-padded : goal.returns-clause-padded
returns-clause-padded c =
    let block = c.args.block.now in
    let whole : c.loop-k.items.items ≡ padded_from 0 block.insts.items = c.loop-k.invariant ∙ ap (padded_from 0) (grind (arith, common_steps)) in
    let size = ap length whole in
    let tail = tail_of block.end block.insts.items block.last in
    record { items = whole; place = omega arith }

pub returns-clause-valid : goal.returns-clause-valid
returns-clause-valid c = valid_padded c.args.block.now _ (returns-clause-padded c)
