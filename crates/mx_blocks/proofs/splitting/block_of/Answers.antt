use Rattle.std.proofs.Common.{◌≡◌, ◌-◌, Some, length, sym, ap, ◌∙◌, arith}
use Rattle.std.specs.Prelude.{slice_get}
use Rattle.mx_source.specs.Labels.{is_labelled}
use Rattle.mx_blocks.specs.Ends.{ends_as}
use Rattle.mx_blocks.specs.Leaders.{end_of}
use Rattle.mx_blocks.proofs.Splits.{range_length, gap_small, block_ends, block_goes_on, is_block, has_read}
use Rattle.std.specs.Option.{option_map}
use Rattle.std.specs.Prelude.{is_some}
use Rattle.mx_blocks.proofs.splitting.block_of.Goals as goal

pub insts_of-requires : goal.insts_of-requires
insts_of-requires c =
    let same = ap length c.statements-statements.ensures.value in
    let later = c.requires.later in
    let within = c.requires.within in
    let count = range_length c.statements-statements.result.now c.args.first c.args.end (omega arith) (omega arith) in
    let last = c.requires.gaps (c.args.end - 1) (omega arith) (omega arith) in
    let small = gap_small (is_labelled c.args.source.now.labels) c.args.source.now.statements (c.args.end - 1) in
    omega arith

pub invariant_of-result : goal.invariant_of-result
invariant_of-result c =
    let source = c.args.source.now in
    let insts = c.insts_of.result.items in
    let read = has_read source c.args.first c.args.end _ insts c.index-statements-end.result c.statements-statements.ensures.value c.requires.later
    c.requires.within c.insts_of.ensures c.index-statements-end.is in
    let kept = c.statements-statements.ensures.source in
    record {
      last = ap (λ e. ends_as e insts) c.end_of.ensures
          ∙ block_ends source c.args.first c.args.end insts _ kept c.requires.later c.requires.within read.insts_are read.last_is;
      body = block_goes_on source c.args.first c.args.end insts kept c.requires.later c.requires.within c.requires.gaps read.insts_are;
    }

pub returns-clause-block : goal.returns-clause-block
returns-clause-block c =
    let read = has_read c.args.source.now c.args.first c.args.end _ _ _ c.statements-statements.ensures.value c.requires.later c.requires.within
    c.insts_of.ensures c.index-statements-end.is in
    let end : option_map end_of (slice_get c.args.source.now.statements (c.args.end - 1)) ≡ Some c.end_of.result =
    ap (option_map end_of) read.last_is ∙ ap (λ e. Some e) (sym c.end_of.ensures) in
    is_block c.args.source.now _ c.args.end c.requires.leader c.requires.later c.requires.within c.requires.gaps c.requires.next read.insts_are end
    (c.is_some.ensures ∙ ap is_some c.input.ensures)
