use Rattle.std.proofs.Common.{◌≡◌, ◌<◌, ℕ, Option, length, slice_index, slice_index_or, sym, ap, ◌∙◌, subst, arith}
use Rattle.std.proofs.lemmas.List.{get_or-map, length-map}
use Rattle.std.proofs.lemmas.List.Sums.{sum_by_more}
use Rattle.std.proofs.lemmas.Result.{err_from_is_err_and}
use Rattle.mx_layout.specs.Overlong.{Overlong, padded_link, padded_size, overlong_to, overlong_from, branch_target, IsReported}
use Rattle.mx_layout.proofs.Sited.{block_read}
use Rattle.mx_layout.proofs.Reach.{overlong_to-same, reached_more, reported_more}
use Rattle.mx_layout.proofs.reaching.check_branches.Goals as goal

pub check_branch-requires-clause-block : goal.check_branch-requires-clause-block
check_branch-requires-clause-block c =
    let within : c.loop-k.k < length c.args.blocks.now = omega arith in
    block_read c.args.source.now c.args.blocks.now c.loop-k.k _ c.requires.blocks within c.index-blocks-k.is

pub returns-in_err-check_branch-clause-refused : goal.returns-in_err-check_branch-clause-refused
returns-in_err-check_branch-clause-refused c =
    let source = c.args.source.now in
    let blocks = c.args.blocks.now in
    let link : ℕ → ℕ = padded_link c.args.first blocks in
    let b = c.index-blocks-k.result in
    let error = c.in_err-check_branch.field-0.0 in
    let within : c.loop-k.k < length blocks = omega arith in
    let told = c.in_err-check_branch.ensures in
    let block = block_read source blocks c.loop-k.k b c.requires.blocks within c.index-blocks-k.is in
    let same = overlong_to-same source (slice_index c.args.links.now) link c.loop-k.at b told.source block c.requires.links in
    let here : IsReported (overlong_to source link c.loop-k.at b (branch_target b.end)) error =
    subst (λ (o : Option Overlong). IsReported o error) same told.refused in
    let all : IsReported (overlong_from source link c.args.first blocks) error =
    subst (λ (o : Option Overlong). IsReported o error) c.loop-k.invariant.rest
    (reported_more source link c.loop-k.at blocks c.loop-k.k b error within c.index-blocks-k.is here) in
    let p = err_from_is_err_and c.from_residual.result c.from_residual.ensures.1 in
    rw (p.1, p.2) all

pub loop-k-preserved : goal.loop-k-preserved
loop-k-preserved c =
    let source = c.args.source.now in
    let blocks = c.args.blocks.now in
    let sizes = c.args.sizes.now in
    let k = c.loop-k.k in
    let link : ℕ → ℕ = padded_link c.args.first blocks in
    let b = c.index-blocks-k.result in
    let within : k < length blocks = omega arith in
    let told = c.in_ok-check_branch.ensures in
    let block = block_read source blocks k b c.requires.blocks within c.index-blocks-k.is in
    let same = overlong_to-same source (slice_index c.args.links.now) link c.loop-k.at b told.source block c.requires.links in
    let count : length sizes ≡ length blocks = ap length c.requires.sizes ∙ length-map blocks padded_size in
    let size : slice_index_or sizes k 0 ≡ padded_size b =
    ap (λ l. slice_index_or l k 0) c.requires.sizes ∙ get_or-map padded_size blocks k b 0 within ∙ ap padded_size (sym c.index-blocks-k.is) in
    let more = sum_by_more (λ x. x) sizes k 0 (omega arith) in
    let at = c.loop-k.invariant.at in
    record {
      at = omega arith;
      rest = reached_more source link c.loop-k.at blocks k _ b within c.index-blocks-k.is size (sym same ∙ told.reached) ∙ c.loop-k.invariant.rest;
    }
