use Rattle.std.proofs.Common.{◌≡◌, ◌+◌, ◌*◌, ◌≤◌, ℕ, List, true, None, Some, length, map, slice_index, sym, ap, ◌∙◌, subst, All, arith}
use Rattle.std.proofs.lemmas.List.{length-map}
use Rattle.std.proofs.lemmas.Result.{err_from_is_err_and}
use Rattle.mx_blocks.specs.declared.block.Block.{Block}
use Rattle.mx_validate.specs.Validity.{Valid}
use Rattle.mx_squash.specs.Copies.{Site, sites, reaches}
use Rattle.mx_layout.specs.Layout.{IsLayout, plan_size, end_of, link_of}
use Rattle.mx_layout.specs.Kept.{AreKept}
use Rattle.mx_layout.specs.Overlong.{overlong, branch_target, IsReported}
use Rattle.mx_layout.specs.Addresses.{starts_from, statement_starts}
use Rattle.mx_layout.proofs.Sizes.{blocks_few}
use Rattle.mx_layout.proofs.Reach.{layout_reaches}
use Rattle.mx_layout.proofs.Whole.{taken_from, starts_at, starts_count, sites_at, kept, blocks_same, layout, short, links_count, links_same, refusal, sizes_room}
use Rattle.mx_layout.proofs.layout.lay_out.Goals as goal

pub choose_all-requires : goal.choose_all-requires
choose_all-requires g c =
    let source = c.args.source.now in
    let few = blocks_few source 0 (length source.statements) c.in_ok-blocks.blocks.items c.in_ok-blocks.ensures in
    let same = ap length c.as_slice.ensures.value in
    let room = c.requires in
    omega arith

pub returns-in_err-check_reach-clause-refused : goal.returns-in_err-check_reach-clause-refused
returns-in_err-check_reach-clause-refused g c =
    let source = c.args.source.now in
    let list = c.in_ok-blocks.blocks.items in
    let chosen = c.in_ok-proposals.field-0 in
    let told = c.in_ok-proposals.ensures in
    let taken = taken_from g.P.Proposer.proposes source list c.as_slice.result.now chosen c.as_slice.ensures.value c.in_ok-blocks.ensures told.plans
    told.kept in
    let error = c.in_err-check_reach.field-0.0 in
    let found : IsReported (overlong source c.args.place list) error =
    subst (λ (l : List Block). IsReported (overlong source c.args.place l) error) c.as_slice-2.ensures.value c.in_err-check_reach.ensures.refused in
    let p = err_from_is_err_and c.from_residual-in_err-check_reach.result c.from_residual-in_err-check_reach.ensures.1 in
    rw (p.1, p.2) (refusal g.P.Proposer.proposes source c.args.place list chosen.plans.items chosen.proposals.items chosen.rejected error taken found)

pub starts_of-requires : goal.starts_of-requires
starts_of-requires g c =
    let taken = taken_from g.P.Proposer.proposes c.args.source.now c.in_ok-blocks.blocks.items c.as_slice.result.now c.in_ok-proposals.field-0
    c.as_slice.ensures.value c.in_ok-blocks.ensures c.in_ok-proposals.ensures.plans c.in_ok-proposals.ensures.kept in
    let room = sizes_room taken c.args.place.code c.as_slice-3.ensures.value c.in_ok-sizes.ensures c.as_slice-4.ensures.value in
    omega (arith, c.requires)

pub links_of-requires-clause-room : goal.links_of-requires-clause-room
links_of-requires-clause-room g c =
    let taken = taken_from g.P.Proposer.proposes c.args.source.now c.in_ok-blocks.blocks.items c.as_slice.result.now c.in_ok-proposals.field-0
    c.as_slice.ensures.value c.in_ok-blocks.ensures c.in_ok-proposals.ensures.plans c.in_ok-proposals.ensures.kept in
    let room = sizes_room taken c.args.place.code c.as_slice-3.ensures.value c.in_ok-sizes.ensures c.as_slice-6.ensures.value in
    omega (arith, c.requires)

pub returns : goal.returns
returns g c =
    let source = c.args.source.now in
    let place = c.args.place in
    let list = c.in_ok-blocks.blocks.items in
    let chosen = c.in_ok-proposals.field-0 in
    let told = c.in_ok-proposals.ensures in
    let taken = taken_from g.P.Proposer.proposes source list c.as_slice.result.now chosen c.as_slice.ensures.value c.in_ok-blocks.ensures told.plans
    told.kept in
    let sizes : c.in_ok-sizes.sizes.items ≡ map plan_size chosen.plans.items = c.in_ok-sizes.ensures ∙ ap (map plan_size) c.as_slice-3.ensures.value in
    let plan_list = chosen.plans.items in
    let starts : c.in_ok-starts.starts.items ≡ starts_at place.code plan_list =
    c.in_ok-starts.ensures ∙ ap (starts_from place.code) (c.as_slice-4.ensures.value ∙ sizes) in
    let links : c.in_ok-links.links.items ≡ statement_starts place.code list (map plan_size plan_list) =
    c.in_ok-links.ensures
    ∙ ap (λ (l : List Block). statement_starts place.code l c.as_slice-6.result.now) c.as_slice-5.ensures.value
    ∙ ap (statement_starts place.code list) (c.as_slice-6.ensures.value ∙ sizes) in
    let fits : overlong source place list ≡ None = ap (overlong source place) (sym c.as_slice-2.ensures.value) ∙ c.in_ok-check_reach.ensures.reached in
    let count = taken.count in
    let whole = layout g.P.Proposer.proposes source place list plan_list chosen.proposals.items chosen.rejected taken in
    record {
      plans = count;
      starts = ap length starts ∙ starts_count place.code list plan_list count;
      layout = subst (λ (l : List ℕ). IsLayout Valid source place (sites list plan_list l)) (sym starts) whole;
      kept =
          subst (λ (l : List ℕ). AreKept g.P.Proposer.proposes chosen.rejected (sites list plan_list l) chosen.proposals.items) (sym starts)
          (kept g.P.Proposer.proposes source list plan_list chosen.proposals.items chosen.rejected place.code taken);
      links_count = ap length links ∙ links_count source list (map plan_size plan_list) place.code c.in_ok-blocks.ensures
          (length-map plan_list plan_size ∙ count);
      links = λ i l. ap (λ (x : List ℕ). slice_index x i) links
          ∙ links_same source list plan_list place.code i c.in_ok-blocks.ensures count l
          ∙ ap (λ (x : List ℕ). link_of place.code (sites list plan_list x) i) (sym starts);
      short =
          subst (λ (l : List ℕ). end_of place.code (sites list plan_list l) ≤ place.code + 3 * length source.statements) (sym starts)
          (short g.P.Proposer.proposes source list plan_list chosen.proposals.items chosen.rejected place.code taken);
      fits = fits;
      reach =
          subst
          (λ (l : List ℕ). All (λ (s : Site). (target : ℕ) → branch_target s.block.end ≡ Some target
          → reaches (s.start + s.plan.place) (link_of place.code (sites list plan_list l) target) ≡ true) (sites list plan_list l))
          (sym starts)
          (layout_reaches source place (sites_at place.code list plan_list) whole.stand whole.plans
          (ap (overlong source place) (blocks_same place.code list plan_list count) ∙ fits));
      refused = tt;
    }
