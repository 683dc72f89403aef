use Rattle.std.proofs.Common.{ℕ, List, length, map, sum, slice_index, ap, ◌∙◌, arith}
use Rattle.std.proofs.lemmas.List.{length-map}
use Rattle.mx_layout.specs.Overlong.{padded_size}
use Rattle.mx_layout.specs.Addresses.{statement_starts}
use Rattle.mx_layout.proofs.Whole.{padded_room, links_count, padded_same}
use Rattle.mx_layout.proofs.reaching.check_reach.Goals as goal

pub links_of-requires-clause-room : goal.links_of-requires-clause-room
links_of-requires-clause-room c =
    let room = padded_room c.args.source.now c.args.blocks.now c.requires.blocks in
    let same = ap sum (c.as_slice.ensures.value ∙ c.in_ok-sizes.ensures) in
    let fits = c.requires.room in
    omega arith

pub check_branches-requires-clause-room : goal.check_branches-requires-clause-room
check_branches-requires-clause-room c =
    let room = padded_room c.args.source.now c.args.blocks.now c.requires.blocks in
    let same = ap sum (c.as_slice-2.ensures.value ∙ c.in_ok-sizes.ensures) in
    let fits = c.requires.room in
    omega arith

pub check_branches-requires-clause-count : goal.check_branches-requires-clause-count
check_branches-requires-clause-count c =
    let source = c.args.source.now in
    let blocks = c.args.blocks.now in
    let sizes = c.as_slice.ensures.value ∙ c.in_ok-sizes.ensures in
    let links = c.as_slice-3.ensures.value ∙ c.in_ok-links.ensures ∙ ap (statement_starts c.args.first blocks) sizes in
    let count = links_count source blocks (map padded_size blocks) c.args.first c.requires.blocks (length-map blocks padded_size) in
    let same = ap length links in
    omega arith

pub check_branches-requires-clause-links : goal.check_branches-requires-clause-links
check_branches-requires-clause-links c i l =
    let source = c.args.source.now in
    let blocks = c.args.blocks.now in
    let sizes = c.as_slice.ensures.value ∙ c.in_ok-sizes.ensures in
    let links = c.as_slice-3.ensures.value ∙ c.in_ok-links.ensures ∙ ap (statement_starts c.args.first blocks) sizes in
    ap (λ (x : List ℕ). slice_index x i) links ∙ padded_same source blocks c.args.first i c.requires.blocks l
