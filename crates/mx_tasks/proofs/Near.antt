-- Branches of few padded blocks reach their targets.
use Rattle.std.proofs.Common.{◌≡◌, ℕ, ◌+◌, ◌≤◌, Bool, true, false, cond, List, [], ◌∷◌, length, map, sum, Option, Some, None, refl, sym, ap, ◌∙◌, arith}
use Rattle.std.proofs.lemmas.Bool.{cond-true}
use Rattle.std.proofs.lemmas.Bool.Decides.{nat_tests}
use Rattle.std.proofs.lemmas.List.Sums.{sum_by-cons}
use Rattle.std.proofs.lemmas.Option.{none-some}
use Rattle.mx_source.specs.SourceValue.{SourceValue}
use Rattle.mx_blocks.specs.declared.block.Block.{Block}
use Rattle.mx_blocks.specs.declared.block.Plan.{Plan}
use Rattle.mx_validate.specs.Padded.{padded_place}
use Rattle.mx_squash.specs.Copies.{reaches}
use Rattle.mx_layout.specs.Layout.{has_statement, blocks_in}
use Rattle.mx_layout.specs.Overlong.{padded_size, padded_link, branch_target, overlong_to, or_else, overlong_from}
use Rattle.mx_layout.proofs.Sizes.{padded_whole, padded_sizes_short, covered}
use Rattle.mx_tasks.specs.Shared.{ShortSourcesReach}

abbrev words_of : List Block → ℕ
words_of blocks = sum (map padded_size blocks)

one_more : (b : Block) (blocks : List Block) → words_of (b ∷ blocks) ≡ padded_size b + words_of blocks
one_more b blocks = sum_by-cons (λ x. x) (padded_size b) (map padded_size blocks)

chosen : (c : Bool) (at n m l : ℕ) → at + n ≤ l → l ≤ at + n + m → (at ≤ cond c at l) × (cond c at l ≤ at + (n + m))
chosen true at n m l p q = (omega arith, omega arith)
chosen false at n m l p q = (omega arith, omega arith)

link_near : (at : ℕ) (blocks : List Block) (t : ℕ) → (at ≤ padded_link at blocks t) × (padded_link at blocks t ≤ at + words_of blocks)
link_near at [] t = (omega arith, omega arith)
link_near at (b ∷ blocks) t =
    let rest = link_near (at + padded_size b) blocks t in
    let here = chosen (has_statement t b) at (padded_size b) (words_of blocks) (padded_link (at + padded_size b) blocks t) rest.0 rest.1 in
    let more = one_more b blocks in
    (here.0, (let h = here.1 in omega (arith, h, more)))

module _ (source : SourceValue) (low high : ℕ) (few : high ≤ low + 32767) (link : ℕ → ℕ) (within : (t : ℕ) → (low ≤ link t) × (link t ≤ high)) where
  reached : (from t : ℕ) → low ≤ from → from ≤ high → reaches from (link t) ≡ true
  reached from t above below = join (link t) (let w = within t in omega arith) (let w = within t in omega arith)
    where
      join : (to : ℕ) → to ≤ from + 32767 → from ≤ to + 32768 → reaches from to ≡ true
      join to l m = grind (arith, nat_tests)

  none_to : (at : ℕ) (b : Block) (o : Option ℕ) → low ≤ at → at + padded_size b ≤ high → overlong_to source link at b o ≡ None
  none_to at b None above below = refl
  none_to at b (Some t) above below = cond-true _ _ _ (reached (at + padded_place b) t (omega arith) (let w = padded_whole b in omega arith))

  none_from : (at : ℕ) (blocks : List Block) → low ≤ at → at + words_of blocks ≤ high → overlong_from source link at blocks ≡ None
  none_from at [] above below = refl
  none_from at (b ∷ blocks) above below =
      let more = one_more b blocks in
      ap (λ o. or_else o (overlong_from source link (at + padded_size b) blocks)) (none_to at b (branch_target b.end) above (omega arith))
      ∙ none_from (at + padded_size b) blocks (omega arith) (omega arith)

pub short_sources_reach : (Proposes : Block → Plan → Type 0) → ShortSourcesReach Proposes
short_sources_reach Proposes source place found few h =
    let blocks = blocks_in h.sites in
    let short = padded_sizes_short blocks in
    let all = covered source 0 (length source.statements) blocks h.layout.blocks in
    none-some found
    (sym (none_from source place.code (place.code + words_of blocks) (omega arith)
    (padded_link place.code blocks) (link_near place.code blocks) place.code blocks (omega arith) (omega arith)) ∙ h.is)
