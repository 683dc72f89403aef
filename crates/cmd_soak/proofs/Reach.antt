-- Near branches reach their targets where each block has its padded plan.
use Rattle.std.proofs.Common.{◌≡◌, ℕ, ◌+◌, ◌-◌, ◌*◌, ◌<◌, ◌≤◌, true, false, ◌&&◌, List, [], ◌∷◌, length, Option, Some, None, refl, sym, ap, ◌∙◌, subst, ⊎_elim, arith}
use Rattle.std.specs.Prelude.{leb, ltb, slice_get}
use Rattle.std.specs.Option.{option_map}
use Rattle.std.proofs.lemmas.Bool.{cases_lt, cases_Bool, cond-true, cond-false, false≢true}
use Rattle.std.proofs.lemmas.Bool.Decides.{nat_tests}
use Rattle.mx_isa.specs.declared.Place.{Place}
use Rattle.mx_source.specs.declared.Statement.{Statement}
use Rattle.mx_source.specs.declared.Statement.TheVariants.{Plain, LaCode, Branch, Call, CallReg, JumpReg, Halt}
use Rattle.mx_source.specs.SourceValue.{SourceValue}
use Rattle.mx_gen.specs.Near.{IsNear, AllNear}
use Rattle.mx_blocks.specs.declared.Block.{Block}
use Rattle.mx_blocks.specs.declared.End.{End}
use Rattle.mx_blocks.specs.declared.End.TheVariants.{Falls, Halts, Branches, Calls, Jumps}
use Rattle.mx_blocks.specs.declared.Plan.{Plan}
use Rattle.mx_blocks.proofs.LeadersBegin.{block_small}
use Rattle.mx_blocks.specs.Leaders.{end_of, size, IsBlockOf, BlocksFrom, AreBlocks}
use Rattle.mx_validate.specs.Padded.{padded_place}
use Rattle.mx_squash.specs.Copies.{Site, reaches}
use Rattle.mx_layout.specs.declared.error.LinkError.{LinkError}
use Rattle.mx_layout.specs.declared.error.LinkError.TheVariants.{Displacement}
use Rattle.mx_layout.specs.Layout.{has_statement, blocks_in}
use Rattle.mx_layout.proofs.Sizes.{padded_whole, padded_size_short}
use Rattle.mx_layout.specs.Overlong.{Overlong, IsOverlong, IsRefusal, padded_size, padded_link, branch_target, overlong_to, overlong_from, overlong, or_else}

-- where a padded plan's terminator stands
place_short : (block : Block) → padded_place block ≤ 3 * size block
place_short block =
    let whole = padded_whole block in
    let short = padded_size_short block in
    omega arith

-- Where statements stand.

inside : (i from n : ℕ) → from ≤ i → i < from + n → (leb from i && ltb i (from + n)) ≡ true
inside i from n l m = grind (arith, nat_tests)

outside : (i from n : ℕ) → from + n ≤ i → (leb from i && ltb i (from + n)) ≡ false
outside i from n l = grind (arith, nat_tests)

after_false : (i from n : ℕ) → (leb from i && ltb i (from + n)) ≡ false → from ≤ i → from + n ≤ i
after_false i from n e l = ⊎_elim
    (λ less. absurd (false≢true (sym e ∙ inside i from n l less)))
    (λ more. more)
    (cases_lt i (from + n))

link_low : (at : ℕ) (blocks : List Block) (i : ℕ) → at ≤ padded_link at blocks i
link_low at [] i = omega arith
link_low at (block ∷ blocks) i = ⊎_elim
    (λ t. (let e = cond-true (has_statement i block) at (padded_link (at + padded_size block) blocks i) t in omega arith))
    (λ f. (let e = cond-false (has_statement i block) at (padded_link (at + padded_size block) blocks i) f in let more =
    link_low (at + padded_size block) blocks i in omega arith))
    (cases_Bool (has_statement i block))

link_high : (source : SourceValue) (first j at : ℕ) (blocks : List Block) (i : ℕ) → BlocksFrom source first j blocks → first ≤ i
    → padded_link at blocks i + 3 * first ≤ at + 3 * i
link_high source first j at [] i b l = omega arith
link_high source first j at (block ∷ blocks) i b l = ⊎_elim
    (λ t. (let e = cond-true (has_statement i block) at (padded_link (at + padded_size block) blocks i) t in omega arith))
    (λ f.
    let e = cond-false (has_statement i block) at (padded_link (at + padded_size block) blocks i) f in
    let begins = b.0 in
    let behind = after_false i block.first (size block) f (omega arith) in
    let others = link_high source (first + size block) j (at + padded_size block) blocks i b.2 (omega arith) in
    let short = padded_size_short block in
    omega arith)
    (cases_Bool (has_statement i block))

-- Branches.

near_at : (i target : ℕ) (o : Option Statement) → option_map end_of o ≡ Some (Branches target) → ((s : Statement) → o ≡ Some s → IsNear i s)
    → (target ≤ i + 2) × (i ≤ target + 2)
near_at i target None e near = absurd (cc)
near_at i target (Some (Plain inst)) e near = absurd (cc)
near_at i target (Some (LaCode dest t)) e near = absurd (cc)
near_at i target (Some (Branch a b condition t)) e near =
    let same : t ≡ target = cc in
    subst (λ (n : ℕ). (n ≤ i + 2) × (i ≤ n + 2)) same (near (Branch a b condition t) refl)
near_at i target (Some (Call dest t)) e near = absurd (cc)
near_at i target (Some (CallReg a dest)) e near = absurd (cc)
near_at i target (Some (JumpReg a)) e near = absurd (cc)
near_at i target (Some Halt) e near = absurd (cc)

reach_near : (from to : ℕ) → to ≤ from + 32767 → from ≤ to + 32768 → reaches from to ≡ true
reach_near from to l m = grind (arith, nat_tests)

module _ (source : SourceValue) (near : AllNear source.statements) (link : ℕ → ℕ) where
  -- the map at blocks that begin with statement first at an address: the addresses of these and of all before
  record Stands (first at : ℕ) (blocks : List Block) : Type 0 where
    ahead : (t : ℕ) → first ≤ t → link t ≡ padded_link at blocks t
    low : (t : ℕ) → t < first → link t ≤ at
    high : (t : ℕ) → t < first → at + 3 * t ≤ link t + 3 * first + 189

  next_stands : (first at : ℕ) (block : Block) (blocks : List Block) → block.first ≡ first → IsBlockOf source block → Stands first at (block ∷ blocks)
      → Stands (first + size block) (at + padded_size block) blocks
  next_stands first at block blocks begins is s = record {
    ahead = λ t l. s.ahead t (omega arith)
        ∙ cond-false (has_statement t block) at (padded_link (at + padded_size block) blocks t) (outside t block.first (size block) (omega arith));
    low = λ t l. ⊎_elim
        (λ before. (let h = s.low t before in omega arith))
        (λ here. (let e = at_block t here l in omega arith))
        (cases_lt t first);
    high = λ t l. (let short = padded_size_short block in ⊎_elim
        (λ before. (let h = s.high t before in omega arith))
        (λ here. (let e = at_block t here l in let small = block_small source block is in omega arith))
        (cases_lt t first));
  }
    where
      at_block : (t : ℕ) → first ≤ t → t < first + size block → link t ≡ at
      at_block t l m = s.ahead t l
          ∙ cond-true (has_statement t block) at (padded_link (at + padded_size block) blocks t) (inside t block.first (size block) (omega arith) (omega arith))

  branch_reaches : (first j at : ℕ) (block : Block) (blocks : List Block) → BlocksFrom source first j (block ∷ blocks) → Stands first at (block ∷ blocks)
      → (target : ℕ) → block.end ≡ Branches target → reaches (at + padded_place block) (link target) ≡ true
  branch_reaches first j at block blocks b s target e =
      let is = b.1 in
      let some = is.some in
      let begins = b.0 in
      let i = block.first + size block - 1 in
      let close = near_at i target (slice_get source.statements i) (is.end ∙ ap Some e) (λ st there. near i st there) in
      let forth : target ≤ i + 2 = close.0 in
      let back : i ≤ target + 2 = close.1 in
      let small = block_small source block is in
      let place = place_short block in
      ⊎_elim
      (λ before.
      let low = s.low target before in
      let high = s.high target before in
      reach_near (at + padded_place block) (link target) (omega arith) (omega arith))
      (λ here.
      let there = s.ahead target here in
      let low = link_low at (block ∷ blocks) target in
      let high = link_high source first j at (block ∷ blocks) target b here in
      reach_near (at + padded_place block) (link target) (omega arith) (omega arith))
      (cases_lt target first)

  ends_reached : (at : ℕ) (block : Block) (end : End) → ((target : ℕ) → end ≡ Branches target → reaches (at + padded_place block) (link target) ≡ true)
      → overlong_to source link at block (branch_target end) ≡ None
  ends_reached at block Falls h = refl
  ends_reached at block Halts h = refl
  ends_reached at block (Branches target) h = cond-true (reaches (at + padded_place block) (link target)) None _ (h target refl)
  ends_reached at block (Calls target) h = refl
  ends_reached at block Jumps h = refl

  all_reach : (first j at : ℕ) (blocks : List Block) → BlocksFrom source first j blocks → Stands first at blocks → overlong_from source link at blocks ≡ None
  all_reach first j at [] b s = refl
  all_reach first j at (block ∷ blocks) b s =
      ap (λ o. or_else o (overlong_from source link (at + padded_size block) blocks))
      (ends_reached at block block.end (branch_reaches first j at block blocks b s))
      ∙ all_reach (first + size block) j (at + padded_size block) blocks b.2 (next_stands first at block blocks b.0 b.1 s)

-- a source of near branches has no overlong branch
pub near_fits : (source : SourceValue) (place : Place) (blocks : List Block) → AllNear source.statements → AreBlocks source blocks
    → overlong source place blocks ≡ None
near_fits source place blocks near are =
    all_reach source near (padded_link place.code blocks) 0 (length source.statements) place.code blocks are
    (record { ahead = λ t l. refl; low = λ t l. absurd (omega arith); high = λ t l. absurd (omega arith) })

-- a source of near branches is not refused for a displacement
pub never_refused : (Proposes : Block → Plan → Type 0) (source : SourceValue) (place : Place) (e : LinkError) (line from to : ℕ) → AllNear source.statements
    → e ≡ Displacement line from to → IsRefusal Proposes source place e → ⊥
never_refused Proposes source place e line from to near is refused =
    let found : Overlong = record { line = line; from = from; to = to } in
    let t : IsOverlong Proposes source place found = subst (λ (x : LinkError). IsRefusal Proposes source place x) is refused in
    let sites : List Site = t.sites in
    let none : None ≡ Some found = sym (near_fits source place (blocks_in sites) near t.layout.blocks) ∙ t.is in
    cc
