-- Where the blocks of a source stand: each as its plan, one directly behind the other.
use Rattle.std.specs.Prelude.{◌≡◌, ℕ, ◌+◌, Bool, cond, leb, ltb, ◌&&◌, List, [], ◌∷◌, length, map, All}
use Rattle.mx_isa.specs.declared.Place.{Place}
use Rattle.mx_source.specs.SourceValue.{SourceValue}
use Rattle.mx_blocks.specs.declared.Block.{Block}
use Rattle.mx_blocks.specs.declared.Plan.{Plan}
use Rattle.mx_blocks.specs.Leaders.{AreBlocks, size}
use Rattle.mx_validate.specs.Padded.{items_of}
use Rattle.mx_squash.specs.Copies.{Site}

-- the number of words of a plan
abbrev pub plan_size : Plan → ℕ
plan_size plan = length (items_of plan)

-- the first site begins at this address, and each other where the one before it ended
abbrev pub StandFrom : ℕ → List Site → Type 0
StandFrom at [] = Unit {0}
StandFrom at (s ∷ sites) = (s.start ≡ at) × StandFrom (at + plan_size s.plan) sites

-- the address after the last word of sites that stand from an address on
abbrev pub end_of : ℕ → List Site → ℕ
end_of at [] = at
end_of at (s ∷ sites) = end_of (at + plan_size s.plan) sites

abbrev pub blocks_in : List Site → List Block
blocks_in sites = map (λ s. s.block) sites

-- the blocks of a source, in order from the beginning of the code on, each with a plan that may be taken for it
pub record IsLayout (Takes : Block → Plan → Type 0) (source : SourceValue) (place : Place) (sites : List Site) : Type 0 where
  pub blocks : AreBlocks source (blocks_in sites)
  pub stand : StandFrom place.code sites
  pub plans : All (λ (s : Site). Takes s.block s.plan) sites

-- statement i is one of the block's
abbrev pub has_statement : ℕ → Block → Bool
has_statement i block = leb block.first i && ltb i (block.first + size block)

-- the link map of sites from an address on: for a statement the address at which its block begins, for any other index the address after the last word
abbrev pub link_of : ℕ → List Site → ℕ → ℕ
link_of at [] i = at
link_of at (s ∷ sites) i = cond (has_statement i s.block) at (link_of (at + plan_size s.plan) sites i)
