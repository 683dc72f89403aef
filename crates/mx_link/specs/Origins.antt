-- Which statement each word of linked code comes from.
use Rattle.std.specs.Prelude.{ℕ, suc, ◌+◌, Bool, true, false, cond, eqb, List, [], ◌∷◌, length, Option, Some, None, slice_index_or}
use Rattle.std.specs.List.{filter, flat_map}
use Rattle.mx_blocks.specs.declared.Item.{Item}
use Rattle.mx_blocks.specs.declared.Item.TheVariants.{Op, Nop}
use Rattle.mx_blocks.specs.declared.End.{End}
use Rattle.mx_blocks.specs.declared.End.TheVariants.{Branches, Calls}
use Rattle.mx_validate.specs.Padded.{items_of}
use Rattle.mx_squash.specs.declared.Copied.{Copied}
use Rattle.mx_squash.specs.Copies.{Site, site_of, is_target, copied, no_copies}
use Rattle.mx_squash.specs.Chosen.{copies_wanted}
use Rattle.mx_link.specs.declared.linked.Origin.{Origin}
use Rattle.mx_link.specs.declared.linked.Origin.TheVariants.{Own, Copy, Pad}

-- what is copied into the slots of each block of a layout
abbrev pub Filling : Type 0
Filling = List Site → Site → Copied

-- the first words of the target
abbrev pub from_target : Filling
from_target sites s = copied s (site_of (is_target s.block.end) sites)

-- nothing
abbrev pub from_nowhere : Filling
from_nowhere sites s = no_copies

-- so many of its first words as are wanted for the block that begins at each statement, where no rule forbids so many; none past the end of the list
abbrev pub as_wanted : List ℕ → Filling
as_wanted counts sites s = copies_wanted (slice_index_or counts s.block.first 0) s (site_of (is_target s.block.end) sites)

-- as many words as were chosen, where no rule forbids so many; without a choice as many as can be copied
abbrev pub copies_chosen : Option ℕ → Site → Option Site → Copied
copies_chosen None s goal = copied s goal
copies_chosen (Some n) s goal = copies_wanted n s goal

-- as is chosen for the block that begins at each statement; past the end of the list there is no choice
abbrev pub as_chosen : List (Option ℕ) → Filling
as_chosen choices sites s = copies_chosen (slice_index_or choices s.block.first None) s (site_of (is_target s.block.end) sites)

-- the statement to which a block goes by its label
abbrev pub goal_of : End → ℕ
goal_of (Branches target) = target
goal_of (Calls target) = target
goal_of _ = 0

-- an item of the block that begins at a statement
abbrev pub own : ℕ → Item → Origin
own first (Op k) = Own (first + k)
own first Nop = Pad

-- an item that is copied from the block that begins at a statement, over what its slot holds
abbrev pub over : ℕ → Item → Origin → Origin
over goal (Op k) kept = Copy (goal + k)
over goal Nop kept = kept

-- what is copied to place p, where the terminator stands at another: its slots are the two places behind it
abbrev pub copied_to : Copied → ℕ → ℕ → Item
copied_to c place p =
    cond (eqb p (place + 1)) (slice_index_or c.from 0 Nop) (cond (eqb p (place + 2)) (slice_index_or c.from 1 Nop) Nop)

-- items of a site's plan from place p on, with copies
abbrev pub origins_from : Site → Copied → ℕ → List Item → List Origin
origins_from s c p [] = []
origins_from s c p (item ∷ items) =
    over (goal_of s.block.end) (copied_to c s.plan.place p) (own s.block.first item) ∷ origins_from s c (suc p) items

abbrev pub origins_at : Site → Copied → List Origin
origins_at s c = origins_from s c 0 (items_of s.plan)

-- of the words of a layout, in order
abbrev pub origins_of : Filling → List Site → List Origin
origins_of filling sites = flat_map (λ s. origins_at s (filling sites s)) sites

abbrev pub is_copy : Origin → Bool
is_copy (Copy statement) = true
is_copy _ = false

abbrev pub copies_in : List Origin → ℕ
copies_in origins = length (filter is_copy origins)
