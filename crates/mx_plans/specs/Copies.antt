-- Which copies a plan file chooses, and which of them a rule forbids.
use Rattle.std.specs.Prelude.{◌≡◌, ℕ, ◌-◌, List, [], ◌∷◌, ◌++◌, replicate, Option, Some, None, slice_get, slice_index_or}
use Rattle.mx_source.specs.SourceValue.{SourceValue}
use Rattle.mx_blocks.specs.declared.Block.{Block}
use Rattle.mx_blocks.specs.Leaders.{AreBlocks, size}
use Rattle.mx_squash.specs.declared.CopyRule.{CopyRule}
use Rattle.mx_squash.specs.Copies.{Site, site_of, is_target}
use Rattle.mx_squash.specs.Chosen.{copy_fault}
use Rattle.mx_layout.specs.Layout.{blocks_in}
use Rattle.mx_link.specs.Origins.{Filling, as_chosen, copies_chosen}
use Rattle.mx_plans.specs.Files.{LineSaid, unsaid}

-- for each statement what the lines choose for the block that begins there; there is no choice where none begins, and past the last line
abbrev pub choices_of : List Block → List LineSaid → List (Option ℕ)
choices_of (block ∷ blocks) (line ∷ lines) = line.copies ∷ replicate (size block - 1) None ++ choices_of blocks lines
choices_of _ _ = []

-- the copies that the lines choose for the blocks of a layout, where no rule forbids so many; without a choice as many as can be copied
abbrev pub as_planned : List LineSaid → Filling
as_planned lines sites s = as_chosen (choices_of (blocks_in sites) lines) sites s

-- The slots of block k of a source copy as many words as line k chooses, where no rule forbids so many. Without a choice, and past the last line,
-- they copy as many as can be copied.
abbrev pub PlannedByLines : Type 0
PlannedByLines =
    (source : SourceValue) (lines : List LineSaid) (sites : List Site) (k : ℕ) (s : Site) → AreBlocks source (blocks_in sites) → slice_get sites k ≡ Some s
    → as_planned lines sites s ≡ copies_chosen (slice_index_or lines k unsaid).copies s (site_of (is_target s.block.end) sites)

-- the first rule that forbids so many copies as are chosen; no rule forbids that nothing is chosen
abbrev pub choice_fault : Option ℕ → Site → Option Site → Option CopyRule
choice_fault None s goal = None
choice_fault (Some n) s goal = copy_fault n s goal

-- the same for a site of a layout, whose transfer goes to another
abbrev pub copy_verdict : List Site → Site → Option ℕ → Option CopyRule
copy_verdict all s choice = choice_fault choice s (site_of (is_target s.block.end) all)

-- for sites of a layout, one for each line, as far as both go
abbrev pub copy_verdicts : List Site → List Site → List LineSaid → List (Option CopyRule)
copy_verdicts all (s ∷ sites) (line ∷ lines) = copy_verdict all s line.copies ∷ copy_verdicts all sites lines
copy_verdicts all _ _ = []
