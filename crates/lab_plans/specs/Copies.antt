-- What is told of chosen copies that a rule forbids: a line each.
use Rattle.std.specs.Prelude.{ℕ, suc, List, [], ◌∷◌, ◌++◌, codes, slice_index, Option, Some, None}
use Rattle.mx_blocks.specs.declared.Block.{Block}
use Rattle.mx_squash.specs.declared.CopyRule.{CopyRule}
use Rattle.mx_squash.specs.declared.CopyRule.TheVariants.{Target, Room, Front, Reach, Load}
use Rattle.lab_plans.specs.Rejections.{rejected_line}

-- the name of a rule, and what it asks for
abbrev pub copy_rule_text : CopyRule → List ℕ
copy_rule_text Target = codes "Target: the block ends with a transfer to the label of a block"
copy_rule_text Room = codes "Room: so many slots hold no-ops, and both where a conditional branch copies"
copy_rule_text Front = codes "Front: the target's plan begins with so many instructions before a no-op or /"
copy_rule_text Reach = codes "Reach: the branch reaches the word after the copied ones"
copy_rule_text Load = codes "Load: the copied word does not read the register of a load in slot 1"

-- the line of copies that are rejected
abbrev pub copy_rejection : ℕ → ℕ → CopyRule → List ℕ
copy_rejection number at rule = codes "copies of " ++ rejected_line number at (copy_rule_text rule)

abbrev pub copy_line : ℕ → ℕ → Option CopyRule → List ℕ
copy_line number at None = []
copy_line number at (Some rule) = copy_rejection number at rule

-- the lines of the copies that a rule forbids for these blocks, the first of which is of this number; statement i of the source stands on
-- the line of index i
abbrev pub copy_lines : List ℕ → ℕ → List Block → List (Option CopyRule) → List ℕ
copy_lines lines number (block ∷ blocks) (verdict ∷ verdicts) =
    copy_line number (slice_index lines block.first) verdict ++ copy_lines lines (suc number) blocks verdicts
copy_lines lines number _ _ = []
