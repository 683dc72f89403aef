-- What a line of a plan file says.
use Rattle.std.specs.Prelude.{◌≡◌, ℕ, ◌+◌, ◌-◌, ◌*◌, Bool, true, false, cond, ltb, leb, ◌==◌, ◌&&◌, List, [], ◌∷◌, length, map, Option, Some, None}
use Rattle.std.specs.Char.{is_ascii_digit}
use Rattle.std.specs.List.{position}
use Rattle.std.specs.Option.{unwrap_or}
use Rattle.mx_blocks.specs.declared.Block.{Block}
use Rattle.mx_blocks.specs.declared.Plan.{Plan}
use Rattle.mx_blocks.specs.declared.Item.{Item}
use Rattle.mx_blocks.specs.declared.Item.TheVariants.{Op, Nop}
use Rattle.mx_validate.specs.Padded.{insts_of, items_of}
use Rattle.mx_plans.specs.declared.mark.Mark.{Mark}
use Rattle.mx_plans.specs.declared.mark.Mark.TheVariants.{Number, NoOp, Terminator}

-- a number below 64
abbrev pub number_mark : ℕ → Option Mark
number_mark n = cond (ltb n 64) (Some (Number n)) None

-- the number that one or two digits write, where it is at most 63
abbrev pub number_of : List ℕ → Option Mark
number_of (ones ∷ []) = cond (is_ascii_digit ones) (number_mark (ones - 48)) None
number_of (tens ∷ ones ∷ []) = cond (is_ascii_digit tens && is_ascii_digit ones) (number_mark ((tens - 48) * 10 + (ones - 48))) None
number_of _ = None

abbrev pub is_word : ℕ → List ℕ → Bool
is_word c (x ∷ []) = x == c
is_word c _ = false

-- what a word says: `-` a no-op, `/` the terminator, a number the instruction of that number
abbrev pub mark_of : List ℕ → Option Mark
mark_of word = cond (is_word 45 word) (Some NoOp) (cond (is_word 47 word) (Some Terminator) (number_of word))

-- how many words of the target the slots copy, as `+0`, `+1` or `+2` chooses
abbrev pub copies_word : List ℕ → Option ℕ
copies_word (plus ∷ digit ∷ []) = cond (plus == 43 && (leb 48 digit && leb digit 50)) (Some (digit - 48)) None
copies_word _ = None

-- the item that stands for it in a plan of the block
abbrev pub item_said : Block → Mark → Item
item_said block (Number k) = Op k
item_said block NoOp = Nop
item_said block Terminator = Op (length (insts_of block) - 1)

abbrev pub is_terminator : Mark → Bool
is_terminator Terminator = true
is_terminator _ = false

-- where the terminator stands; where no word says it, the number of words
abbrev pub place_said : List Mark → ℕ
place_said marks = unwrap_or (position is_terminator marks) (length marks)

-- the plan that the words of a line say for the block
pub record IsSaid (block : Block) (marks : List Mark) (plan : Plan) : Type 0 where
  pub items : items_of plan ≡ map (item_said block) marks
  pub place : plan.place ≡ place_said marks
