-- What `best` promises of a source without faults.
use Rattle.std.specs.Prelude.{◌≡◌, ◌++◌, ℕ, ◌≤◌, ◌<◌, List, length, codes, slice_index, map, All, Option, Some, None}
use Rattle.std.specs.Option.{unwrap_or}
use Rattle.std.specs.List.{flat_map, sum_by}
use Rattle.mx_isa.specs.declared.board.TheConstants.{DATA_BASE, DATA_END}
use Rattle.mx_source.specs.SourceValue.{SourceValue}
use Rattle.mx_blocks.specs.declared.Block.{Block}
use Rattle.mx_blocks.specs.declared.Plan.{Plan}
use Rattle.mx_blocks.specs.Leaders.{AreBlocks, size}
use Rattle.mx_validate.specs.Padded.{IsPadded, items_of}
use Rattle.mx_reorg.specs.Greedy.{IsGreedy}
use Rattle.mx_best.specs.Shortest.{IsShortest, most_searched}
use Rattle.mx_text.specs.Text.{line, count_line}
use Rattle.cmd_best.specs.Lengths.{part, searched_text}
use Rattle.cmd_answer.specs.declared.FileKind.TheVariants.{Source}
use Rattle.cmd_answer.specs.declared.Status.{Status}
use Rattle.cmd_answer.specs.declared.Status.TheVariants.{Done}
use Rattle.mx_asm.specs.Texts.{source_of, text_fault}
use Rattle.cmd_table.specs.Commands.{Command, Best}
use Rattle.mx_command.specs.Accepted.{Held, Holds}

-- a block, and how many items its padded, its greedy and a shortest plan have
pub record Measured : Type 0 where
  pub block : Block
  pub padded : ℕ
  pub greedy : ℕ
  pub shortest : Option ℕ

-- of a block of at most 8 instructions, a valid plan has the last number of items, and no valid plan has fewer; of any other it is not told
pub record IsMeasured (m : Measured) : Type 0 where
  pub padded : (plan : Plan) → IsPadded m.block plan → m.padded ≡ length (items_of plan)
  pub greedy : (plan : Plan) × IsGreedy m.block plan × (m.greedy ≡ length (items_of plan))
  pub shortest : size m.block ≤ most_searched → (plan : Plan) × IsShortest m.block plan × (m.shortest ≡ Some (length (items_of plan)))
  pub not_told : most_searched < size m.block → m.shortest ≡ None

-- `line N size S padded P list L best B`, where the first statement of the block stands on line N
abbrev pub measured_line : List ℕ → Measured → List ℕ
measured_line lines m =
    line (((((part (codes "line ") (slice_index lines m.block.first) ++ part (codes " size ") (size m.block))
    ++ part (codes " padded ") m.padded) ++ part (codes " list ") m.greedy)
    ++ codes " best ") ++ searched_text m.shortest)

-- a line for each block, and the sums, in which a block whose last number is not told counts by its greedy plan
abbrev pub measured_text : List ℕ → List Measured → List ℕ
measured_text lines rows =
    flat_map (measured_line lines) rows
    ++ ((count_line (codes "padded") (sum_by (λ m. m.padded) rows) ++ count_line (codes "list") (sum_by (λ m. m.greedy) rows))
    ++ count_line (codes "best") (sum_by (λ m. unwrap_or m.shortest m.greedy) rows))

-- `best` is asked for, of a text without faults
pub record AcceptedBest (asked : Option Command) (held : Held) : Type 0 where
  pub name : List ℕ
  pub asks : asked ≡ Some (Best name)
  pub text : List ℕ
  pub is_text : Holds held Source name text
  pub faultless : text_fault DATA_BASE DATA_END text ≡ None

module _ (asked : Option Command) (held : Held) (a : AcceptedBest asked held) where
  abbrev pub best_source : SourceValue
  best_source = source_of DATA_BASE a.text

  -- the blocks of the source are measured, in order, and exactly what was measured is put out
  pub record BestHeadline (result : Status) (before after : List ℕ) : Type 0 where
    pub status : result ≡ Done
    pub rows : List Measured
    pub are_blocks : AreBlocks best_source (map (λ m. m.block) rows)
    pub are_measured : All IsMeasured rows
    pub output : after ≡ before ++ measured_text best_source.lines rows
