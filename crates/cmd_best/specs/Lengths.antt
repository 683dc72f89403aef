-- How many items the padded, the greedy and the shortest plan of a block have, and what is printed of the blocks of a source.
use Rattle.std.specs.Prelude.{◌≡◌, ℕ, cond, leb, List, length, codes, slice_index, ◌++◌, Option, Some, None}
use Rattle.std.specs.Option.{unwrap_or}
use Rattle.std.specs.Fmt.{decimal}
use Rattle.std.specs.List.{flat_map, sum_by}
use Rattle.mx_source.specs.SourceValue.{SourceValue}
use Rattle.mx_blocks.specs.declared.block.Block.{Block}
use Rattle.mx_blocks.specs.declared.block.Plan.{Plan}
use Rattle.mx_blocks.specs.Leaders.{size}
use Rattle.mx_validate.specs.Padded.{insts_of, items_of, padded_from}
use Rattle.mx_reorg.specs.Greedy.{IsGreedy}
use Rattle.mx_reorg.proofs.ExistsPlans.{greedy_exists}
use Rattle.mx_best.specs.Shortest.{IsShortest, most_searched}
use Rattle.mx_best.proofs.Fewest.{shortest_of}
use Rattle.mx_text.specs.Text.{line, count_line}

abbrev pub padded_length : Block → ℕ
padded_length block = length (padded_from 0 (insts_of block))

-- the number of items of the greedy plan (`greedy_length_is`)
unfoldable pub greedy_length : Block → ℕ
greedy_length block = length (items_of (greedy_exists block).0)

abbrev pub GreedyLengthIs : Type 0
GreedyLengthIs = (block : Block) (plan : Plan) → IsGreedy block plan → greedy_length block ≡ length (items_of plan)

-- the number of items of a shortest plan (`shortest_length_is`)
unfoldable pub shortest_length : Block → ℕ
shortest_length block = (shortest_of block).at

abbrev pub ShortestLengthIs : Type 0
ShortestLengthIs = (block : Block) (plan : Plan) → IsShortest block plan → shortest_length block ≡ length (items_of plan)

-- that of a block that is searched
abbrev pub searched_length : Block → Option ℕ
searched_length block = cond (leb (size block) most_searched) (Some (shortest_length block)) None

-- of the plan that is proposed: a shortest one, and the greedy one of a block that is not searched
abbrev pub best_length : Block → ℕ
best_length block = unwrap_or (searched_length block) (greedy_length block)

abbrev pub searched_text : Option ℕ → List ℕ
searched_text (Some n) = decimal n
searched_text None = codes "-"

abbrev pub part : List ℕ → ℕ → List ℕ
part name n = name ++ decimal n

-- `line N size S padded P list L best B`, where the first statement stands on line N, and B is `-` for a block that is not searched
abbrev pub block_line : List ℕ → Block → List ℕ
block_line lines block =
    line (((((part (codes "line ") (slice_index lines block.first) ++ part (codes " size ") (size block))
    ++ part (codes " padded ") (padded_length block)) ++ part (codes " list ") (greedy_length block))
    ++ codes " best ") ++ searched_text (searched_length block))

abbrev pub sum_lines : List Block → List ℕ
sum_lines blocks =
    (count_line (codes "padded") (sum_by padded_length blocks) ++ count_line (codes "list") (sum_by greedy_length blocks))
    ++ count_line (codes "best") (sum_by best_length blocks)

-- the line of each block of a source, and the sums
unfoldable pub lengths_text : SourceValue → List Block → List ℕ
lengths_text source blocks = flat_map (block_line source.lines) blocks ++ sum_lines blocks
