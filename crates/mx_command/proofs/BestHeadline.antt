-- The answer of `best` of a source without faults is the lengths of its blocks' plans.
use Rattle.std.proofs.Common.{◌≡◌, ℕ, ◌≤◌, ◌<◌, ◌++◌, List, [], ◌∷◌, length, map, true, false, Some, refl, sym, ap, ◌∙◌, subst, arith}
use Rattle.std.specs.Prelude.{All, leb, Option, codes}
use Rattle.std.specs.List.{flat_map, sum_by}
use Rattle.std.specs.Option.{unwrap_or}
use Rattle.std.proofs.lemmas.Bool.{cond-true, cond-false}
use Rattle.std.proofs.lemmas.Bool.Decides.{nat_tests}
use Rattle.std.proofs.lemmas.List.Concat.{flat_map-cons}
use Rattle.std.proofs.lemmas.List.Elements.{All-nil, All-cons}
use Rattle.std.proofs.lemmas.List.Sums.{sum_by-cons}
use Rattle.mx_isa.specs.declared.board.TheConstants.{DATA_BASE}
use Rattle.mx_source.specs.SourceValue.{SourceValue}
use Rattle.mx_blocks.specs.declared.Block.{Block}
use Rattle.mx_blocks.specs.Leaders.{AreBlocks, size}
use Rattle.mx_squash.specs.Copies.{Site}
use Rattle.mx_layout.specs.Layout.{blocks_in}
use Rattle.mx_reorg.proofs.ExistsPlans.{greedy_exists}
use Rattle.mx_best.specs.Shortest.{most_searched}
use Rattle.mx_best.proofs.Fewest.{shortest_exists}
use Rattle.mx_asm.specs.Texts.{source_of}
use Rattle.mx_asm.proofs.Sourced.{faultless_source}
use Rattle.mx_isa.specs.Board.{board}
use Rattle.law_schedule.specs.Schedule.{IsScheduler}
use Rattle.law_schedule.proofs.Layouts.{layout_exists}
use Rattle.mx_text.specs.Text.{count_line}
use Rattle.cmd_best.specs.Lengths.{padded_length, greedy_length, searched_length, best_length, block_line, lengths_text}
use Rattle.cmd_best.proofs.Plans.{greedy_length_is, shortest_length_is}
use Rattle.cmd_answer.specs.declared.FileKind.TheVariants.{Source}
use Rattle.cmd_answer.specs.declared.Status.{Status}
use Rattle.cmd_answer.specs.declared.Status.TheVariants.{Done}
use Rattle.cmd_answer.specs.Answer.{Answer, prints}
use Rattle.cmd_answer.specs.Protocol.{Answers, resolved}
use Rattle.cmd_answer.specs.Delivery.{Delivered}
use Rattle.mx_io.specs.Shelves.{Told}
use Rattle.cmd_table.specs.Commands.{Command}
use Rattle.cmd_source.specs.Protocols.{Layouts}
use Rattle.mx_command.specs.Protocols.{measured, best_answer, protocol_of}
use Rattle.mx_command.specs.Accepted.{Held}
use Rattle.mx_command.specs.Measures.{Measured, IsMeasured, measured_line, measured_text, AcceptedBest, BestHeadline}
use Rattle.mx_command.proofs.Headline.{read_is}

-- a block with the lengths that are printed of it
abbrev measured_of : Block → Measured
measured_of block = record { block = block; padded = padded_length block; greedy = greedy_length block; shortest = searched_length block }

few_searched : (n : ℕ) → n ≤ most_searched → leb n most_searched ≡ true
few_searched n few = grind (arith, nat_tests)

many_unsearched : (n : ℕ) → most_searched < n → leb n most_searched ≡ false
many_unsearched n many = grind (arith, nat_tests)

measured_is : (block : Block) → IsMeasured (measured_of block)
measured_is block =
    let greedy = greedy_exists block in
    let shortest = shortest_exists block in
    record {
      padded = λ plan p. ap length (sym p.items);
      greedy = (greedy.0, greedy.1, greedy_length_is block greedy.0 greedy.1);
      shortest = λ few. (
        shortest.0,
        shortest.1,
        cond-true _ _ _ (few_searched (size block) few) ∙ ap Some (shortest_length_is block shortest.0 shortest.1),
      );
      not_told = λ many. cond-false _ _ _ (many_unsearched (size block) many);
    }

all_measured : (blocks : List Block) → All IsMeasured (map measured_of blocks)
all_measured [] = All-nil IsMeasured
all_measured (b ∷ blocks) = All-cons IsMeasured (measured_of b) (map measured_of blocks) (measured_is b) (all_measured blocks)

blocks_stay : (blocks : List Block) → map (λ (m : Measured). m.block) (map measured_of blocks) ≡ blocks
blocks_stay [] = refl
blocks_stay (b ∷ blocks) = ap (λ bs. b ∷ bs) (blocks_stay blocks)

lines_are : (lines : List ℕ) (blocks : List Block) → flat_map (block_line lines) blocks ≡ flat_map (measured_line lines) (map measured_of blocks)
lines_are lines [] = refl
lines_are lines (b ∷ blocks) =
    flat_map-cons (block_line lines) b blocks
    ∙ ap (λ text. block_line lines b ++ text) (lines_are lines blocks)
    ∙ sym (flat_map-cons (measured_line lines) (measured_of b) (map measured_of blocks))

sum_is : (f : Block → ℕ) (g : Measured → ℕ) → ((b : Block) → f b ≡ g (measured_of b)) → (blocks : List Block)
    → sum_by f blocks ≡ sum_by g (map measured_of blocks)
sum_is f g same [] = refl
sum_is f g same (b ∷ blocks) =
    let first = sum_by-cons f b blocks in
    let other = sum_by-cons g (measured_of b) (map measured_of blocks) in
    let here = same b in
    let rest = sum_is f g same blocks in
    omega (arith, first, other, here, rest)

text_is : (source : SourceValue) (blocks : List Block) → lengths_text source blocks ≡ measured_text source.lines (map measured_of blocks)
unfolding lengths_text
text_is source blocks =
    let padded : sum_by padded_length blocks ≡ sum_by (λ m. m.padded) (map measured_of blocks) = sum_is padded_length (λ m. m.padded) (λ b. refl) blocks in
    let greedy : sum_by greedy_length blocks ≡ sum_by (λ m. m.greedy) (map measured_of blocks) = sum_is greedy_length (λ m. m.greedy) (λ b. refl) blocks in
    let best : sum_by best_length blocks ≡ sum_by (λ m. unwrap_or m.shortest m.greedy) (map measured_of blocks) =
    sum_is best_length (λ m. unwrap_or m.shortest m.greedy) (λ b. refl) blocks in
    λ i. lines_are source.lines blocks i
    ++ ((count_line (codes "padded") (padded i) ++ count_line (codes "list") (greedy i)) ++ count_line (codes "best") (best i))

module _ (asked : Option Command) (held : Held) (a : AcceptedBest asked held) where
  abbrev source : SourceValue
  source = source_of DATA_BASE a.text

  answer_is : (layout_of : Layouts) → resolved (protocol_of layout_of asked) held ≡ prints Done (lengths_text source (blocks_in (layout_of source)))
  answer_is layout_of =
      ap (λ o. resolved (protocol_of layout_of o) held) a.asks
      ∙ read_is held Source a.name a.text (λ text. Answers (best_answer layout_of text)) a.is_text
      ∙ ap (measured source (layout_of source)) a.faultless

  blocks_are : (layout_of : Layouts) → IsScheduler layout_of → AreBlocks source (blocks_in (layout_of source))
  blocks_are layout_of is =
      let found = layout_exists source board (faultless_source 256 65536 a.text (omega arith) (omega arith) (omega arith) a.faultless) in
      subst (λ (s : List Site). AreBlocks source (blocks_in s)) (sym (is source found.0 found.1)) found.1.blocks

  text_is_told : (blocks : List Block) → AreBlocks source blocks → (result : Status) (told told' : Told) (before after : List ℕ)
      → Delivered (prints Done (lengths_text source blocks)) result told told' before after
      → BestHeadline asked held a result before after
  text_is_told blocks are result told told' before after d = record {
    status = d.status;
    rows = map measured_of blocks;
    are_blocks = subst (AreBlocks source) (sym (blocks_stay blocks)) are;
    are_measured = all_measured blocks;
    output = d.output ∙ ap (λ text. before ++ text) (text_is source blocks);
  }

  -- where the answer was delivered, it is these lengths
  pub delivered_is_best : (layout_of : Layouts) → IsScheduler layout_of → (result : Status) (told told' : Told) (before after : List ℕ)
      → Delivered (resolved (protocol_of layout_of asked) held) result told told' before after
      → BestHeadline asked held a result before after
  delivered_is_best layout_of is result told told' before after d =
      text_is_told (blocks_in (layout_of source)) (blocks_are layout_of is) result told told' before after
      (subst (λ (x : Answer). Delivered x result told told' before after) (answer_is layout_of) d)
