-- Two sources that share the machine, by the layout that a function of sources gives.
use Rattle.std.proofs.Common.{◌≡◌, ℕ, suc, ◌+◌, ◌≤◌, List, [], ◌∷◌, length, Option, Some, None, Result, Ok, Err, IfOk, refl, sym, ap, ◌∙◌, subst, arith, ◌<◌, ◌⊎◌, inl, inr, get_or}
use Rattle.std.specs.Prelude.{All, slice_get, pos, ◌-ℤ◌}
use Rattle.std.proofs.lemmas.List.Elements.{All-nil, All-cons}
use Rattle.std.proofs.lemmas.Option.{slice_get_cases}
use Rattle.mx_isa.specs.declared.Place.{Place}
use Rattle.mx_source.specs.SourceValue.{SourceValue}
use Rattle.mx_blocks.specs.declared.block.Plan.{Plan}
use Rattle.mx_blocks.specs.declared.Block.{Block}
use Rattle.mx_blocks.specs.Leaders.{AreBlocks}
use Rattle.mx_squash.specs.Copies.{Site}
use Rattle.mx_layout.specs.Layout.{IsLayout, StandFrom, blocks_in, plan_size}
use Rattle.mx_layout.specs.Overlong.{Overlong, overlong}
use Rattle.mx_link.specs.Origins.{from_target}
use Rattle.mx_link.specs.Linked.{linked_code, linked_data}
use Rattle.mx_reorg.specs.Greedy.{IsGreedy}
use Rattle.law_schedule.specs.Schedule.{IsScheduler}
use Rattle.law_schedule.proofs.Layouts.{laid_out, layout_unique}
use Rattle.law_schedule.proofs.Kept.{kept_greedy, overlong_layout}
use Rattle.mx_lines.specs.declared.Fault.{Fault}
use Rattle.mx_asm.specs.Texts.{source_of, text_fault, ReadsAs}
use Rattle.mx_asm.proofs.Sourced.{faultless_source, faultless_words}
use Rattle.mx_isa.specs.Board.{board}
use Rattle.cmd_answer.specs.declared.Status.TheVariants.{Refused}
use Rattle.cmd_answer.specs.Answer.{prints, text_line}
use Rattle.cmd_answer.specs.declared.Failure.{Failure}
use Rattle.cmd_answer.specs.Protocol.{Protocol, Answers}
use Rattle.cmd_answer.specs.Replies.{IfAnswered}
use Rattle.cmd_answer.proofs.Replies.{step_weaker}
use Rattle.mx_tasks.specs.Places.{lower, upper}
use Rattle.mx_tasks.specs.Images.{shared_code, shared_data}
use Rattle.mx_tasks.specs.declared.sharing.Shared.{Shared}
use Rattle.mx_tasks.specs.declared.sharing.ShareError.TheVariants as share
use Rattle.mx_tasks.specs.Shared.{IsPlaced, IsShared, IsShareRefusal}
use Rattle.cmd_share.specs.Runs.{sharing_protocol}
use Rattle.cmd_source.specs.Refusals.{overlong_text}
use Rattle.cmd_source.specs.Protocols.{Layouts}
use Rattle.mx_command.specs.Protocols.{of_program, wrong_by, wrong_with, unless_wrong, assembled_protocol, unless_far, moved, upper_layout, pair_code, pair_data, pair_protocol}
use Rattle.mx_command.specs.Sharing.{IsFitting}

abbrev Greedy : Site → Type 0
Greedy s = IsGreedy s.block s.plan

-- a layout that begins later has the same blocks and plans
moved_blocks : (by : ℕ) (sites : List Site) → blocks_in (moved by sites) ≡ blocks_in sites
moved_blocks by [] = refl
moved_blocks by (s ∷ sites) = ap (λ (l : List Block). s.block ∷ l) (moved_blocks by sites)

moved_stand : (by at : ℕ) (sites : List Site) → StandFrom at sites → StandFrom (by + at) (moved by sites)
moved_stand by at [] stand = tt
moved_stand by at (s ∷ sites) stand = (
  ap (λ n. by + n) stand.0,
  subst (λ n. StandFrom n (moved by sites)) (let e : by + (at + plan_size s.plan) ≡ by + at + plan_size s.plan = omega arith in e)
      (moved_stand by (at + plan_size s.plan) sites stand.1),
)

moved_plans : (by : ℕ) (sites : List Site) → All Greedy sites → All Greedy (moved by sites)
moved_plans by [] all = All-nil Greedy
moved_plans by (s ∷ sites) all =
    All-cons Greedy (record { block = s.block; plan = s.plan; start = by + s.start }) (moved by sites) (all 0 s (omega arith))
    (moved_plans by sites (λ k d l. all (suc k) d (omega arith)))

-- the layout of a program alone, 30,000 words later, is that of the second of two
moved_layout : (source : SourceValue) (sites : List Site) → IsLayout IsGreedy source board sites → IsLayout IsGreedy source upper (moved 30000 sites)
moved_layout source sites l = record {
  blocks = subst (λ (bs : List Block). AreBlocks source bs) (sym (moved_blocks 30000 sites)) l.blocks;
  stand = moved_stand 30000 4096 sites l.stand;
  plans = moved_plans 30000 sites l.plans;
}

-- plans that are taken for greedy proposals are greedy
pub placed_layout :
    (source : SourceValue) (place : Place) (proposals : List Plan) (p : IsPlaced IsGreedy source place proposals) → IsLayout IsGreedy source place p.sites
placed_layout source place proposals p =
    record { blocks = p.layout.blocks; stand = p.layout.stand; plans = (kept_greedy p.rejected p.sites proposals p.kept).plans }

module _ (layout_of : Layouts) (is : IsScheduler layout_of) (source : SourceValue) where
  pub lower_is : (sites : List Site) → IsLayout IsGreedy source lower sites → layout_of source ≡ sites
  lower_is sites l = is source sites (record { blocks = l.blocks; stand = l.stand; plans = l.plans })

  pub upper_is : (sites : List Site) → IsLayout IsGreedy source upper sites → upper_layout layout_of source ≡ sites
  upper_is sites l =
      let found = laid_out source board (blocks_in sites) l.blocks in
      ap (moved 30000) (is source found.0 found.1)
      ∙ layout_unique source upper (moved 30000 found.0) sites (moved_layout source found.0 found.1) l

module _ (layout_of : Layouts) (is : IsScheduler layout_of) (first second : SourceValue) (interrupts : Option (List ℕ)) (budget : ℕ) where
  abbrev run : Protocol
  run = sharing_protocol interrupts budget (pair_code layout_of first second) (pair_data layout_of first second)

  abbrev by_second : Option Overlong → Protocol
  by_second found = unless_far 2 found run

  -- the first program's branches reach their targets
  first_reaches : (proposals : List Plan) → IsPlaced IsGreedy first lower proposals
      → pair_protocol layout_of interrupts budget first second ≡ by_second (overlong second upper (blocks_in (upper_layout layout_of second)))
  first_reaches proposals p =
      let same = lower_is layout_of is first p.sites (placed_layout first lower proposals p) in
      ap (λ (o : Option Overlong). unless_far 1 o (by_second (overlong second upper (blocks_in (upper_layout layout_of second)))))
      (ap (λ (l : List Site). overlong first lower (blocks_in l)) same ∙ p.reach)

  -- both are linked
  pub pair_linked : (s : Shared) → IsShared IsGreedy first second s
      → pair_protocol layout_of interrupts budget first second ≡ sharing_protocol interrupts budget s.image.code.items s.image.user_data.items
  pair_linked s i =
      let a = lower_is layout_of is first i.at_lower.sites (placed_layout first lower s.first_proposals.items i.at_lower) in
      let b = upper_is layout_of is second i.at_upper.sites (placed_layout second upper s.second_proposals.items i.at_upper) in
      first_reaches s.first_proposals.items i.at_lower
      ∙ ap by_second (ap (λ (l : List Site). overlong second upper (blocks_in l)) b ∙ i.at_upper.reach)
      ∙ (λ k. sharing_protocol interrupts budget
      (shared_code (linked_code from_target first lower (a k)) (linked_code from_target second upper (b k)))
      (shared_data (linked_data first lower (a k)) (linked_data second upper (b k))))
      ∙ (λ k. sharing_protocol interrupts budget (sym i.code k) (sym i.user_data k))

  -- a branch does not reach its target
  pub pair_far : (program line from to : ℕ) → IsShareRefusal IsGreedy first second (share.Displacement program line from to)
      → pair_protocol layout_of interrupts budget first second
      ≡ Answers (prints Refused (text_line (of_program program (overlong_text line (pos to -ℤ pos from) from to))))
  pair_far program line from to (inl (e, t)) =
      let found : Overlong = record { line = line; from = from; to = to } in
      let same = lower_is layout_of is first t.sites (overlong_layout first lower found t) in
      ap (λ (o : Option Overlong). unless_far 1 o (by_second (overlong second upper (blocks_in (upper_layout layout_of second)))))
      (ap (λ (l : List Site). overlong first lower (blocks_in l)) same ∙ t.is)
      ∙ ap (λ n. Answers (prints Refused (text_line (of_program n (overlong_text line (pos to -ℤ pos from) from to))))) (sym e)
  pair_far program line from to (inr (e, (proposals, placed), t)) =
      let found : Overlong = record { line = line; from = from; to = to } in
      let same = upper_is layout_of is second t.sites (overlong_layout second upper found t) in
      first_reaches proposals placed
      ∙ ap by_second (ap (λ (l : List Site). overlong second upper (blocks_in l)) same ∙ t.is)
      ∙ ap (λ n. Answers (prints Refused (text_line (of_program n (overlong_text line (pos to -ℤ pos from) from to))))) (sym e)

-- nothing is wrong with a text where each of the three is none
none_wrong : (f : Option (ℕ × Fault)) (input many : Option ℕ) → wrong_by f input many ≡ None → (f ≡ None) × (input ≡ None) × (many ≡ None)
none_wrong (Some found) input many h = absurd (cc)
none_wrong None (Some line) many h = absurd (cc)
none_wrong None None (Some line) h = absurd (cc)
none_wrong None None None h = (refl, refl, refl)

no_more : (xs : List ℕ) (n : ℕ) → slice_get xs n ≡ None → length xs ≤ n
no_more xs n h = within (slice_get_cases xs n).1
  where
    within :
        ((x : ℕ) × (n < length xs) × (slice_get xs n ≡ Some x) × (get_or xs n x ≡ x)) ⊎ ((length xs ≤ n) × (slice_get xs n ≡ None))
        → length xs ≤ n
    within (inl (x, inside, some, value)) = let bad : None ≡ Some x = sym h ∙ some in absurd (cc)
    within (inr (past, none)) = past

-- what is known of a text with which nothing is wrong
pub record IsRight (place : Place) (text : List ℕ) : Type 0 where
  pub faultless : text_fault place.user_data place.end text ≡ None
  pub no_input : (source_of place.user_data text).input ≡ None
  pub few : length (source_of place.user_data text).statements ≤ 10000
  pub within : place.user_data + length (source_of place.user_data text).user_data ≤ place.end

pub right : (place : Place) (text : List ℕ) → 256 ≤ place.user_data → wrong_with place text ≡ None → IsRight place text
right place text least h =
    let source = source_of place.user_data text in
    let none = none_wrong (text_fault place.user_data place.end text) source.input (slice_get source.lines 10000) h in
    let kept = faultless_source place.user_data place.end text least place.ordered place.within none.0 in
    let lines = no_more source.lines 10000 none.2 in
    let each = kept.a_line_each in
    record {
      faultless = none.0;
      no_input = none.1;
      few = omega (arith, lines, each);
      within = faultless_words place.user_data place.end text place.ordered place.within none.0;
    }

-- what the source of such a text has
pub fitting_few : (place : Place) → 256 ≤ place.user_data → (source : SourceValue) → (text : List ℕ) × IsFitting place text source
    → (length source.statements ≤ 10000) × (place.user_data + length source.user_data ≤ place.end)
fitting_few place least source (text, f) =
    let r = right place text least f.right in
    subst (λ (s : SourceValue). (length s.statements ≤ 10000) × (place.user_data + length s.user_data ≤ place.end)) (sym f.is) (r.few, r.within)

-- what is wrong with a text without faults, told by its source
pub wrong_of : (place : Place) (text : List ℕ) (source : SourceValue) (input many : Option ℕ) → ReadsAs place.user_data place.end text source
    → source.input ≡ input → slice_get source.lines 10000 ≡ many → wrong_with place text ≡ wrong_by None input many
wrong_of place text source input many reads e f =
    (λ k. wrong_by (reads.faultless k) (sym reads.same k).input (slice_get (sym reads.same k).lines 10000))
    ∙ (λ k. wrong_by None (e k) (f k))

-- the source of a text without faults shares the machine, or is refused
module _ (place : Place) (text : List ℕ) (source : SourceValue) (reads : ReadsAs place.user_data place.end text source) (r : Result SourceValue Failure) where
  abbrev wrong : Option (List ℕ)
  wrong = wrong_by None source.input (slice_get source.lines 10000)

  wrong_is : wrong_with place text ≡ wrong
  wrong_is = wrong_of place text source source.input (slice_get source.lines 10000) reads refl refl

  pub shared_right : IfOk r (λ kept. (kept ≡ source) × (wrong ≡ None)) → IfOk r (IsFitting place text)
  shared_right right = fits r right
    where
      fits : (r : Result SourceValue Failure) → IfOk r (λ kept. (kept ≡ source) × (wrong ≡ None)) → IfOk r (IsFitting place text)
      fits (Ok kept) h = record { right = wrong_is ∙ h.1; is = h.0 ∙ reads.same }
      fits (Err failure) h = tt

  pub shared_wrong : (program : ℕ)
      → IfAnswered r (λ answer. (cause : List ℕ) × (wrong ≡ Some cause) × (answer ≡ prints Refused (text_line (of_program program cause))))
      → IfAnswered r (λ answer. (cause : List ℕ) × (wrong_with place text ≡ Some cause) × (answer ≡ prints Refused (text_line (of_program program cause))))
  shared_wrong program holds =
      step_weaker r
      (λ answer. (cause : List ℕ) × (wrong ≡ Some cause) × (answer ≡ prints Refused (text_line (of_program program cause))))
      (λ answer. (cause : List ℕ) × (wrong_with place text ≡ Some cause) × (answer ≡ prints Refused (text_line (of_program program cause))))
      holds (λ answer h. (h.0, wrong_is ∙ h.1, h.2))

-- a text goes on with its source, or is refused
pub fitting_goes : (program : ℕ) (place : Place) (next : SourceValue → Protocol) (text : List ℕ) (source : SourceValue) → IsFitting place text source
    → assembled_protocol program place next text ≡ next source
fitting_goes program place next text source f =
    ap (λ w. unless_wrong program w (next (source_of place.user_data text))) f.right ∙ ap next (sym f.is)

pub wrong_stops : (program : ℕ) (place : Place) (next : SourceValue → Protocol) (text cause : List ℕ) → wrong_with place text ≡ Some cause
    → assembled_protocol program place next text ≡ Answers (prints Refused (text_line (of_program program cause)))
wrong_stops program place next text cause e = ap (λ w. unless_wrong program w (next (source_of place.user_data text))) e
