-- Each rule of validity, for a greedy plan.
use Rattle.std.proofs.Common.{◌≡◌, ℕ, zero, suc, ◌+◌, ◌-◌, ◌<◌, ◌≤◌, Bool, true, false, cond, ◌&&◌, List, [], ◌∷◌, ◌++◌, length, take, Some, slice_index_or, refl, sym, ap, ◌∙◌, subst, ⊎_elim, arith}
use Rattle.std.specs.Prelude.{slice_get}
use Rattle.std.proofs.lemmas.Bool.{false≢true, cases_lt, cases_Bool}
use Rattle.std.proofs.lemmas.Bool.Decides.{nat_tests}
use Rattle.std.proofs.lemmas.Grind.{common_steps}
use Rattle.std.proofs.lemmas.List.{take_more}
use Rattle.std.proofs.lemmas.Option.{slice_get_within, slice_get-get_or, get_or_from_slice_get}
use Rattle.mx_isa.specs.declared.inst.Inst.{Inst}
use Rattle.mx_isa.specs.declared.inst.Inst.TheVariants.{Halt}
use Rattle.mx_isa.specs.Views.{is_load, is_halt, reads, dest}
use Rattle.mx_depend.specs.Independence.{feeds}
use Rattle.mx_depend.specs.Graphs.{inst_at, IsEdge}
use Rattle.mx_blocks.specs.declared.block.Block.{Block}
use Rattle.mx_blocks.specs.declared.block.Plan.{Plan}
use Rattle.mx_blocks.specs.declared.block.End.{End}
use Rattle.mx_blocks.specs.declared.block.End.TheVariants.{Falls, Halts, Branches, Calls, Jumps}
use Rattle.mx_blocks.specs.declared.block.Item.{Item}
use Rattle.mx_blocks.specs.declared.block.Item.TheVariants.{Op, Nop}
use Rattle.mx_blocks.specs.Ends.{is_some_and, ends_as}
use Rattle.mx_blocks.specs.Items.{StandsAt}
use Rattle.mx_validate.specs.Padded.{insts_of, items_of, falls, body_count}
use Rattle.mx_validate.specs.Validity.{EachOnce, KeepsOrder, KeepsApart, EndsWithoutLoad, end_count, Valid}
use Rattle.mx_validate.proofs.Listed.{once_from_parts, stands_counts}
use Rattle.mx_reorg.specs.Greedy.{Stands, LeavesApart, Fills, AllStand, RestFits, MayEnd, IsGreedy, terminator, loads}
use Rattle.mx_reorg.proofs.Choices.{HasHeight, fills_unique}
use Rattle.mx_reorg.proofs.Spent.{Cost, cost_none, cost_grows, short, body_low, last_item}
use Rattle.mx_reorg.proofs.Lawful.{independent_stable, total_padded, taken_stands, stands_taken, some_insts, once_low, body_before, placed, apart_places, low_places}

halt_reads : (i : Inst) (n : ℕ) → is_halt i ≡ true → reads i n ≡ false
halt_reads Halt n h = grind (arith, nat_tests)
halt_reads _ n h = absurd (false≢true h)

halt_loads : (i : Inst) → is_halt i ≡ true → is_load i ≡ false
halt_loads Halt h = refl
halt_loads _ h = absurd (false≢true h)

never : (b c : Bool) → c ≡ false → (b && c) ≡ false
never b c e = grind arith

module _ (block : Block) (plan : Plan) (g : IsGreedy block plan) (known : (x : ℕ) → x < length (insts_of block) → HasHeight block x) where
  -- the last instruction of a block that halts
  last_halts : block.end ≡ Halts → is_halt (inst_at (insts_of block) (terminator block)) ≡ true
  last_halts e =
      let some = some_insts block.end (insts_of block) block.last in
      let at = slice_get-get_or (insts_of block) (terminator block) Halt (omega arith) in
      sym (ap (λ o. is_some_and o is_halt) at) ∙ sym (ap (λ d. ends_as d (insts_of block)) e) ∙ block.last

  count_taken : length (take plan.place (items_of plan)) ≡ plan.place
  count_taken = let t = g.tail in let l : plan.place ≤ length (items_of plan) = omega arith in grind (arith, common_steps)

  follows_terminator : (end : End) → block.end ≡ end → falls end ≡ false → MayEnd end block (take plan.place (items_of plan)) → (y : ℕ)
      → IsEdge (insts_of block) block.input y (terminator block) → Stands (take plan.place (items_of plan)) y
  follows_terminator Falls e f m y d = absurd (false≢true (sym f))
  follows_terminator Halts e f m y d = m y (let b = body_before block plan g (ap falls e) in let l = d.later in omega arith)
  follows_terminator (Branches t) e f m y d = m.0.follows y d
  follows_terminator (Calls t) e f m y d = m.0.follows y d
  follows_terminator Jumps e f m y d = m.0.follows y d

  apart_terminator : (end : End) → block.end ≡ end → falls end ≡ false → MayEnd end block (take plan.place (items_of plan))
      → LeavesApart block (take plan.place (items_of plan)) (terminator block)
  apart_terminator Falls e f m = absurd (false≢true (sym f))
  apart_terminator Halts e f m =
      λ p k s l. never _ _ (halt_reads (inst_at (insts_of block) (terminator block)) (dest (inst_at (insts_of block) k)) (last_halts e))
  apart_terminator (Branches t) e f m = m.0.apart
  apart_terminator (Calls t) e f m = m.0.apart
  apart_terminator Jumps e f m = m.0.apart

  -- the list is the front, the transfer and its slots
  whole : falls block.end ≡ false → end_count block.end ≡ 3 → (r : RestFits block (take plan.place (items_of plan)))
      → items_of plan ≡ take plan.place (items_of plan) ++ Op (terminator block) ∷ [] ++ r.first ∷ [] ++ r.second ∷ []
  whole f c r =
      let items = items_of plan in
      let front = take plan.place items in
      let tail = g.tail in
      let t : slice_index_or items plan.place Nop ≡ Op (terminator block) =
      get_or_from_slice_get items plan.place (Op (terminator block)) Nop (g.terminator f) in
      let one : take (plan.place + 1) items ≡ front ++ Op (terminator block) ∷ [] =
      take_more items plan.place Nop (omega arith) ∙ ap (λ x. front ++ x ∷ []) t in
      let first : slice_index_or items (plan.place + 1) Nop ≡ r.first =
      fills_unique block (front ++ Op (terminator block) ∷ []) _ r.first known
      (subst (λ (l : List Item). Fills block l (slice_index_or items (plan.place + 1) Nop)) one
      (g.filled (plan.place + 1) (omega arith) (λ e. absurd (omega arith)))) r.first_fills in
      let two : take (plan.place + 1 + 1) items ≡ front ++ Op (terminator block) ∷ [] ++ r.first ∷ [] =
      take_more items (plan.place + 1) Nop (omega arith) ∙ ap (λ l. l ++ slice_index_or items (plan.place + 1) Nop ∷ []) one
      ∙ ap (λ x. front ++ Op (terminator block) ∷ [] ++ x ∷ []) first in
      let second : slice_index_or items (plan.place + 1 + 1) Nop ≡ r.second =
      fills_unique block (front ++ Op (terminator block) ∷ [] ++ r.first ∷ []) _ r.second known
      (subst (λ (l : List Item). Fills block l (slice_index_or items (plan.place + 1 + 1) Nop)) two
      (g.filled (plan.place + 1 + 1) (omega arith) (λ e. absurd (omega arith)))) r.second_fills in
      let three : take (plan.place + 1 + 1 + 1) items ≡ front ++ Op (terminator block) ∷ [] ++ r.first ∷ [] ++ r.second ∷ [] =
      take_more items (plan.place + 1 + 1) Nop (omega arith) ∙ ap (λ l. l ++ slice_index_or items (plan.place + 1 + 1) Nop ∷ []) two
      ∙ ap (λ x. front ++ Op (terminator block) ∷ [] ++ r.first ∷ [] ++ x ∷ []) second in
      let size : length items ≡ plan.place + 1 + 1 + 1 = omega arith in
      sym (take_all items) ∙ ap (λ n. take n items) size ∙ three
    where
      take_all : (xs : List Item) → take (length xs) xs ≡ xs
      take_all xs = grind (arith, common_steps)

  body_stands : (end : End) → block.end ≡ end → MayEnd end block (take plan.place (items_of plan)) → AllStand block (items_of plan)
  body_stands Falls e m = λ k l. (let s = m.0 k l in record { at = s.at; stands = taken_stands (items_of plan) s.at plan.place k s.stands })
  body_stands Halts e m = λ k l. (let s = m k l in record { at = s.at; stands = taken_stands (items_of plan) s.at plan.place k s.stands })
  body_stands (Branches t) e m = subst (λ (l : List Item). AllStand block l) (sym (whole (ap falls e) (ap end_count e) m.1)) m.1.all
  body_stands (Calls t) e m = subst (λ (l : List Item). AllStand block l) (sym (whole (ap falls e) (ap end_count e) m.1)) m.1.all
  body_stands Jumps e m = subst (λ (l : List Item). AllStand block l) (sym (whole (ap falls e) (ap end_count e) m.1)) m.1.all

  slots_quiet : falls block.end ≡ false → end_count block.end ≡ 3 → RestFits block (take plan.place (items_of plan))
      → EndsWithoutLoad (insts_of block) (items_of plan)
  slots_quiet f c r p k s l =
      let w = whole f c r in
      let last = last_item (take plan.place (items_of plan) ++ Op (terminator block) ∷ [] ++ r.first ∷ []) r.second p k (sym (ap (λ xs. slice_get xs p) w) ∙ s)
      (l ∙ ap length w) in
      sym (ap (loads block) last) ∙ r.no_load

  last_quiet : (end : End) → block.end ≡ end → MayEnd end block (take plan.place (items_of plan)) → EndsWithoutLoad (insts_of block) (items_of plan)
  last_quiet Falls e m p k s l =
      let none : end_count block.end ≡ 0 = ap end_count e in
      let t = g.tail in
      let c = count_taken in
      m.1 p k (stands_taken (items_of plan) p plan.place k s (omega arith)) (omega arith)
  last_quiet Halts e m p k s l =
      let one : end_count block.end ≡ 1 = ap end_count e in
      let t = g.tail in
      let at : p ≡ plan.place = omega arith in
      let h : Some (Op k) ≡ Some (Op (terminator block)) = sym s ∙ ap (slice_get (items_of plan)) at ∙ g.terminator (ap falls e) in
      let same : k ≡ terminator block = cc in
      ap (λ n. is_load (inst_at (insts_of block) n)) same ∙ halt_loads (inst_at (insts_of block) (terminator block)) (last_halts e)
  last_quiet (Branches t) e m p k s l = slots_quiet (ap falls e) (ap end_count e) m.1 p k s l
  last_quiet (Calls t) e m p k s l = slots_quiet (ap falls e) (ap end_count e) m.1 p k s l
  last_quiet Jumps e m p k s l = slots_quiet (ap falls e) (ap end_count e) m.1 p k s l

  cost_taken : (p : ℕ) → p ≤ plan.place → Cost block (take p (items_of plan))
  cost_taken zero l = cost_none block (take 0 (items_of plan)) refl
  cost_taken (suc p) l =
      let t = g.tail in
      let next : suc p ≡ p + 1 = omega arith in
      let more : take (suc p) (items_of plan) ≡ take p (items_of plan) ++ slice_index_or (items_of plan) p Nop ∷ [] =
      ap (λ k. take k (items_of plan)) next ∙ take_more (items_of plan) p Nop (omega arith) in
      subst (λ (xs : List Item). Cost block xs) (sym more)
      (cost_grows block (take p (items_of plan)) (slice_index_or (items_of plan) p Nop) (g.filled p (omega arith) (λ e. absurd (omega arith)))
      (g.least p (omega arith)) (cost_taken p (omega arith)))

  stands : (k : ℕ) → k < length (insts_of block) → Stands (items_of plan) k
  stands k l = ⊎_elim
      (λ body. body_stands block.end refl g.ends k body)
      (λ rest. ⊎_elim
      (λ t. (let b : body_count block ≡ length (insts_of block) = ap (λ c. cond c (length (insts_of block)) (length (insts_of block) - 1)) t in
      absurd (omega arith)))
      (λ f. (let b = body_before block plan g f in let same : k ≡ terminator block = omega arith in
      record { at = plan.place; stands = g.terminator f ∙ ap (λ n. Some (Op n)) (sym same) }))
      (cases_Bool (falls block.end)))
      (cases_lt k (body_count block))

  once : EachOnce (length (insts_of block)) (items_of plan)
  once = once_from_parts (length (insts_of block)) (items_of plan) (low_places block plan g)
      (λ k l. (let s = stands k l in let low = stands_counts k (items_of plan) s.at s.stands in let high =
      once_low (items_of plan) k (λ p q. apart_places block plan g p q k) in omega arith))

  -- an instruction from which an edge leads to another stands before it
  before : (p k j : ℕ) → StandsAt (items_of plan) p k → IsEdge (insts_of block) block.input j k → Stands (take p (items_of plan)) j
  before p k j s d = ⊎_elim
      (λ at. subst (λ (n : ℕ). Stands (take n (items_of plan)) j) (sym at.0)
      (follows_terminator block.end refl at.1.0 g.ends j (subst (λ (n : ℕ). IsEdge (insts_of block) block.input j n) at.1.1 d)))
      (λ c. c.ready.follows j d)
      (placed block plan g p k s)

  order : KeepsOrder (insts_of block) block.input (items_of plan)
  order p q k j s t l m = independent_stable _ _ block.input (λ dependent.
      let b = before p k j s (record { later = m; within = low_places block plan g p k s; depends = dependent }) in
      let within = slice_get_within (take p (items_of plan)) b.at (Op j) b.stands in
      let size : length (take p (items_of plan)) ≤ p = grind (arith, common_steps) in
      apart_places block plan g b.at q j (taken_stands (items_of plan) b.at p j b.stands) t (omega arith))

  count_to : (p : ℕ) → p ≤ length (items_of plan) → length (take p (items_of plan)) ≡ p
  count_to p l = grind (arith, common_steps)

  apart : KeepsApart (insts_of block) (items_of plan)
  apart p k j s t =
      let within = slice_get_within (items_of plan) (suc p) (Op j) t in
      let size : suc p ≡ length (take (suc p) (items_of plan)) = sym (count_to (suc p) (omega arith)) in
      let here = stands_taken (items_of plan) p (suc p) k s (omega arith) in
      ⊎_elim
      (λ at.
      let away : LeavesApart block (take (suc p) (items_of plan)) (terminator block) =
      subst (λ (n : ℕ). LeavesApart block (take n (items_of plan)) (terminator block)) (sym at.0) (apart_terminator block.end refl at.1.0 g.ends) in
      ap (λ n. feeds (inst_at (insts_of block) k) (inst_at (insts_of block) n)) at.1.1 ∙ away p k here size)
      (λ c. c.ready.apart p k here size)
      (placed block plan g (suc p) j t)

  pub greedy_valid : Valid block plan
  greedy_valid = record {
    once = once;
    terminator = g.terminator;
    tail = g.tail;
    order = order;
    apart = apart;
    last = last_quiet block.end refl g.ends;
    room =
        let all = short block (take plan.place (items_of plan)) (cost_taken plan.place (omega arith)) in
        let count = count_taken in
        let most = total_padded (insts_of block) (body_count block) (body_low (falls block.end) (length (insts_of block))) in
        omega arith;
  }
