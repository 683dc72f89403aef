-- Whether a plan is valid is decided.
use Rattle.std.proofs.Common.{◌≡◌, ℕ, suc, ◌+◌, ◌-◌, ◌<◌, ◌≤◌, false, List, [], length, Option, Some, None, refl, ap, subst, ⊎_elim, inl, inr, arith}
use Rattle.std.specs.Prelude.{slice_get}
use Rattle.std.proofs.lemmas.Bool.{cases_eq, cases_lt}
use Rattle.std.proofs.lemmas.Option.{none-some}
use Rattle.mx_isa.specs.declared.inst.Inst.{Inst}
use Rattle.mx_isa.specs.Views.{is_load}
use Rattle.mx_depend.specs.Independence.{Independent, feeds}
use Rattle.mx_depend.specs.Graphs.{inst_at}
use Rattle.mx_depend.proofs.Decided.{Decided, both, implied, all_below, bool_decided, independent_decided}
use Rattle.mx_blocks.specs.declared.block.Block.{Block}
use Rattle.mx_blocks.specs.declared.block.Plan.{Plan}
use Rattle.mx_blocks.specs.declared.block.Item.{Item}
use Rattle.mx_blocks.specs.declared.block.Item.TheVariants.{Op, Nop}
use Rattle.mx_blocks.specs.Items.{StandsAt, ops, times}
use Rattle.mx_validate.specs.Padded.{insts_of, items_of, falls, padded_place}
use Rattle.mx_validate.specs.Validity.{EachOnce, KeepsOrder, KeepsApart, EndsWithoutLoad, Valid, end_count}
use Rattle.mx_validate.proofs.Listed.{once_from_parts, once_below, once_all, stands_within}
use Rattle.mx_best.proofs.Visited.{same_op}

pub less_decided : (m n : ℕ) → Decided (m < n)
less_decided m n = ⊎_elim (λ l. inl l) (λ g. inr (λ h. absurd (omega arith))) (cases_lt m n)

same_item : (o : Option Item) (k : ℕ) → Decided (o ≡ Some (Op k))
same_item None k = inr (λ e. none-some (Op k) e)
same_item (Some Nop) k = inr (λ e. absurd (cc))
same_item (Some (Op j)) k = ⊎_elim (λ e. inl (ap (λ n. Some (Op n)) e)) (λ ne. inr (λ e. ne (same_op j k e))) (cases_eq j k)

-- what is decided of each number is decided of the one that an item has
of_item : (Q : ℕ → Type 0) → ((k : ℕ) → Decided (Q k)) → (o : Option Item) → Decided ((k : ℕ) → o ≡ Some (Op k) → Q k)
of_item Q each None = inl (λ k e. absurd (none-some (Op k) e))
of_item Q each (Some Nop) = inl (λ k e. absurd (cc))
of_item Q each (Some (Op j)) = ⊎_elim (λ yes. inl (λ k e. subst Q (same_op j k e) yes)) (λ none. inr (λ h. none (h j refl))) (each j)

-- what is decided of each place and number is decided of all that stand
all_places : (items : List Item) (Q : ℕ → ℕ → Type 0) → ((p k : ℕ) → Decided (Q p k)) → Decided ((p k : ℕ) → StandsAt items p k → Q p k)
all_places items Q each = ⊎_elim
    (λ yes. inl (λ p k s. yes p (stands_within items p k s) k s))
    (λ none. inr (λ h. none (λ p l k s. h p k s)))
    (all_below (λ p. (k : ℕ) → StandsAt items p k → Q p k) (length items) (λ p. of_item (Q p) (each p) (slice_get items p)))

once_decided : (n : ℕ) (items : List Item) → Decided (EachOnce n items)
once_decided n items = ⊎_elim
    (λ h. inl (once_from_parts n items h.0 h.1))
    (λ none. inr (λ once. none (once_below n items once, once_all n items once)))
    (both _ _ (all_places items (λ p k. k < n) (λ p k. less_decided k n)) (all_below (λ k. times k (ops items) ≡ 1) n (λ k. cases_eq (times k (ops items)) 1)))

module _ (block : Block) (plan : Plan) where
  abbrev insts : List Inst
  insts = insts_of block

  abbrev items : List Item
  items = items_of plan

  order_decided : Decided (KeepsOrder insts block.input items)
  order_decided = ⊎_elim
      (λ yes. inl (λ p q k j s t. yes p k s q j t))
      (λ none. inr (λ h. none (λ p k s q j t. h p q k j s t)))
      (all_places items
      (λ p k. (q j : ℕ) → StandsAt items q j → p < q → j < k → Independent (inst_at insts j) (inst_at insts k) block.input)
      (λ p k. all_places items (λ q j. p < q → j < k → Independent (inst_at insts j) (inst_at insts k) block.input)
      (λ q j. implied _ _ (less_decided p q) (implied _ _ (less_decided j k) (independent_decided (inst_at insts j) (inst_at insts k) block.input)))))

  apart_decided : Decided (KeepsApart insts items)
  apart_decided = ⊎_elim
      (λ yes. inl (λ p k j s t. yes p k s j t))
      (λ none. inr (λ h. none (λ p k s j t. h p k j s t)))
      (all_places items (λ p k. (j : ℕ) → StandsAt items (suc p) j → feeds (inst_at insts k) (inst_at insts j) ≡ false)
      (λ p k. of_item (λ j. feeds (inst_at insts k) (inst_at insts j) ≡ false) (λ j. bool_decided (feeds (inst_at insts k) (inst_at insts j)) false)
      (slice_get items (suc p))))

  last_decided : Decided (EndsWithoutLoad insts items)
  last_decided =
      all_places items (λ p k. suc p ≡ length items → is_load (inst_at insts k) ≡ false)
      (λ p k. implied _ _ (cases_eq (suc p) (length items)) (bool_decided (is_load (inst_at insts k)) false))

  room_decided : Decided (plan.place ≤ padded_place block)
  room_decided = ⊎_elim (λ more. inr (λ h. absurd (omega arith))) (λ h. inl h) (cases_lt (padded_place block) plan.place)

  end_decided : Decided ((falls block.end ≡ false → StandsAt items plan.place (length insts - 1)) × (length items ≡ plan.place + end_count block.end))
  end_decided = both _ _ (implied _ _ (bool_decided (falls block.end) false) (same_item (slice_get items plan.place) (length insts - 1)))
      (cases_eq (length items) (plan.place + end_count block.end))

  pub valid_decided : Decided (Valid block plan)
  valid_decided = ⊎_elim
      (λ h. inl (record { once = h.0; terminator = h.1.0.0; tail = h.1.0.1; order = h.1.1.0; apart = h.1.1.1.0; last = h.1.1.1.1.0; room = h.1.1.1.1.1 }))
      (λ none. inr (λ v. none (v.once, ((v.terminator, v.tail), (v.order, (v.apart, (v.last, v.room)))))))
      (both _ _ (once_decided (length insts) items)
      (both _ _ end_decided (both _ _ order_decided (both _ _ apart_decided (both _ _ last_decided room_decided)))))
