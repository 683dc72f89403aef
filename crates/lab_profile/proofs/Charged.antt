-- What one more cycle charges.
use Rattle.std.proofs.Common.{◌≡◌, ℕ, suc, refl, ◌+◌, ◌≤◌, Bool, true, false, cond, List, ◌∙◌, arith}
use Rattle.std.specs.Prelude.{eqb, ◌&&◌, slice_index}
use Rattle.mx_turn.specs.declared.latches.Latches.{Latches}
use Rattle.mx_turn.specs.Counted.{one}
use Rattle.mx_turn.specs.Program.{Program}
use Rattle.lab_profile.specs.declared.tally.Tally.{Tally}
use Rattle.lab_profile.specs.Charges.{place_in, is_live, is_squashed, before, counts_cycle, counts_fetch, counts_squash, waiting, squasher}
use Rattle.lab_profile.specs.Charges.{fetches_at, cycles_at, executed_at, cancelled_at, squashes_at, penalty_at}
use Rattle.lab_profile.specs.Tallies.{IsBelow, IsTally}

module _ (p : Program) (requests : List ℕ) (words n : ℕ) (shown : Latches) (s : shown ≡ (before p requests words (suc n)).shown) (old new : List ℕ) where
  module _ (fetched : Bool) (g : fetched ≡ counts_fetch p requests words n) where
    pub fetches_more : ((k : ℕ) → slice_index new k ≡ slice_index old k + one (fetched && eqb (place_in words shown.fetch) k))
        → ((k : ℕ) → slice_index old k ≡ fetches_at p requests words n k) → (k : ℕ) → slice_index new k ≡ fetches_at p requests words (suc n) k
    fetches_more added tally k = added k ∙ (λ i. tally k i + one (g i && eqb (place_in words (s i).fetch) k))

    pub cycles_more : (wait : ℕ) (cycle : Bool) → wait ≡ waiting p requests words n → cycle ≡ counts_cycle p requests words n
        → ((k : ℕ) → slice_index new k ≡ slice_index old k + cond (fetched && eqb (place_in words shown.fetch) k) (wait + one cycle) 0)
        → ((k : ℕ) → slice_index old k ≡ cycles_at p requests words n k) → (k : ℕ) → slice_index new k ≡ cycles_at p requests words (suc n) k
    cycles_more wait cycle w c added tally k = added k ∙ (λ i. tally k i + cond (g i && eqb (place_in words (s i).fetch) k) (w i + one (c i)) 0)

    pub executed_more : ((k : ℕ) → slice_index new k ≡ slice_index old k + one ((fetched && is_live shown.mem) && eqb (place_in words shown.mem) k))
        → ((k : ℕ) → slice_index old k ≡ executed_at p requests words n k) → (k : ℕ) → slice_index new k ≡ executed_at p requests words (suc n) k
    executed_more added tally k = added k ∙ (λ i. tally k i + one ((g i && is_live (s i).mem) && eqb (place_in words (s i).mem) k))

    pub cancelled_more : ((k : ℕ) → slice_index new k ≡ slice_index old k + one ((fetched && is_squashed shown.mem) && eqb (place_in words shown.mem) k))
        → ((k : ℕ) → slice_index old k ≡ cancelled_at p requests words n k) → (k : ℕ) → slice_index new k ≡ cancelled_at p requests words (suc n) k
    cancelled_more added tally k = added k ∙ (λ i. tally k i + one ((g i && is_squashed (s i).mem) && eqb (place_in words (s i).mem) k))

    pub penalty_more : (who : ℕ) → who ≡ squasher p requests words n
        → ((k : ℕ) → slice_index new k ≡ slice_index old k + one ((fetched && is_squashed shown.mem) && eqb who k))
        → ((k : ℕ) → slice_index old k ≡ penalty_at p requests words n k) → (k : ℕ) → slice_index new k ≡ penalty_at p requests words (suc n) k
    penalty_more who w added tally k = added k ∙ (λ i. tally k i + one ((g i && is_squashed (s i).mem) && eqb (w i) k))

  pub squashes_more : (squashed : Bool) → squashed ≡ counts_squash p requests words n
      → ((k : ℕ) → slice_index new k ≡ slice_index old k + one (squashed && eqb (place_in words shown.alu) k))
      → ((k : ℕ) → slice_index old k ≡ squashes_at p requests words n k) → (k : ℕ) → slice_index new k ≡ squashes_at p requests words (suc n) k
  squashes_more squashed g added tally k = added k ∙ (λ i. tally k i + one (g i && eqb (place_in words (s i).alu) k))

none : (a : ℕ) → a ≡ a + 0
none a = omega arith

-- a cycle with no fetch and no squash charges nothing
pub nothing_more : (p : Program) (requests : List ℕ) (words n : ℕ) (t : Tally)
    → false ≡ counts_fetch p requests words n → false ≡ counts_squash p requests words n → IsTally p requests words n t → IsTally p requests words (suc n) t
nothing_more p requests words n t f q h = record {
  fetches = fetches_more p requests words n _ refl t.fetches.items t.fetches.items false f (λ k. none _) h.fetches;
  cycles = cycles_more p requests words n _ refl t.cycles.items t.cycles.items false f _ _ refl refl (λ k. none _) h.cycles;
  executed = executed_more p requests words n _ refl t.executed.items t.executed.items false f (λ k. none _) h.executed;
  cancelled = cancelled_more p requests words n _ refl t.cancelled.items t.cancelled.items false f (λ k. none _) h.cancelled;
  squashes = squashes_more p requests words n _ refl t.squashes.items t.squashes.items false q (λ k. none _) h.squashes;
  penalty = penalty_more p requests words n _ refl t.penalty.items t.penalty.items false f _ refl (λ k. none _) h.penalty;
}

pub below_more : (a b : ℕ) (t : Tally) → a ≤ b → IsBelow a t → IsBelow b t
below_more a b t l h = record {
  fetches = λ k. (let e = h.fetches k in omega arith);
  cycles = λ k. (let e = h.cycles k in omega arith);
  executed = λ k. (let e = h.executed k in omega arith);
  cancelled = λ k. (let e = h.cancelled k in omega arith);
  squashes = λ k. (let e = h.squashes k in omega arith);
  penalty = λ k. (let e = h.penalty k in omega arith);
}

charge_small : (b : Bool) (w m : ℕ) → w ≤ m → cond b w 0 ≤ m
charge_small true w m l = l
charge_small false w m l = omega arith

-- one more charge of at most m
pub added_below : (a m : ℕ) (old new : List ℕ) (b : ℕ → Bool) (w : ℕ) → w ≤ m → ((k : ℕ) → slice_index old k ≤ a)
    → ((k : ℕ) → slice_index new k ≡ slice_index old k + cond (b k) w 0) → (k : ℕ) → slice_index new k ≤ a + m
added_below a m old new b w l below added k =
    let e = added k in
    let o = below k in
    let c = charge_small (b k) w m l in
    omega arith
