-- Nothing is charged once the machine has halted.
use Rattle.std.proofs.Common.{◌≡◌, ℕ, zero, suc, ◌+◌, ◌<◌, ◌≤◌, Bool, true, false, cond, List, refl, sym, ap, ◌∙◌, arith, ⊎_elim}
use Rattle.std.specs.Prelude.{eqb, ltb, ◌&&◌, slice_index}
use Rattle.std.proofs.lemmas.Bool.{cases_lt}
use Rattle.std.proofs.lemmas.Bool.Decides.{nat_tests}
use Rattle.mx_turn.specs.Counted.{Counted, one}
use Rattle.mx_turn.specs.Cycle.{MachineState}
use Rattle.mx_turn.specs.Program.{Program}
use Rattle.mx_report.proofs.Runs.{state_still, at_end}
use Rattle.lab_profile.specs.declared.tally.Tally.{Tally}
use Rattle.lab_profile.specs.Charges.{sum_below, place_in, is_live, is_squashed, before, counts_one, counts_cycle, counts_fetch, counts_squash, waiting, squasher}
use Rattle.lab_profile.specs.Tallies.{IsBelow, IsTally}

not_more : (a : ℕ) → ltb a a ≡ false
not_more a = grind (arith, nat_tests)

-- a sum to which nothing is added from n on
sum_still : (f : ℕ → ℕ) (n : ℕ) → ((m : ℕ) → n ≤ m → f m ≡ 0) → (m : ℕ) → n ≤ m → sum_below f m ≡ sum_below f n
sum_still f n none zero l = let e : zero ≡ n = omega arith in ap (sum_below f) e
sum_still f n none (suc m) l = ⊎_elim
    (λ (lt : n < suc m).
    let rest = sum_still f n none m (omega arith) in
    let last = none m (omega arith) in
    omega arith)
    (λ (ge : suc m ≤ n). let e : suc m ≡ n = omega arith in ap (sum_below f) e)
    (cases_lt n (suc m))

module _ (p : Program) (requests : List ℕ) (words n : ℕ) (halted : (before p requests words n).halted ≡ true) where
  none : (field : Counted → ℕ) (m : ℕ) → n ≤ m → counts_one p requests words field m ≡ false
  none field m l =
      ap (λ (s : MachineState). ltb (field (before p requests words m).counts) (field s.counts))
      (state_still p requests n halted (suc m) (omega arith) ∙ sym (state_still p requests n halted m l))
      ∙ not_more (field (before p requests words m).counts)

  still : (b : ℕ → Bool) (there : ℕ → Bool) (w : ℕ → ℕ) → ((m : ℕ) → n ≤ m → b m ≡ false) → (m : ℕ) → n ≤ m
      → sum_below (λ i. cond (b i && there i) (w i) 0) m ≡ sum_below (λ i. cond (b i && there i) (w i) 0) n
  still b there w off m l = sum_still (λ i. cond (b i && there i) (w i) 0) n (λ i h. ap (λ c. cond (c && there i) (w i) 0) (off i h)) m l

  fetch_off : (m : ℕ) → n ≤ m → counts_fetch p requests words m ≡ false
  fetch_off = none (λ c. c.fetches)

  both_off : (b : ℕ → Bool) (m : ℕ) → n ≤ m → (counts_fetch p requests words m && b m) ≡ false
  both_off b m l = ap (λ c. c && b m) (fetch_off m l)

  pub waiting_still : (m : ℕ) → n ≤ m → waiting p requests words m ≡ waiting p requests words n
  waiting_still zero l = let e : zero ≡ n = omega arith in ap (waiting p requests words) e
  waiting_still (suc m) l = ⊎_elim
      (λ (lt : n < suc m).
      let rest = waiting_still m (omega arith) in
      let w = waiting p requests words m in
      ap (λ b. cond b 0 (w + one (counts_cycle p requests words m))) (fetch_off m (omega arith))
      ∙ ap (λ b. w + one b) (none (λ c. c.cycles) m (omega arith))
      ∙ (let e : w + 0 ≡ w = omega arith in e)
      ∙ rest)
      (λ (ge : suc m ≤ n). let e : suc m ≡ n = omega arith in ap (waiting p requests words) e)
      (cases_lt n (suc m))

  pub tally_still : (t : Tally) (m : ℕ) → n ≤ m → IsTally p requests words n t → IsTally p requests words m t
  tally_still t m l h = record {
    fetches = λ k. h.fetches k
        ∙ sym (still (counts_fetch p requests words) (λ i. eqb (place_in words (before p requests words (suc i)).shown.fetch) k) (λ i. 1) fetch_off m l);
    cycles = λ k. h.cycles k
        ∙ sym (still (counts_fetch p requests words) (λ i. eqb (place_in words (before p requests words (suc i)).shown.fetch) k)
        (λ i. waiting p requests words i + one (counts_cycle p requests words i)) fetch_off m l);
    executed = λ k. h.executed k
        ∙ sym (still (λ i. counts_fetch p requests words i && is_live (before p requests words (suc i)).shown.mem)
        (λ i. eqb (place_in words (before p requests words (suc i)).shown.mem) k) (λ i. 1)
        (both_off (λ i. is_live (before p requests words (suc i)).shown.mem)) m l);
    cancelled = λ k. h.cancelled k
        ∙ sym (still (λ i. counts_fetch p requests words i && is_squashed (before p requests words (suc i)).shown.mem)
        (λ i. eqb (place_in words (before p requests words (suc i)).shown.mem) k) (λ i. 1)
        (both_off (λ i. is_squashed (before p requests words (suc i)).shown.mem)) m l);
    squashes = λ k. h.squashes k
        ∙ sym (still (counts_squash p requests words) (λ i. eqb (place_in words (before p requests words (suc i)).shown.alu) k) (λ i. 1)
        (none (λ c. c.squashes)) m l);
    penalty = λ k. h.penalty k
        ∙ sym (still (λ i. counts_fetch p requests words i && is_squashed (before p requests words (suc i)).shown.mem)
        (λ i. eqb (squasher p requests words i) k) (λ i. 1)
        (both_off (λ i. is_squashed (before p requests words (suc i)).shown.mem)) m l);
  }

no_entry : (xs : List ℕ) (k : ℕ) → slice_index xs k ≤ 0 → slice_index xs k ≡ 0
no_entry xs k h = omega arith

-- before the first cycle
pub no_tally : (p : Program) (requests : List ℕ) (words : ℕ) (t : Tally) → IsBelow 0 t → IsTally p requests words 0 t
no_tally p requests words t none = record {
  fetches = λ k. no_entry t.fetches.items k (none.fetches k);
  cycles = λ k. no_entry t.cycles.items k (none.cycles k);
  executed = λ k. no_entry t.executed.items k (none.executed k);
  cancelled = λ k. no_entry t.cancelled.items k (none.cancelled k);
  squashes = λ k. no_entry t.squashes.items k (none.squashes k);
  penalty = λ k. no_entry t.penalty.items k (none.penalty k);
}

-- the tally at the end of a budget is that of the cycles until the machine halts
module _ (p : Program) (requests : List ℕ) (words n m : ℕ) (halted : Bool) (is : halted ≡ (before p requests words n).halted) (within : n ≤ m)
    (whole : halted ≡ false → n ≡ m) where
  pub tally_end : (t : Tally) → IsTally p requests words n t → IsTally p requests words m t
  tally_end t now = at_end p requests (λ k. IsTally p requests words k t) n m halted is whole (λ h e. tally_still p requests words n h t m within e) now

  pub waiting_end : waiting p requests words n ≡ waiting p requests words m
  waiting_end = at_end p requests (λ k. waiting p requests words n ≡ waiting p requests words k) n m halted is whole
      (λ h e. sym (waiting_still p requests words n h m within)) refl
