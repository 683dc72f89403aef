-- The sums over all places are the counts of the run.
use Rattle.std.proofs.Common.{◌≡◌, ℕ, zero, suc, ◌+◌, ◌-◌, ◌<◌, Bool, true, false, cond, List, refl, arith}
use Rattle.std.specs.Prelude.{eqb, ◌&&◌}
use Rattle.std.proofs.lemmas.Bool.Decides.{nat_tests}
use Rattle.mx_turn.specs.declared.latches.Stage.{Stage}
use Rattle.mx_turn.specs.declared.latches.Stage.TheVariants.{Empty, Live, Squashed}
use Rattle.mx_turn.specs.Counted.{one}
use Rattle.mx_turn.specs.Program.{Program}
use Rattle.lab_profile.specs.Charges.{sum_below, place_of, place_in, places, is_squashed, before, counts_cycle, counts_fetch, counts_squash, waiting, squasher}
use Rattle.lab_profile.specs.Charges.{fetches_at, cycles_at, cancelled_at, squashes_at, penalty_at, caused_at, EachSumIsItsCount}
use Rattle.lab_profile.proofs.Sums.{sum_plus, sum_none, sum_charge, sum_moved}
use Rattle.lab_profile.proofs.Counted.{run_step, step_is}
use Rattle.lab_profile.proofs.Arrived.{cancelled_few}

place_within : (words address : ℕ) → place_of words address < words + 2
place_within words address = grind (arith, nat_tests)

pub stage_within : (words : ℕ) (stage : Stage) → place_in words stage < places words
stage_within words Empty = omega arith
stage_within words (Live address) = place_within words address
stage_within words (Squashed address) = place_within words address

module _ (p : Program) (requests : List ℕ) (words : ℕ) where
  fetches_total : (n : ℕ) → sum_below (fetches_at p requests words n) (places words) ≡ (before p requests words n).counts.fetches
  fetches_total zero = sum_none (λ k. 0) (places words) (λ k l. refl)
  fetches_total (suc n) =
      let at = place_in words (before p requests words (suc n)).shown.fetch in
      let rest = fetches_total n in
      let more = sum_plus (fetches_at p requests words n) (λ k. cond (counts_fetch p requests words n && eqb at k) 1 0) (places words) in
      let here = sum_charge (counts_fetch p requests words n) at 1 (places words) (stage_within words (before p requests words (suc n)).shown.fetch) in
      let step = step_is _ _ (run_step p requests n).fetches in
      omega arith

  squashes_total : (n : ℕ) → sum_below (squashes_at p requests words n) (places words) ≡ (before p requests words n).counts.squashes
  squashes_total zero = sum_none (λ k. 0) (places words) (λ k l. refl)
  squashes_total (suc n) =
      let at = place_in words (before p requests words (suc n)).shown.alu in
      let rest = squashes_total n in
      let more = sum_plus (squashes_at p requests words n) (λ k. cond (counts_squash p requests words n && eqb at k) 1 0) (places words) in
      let here = sum_charge (counts_squash p requests words n) at 1 (places words) (stage_within words (before p requests words (suc n)).shown.alu) in
      let step = step_is _ _ (run_step p requests n).squashes in
      omega arith

  -- what is charged in a cycle, and what waits after it
  spent : (b : Bool) (w g : ℕ) → cond b (w + g) 0 + cond b 0 (w + g) ≡ w + g
  spent true w g = omega arith
  spent false w g = omega arith

  cycles_total : (n : ℕ) → sum_below (cycles_at p requests words n) (places words) + waiting p requests words n ≡ (before p requests words n).counts.cycles
  cycles_total zero = let none = sum_none (λ k. 0) (places words) (λ k l. refl) in omega arith
  cycles_total (suc n) =
      let at = place_in words (before p requests words (suc n)).shown.fetch in
      let took = waiting p requests words n + one (counts_cycle p requests words n) in
      let rest = cycles_total n in
      let more = sum_plus (cycles_at p requests words n) (λ k. cond (counts_fetch p requests words n && eqb at k) took 0) (places words) in
      let here = sum_charge (counts_fetch p requests words n) at took (places words) (stage_within words (before p requests words (suc n)).shown.fetch) in
      let both = spent (counts_fetch p requests words n) (waiting p requests words n) (one (counts_cycle p requests words n)) in
      let step = step_is _ _ (run_step p requests n).cycles in
      omega arith

  either_within : (b : Bool) (i j n : ℕ) → i < n → j < n → cond b i j < n
  either_within true i j n h l = h
  either_within false i j n h l = l

  squasher_within : (n : ℕ) → squasher p requests words n < places words
  squasher_within zero = omega arith
  squasher_within (suc n) = either_within (counts_squash p requests words n) _ _ (places words)
      (stage_within words (before p requests words (suc n)).shown.alu) (squasher_within n)

  -- each squashed word in MEM is charged to one branch
  penalty_total : (n : ℕ) → sum_below (penalty_at p requests words n) (places words) ≡ sum_below (cancelled_at p requests words n) (places words)
  penalty_total zero = refl
  penalty_total (suc n) =
      let mem = (before p requests words (suc n)).shown.mem in
      let is = counts_fetch p requests words n && is_squashed mem in
      let rest = penalty_total n in
      let more = sum_plus (penalty_at p requests words n) (λ k. cond (is && eqb (squasher p requests words n) k) 1 0) (places words) in
      let here = sum_charge is (squasher p requests words n) 1 (places words) (squasher_within n) in
      let others = sum_plus (cancelled_at p requests words n) (λ k. cond (is && eqb (place_in words mem) k) 1 0) (places words) in
      let there = sum_charge is (place_in words mem) 1 (places words) (stage_within words mem) in
      omega (arith, rest, more, here, others, there)

  caused_total : (n : ℕ) → sum_below (caused_at p requests words n) (places words) ≡ sum_below (cycles_at p requests words n) (places words)
  caused_total n =
      let moved = sum_moved (cycles_at p requests words n) (cancelled_at p requests words n) (penalty_at p requests words n) (places words)
      (λ k. cancelled_few p requests words k n) in
      let same = penalty_total n in
      omega (arith, moved, same)

pub sums_are_counts : EachSumIsItsCount
sums_are_counts p requests words budget = record {
  fetches = fetches_total p requests words budget;
  cycles = cycles_total p requests words budget;
  caused = (let all = cycles_total p requests words budget in let moved = caused_total p requests words budget in omega (arith, all, moved));
  squashes = squashes_total p requests words budget;
}
