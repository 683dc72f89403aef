use Rattle.std.proofs.Common.{◌≡◌, ℤ, List, sym, subst, arith, IsSorted, int_cmp}
use Rattle.std.specs.List.Sorted.{IsPermutation}
use Rattle.std.proofs.lemmas.Grind.{common_steps}
use Rattle.std.proofs.lemmas.Int.{to_z-of_z}
use Rattle.std.proofs.lemmas.Option.{gets}
use Rattle.lab_measures.specs.Spreads.{Tells}
use Rattle.lab_measures.proofs.spread.spread_of.Goals as goal

pub returns : goal.returns
returns c =
    let sorted : List ℤ = c.sort.new.self.items in
    let told : c.as_slice.result.now ≡ sorted = c.as_slice.ensures.value in
    record {
      sorted = sorted;
      same = subst (λ (xs : List ℤ). IsPermutation xs sorted) c.in_ok-sorted.ensures.items c.in_ok-sort.ensures.permutation;
      in_order = c.in_ok-sort.ensures.sorted;
      least = grind (common_steps, gets, to_z-of_z, arith);
      median = grind (common_steps, gets, to_z-of_z, arith);
      greatest = grind (common_steps, gets, to_z-of_z, arith);
      bins = subst (λ (xs : List ℤ). Tells c.in_ok-bins_of.field-0.items xs) told
          (c.in_ok-bins_of.ensures (subst (λ (xs : List ℤ). IsSorted int_cmp xs) (sym told) c.in_ok-sort.ensures.sorted));
    }
