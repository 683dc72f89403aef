use Rattle.std.proofs.Common.{◌≡◌, ◌<◌, ◌≤◌, ◌+◌, ℕ, ℤ, length, ap, sym, refl, ◌∙◌, arith, rules, w64, to_z, of_z, SFits}
use Rattle.std.specs.Prelude.{slice_index_or, pos}
use Rattle.std.proofs.lemmas.Int.{to_z-of_z}
use Rattle.lab_measures.proofs.Bins.{binned_same, binned_new, binned_all}
use Rattle.lab_measures.proofs.spread.bins_of.Goals.{then-at-sorted+in_ok-push, then-at-sorted-via-then-at-sorted, then-at-sorted-via-else-at-sorted+then-sorted-at, else-at-sorted+else-sorted-at}
use Rattle.lab_measures.proofs.spread.bins_of.Goals as goal

pub loop-at-preserved : goal.loop-at-preserved
loop-at-preserved c =
    let sorted = c.args.sorted.now in
    let at = c.loop-at.at in
    let here : ℤ = slice_index_or sorted at (pos 0) in
    let next : ℤ = slice_index_or sorted (at + 1) (pos 0) in
    let here_fits : SFits w64 here = search rules in
    elim c.if-at-sorted.branch [
      | then-at-sorted+in_ok-push w ↦
          let other : at + 1 < length sorted → next ≡ here → ⊥ = elim w.then-at-sorted.branch [
            | then-at-sorted-via-then-at-sorted v ↦ λ k e. absurd (let at_end = v.if-at-sorted.true in omega arith)
            | then-at-sorted-via-else-at-sorted+then-sorted-at v ↦ λ k e. v.if-sorted-at.true (ap (of_z w64) e)
          ] in
          let items = w.in_ok-push.ensures.items in
          record {
            few = let none = w.runs-is in omega arith;
            binned = λ s. binned_new sorted at c.loop-at.bins.items c.if-at-sorted.bins.items c.loop-at.runs c.if-at-sorted.runs _
                (rw w.bins-is items) w.runs-is c.loop-at-test.true s
                (to_z-of_z w64 here here_fits) refl other (c.loop-at.invariant.binned s);
          }
      | else-at-sorted+else-sorted-at w ↦
          let not_last = w.if-at-sorted.false in
          let within : at + 1 < length sorted = omega arith in
          let next_fits : SFits w64 next = search rules in
          let bits : of_z w64 next ≡ of_z w64 here = w.if-sorted-at.false in
          let same : next ≡ here = sym (to_z-of_z w64 next next_fits) ∙ ap (to_z w64) bits ∙ to_z-of_z w64 here here_fits in
          record {
            few = let more = w.runs-is in let few = c.loop-at.invariant.few in omega arith;
            binned = λ s. binned_same sorted at c.loop-at.bins.items c.if-at-sorted.bins.items c.loop-at.runs c.if-at-sorted.runs
                (rw w.bins-is refl) w.runs-is within same
                (c.loop-at.invariant.binned s);
          }
    ]

pub returns : goal.returns
returns c = λ s. binned_all _ _ _ c.loop-at.at (omega arith) (c.loop-at.invariant.binned s)
