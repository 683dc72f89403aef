use Rattle.std.proofs.Common.{ℕ, cond, eqb, length, ap, ◌∙◌, arith}
use Rattle.std.specs.Prelude.{slice_index}
use Rattle.law_counts.specs.Counts.{visits}
use Rattle.lab_profile.specs.Charges.{sum_below}
use Rattle.lab_profile.specs.Lines.{saturated}
use Rattle.lab_profile.proofs.Sums.{sum_same}
use Rattle.law_profile.specs.Meant.{linking_of}
use Rattle.law_profile.proofs.laws.lines_are_meant.Goals as goal

pub returns : goal.returns
returns c source sites bytes budget costs sums meant size gathers n l =
    let on : ℕ → ℕ → ℕ = λ k w. cond (eqb (slice_index source.lines k) n) w 0 in
    let there : ℕ → ℕ = λ k. visits (linking_of source sites bytes) k meant.statements in
    gathers n l
    ∙ ap saturated (sum_same _ (λ k. on k (there k)) (length costs) (λ k h. ap (on k) (meant.counts k (omega (arith, h, size)))))
    ∙ ap (λ count. saturated (sum_below (λ k. on k (there k)) count)) size
