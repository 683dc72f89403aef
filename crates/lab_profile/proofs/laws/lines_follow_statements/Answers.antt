use Rattle.std.proofs.Common.{cond, eqb, length, ap, ◌∙◌}
use Rattle.std.specs.Prelude.{slice_index}
use Rattle.lab_profile.specs.Lines.{saturated}
use Rattle.lab_profile.proofs.Sums.{sum_same}
use Rattle.lab_profile.proofs.laws.lines_follow_statements.Goals as goal

pub returns : goal.returns
returns c lines costs sums f counts told n l =
    counts n l ∙ ap saturated
    (sum_same _ (λ k. cond (eqb (slice_index lines k) n) (f k) 0) (length costs) (λ k m. ap (λ w. cond (eqb (slice_index lines k) n) w 0) (told k m)))
