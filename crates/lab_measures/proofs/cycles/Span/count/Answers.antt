use Rattle.std.proofs.Common.{◌≡◌, ◌<◌, ◌≤◌, ◌+◌, ◌-◌, ◌/◌, ℕ, suc, ap, ◌∙◌, arith}
use Rattle.std.specs.Prelude.{length, Option, Some, None, SomeIff, unwrap_or}
use Rattle.lab_measures.specs.Spans.{cycles_among}
use Rattle.lab_measures.proofs.Counts.{length_among}
use Rattle.lab_measures.proofs.cycles.Span.count.Goals as goal

divided : (o : Option ℕ) (s q : ℕ) → 0 < s → SomeIff o (0 < s) q → unwrap_or o 0 ≡ q
divided None s q h not_so = absurd (not_so h)
divided (Some x) s q h is = is.1

pub returns-clause-count : goal.returns-clause-count
returns-clause-count c = λ h.
    let span = c.args.self in
    let q : c.unwrap_or-behind.result ≡ (span.to - span.from) / span.step =
    c.unwrap_or-behind.ensures ∙ divided c.checked_div.result span.step ((span.to - span.from) / span.step) h c.checked_div.ensures in
    let n : length (cycles_among span (suc (span.to - span.from))) ≡ (span.to - span.from) / span.step + 1 = length_among span (span.to - span.from) h in
    let apart : suc (span.to - span.from) ≡ span.to + 1 - span.from = omega arith in
    let same : length (cycles_among span (suc (span.to - span.from))) ≡ length (cycles_among span (span.to + 1 - span.from)) =
    ap (λ k. length (cycles_among span k)) apart in
    omega arith
