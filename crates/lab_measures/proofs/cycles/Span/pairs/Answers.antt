use Rattle.std.proofs.Common.{◌≡◌, ◌<◌, ◌≤◌, ◌+◌, ◌-◌, ◌*◌, ◌/◌, ◌^◌, ℕ, ap, ◌∙◌, arith}
use Rattle.std.proofs.lemmas.Nat.{mul-le}
use Rattle.lab_measures.specs.Spans.{pairs_of}
use Rattle.lab_measures.proofs.cycles.Span.pairs.Goals as goal

pub returns : goal.returns
returns c = λ h.
    let n : ℕ = c.count-count.result in
    let few : n ≤ 2 ^ 32 = c.count-count.ensures.within in
    let fits : n * (n - 1) ≤ 2 ^ 32 * (2 ^ 32 - 1) = mul-le n (n - 1) (2 ^ 32) (2 ^ 32 - 1) few (omega arith) in
    let less : c.saturating_sub.result ≡ n - 1 = c.saturating_sub.ensures in
    let product : n * c.saturating_sub.result ≡ n * (n - 1) = ap (λ k. n * k) less in
    let whole : c.saturating_mul.result ≡ n * (n - 1) = omega (arith, c.saturating_mul.ensures) in
    ap (λ k. k / 2) whole ∙ ap pairs_of (c.count-count.ensures.count h)
