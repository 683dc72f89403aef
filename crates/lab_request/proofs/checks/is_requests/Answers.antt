use Rattle.std.proofs.Common.{◌≡◌, ◌∙◌, ◌≤◌, ◌<◌, length, nat_le, ap, map, arith}
use Rattle.serde_json.specs.View.{view}
use Rattle.lab_request.specs.Fields.{are_cycles}
use Rattle.lab_request.proofs.Views.{few_requests, many_requests}
use Rattle.lab_request.proofs.checks.is_requests.Goals as goal

pub returns-then-len-le-MOST_REQUESTS : goal.returns-then-len-le-MOST_REQUESTS
returns-then-len-le-MOST_REQUESTS c =
    let few : length c.in-Some.items.now.items ≤ 65536 = omega arith in
    c.are_cycles.ensures ∙ ap (λ vs. are_cycles 0 (map view vs)) c.as_slice.ensures.value ∙ few_requests c.in-Some.items.now.items _ c.in-Some.ensures few

pub returns-else-len-le-MOST_REQUESTS : goal.returns-else-len-le-MOST_REQUESTS
returns-else-len-le-MOST_REQUESTS c =
    let many : 65536 < length c.in-Some.items.now.items = omega arith in
    let same : c.len.result ≡ length c.in-Some.items.now.items = omega arith in
    ap (λ n. nat_le n 65536) same ∙ many_requests c.in-Some.items.now.items _ c.in-Some.ensures many
