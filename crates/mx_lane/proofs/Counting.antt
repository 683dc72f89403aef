-- Turns that are counted later.
use Rattle.std.proofs.Common.{arith, ◌≡◌, ◌≤◌, ◌+◌, ◌-◌, ℕ, false}
use Rattle.mx_turn.specs.Counted.{Counted, after_turn}
use Rattle.mx_lane.specs.declared.queue.Queue.{Queue}
use Rattle.mx_lane.specs.Lanes.{after_turns, caught_up}

-- a turn whose fetch is resident and that cancels nothing
pub one_more : (left mark : ℕ) (c : Counted) → left ≤ mark → 1 ≤ left
    → after_turns (mark - (left - 1)) c ≡ after_turn false false false (after_turns (mark - left) c)
one_more left mark c within some =
    let cycles : c.cycles + (mark - (left - 1)) ≡ (c.cycles + (mark - left)) + 1 = omega (arith, within, some) in
    let fetches : c.fetches + (mark - (left - 1)) ≡ (c.fetches + (mark - left)) + 1 = omega (arith, within, some) in
    let misses : c.misses ≡ c.misses + 0 = omega arith in
    let squashes : c.squashes ≡ c.squashes + 0 = omega arith in
    let interrupts : c.interrupts ≡ c.interrupts + 0 = omega arith in
    λ k. record { cycles = cycles k; fetches = fetches k; misses = misses k; squashes = squashes k; interrupts = interrupts k }

-- nothing is left to be counted
pub at_first : (q : Queue) (most : ℕ) → q.mark ≡ most → caught_up most q ≡ q
at_first q most is =
    let cycles : q.counts.cycles + (q.mark - most) ≡ q.counts.cycles = omega (arith, is) in
    let fetches : q.counts.fetches + (q.mark - most) ≡ q.counts.fetches = omega (arith, is) in
    λ k. record q { counts = record q.counts { cycles = cycles k; fetches = fetches k } }
