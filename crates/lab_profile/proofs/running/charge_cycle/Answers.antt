use Rattle.std.proofs.Common.{◌≡◌, ◌+◌, ◌-◌, ◌*◌, ◌^◌, ◌≤◌, suc, ◌++◌, ◌∷◌, [], Bool, true, false, ap, ◌∙◌, subst, arith}
use Rattle.std.specs.Prelude.{cond, eqb, ltb, ◌&&◌}
use Rattle.mx_turn.specs.Counted.{one}
use Rattle.mx_turn.specs.Program.{answer_after}
use Rattle.mx_turn.specs.Run.{bits}
use Rattle.mx_report.proofs.Runs.{cycled_at}
use Rattle.lab_profile.specs.Charges.{before, place_in, is_live, is_squashed, waiting, squasher, counts_cycle}
use Rattle.lab_profile.proofs.Counted.{told_by}
use Rattle.lab_profile.proofs.Charged.{fetches_more, cycles_more, executed_more, cancelled_more, squashes_more, penalty_more, nothing_more, below_more, added_below}
use Rattle.lab_profile.proofs.running.charge_cycle.Goals as goal

pub returns-then-cycled-clause-tally : goal.returns-then-cycled-clause-tally
returns-then-cycled-clause-tally g c = λ p reqs comes s going t w x.
    let i = c.args.cycle in
    let answered : c.cycle-cycled.result ≡ cycled_at p reqs i =
    c.cycle-cycled.ensures.answer p (bits reqs i) s ∙ ap (answer_after p (bits reqs i)) comes in
    let told = told_by p reqs i _ true answered c.if-cycled.true going in
    nothing_more p reqs c.args.words i c.args.progress.now.tally told.fetch told.squash t

pub returns-then-cycled-clause-still_waiting : goal.returns-then-cycled-clause-still_waiting
returns-then-cycled-clause-still_waiting g c = λ p reqs comes s going w.
    let i = c.args.cycle in
    let answered : c.cycle-cycled.result ≡ cycled_at p reqs i =
    c.cycle-cycled.ensures.answer p (bits reqs i) s ∙ ap (answer_after p (bits reqs i)) comes in
    let told = told_by p reqs i _ true answered c.if-cycled.true going in
    λ j. cond (told.fetch j) 0 (w j + one (told.cycle j))

pub returns-then-cycled-clause-last_squasher : goal.returns-then-cycled-clause-last_squasher
returns-then-cycled-clause-last_squasher g c = λ p reqs comes s going x.
    let i = c.args.cycle in
    let answered : c.cycle-cycled.result ≡ cycled_at p reqs i =
    c.cycle-cycled.ensures.answer p (bits reqs i) s ∙ ap (answer_after p (bits reqs i)) comes in
    let told = told_by p reqs i _ true answered c.if-cycled.true going in
    λ j. cond (told.squash j) (place_in c.args.words (before p reqs c.args.words (suc i)).shown.alu) (x j)

pub charge-requires-clause-small : goal.charge-requires-clause-small
charge-requires-clause-small g c = let last = c.requires.last in
    below_more (c.args.cycle * 2 ^ 32) (2 ^ 64 - 2 ^ 33) c.args.progress.now.tally (omega arith) c.requires.small

pub returns-clause-small : goal.returns-clause-small
returns-clause-small g c =
    let a = c.args.cycle * 2 ^ 32 in
    let wait = c.requires.waiting in
    let last = c.requires.last in
    let squashed = c.squashed_between-squashed.result in
    let shown = c.latches-shown.result in
    let words = c.args.words in
    let old = c.args.progress.now.tally in
    let took : c.args.progress.now.waiting + 1 ≤ 2 ^ 32 = omega arith in
    record {
      fetches = λ k. (let h =
          added_below a (2 ^ 32) old.fetches.items _ (λ j. eqb (place_in words shown.fetch) j) 1
          (omega arith) c.requires.small.fetches c.charge.ensures.fetches k in omega arith);
      cycles = λ k. (let h =
          added_below a (2 ^ 32) old.cycles.items _
          (λ j. eqb (place_in words shown.fetch) j) _ took c.requires.small.cycles c.charge.ensures.cycles k in omega arith);
      executed = λ k. (let h =
          added_below a (2 ^ 32) old.executed.items _ (λ j. is_live shown.mem && eqb (place_in words shown.mem) j) 1
          (omega arith) c.requires.small.executed c.charge.ensures.executed k in omega arith);
      cancelled = λ k. (let h =
          added_below a (2 ^ 32) old.cancelled.items _ (λ j. is_squashed shown.mem && eqb (place_in words shown.mem) j) 1
          (omega arith) c.requires.small.cancelled c.charge.ensures.cancelled k in omega arith);
      squashes = λ k. (let h =
          added_below a (2 ^ 32) old.squashes.items _ (λ j. squashed && eqb (place_in words shown.alu) j) 1
          (omega arith) c.requires.small.squashes c.charge.ensures.squashes k in omega arith);
      penalty = λ k. (let h =
          added_below a (2 ^ 32) old.penalty.items _ (λ j. is_squashed shown.mem && eqb c.args.progress.now.squasher j) 1
          (omega arith) c.requires.small.penalty c.charge.ensures.penalty k in omega arith);
    }

pub returns-clause-tally : goal.returns-clause-tally
returns-clause-tally g c = λ p reqs comes s going t w x.
    let i = c.args.cycle in
    let words = c.args.words in
    let later = subst (λ (r : Bool). g.M.Machine.stands c.cycle-cycled.new.self p (bits reqs i ++ r ∷ [])) comes
    (c.cycle-cycled.ensures.next p (bits reqs i) s) in
    let shown = c.latches-shown.ensures p (bits reqs (suc i)) later in
    let b = c.counts-before.ensures.counts p (bits reqs i) s in
    let a = c.counts.ensures.counts p (bits reqs (suc i)) later in
    let squash = c.squashed_between-squashed.ensures ∙ (λ j. ltb (b j).squashes (a j).squashes) in
    let answered : c.cycle-cycled.result ≡ cycled_at p reqs i =
    c.cycle-cycled.ensures.answer p (bits reqs i) s ∙ ap (answer_after p (bits reqs i)) comes in
    let told = told_by p reqs i _ false answered c.if-cycled.false going in
    record {
      fetches = fetches_more p reqs words i _ shown _ _ true told.fetch c.charge.ensures.fetches t.fetches;
      cycles = cycles_more p reqs words i _ shown _ _ true told.fetch c.args.progress.now.waiting true w told.cycle c.charge.ensures.cycles t.cycles;
      executed = executed_more p reqs words i _ shown _ _ true told.fetch c.charge.ensures.executed t.executed;
      cancelled = cancelled_more p reqs words i _ shown _ _ true told.fetch c.charge.ensures.cancelled t.cancelled;
      squashes = squashes_more p reqs words i _ shown _ _ _ squash c.charge.ensures.squashes t.squashes;
      penalty = penalty_more p reqs words i _ shown _ _ true told.fetch c.args.progress.now.squasher x c.charge.ensures.penalty t.penalty;
    }

pub returns-clause-still_waiting : goal.returns-clause-still_waiting
returns-clause-still_waiting g c = λ p reqs comes s going w.
    let i = c.args.cycle in
    let answered : c.cycle-cycled.result ≡ cycled_at p reqs i =
    c.cycle-cycled.ensures.answer p (bits reqs i) s ∙ ap (answer_after p (bits reqs i)) comes in
    let told = told_by p reqs i _ false answered c.if-cycled.false going in
    let words = c.args.words in
    λ j. cond (told.fetch j) 0 (waiting p reqs words i + one (counts_cycle p reqs words i))

pub returns-clause-last_squasher : goal.returns-clause-last_squasher
returns-clause-last_squasher g c = λ p reqs comes s going x.
    let i = c.args.cycle in
    let words = c.args.words in
    let later = subst (λ (r : Bool). g.M.Machine.stands c.cycle-cycled.new.self p (bits reqs i ++ r ∷ [])) comes
    (c.cycle-cycled.ensures.next p (bits reqs i) s) in
    let shown = c.latches-shown.ensures p (bits reqs (suc i)) later in
    let b = c.counts-before.ensures.counts p (bits reqs i) s in
    let a = c.counts.ensures.counts p (bits reqs (suc i)) later in
    let squash = c.squashed_between-squashed.ensures ∙ (λ j. ltb (b j).squashes (a j).squashes) in
    c.squasher_after-progress.ensures.place ∙ (λ j. cond (squash j) (place_in words (shown j).alu) (x j))
