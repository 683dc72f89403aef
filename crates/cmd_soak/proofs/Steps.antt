-- How many steps a run takes.
use Rattle.std.proofs.Common.{◌≡◌, ℕ, zero, suc, ◌≤◌, ◌<◌, [], sym, ap, ◌∙◌, arith}
use Rattle.mx_source.specs.SourceValue.{SourceValue}
use Rattle.mx_source.specs.Meaning.{Program, Mark, Going, Halted, Stuck, Run, run_step, run_for, program, start, HaltsIn}
use Rattle.cmd_meaning.specs.Told.{went, steps_in}
use Rattle.mx_isa.specs.Board.{board}
use Rattle.cmd_meaning.proofs.Walks.{next_steps, steps_still}
use Rattle.cmd_soak.specs.Soak.{steps_within}

went_once : (before after : Mark) → went before after ≤ 1
went_once Going Going = omega arith
went_once Going Halted = omega arith
went_once Going (Stuck why) = omega arith
went_once Halted after = omega arith
went_once (Stuck why) after = omega arith

pub few_steps : (p : Program) (n : ℕ) (r : Run) → steps_in p n r ≤ n
few_steps p zero r = omega arith
few_steps p (suc n) r =
    let one = went_once r.state.mark (run_step p r).state.mark in
    let others = few_steps p n (run_step p r) in
    let all = next_steps p n r in
    omega arith

-- the run from here halts with step n, and goes on until then
record HaltsFrom (p : Program) (r : Run) (n : ℕ) : Type 0 where
  halted : (run_for p n r).state.mark ≡ Halted
  first : (m : ℕ) → m < n → (run_for p m r).state.mark ≡ Going

-- a step after which a run goes on or has halted counts
counts_once : (p : Program) (n : ℕ) (r : Run) → HaltsFrom p r n → went Going r.state.mark ≡ 1
counts_once p zero r h = ap (went Going) h.halted
counts_once p (suc n) r h = ap (went Going) (h.first 0 (omega arith))

steps_to_halt : (p : Program) (n : ℕ) (r : Run) (most : ℕ) → HaltsFrom p r n → n ≤ most → steps_in p most r ≡ n
steps_to_halt p zero r most h l = steps_still p most r (λ going. (let e : Halted ≡ Going = sym h.halted ∙ going in cc))
steps_to_halt p (suc n) r zero h l = absurd (omega arith)
steps_to_halt p (suc n) r (suc most) h l =
    let next : HaltsFrom p (run_step p r) n = record { halted = h.halted; first = λ m k. h.first (suc m) (omega arith) } in
    let one : went r.state.mark (run_step p r).state.mark ≡ 1 =
    ap (λ m. went m (run_step p r).state.mark) (h.first 0 (omega arith)) ∙ counts_once p n (run_step p r) next in
    let others = steps_to_halt p n (run_step p r) most next (omega arith) in
    let all = next_steps p most r in
    omega arith

pub steps_within-halts : (source : SourceValue) (n most : ℕ) → HaltsIn source board [] n → n ≤ most → steps_within source most ≡ n
unfolding steps_within
steps_within-halts source n most h l =
    steps_to_halt (program source board []) n (record { state = start source board; console = [] }) most (record { halted = h.halted; first = h.first }) l
