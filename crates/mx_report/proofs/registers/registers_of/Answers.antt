use Rattle.std.proofs.Common.{◌<◌, ◌≢◌, ℕ, ◌∙◌, length, map, sym, arith, get_or-set_other, get_or-set_same, below_more}
use Rattle.std.specs.List.{range_with_len}
use Rattle.std.proofs.lemmas.List.{length-set}
use Rattle.std.proofs.lemmas.List.FromFn.{length-map-range_with_len, get_or-map-range_with_len}
use Rattle.std.proofs.lemmas.Grind.{same_number_lists}
use Rattle.mx_isa.specs.Words.{reg}
use Rattle.mx_turn.specs.Program.{state_after}
use Rattle.mx_report.proofs.registers.registers_of.Goals as goal

pub loop-n-preserved : goal.loop-n-preserved
loop-n-preserved g c = record {
  many = length-set c.loop-n.registers c.loop-n.n c.register_at.result ∙ c.loop-n.invariant.many;
  read = λ p h s.
      let lt : c.loop-n.n < length c.loop-n.registers = omega arith in
      below_more _ _
      (λ k lt. let ne : k ≢ c.loop-n.n = omega arith in rw get_or-set_other (c.loop-n.invariant.read p h s k lt))
      (rw get_or-set_same (c.register_at.ensures p h s));
}

pub returns-clause-all : goal.returns-clause-all
returns-clause-all g c = λ p h s.
    let f : ℕ → ℕ = reg (state_after p h).core.regs in
    same_number_lists c.loop-n.registers (map f (range_with_len 0 32)) (c.loop-n.invariant.many ∙ sym (length-map-range_with_len f 0 32))
    (λ k less. c.loop-n.invariant.read p h s k (omega arith) ∙ sym (get_or-map-range_with_len f 0 32 k k 0 (omega arith) (omega arith)))
