use Rattle.std.proofs.Common.{length, ap, arith}
use Rattle.mx_asm.specs.declared.Position.{Position}
use Rattle.mx_module.proofs.module.Module.read.Goals as goal

pub returns-clause-index : goal.returns-clause-index
returns-clause-index c =
    let few = c.in_ok-parts.ensures.few in
    let lines = ap length c.deref.ensures.value in
    let index = c.in_ok-defined.ensures.index in
    let next = ap (λ (p : Position). p.index) c.next_start-next.ensures in
    omega (arith, few, lines, index, next)

pub returns-clause-address : goal.returns-clause-address
returns-clause-address c =
    let address = c.in_ok-defined.ensures.address in
    let next = ap (λ (p : Position). p.address) c.next_start-next.ensures in
    omega (arith, address, next)
