use Rattle.std.proofs.Common.{◌↔◌, IsTrue, arith, length, ap}
use Rattle.std.proofs.lemmas.Bool.Decides.{nat_tests}
use Rattle.mx_validate.specs.Validity.{EachOnce, KeepsOrder, KeepsApart, EndsWithoutLoad}
use Rattle.mx_plans.specs.Rules.{rank}
use Rattle.mx_plans.proofs.Rules.{along, known_of}
use Rattle.mx_plans.proofs.rule.keeps.Goals as goal

pub returns-in-Once : goal.returns-in-Once
returns-in-Once c = rw c.in-Once.is
    (along (λ insts items. IsTrue c.stands_once.result ↔ EachOnce (length insts) items)
    _ _ _ _ c.as_slice-insts.ensures.value c.as_slice-items.ensures.value c.stands_once.ensures)

pub keeps_order-requires : goal.keeps_order-requires
keeps_order-requires c = let r = ap rank c.in-Order.is in
    known_of _ _ _ _ c.as_slice-insts.ensures.value c.as_slice-items.ensures.value (c.requires (omega arith))

pub returns-in-Order : goal.returns-in-Order
returns-in-Order c = rw c.in-Order.is
    (along (λ insts items. IsTrue c.keeps_order.result ↔ KeepsOrder insts c.args.block.now.input items)
    _ _ _ _ c.as_slice-insts.ensures.value c.as_slice-items.ensures.value c.keeps_order.ensures)

pub keeps_apart-requires : goal.keeps_apart-requires
keeps_apart-requires c = let r = ap rank c.in-Delay.is in
    known_of _ _ _ _ c.as_slice-insts.ensures.value c.as_slice-items.ensures.value (c.requires (omega arith))

pub returns-in-Delay : goal.returns-in-Delay
returns-in-Delay c = rw c.in-Delay.is
    (along (λ insts items. IsTrue c.keeps_apart.result ↔ KeepsApart insts items)
    _ _ _ _ c.as_slice-insts.ensures.value c.as_slice-items.ensures.value c.keeps_apart.ensures)

pub ends_without_load-requires : goal.ends_without_load-requires
ends_without_load-requires c = let r = ap rank c.in-LastLoad.is in
    known_of _ _ _ _ c.as_slice-insts.ensures.value c.as_slice-items.ensures.value (c.requires (omega arith))

pub returns-in-LastLoad : goal.returns-in-LastLoad
returns-in-LastLoad c =
    rw c.in-LastLoad.is (along
    (λ insts items. IsTrue c.ends_without_load.result ↔ EndsWithoutLoad insts items)
    _ _ _ _ c.as_slice-insts.ensures.value c.as_slice-items.ensures.value c.ends_without_load.ensures)

pub returns-in-Room : goal.returns-in-Room
returns-in-Room c = rw c.in-Room.is (let place = c.padded.ensures.padded.place in (λ t. grind (arith, nat_tests), λ r. grind (arith, nat_tests)))
