use Rattle.std.proofs.Common.{sym, ◌∙◌, arith}
use Rattle.std.proofs.lemmas.Bool.{false≢true}
use Rattle.std.proofs.lemmas.Bool.Decides.{nat_tests}
use Rattle.mx_validate.proofs.Listed.{once_below}
use Rattle.mx_validate.proofs.ValidParts.{Lawful, valid_from, lawful_from}
use Rattle.mx_validate.proofs.validity.valid.Goals as goal

pub keeps_order-requires : goal.keeps_order-requires
keeps_order-requires c = once_below _ _ (c.stands_once.ensures.0 c.if-not-stands_once.false)

pub returns-then-not-keeps_order : goal.returns-then-not-keeps_order
returns-then-not-keeps_order c = (
  λ t. absurd (false≢true t),
  λ v. sym c.if-not-keeps_order.true
      ∙ c.keeps_order.ensures.1 (lawful_from c.args.block.now c.args.plan.now _ _ c.as_slice-insts.ensures.value c.as_slice-items.ensures.value v).order,
)

pub keeps_apart-requires : goal.keeps_apart-requires
keeps_apart-requires c = once_below _ _ (c.stands_once.ensures.0 c.if-not-stands_once.false)

pub ends_without_load-requires : goal.ends_without_load-requires
ends_without_load-requires c = once_below _ _ (c.stands_once.ensures.0 c.if-not-stands_once.false)

pub returns : goal.returns
returns c =
    let padded = c.padded.ensures.padded.place in
    let lawful : Lawful c.as_slice-insts.result.now c.args.block.now.input c.as_slice-items.result.now = record {
      once = c.stands_once.ensures.0 c.if-not-stands_once.false;
      order = c.keeps_order.ensures.0 c.if-not-keeps_order.false;
      apart = c.keeps_apart.ensures.0 c.if-not-keeps_apart.false;
      last = c.ends_without_load.ensures.0 c.if-not-ends_without_load.false;
    } in (
      λ t. valid_from c.args.block.now c.args.plan.now _ _ c.as_slice-insts.ensures.value c.as_slice-items.ensures.value lawful
          (c.has_end.ensures.0 c.if-not-has_end.false) (grind (arith, nat_tests)),
      λ v. (let room = v.room in grind (arith, nat_tests)),
    )
