use Rattle.std.proofs.Common.{◌≡◌, ℕ, refl, sym, ◌∙◌, subst, ⊎_elim, arith}
use Rattle.std.proofs.lemmas.Bool.{false≢true, cases_lt}
use Rattle.mx_blocks.specs.Items.{StandsAt}
use Rattle.mx_validate.proofs.Listed.{stands_within}
use Rattle.mx_validate.proofs.rules.keeps_order.Goals as goal

pub returns-then-not-may_stand_before_rest : goal.returns-then-not-may_stand_before_rest
returns-then-not-may_stand_before_rest c = (
  λ t. absurd (false≢true t),
  λ h. sym c.if-not-may_stand_before_rest.true ∙ c.may_stand_before_rest.ensures.1 (λ q k j s u l m. h c.loop-p.p q k j s u l m),
)

pub loop-p-preserved : goal.loop-p-preserved
loop-p-preserved c = λ r q k j l s u b m. ⊎_elim
    (λ below. c.loop-p.invariant r q k j below s u b m)
    (λ above.
    let same : r ≡ c.loop-p.p = omega arith in
    c.may_stand_before_rest.ensures.0 c.if-not-may_stand_before_rest.false q k j
    (subst (λ (n : ℕ). StandsAt c.args.items.now n k) same s) u (omega arith) m)
    (cases_lt r c.loop-p.p)

pub returns : goal.returns
returns c = (
  λ t p q k j s u l m. c.loop-p.invariant p q k j (let within = stands_within c.args.items.now p k s in omega arith) s u l m,
  λ h. refl,
)
