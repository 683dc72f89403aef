use Rattle.std.proofs.Common.{◌≡◌, ℕ, refl, sym, ◌∙◌, subst, ⊎_elim, arith}
use Rattle.std.proofs.lemmas.Bool.{false≢true, cases_lt}
use Rattle.mx_blocks.specs.Items.{StandsAt}
use Rattle.mx_validate.proofs.Listed.{stands_at, at_stands, stands_within}
use Rattle.mx_validate.proofs.rules.may_stand_before_rest.Goals as goal

pub returns-then-not-may_stand_before : goal.returns-then-not-may_stand_before
returns-then-not-may_stand_before c = (
  λ t. absurd (false≢true t),
  λ h.
      let items = c.args.items.now in
      sym c.if-not-may_stand_before.true ∙ c.may_stand_before.ensures.1
      (λ k j e f l. h c.loop-q.q k j (stands_at items _ k _ c.requires.within e) (stands_at items _ j _ c.loop-q-test.true f) (let low = c.loop-q.auto.q in
      omega arith) l),
)

pub loop-q-preserved : goal.loop-q-preserved
loop-q-preserved c = λ r k j l s t b m. ⊎_elim
    (λ below. c.loop-q.invariant r k j below s t b m)
    (λ above.
    let items = c.args.items.now in
    let same : r ≡ c.loop-q.q = omega arith in
    c.may_stand_before.ensures.0 c.if-not-may_stand_before.false k j
    (at_stands items _ k _ s) (at_stands items _ j _ (subst (λ (n : ℕ). StandsAt items n j) same t)) m)
    (cases_lt r c.loop-q.q)

pub returns : goal.returns
returns c = (
  λ t q k j s u l m. c.loop-q.invariant q k j (let within = stands_within c.args.items.now q j u in omega arith) s u l m,
  λ h. refl,
)
