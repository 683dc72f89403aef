use Rattle.std.proofs.Common.{◌≡◌, ℕ, suc, ◌-◌, ◌<◌, ◌≤◌, true, List, length, slice_index_or, refl, sym, ◌∙◌, subst, ⊎_elim, arith}
use Rattle.std.proofs.lemmas.Bool.{false≢true, cases_lt}
use Rattle.mx_isa.specs.declared.inst.Inst.{Inst}
use Rattle.mx_depend.specs.Independence.{feeds}
use Rattle.mx_depend.specs.Graphs.{inst_at}
use Rattle.mx_blocks.specs.declared.block.Item.{Item}
use Rattle.mx_blocks.specs.declared.block.Item.TheVariants.{Op}
use Rattle.mx_blocks.specs.Items.{StandsAt}
use Rattle.mx_validate.specs.Validity.{KeepsApart}
use Rattle.mx_validate.proofs.Listed.{stands_at, at_stands, stands_within}
use Rattle.mx_validate.proofs.rules.keeps_apart.Goals as goal

fed : (insts : List Inst) (items : List Item) (p k j : ℕ) (d : Item) → 1 ≤ p → p < length items → KeepsApart insts items → slice_index_or items (p - 1) d ≡ Op k
    → slice_index_or items p d ≡ Op j → feeds (inst_at insts k) (inst_at insts j) ≡ true → ⊥
fed insts items p k j d low l apart e f t =
    let P : ℕ → Type 0 = λ n. StandsAt items n j in
    let same : p ≡ suc (p - 1) = omega arith in
    let second : StandsAt items (suc (p - 1)) j = subst P same (stands_at items p j d l f) in
    false≢true (sym (apart (p - 1) k j (stands_at items (p - 1) k d (omega arith) e) second) ∙ t)

pub returns-then-item_feeds : goal.returns-then-item_feeds
returns-then-item_feeds c = (
  λ t. absurd (false≢true t),
  λ h. let f = c.item_feeds.ensures.feeding c.if-item_feeds.true in
      absurd (fed c.args.insts.now c.args.items.now c.loop-p.p f.0 f.1 _ c.loop-p.auto.p c.loop-p-test.true h f.2 f.3 f.4),
)

pub loop-p-preserved : goal.loop-p-preserved
loop-p-preserved c = λ r k j l s t. ⊎_elim
    (λ below. c.loop-p.invariant r k j below s t)
    (λ above.
    let same : r ≡ c.loop-p.p - 1 = omega arith in
    let next : suc r ≡ c.loop-p.p = omega arith in
    let items = c.args.items.now in
    c.item_feeds.ensures.apart c.if-item_feeds.false k j
    (at_stands items _ k _ (subst (λ (n : ℕ). StandsAt items n k) same s))
    (at_stands items _ j _ (subst (λ (n : ℕ). StandsAt items n j) next t)))
    (cases_lt (suc r) c.loop-p.p)

pub returns : goal.returns
returns c = (
  λ t p k j s u. c.loop-p.invariant p k j (let within = stands_within c.args.items.now (suc p) j u in omega arith) s u,
  λ h. refl,
)
