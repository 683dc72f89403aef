-- Paths of a dependence graph, as far as the greatest weight has been sought.
use Rattle.std.proofs.Common.{◌≡◌, ℕ, ◌+◌, ◌*◌, ◌<◌, ◌≤◌, Bool, List, [], ◌∷◌, length, max, sym, subst, ⊎_elim, arith}
use Rattle.std.proofs.lemmas.Bool.{cases_lt}
use Rattle.std.proofs.lemmas.Bool.Decides.{nat_tests}
use Rattle.mx_isa.specs.declared.inst.Inst.{Inst}
use Rattle.mx_depend.specs.Graphs.{IsEdge, IsPath, weight, path_weight, IsHeight}

-- h is the greatest weight of a path from x whose first edge leads below y
pub record IsHeightBelow (insts : List Inst) (input : Bool) (x y h : ℕ) : Type 0 where
  pub path : List ℕ
  pub leads : IsPath insts input x path
  pub weighs : path_weight insts x path ≡ h
  pub greatest : (z : ℕ) (other : List ℕ) → z < y → IsPath insts input x (z ∷ other) → path_weight insts x (z ∷ other) ≤ h

pub weight_small : (insts : List Inst) (x y : ℕ) → weight insts x y ≤ 2
weight_small insts x y = grind (arith, nat_tests)

-- a path weighs at most two for each later instruction
pub path_small : (insts : List Inst) (input : Bool) (x : ℕ) (path : List ℕ) → x < length insts → IsPath insts input x path
    → path_weight insts x path + 2 * (x + 1) ≤ 2 * length insts
path_small insts input x [] l p = omega arith
path_small insts input x (y ∷ path) l p =
    let later = p.0.later in
    let within = p.0.within in
    let rest = path_small insts input y path within p.1 in
    let one = weight_small insts x y in
    omega arith

pub height_small : (insts : List Inst) (input : Bool) (x h : ℕ) → x < length insts → IsHeight insts input x h → h + 2 * (x + 1) ≤ 2 * length insts
height_small insts input x h l q =
    let p = path_small insts input x q.path l q.leads in
    let e = q.weighs in
    omega arith

-- a path whose first edge leads to y weighs no more than that edge and the height of y
through : (insts : List Inst) (input : Bool) (x y h z : ℕ) (other : List ℕ) → IsHeight insts input y h → z ≡ y → IsPath insts input x (z ∷ other)
    → path_weight insts x (z ∷ other) ≤ weight insts x y + h
through insts input x y h z other q e =
    let P : ℕ → Type 0 = λ n. IsPath insts input x (n ∷ other) → path_weight insts x (n ∷ other) ≤ weight insts x y + h in
    subst P (sym e) (λ p. omega (arith, q.greatest other p.1))

pub with_edge : (insts : List Inst) (input : Bool) (x y best h w r : ℕ) → w ≡ weight insts x y → r ≡ max best (w + h) → IsHeightBelow insts input x y best
    → IsEdge insts input x y → IsHeight insts input y h → IsHeightBelow insts input x (y + 1) r
with_edge insts input x y best h w r we re b e q = ⊎_elim
    (λ less. record {
      path = y ∷ q.path;
      leads = (e, q.leads);
      weighs = omega (arith, q.weighs);
      greatest = λ z other l p. covered z other l p;
    })
    (λ more. record {
      path = b.path;
      leads = b.leads;
      weighs = omega (arith, b.weighs);
      greatest = λ z other l p. covered z other l p;
    })
    (cases_lt best (weight insts x y + h))
  where
    covered : (z : ℕ) (other : List ℕ) → z < y + 1 → IsPath insts input x (z ∷ other) → path_weight insts x (z ∷ other) ≤ r
    covered z other l p = ⊎_elim
        (λ below. omega (arith, b.greatest z other below p))
        (λ above. let same : z ≡ y = omega arith in omega (arith, through insts input x y h z other q same p))
        (cases_lt z y)

pub with_no_edge : (insts : List Inst) (input : Bool) (x y best : ℕ) → IsHeightBelow insts input x y best → (¬ IsEdge insts input x y)
    → IsHeightBelow insts input x (y + 1) best
with_no_edge insts input x y best b none = record {
  path = b.path;
  leads = b.leads;
  weighs = b.weighs;
  greatest = λ z other l p. ⊎_elim
      (λ below. b.greatest z other below p)
      (λ above. let same : z ≡ y = omega arith in absurd (none (subst (λ (n : ℕ). IsEdge insts input x n) same p.0)))
      (cases_lt z y);
}

pub whole_height : (insts : List Inst) (input : Bool) (x y best : ℕ) → IsHeightBelow insts input x y best → length insts ≤ y → IsHeight insts input x best
whole_height insts input x y best b all = record { path = b.path; leads = b.leads; weighs = b.weighs; greatest = bounded }
  where
    bounded : (other : List ℕ) → IsPath insts input x other → path_weight insts x other ≤ best
    bounded [] p = omega arith
    bounded (z ∷ other) p = let within = p.0.within in b.greatest z other (omega arith) p
