-- Each instruction has a height.
use Rattle.std.proofs.Common.{◌≡◌, ℕ, zero, suc, ◌+◌, ◌<◌, ◌≤◌, Bool, [], List, length, max, refl, subst, ⊎_elim, arith}
use Rattle.mx_isa.specs.declared.inst.Inst.{Inst}
use Rattle.mx_depend.specs.Graphs.{weight, IsHeight}
use Rattle.mx_depend.proofs.Paths.{IsHeightBelow, with_edge, with_no_edge, whole_height}
use Rattle.mx_depend.proofs.Decided.{edge_decided}

module _ (insts : List Inst) (input : Bool) where
  -- a height, and one as far as first edges below y go
  record Height (x : ℕ) : Type 0 where
    height : ℕ
    is : IsHeight insts input x height

  record HeightBelow (x y : ℕ) : Type 0 where
    height : ℕ
    is : IsHeightBelow insts input x y height

  none_below : (x : ℕ) → HeightBelow x (suc x)
  none_below x = record {
    height = 0;
    is = record {
      path = [];
      leads = tt;
      weighs = refl;
      greatest = λ z other l p. absurd (let later = p.0.later in omega arith);
    };
  }

  one_more : (x y : ℕ) → HeightBelow x y → Height y → HeightBelow x (y + 1)
  one_more x y b q = ⊎_elim
      (λ edge. record {
        height = max b.height (weight insts x y + q.height);
        is =
            with_edge insts input x y b.height q.height (weight insts x y) _ refl refl b.is edge q.is;
      })
      (λ none. record { height = b.height; is = with_no_edge insts input x y b.height b.is none })
      (edge_decided insts input x y)

  -- from the heights of all later instructions
  below : (x n : ℕ) → ((y : ℕ) → x < y → Height y) → HeightBelow x (suc x + n)
  below x zero known = let e : suc x ≡ suc x + 0 = omega arith in subst (HeightBelow x) e (none_below x)
  below x (suc n) known =
      let e : suc x + n + 1 ≡ suc x + suc n = omega arith in
      subst (HeightBelow x) e (one_more x (suc x + n) (below x n known) (known (suc x + n) (omega arith)))

  -- x is among the last n, or past the end
  height_from : (n x : ℕ) → length insts ≤ x + n → Height x
  height_from zero x l = let b = none_below x in record { height = b.height; is = whole_height insts input x (suc x) b.height b.is (omega arith) }
  height_from (suc n) x l =
      let b = below x n (λ y later. height_from n y (omega arith)) in
      record { height = b.height; is = whole_height insts input x (suc x + n) b.height b.is (omega arith) }

  pub height_exists : (x : ℕ) → (h : ℕ) × IsHeight insts input x h
  height_exists x = let q = height_from (length insts) x (omega arith) in (q.height, q.is)
