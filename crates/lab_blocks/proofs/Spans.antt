-- Paths of a block's graph, as far as the greatest span has been sought.
use Rattle.std.proofs.Common.{◌≡◌, ℕ, ◌+◌, ◌*◌, ◌<◌, ◌≤◌, List, [], ◌∷◌, max, refl, sym, subst, ⊎_elim, arith}
use Rattle.std.proofs.lemmas.Bool.{cases_lt}
use Rattle.std.proofs.lemmas.Bool.Decides.{nat_tests}
use Rattle.mx_depend.specs.Graphs.{IsEdge, IsPath, weight}
use Rattle.mx_depend.proofs.Paths.{weight_small}
use Rattle.mx_blocks.specs.declared.block.Block.{Block}
use Rattle.mx_blocks.specs.declared.block.End.{End}
use Rattle.mx_blocks.specs.declared.block.End.TheVariants.{Falls, Halts, Branches, Calls, Jumps}
use Rattle.mx_blocks.specs.Leaders.{size}
use Rattle.mx_validate.specs.Padded.{insts_of}
use Rattle.mx_validate.specs.Validity.{end_count}
use Rattle.lab_blocks.specs.Bounds.{is_terminator, least_rest, span, IsSpan, Bounds, IsLowerBound}

-- s is the greatest span of x alone and of the paths from x whose first edge leads below y
pub record IsSpanBelow (block : Block) (x y s : ℕ) : Type 0 where
  pub path : List ℕ
  pub leads : IsPath (insts_of block) block.input x path
  pub spans : span block x path ≡ s
  pub alone : least_rest block x ≤ s
  pub greatest : (z : ℕ) (other : List ℕ) → z < y → IsPath (insts_of block) block.input x (z ∷ other) → span block x (z ∷ other) ≤ s

end_small : (end : End) → end_count end ≤ 3
end_small Falls = omega arith
end_small Halts = omega arith
end_small (Branches target) = omega arith
end_small (Calls target) = omega arith
end_small Jumps = omega arith

pub rest_small : (block : Block) (x : ℕ) → least_rest block x ≤ 3
rest_small block x = let end = end_small block.end in grind (arith, nat_tests)

-- a path spans at most two for each later instruction, and three
pub span_small : (block : Block) (x : ℕ) (path : List ℕ) → x < size block → IsPath (insts_of block) block.input x path
    → span block x path + 2 * (x + 1) ≤ 2 * size block + 3
span_small block x [] l p = let rest = rest_small block x in omega arith
span_small block x (y ∷ path) l p =
    let later = p.0.later in
    let within = p.0.within in
    let rest = span_small block y path within p.1 in
    let one = weight_small (insts_of block) x y in
    omega arith

pub greatest_small : (block : Block) (x s : ℕ) → x < size block → IsSpan block x s → s + 2 * (x + 1) ≤ 2 * size block + 3
greatest_small block x s l q =
    let p = span_small block x q.path l q.leads in
    let e = q.spans in
    omega arith

-- before any edge is followed
pub begun : (block : Block) (x s : ℕ) → s ≡ least_rest block x → IsSpanBelow block x (x + 1) s
begun block x s e = record {
  path = [];
  leads = tt;
  spans = sym e;
  alone = omega (arith, e);
  greatest = λ z other l p. absurd (let later = p.0.later in omega arith);
}

-- a path whose first edge leads to y spans no more than that edge and the span of y
through : (block : Block) (x y s z : ℕ) (other : List ℕ) → IsSpan block y s → z ≡ y → IsPath (insts_of block) block.input x (z ∷ other)
    → span block x (z ∷ other) ≤ weight (insts_of block) x y + s
through block x y s z other q e =
    let P : ℕ → Type 0 = λ n. IsPath (insts_of block) block.input x (n ∷ other) → span block x (n ∷ other) ≤ weight (insts_of block) x y + s in
    subst P (sym e) (λ p. omega (arith, q.greatest other p.1))

pub with_edge : (block : Block) (x y best s w r : ℕ) → w ≡ weight (insts_of block) x y → r ≡ max best (w + s) → IsSpanBelow block x y best
    → IsEdge (insts_of block) block.input x y → IsSpan block y s → IsSpanBelow block x (y + 1) r
with_edge block x y best s w r we re b e q = ⊎_elim
    (λ less. record {
      path = y ∷ q.path;
      leads = (e, q.leads);
      spans = omega (arith, q.spans);
      alone = omega (arith, b.alone);
      greatest = λ z other l p. covered z other l p;
    })
    (λ more. record {
      path = b.path;
      leads = b.leads;
      spans = omega (arith, b.spans);
      alone = omega (arith, b.alone);
      greatest = λ z other l p. covered z other l p;
    })
    (cases_lt best (weight (insts_of block) x y + s))
  where
    covered : (z : ℕ) (other : List ℕ) → z < y + 1 → IsPath (insts_of block) block.input x (z ∷ other) → span block x (z ∷ other) ≤ r
    covered z other l p = ⊎_elim
        (λ below. omega (arith, b.greatest z other below p))
        (λ above. let same : z ≡ y = omega arith in omega (arith, through block x y s z other q same p))
        (cases_lt z y)

pub with_no_edge : (block : Block) (x y best : ℕ) → IsSpanBelow block x y best → (¬ IsEdge (insts_of block) block.input x y)
    → IsSpanBelow block x (y + 1) best
with_no_edge block x y best b none = record {
  path = b.path;
  leads = b.leads;
  spans = b.spans;
  alone = b.alone;
  greatest = λ z other l p. ⊎_elim
      (λ below. b.greatest z other below p)
      (λ above. let same : z ≡ y = omega arith in absurd (none (subst (λ (n : ℕ). IsEdge (insts_of block) block.input x n) same p.0)))
      (cases_lt z y);
}

pub whole_span : (block : Block) (x y best : ℕ) → IsSpanBelow block x y best → size block ≤ y → IsSpan block x best
whole_span block x y best b all = record { path = b.path; leads = b.leads; spans = b.spans; greatest = bounded }
  where
    bounded : (other : List ℕ) → IsPath (insts_of block) block.input x other → span block x other ≤ best
    bounded [] p = b.alone
    bounded (z ∷ other) p = let within = p.0.within in b.greatest z other (omega arith) p

-- n is the maximum of the number of instructions and of the spans from instructions below y
pub record IsBoundBelow (block : Block) (y n : ℕ) : Type 0 where
  pub count : size block ≤ n
  pub paths : (x : ℕ) (path : List ℕ) → x < y → IsPath (insts_of block) block.input x path → span block x path ≤ n
  pub least : (m : ℕ) → Bounds block m → n ≤ m

pub count_alone : (block : Block) (n : ℕ) → n ≡ size block → IsBoundBelow block 0 n
count_alone block n e = record {
  count = omega (arith, e);
  paths = λ x path l p. absurd (omega arith);
  least = λ m b. omega (arith, b.count, e);
}

pub with_span : (block : Block) (y n s r : ℕ) → y < size block → r ≡ max n s → IsBoundBelow block y n → IsSpan block y s → IsBoundBelow block (y + 1) r
with_span block y n s r within e b q = record {
  count = omega (arith, b.count);
  paths = λ x path l p. ⊎_elim
      (λ below. omega (arith, b.paths x path below p))
      (λ above. let same : x ≡ y = omega arith in at_last x path same p)
      (cases_lt x y);
  least = λ m bounds. omega (arith, b.least m bounds, q.spans, bounds.paths y q.path within q.leads);
}
  where
    at_last : (x : ℕ) (path : List ℕ) → x ≡ y → IsPath (insts_of block) block.input x path → span block x path ≤ r
    at_last x path same =
        let P : ℕ → Type 0 = λ k. IsPath (insts_of block) block.input k path → span block k path ≤ r in
        subst P (sym same) (λ p. omega (arith, q.greatest path p))

pub whole_bound : (block : Block) (y n : ℕ) → size block ≤ y → IsBoundBelow block y n → IsLowerBound block n
whole_bound block y n all b = record {
  bounds = record { count = b.count; paths = λ x path l p. b.paths x path (omega arith) p };
  least = b.least;
}
