-- How many items of a plan are a statement: one, where it is a statement of the block, since each stands once (`weight_once`), as
-- many as the statements that the meaning goes through in the block (`passed_is`).
use Rattle.std.proofs.Common.{◌≡◌, ℕ, zero, suc, ◌+◌, ◌-◌, Bool, true, false, cond, eqb, leb, ltb, ◌&&◌, List, [], ◌∷◌, ◌++◌, refl, ◌∙◌, arith}
use Rattle.std.proofs.lemmas.Bool.Decides.{nat_tests}
use Rattle.mx_blocks.specs.declared.block.Item.{Item}
use Rattle.mx_blocks.specs.declared.block.Item.TheVariants.{Op, Nop}
use Rattle.mx_blocks.specs.Items.{ops, times}
use Rattle.mx_validate.specs.Validity.{EachOnce}
use Rattle.mx_link.specs.Origins.{own}
use Rattle.mx_link.specs.Gathered.{is_of}
use Rattle.law_counts.proofs.Tally.{one}

-- how many items of a block that begins at a statement are statement q
abbrev pub weight : ℕ → ℕ → List Item → ℕ
weight q first [] = 0
weight q first (x ∷ items) = one (is_of q (own first x)) + weight q first items

pub weight_append : (q first : ℕ) (xs ys : List Item) → weight q first (xs ++ ys) ≡ weight q first xs + weight q first ys
weight_append q first [] ys = omega arith
weight_append q first (x ∷ xs) ys = let h = weight_append q first xs ys in omega arith

weight_times : (q first : ℕ) (items : List Item) → weight q first items ≡ cond (leb first q) (times (q - first) (ops items)) 0
weight_times q first [] = grind arith
weight_times q first (Op k ∷ items) = let h = weight_times q first items in grind (arith, nat_tests, h)
weight_times q first (Nop ∷ items) = let h = weight_times q first items in omega arith

-- it is one of n statements from the first on
abbrev pub is_within : ℕ → ℕ → ℕ → Bool
is_within q first n = leb first q && ltb (q - first) n

pub weight_once : (q first n : ℕ) (items : List Item) → EachOnce n items → weight q first items ≡ one (is_within q first n)
weight_once q first n items h = weight_times q first items ∙ by_side (leb first q) (times (q - first) (ops items)) (h (q - first))
  where
    by_side : (b : Bool) (t : ℕ) → t ≡ one (ltb (q - first) n) → cond b t 0 ≡ one (b && ltb (q - first) n)
    by_side true t e = e
    by_side false t e = refl

-- how often statement q comes among n statements from the first on
abbrev pub passed : ℕ → ℕ → ℕ → ℕ
passed q first zero = 0
passed q first (suc n) = passed q first n + one (eqb (first + n) q)

pub passed_is : (q first n : ℕ) → passed q first n ≡ one (is_within q first n)
passed_is q first zero = grind (arith, nat_tests)
passed_is q first (suc n) = let h = passed_is q first n in grind (arith, nat_tests, h)
