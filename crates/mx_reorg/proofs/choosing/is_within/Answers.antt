use Rattle.std.proofs.Common.{◌≡◌, ℕ, ◌<◌, true, max, sym, ap, ◌∙◌, arith}
use Rattle.std.specs.Prelude.{◌==◌}
use Rattle.std.specs.Int.{bit_at}
use Rattle.std.proofs.lemmas.Bool.Decides.{nat_tests}
use Rattle.std.proofs.lemmas.Nat.Bits.{bit_at_or, bit_at-lt, same_from_bits}
use Rattle.mx_reorg.proofs.choosing.is_within.Goals as goal

kept : (a b : ℕ) → b < 2 → max a b ≡ b → (a == 1) ≡ true → (b == 1) ≡ true
kept a b l e h = grind (arith, nat_tests)

joined : (a b : ℕ) → a < 2 → b < 2 → ((a == 1) ≡ true → (b == 1) ≡ true) → max a b ≡ b
joined a b l m h = grind (arith, nat_tests)

from_test : (a b : ℕ) → (a == b) ≡ true → a ≡ b
from_test a b h = grind (arith, nat_tests)

to_test : (a b : ℕ) → a ≡ b → (a == b) ≡ true
to_test a b h = grind (arith, nat_tests)

pub returns : goal.returns
returns c = (
  λ t k h. kept (bit_at c.args.mask k) (bit_at c.args.other k) (bit_at-lt c.args.other k)
      (sym (bit_at_or c.args.mask c.args.other k) ∙ ap (λ n. bit_at n k) (from_test _ _ t)) h,
  λ f. to_test _ _ (same_from_bits _ c.args.other
      (λ i. bit_at_or c.args.mask c.args.other i
      ∙ joined (bit_at c.args.mask i) (bit_at c.args.other i) (bit_at-lt c.args.mask i) (bit_at-lt c.args.other i) (f i))),
)
