use Rattle.std.proofs.Common.{◌≡◌, ◌≢◌, ℕ, ◌<◌, true, false, length, slice_index_or, arith}
use Rattle.std.specs.Prelude.{◌==◌}
use Rattle.std.proofs.lemmas.Bool.Decides.{nat_tests}
use Rattle.std.proofs.lemmas.Option.{slice_get-get_or}
use Rattle.mx_squash.proofs.search.index_of.Goals as goal

differs : (a b : ℕ) → (a < b → ⊥) → (b < a → ⊥) → a ≡ b
differs a b l m = omega arith

below : (a b : ℕ) → a < b → (a == b) ≡ false
below a b l = grind (arith, nat_tests)

above : (a b : ℕ) → b < a → (a == b) ≡ false
above a b l = grind (arith, nat_tests)

apart : (a b : ℕ) → a ≢ b → (a == b) ≡ false
apart a b l = grind (arith, nat_tests)

equal : (a b : ℕ) → a ≡ b → (a == b) ≡ true
equal a b e = grind (arith, nat_tests)

pub returns-then-blocks-low-clause-found : goal.returns-then-blocks-low-clause-found
returns-then-blocks-low-clause-found c =
    let blocks = c.args.blocks.now in
    let low = c.first_from-low.result in
    let within : low < length blocks = (let w = c.first_from-low.ensures.within in omega arith) in
    record {
      block = slice_index_or blocks low c.index-blocks-low.result;
      is = slice_get-get_or blocks low c.index-blocks-low.result within;
      passes = equal _ _ c.if-blocks-low.true;
      first = λ j b l e. below _ _ (c.first_from-low.ensures.before j b l e);
    }
