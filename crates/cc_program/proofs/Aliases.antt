-- Following aliases.
use Rattle.std.proofs.Common.{◌≡◌, ℕ, zero, suc, ◌+◌, ◌-◌, ◌<◌, ap, sym, ◌∙◌, refl, arith}
use Rattle.std.specs.Fn.{iterate}
use Rattle.cc_program.specs.Programs.{alias_in}
use Rattle.cc_program.specs.declared.symbols.Meaning.{Meaning}
use Rattle.cc_program.specs.declared.symbols.Meaning.TheVariants.{Unknown, Function, Place, Object, Alias, End, Limit}

-- what a step leaves as it is, any number of steps leave as it is
pub stays : (h : ℕ → ℕ) (n x : ℕ) → h x ≡ x → iterate h n x ≡ x
stays h zero x same = refl
stays h (suc n) x same = ap (iterate h n) same ∙ stays h n x same

-- a step on, where steps are left
pub step : (h : ℕ → ℕ) (all done x y : ℕ) → done < all → h x ≡ y → iterate h (all - (done + 1)) y ≡ iterate h (all - done) x
step h all done x y left to =
    let one : all - done ≡ suc (all - (done + 1)) = omega arith in
    sym (ap (λ n. iterate h n x) one ∙ ap (iterate h (all - (done + 1))) to)

pub no_alias : (number : ℕ) (m : Meaning) → ((other : ℕ) → m ≡ Alias other → ⊥) → alias_in number m ≡ number
no_alias number (Alias other) isnt = absurd (isnt other refl)
no_alias number Unknown isnt = refl
no_alias number (Function n) isnt = refl
no_alias number (Place item function) isnt = refl
no_alias number (Object n) isnt = refl
no_alias number End isnt = refl
no_alias number Limit isnt = refl
