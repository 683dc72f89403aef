-- The table of labels.
use Rattle.std.proofs.Common.{ℕ, List, [], ◌∷◌, cond, Option, Some, Bool, true, false}
use Rattle.std.specs.Prelude.{All, IfSome}
use Rattle.std.specs.Map.{lookup}
use Rattle.std.proofs.lemmas.List.Elements.{All-head, All-tail}
use Rattle.mx_source.specs.declared.statement.Label.{Label}

if_some_cond : {A : Type 0} (P : A → Type 0) (b : Bool) (x : A) (o : Option A) → P x → IfSome o P → IfSome (cond b (Some x) o) P
if_some_cond P true x o here there = here
if_some_cond P false x o here there = there

-- what holds of each value holds of one that is found
pub lookup_All : (P : Label → Type 0) (test : List ℕ → Bool) (es : List (List ℕ × Label)) → All (λ p. P p.1) es → IfSome (lookup test es) P
lookup_All P test [] h = tt
lookup_All P test (e ∷ es) h = if_some_cond P (test e.0) e.1 (lookup test es) (All-head (λ p. P p.1) e es h)
    (lookup_All P test es (All-tail (λ p. P p.1) e es h))
