-- A loop over a list that ends before its end.
use Rattle.std.proofs.Common.{◌≡◌, ◌<◌, ◌∙◌, ℕ, Bool, false, List, length, drop, get_or, refl}
use Rattle.std.specs.List.{list_all}
use Rattle.std.proofs.lemmas.List.{at_drop_more}

pub all_broken : {X : Type 0} (p : X → Bool) (xs : List X) (i : ℕ) (d : X)
    → i < length xs → p (get_or xs i d) ≡ false → list_all p (drop i xs) ≡ false
all_broken p xs i d h is = at_drop_more (list_all p) xs i d h ∙ rw is refl
