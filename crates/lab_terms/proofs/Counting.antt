-- Counts of slots.
use Rattle.std.proofs.Common.{◌≡◌, ℕ, suc, ◌+◌, ◌-◌, Bool, true, false, List, [], ◌∷◌, ◌++◌, length, cond, sym, ap, ◌∙◌, arith, append-nil, append_assoc}
use Rattle.std.proofs.Common.{count_by, fold, length-append}
use Rattle.std.proofs.lemmas.List.Sums.{sum_by_push}
use Rattle.lab_terms.specs.declared.slots.Filling.{Filling}
use Rattle.lab_terms.specs.declared.slots.Filling.TheVariants.{Before, TargetSquashed, Target, NoOp}
use Rattle.lab_terms.specs.Slots.{saturated_32, is_before, is_squashed, is_target, is_noop, counted, and_one, counted_places, and_place}

pub one_more : (n : ℕ) → suc n ≡ n + 1
one_more n = omega arith

-- one more, as far as 32 bits hold the number
sat_more : (n m b : ℕ) → m ≡ n + b → saturated_32 m ≡ saturated_32 (saturated_32 n + b)
sat_more n m b e = omega (arith, e)

-- a count of one filling more
more_of : (p : Filling → Bool) (fs : List Filling) (f : Filling)
    → saturated_32 (count_by p (fs ++ f ∷ [])) ≡ saturated_32 (saturated_32 (count_by p fs) + cond (p f) 1 0)
more_of p fs f = sat_more (count_by p fs) _ (cond (p f) 1 0) (sum_by_push (λ x. cond (p x) 1 0) fs f)

same : (n : ℕ) → saturated_32 (saturated_32 n + 0) ≡ saturated_32 n
same n = omega arith

counts : (fs : List Filling) (f : Filling) → counted (fs ++ f ∷ []) ≡ record {
  before = saturated_32 (saturated_32 (count_by is_before fs) + cond (is_before f) 1 0);
  target_squashed = saturated_32 (saturated_32 (count_by is_squashed fs) + cond (is_squashed f) 1 0);
  target = saturated_32 (saturated_32 (count_by is_target fs) + cond (is_target f) 1 0);
  noops = saturated_32 (saturated_32 (count_by is_noop fs) + cond (is_noop f) 1 0);
}
counts fs f k = record {
  before = more_of is_before fs f k;
  target_squashed = more_of is_squashed fs f k;
  target = more_of is_target fs f k;
  noops = more_of is_noop fs f k;
}

pub counted_more : (fs : List Filling) (f : Filling) → counted (fs ++ f ∷ []) ≡ and_one (counted fs) f
counted_more fs Before = counts fs Before ∙ λ k. record {
  before = saturated_32 (saturated_32 (count_by is_before fs) + 1);
  target_squashed = same (count_by is_squashed fs) k;
  target = same (count_by is_target fs) k;
  noops = same (count_by is_noop fs) k;
}
counted_more fs TargetSquashed = counts fs TargetSquashed ∙ λ k. record {
  before = same (count_by is_before fs) k;
  target_squashed = saturated_32 (saturated_32 (count_by is_squashed fs) + 1);
  target = same (count_by is_target fs) k;
  noops = same (count_by is_noop fs) k;
}
counted_more fs Target = counts fs Target ∙ λ k. record {
  before = same (count_by is_before fs) k;
  target_squashed = same (count_by is_squashed fs) k;
  target = saturated_32 (saturated_32 (count_by is_target fs) + 1);
  noops = same (count_by is_noop fs) k;
}
counted_more fs NoOp = counts fs NoOp ∙ λ k. record {
  before = same (count_by is_before fs) k;
  target_squashed = same (count_by is_squashed fs) k;
  target = same (count_by is_target fs) k;
  noops = saturated_32 (saturated_32 (count_by is_noop fs) + 1);
}

-- some fillings more
pub counted_those : (fs more : List Filling) → counted (fs ++ more) ≡ fold and_one (counted fs) more
counted_those fs [] = ap counted (append-nil fs)
counted_those fs (f ∷ more) =
    ap counted (sym (append_assoc fs (f ∷ []) more))
    ∙ counted_those (fs ++ f ∷ []) more
    ∙ ap (λ s. fold and_one s more) (counted_more fs f)

places_more : (places : List Bool) (b : Bool) → counted_places (places ++ b ∷ []) ≡ and_place (counted_places places) b
places_more places true k = record {
  filled = sat_more (count_by (λ b. b) places) _ 1 (sum_by_push (λ b. cond b 1 0) places true) k;
  all = sat_more (length places) _ 1 (length-append places (true ∷ [])) k;
}
places_more places false k = record {
  filled = (sat_more (count_by (λ b. b) places) _ 0 (sum_by_push (λ b. cond b 1 0) places false) ∙ same (count_by (λ b. b) places)) k;
  all = sat_more (length places) _ 1 (length-append places (false ∷ [])) k;
}

-- some places more
pub places_those : (places more : List Bool) → counted_places (places ++ more) ≡ fold and_place (counted_places places) more
places_those places [] = ap counted_places (append-nil places)
places_those places (b ∷ more) =
    ap counted_places (sym (append_assoc places (b ∷ []) more))
    ∙ places_those (places ++ b ∷ []) more
    ∙ ap (λ s. fold and_place s more) (places_more places b)
