-- Rows of a table of costs, part by part.
use Rattle.std.proofs.Common.{◌≡◌, ℕ, suc, ◌+◌, ◌<◌, ◌≤◌, Bool, true, false, ◌||◌, cond, eqb}
use Rattle.std.proofs.Common.{List, [], ◌∷◌, length, drop, refl, sym, ap, ◌∙◌, arith, map, ◌++◌}
use Rattle.std.specs.Prelude.{slice_index, slice_index_or}
use Rattle.std.proofs.lemmas.Bool.Decides.{nat_tests}
use Rattle.std.proofs.lemmas.List.{at_drop_more, drop_all}
use Rattle.std.proofs.lemmas.List.{map-append, append-nil, get_or_default}
use Rattle.lab_profile.specs.declared.lines.LineCost.{LineCost}
use Rattle.lab_profile.specs.Lines.{no_cost, cost_of, on_line, HasColumns, AreLineCosts}
use Rattle.lab_costs.specs.declared.grouping.Group.{Group}
use Rattle.lab_costs.specs.declared.rows.Row.{Row}
use Rattle.lab_costs.specs.Rows.{has_statements, cost_of_part, row_of, no_group, group_of, parts_below}

or_more : (a b c e : Bool) → a || (e || b) ≡ c → (a || e) || b ≡ c
or_more true b c e h = h
or_more false b c e h = h

-- one more key is noted
pub has_more : (keys : List ℕ) (k i d : ℕ) (old new : Bool) → i < length keys → new ≡ old || eqb (slice_index_or keys i d) k
    → old || has_statements (drop i keys) k ≡ has_statements keys k → new || has_statements (drop (i + 1) keys) k ≡ has_statements keys k
has_more keys k i d old new l e h =
    ap (λ b. b || has_statements (drop (i + 1) keys) k) e
    ∙ or_more old (has_statements (drop (i + 1) keys) k) (has_statements keys k) (eqb (slice_index_or keys i d) k)
    (sym (ap (λ b. old || b) (at_drop_more (λ keys. has_statements keys k) keys i d l)) ∙ h)

or_none : (b : Bool) → b || false ≡ b
or_none true = refl
or_none false = refl

pub has_all : (keys : List ℕ) (k i : ℕ) (old : Bool) → length keys ≤ i → old || has_statements (drop i keys) k ≡ has_statements keys k
    → old ≡ has_statements keys k
has_all keys k i old l h = sym (or_none old) ∙ sym (ap (λ keys. old || has_statements keys k) (drop_all i keys l)) ∙ h

nat_same : (a b : ℕ) → eqb a b ≡ true → a ≡ b
nat_same a b h = grind (arith, nat_tests)

part_from : (key n m : ℕ) (keys : List ℕ) (b : Bool) → eqb key n ≡ b → key < m
    → (has_statements keys n ≡ true → n < m) → b || has_statements keys n ≡ true → n < m
part_from key n m keys true same first rest e = let here = nat_same key n same in omega (arith, first, here)
part_from key n m keys false other first rest e = rest e

-- a part with statements is below what all keys are below
pub part_below : (keys : List ℕ) (n m : ℕ) → ((k : ℕ) → k < length keys → slice_index keys k < m) → has_statements keys n ≡ true → n < m
part_below [] n m h e = grind (arith, e)
part_below (key ∷ keys) n m h e =
    part_from key n m keys (eqb key n) refl (h 0 (omega arith)) (part_below keys n m (λ k l. h (suc k) (omega (arith, l)))) e

abbrev made : (a b c d e f g h : ℕ) → LineCost
made a b c d e f g h = record { executed = a; cycles = b; stalls = c; noops = d; cancelled = e; killed = f; squashes = g; penalty = h }

cost_same : (a b : LineCost) → a.executed ≡ b.executed → a.cycles ≡ b.cycles → a.stalls ≡ b.stalls → a.noops ≡ b.noops
    → a.cancelled ≡ b.cancelled → a.killed ≡ b.killed → a.squashes ≡ b.squashes → a.penalty ≡ b.penalty → a ≡ b
cost_same a b h0 h1 h2 h3 h4 h5 h6 h7 =
    ap (λ (n : ℕ). made n a.cycles a.stalls a.noops a.cancelled a.killed a.squashes a.penalty) h0
    ∙ ap (λ (n : ℕ). made b.executed n a.stalls a.noops a.cancelled a.killed a.squashes a.penalty) h1
    ∙ ap (λ (n : ℕ). made b.executed b.cycles n a.noops a.cancelled a.killed a.squashes a.penalty) h2
    ∙ ap (λ (n : ℕ). made b.executed b.cycles b.stalls n a.cancelled a.killed a.squashes a.penalty) h3
    ∙ ap (λ (n : ℕ). made b.executed b.cycles b.stalls b.noops n a.killed a.squashes a.penalty) h4
    ∙ ap (λ (n : ℕ). made b.executed b.cycles b.stalls b.noops b.cancelled n a.squashes a.penalty) h5
    ∙ ap (λ (n : ℕ). made b.executed b.cycles b.stalls b.noops b.cancelled b.killed n a.penalty) h6
    ∙ ap (λ (n : ℕ). made b.executed b.cycles b.stalls b.noops b.cancelled b.killed b.squashes n) h7

module _ (groups : List Group) (keys : List ℕ) (costs : List LineCost) where
  abbrev row : ℕ → Row
  row = row_of groups keys costs

  is_cost_of_part : (n : ℕ) (c : LineCost) → HasColumns (λ column. on_line column n keys costs (length costs)) c → c ≡ cost_of_part keys costs n
  is_cost_of_part n c h = cost_same c (cost_of_part keys costs n) h.executed h.cycles h.stalls h.noops h.cancelled h.killed h.squashes h.penalty

  abbrev row_with : Group → LineCost → Row
  row_with g c = record { name = g.name; line = g.line; cost = c }

  row_same : (n : ℕ) (c : LineCost) (d : Group) → n < length groups → c ≡ cost_of_part keys costs n
      → row_with (slice_index_or groups n d) c ≡ row n
  row_same n c d l e =
      ap (λ (g : Group). row_with g c) (get_or_default groups n d no_group l) ∙ ap (λ (c : LineCost). row_with (group_of groups n) c) e

  next_parts : (n : ℕ) → parts_below keys (n + 1) ≡ parts_below keys n ++ cond (has_statements keys n) (n ∷ []) []
  next_parts n = ap (parts_below keys) (let m : n + 1 ≡ suc n = omega arith in m)

  -- one more part, which has statements
  pub rows_more : (n : ℕ) (c : LineCost) (d : Group) (rows : List Row) → n < length groups → c ≡ cost_of_part keys costs n
      → has_statements keys n ≡ true → rows ≡ map row (parts_below keys n)
      → rows ++ record { name = (slice_index_or groups n d).name; line = (slice_index_or groups n d).line; cost = c } ∷ []
      ≡ map row (parts_below keys (n + 1))
  rows_more n c d rows l e has same =
      ap (λ r. rows ++ r ∷ []) (row_same n c d l e)
      ∙ ap (λ rs. rs ++ row n ∷ []) same
      ∙ sym (ap (map row) (next_parts n ∙ ap (λ b. parts_below keys n ++ cond b (n ∷ []) []) has) ∙ map-append row (parts_below keys n) (n ∷ []))

  -- a part that has none
  pub rows_less : (n : ℕ) (rows : List Row) → has_statements keys n ≡ false
      → rows ≡ map row (parts_below keys n) → rows ≡ map row (parts_below keys (n + 1))
  rows_less n rows has same =
      same ∙ sym (ap (map row) (next_parts n ∙ ap (λ b. parts_below keys n ++ cond b (n ∷ []) []) has ∙ append-nil (parts_below keys n)))

  -- the cost of a part, as it is found in the sums
  pub cost_there : (n : ℕ) (sums : List LineCost) (d : LineCost) → n < length sums → AreLineCosts keys costs sums
      → slice_index_or sums n d ≡ cost_of_part keys costs n
  cost_there n sums d l are = get_or_default sums n d no_cost l ∙ is_cost_of_part n (cost_of sums n) (are n l)
