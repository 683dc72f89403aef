-- Items of a function get their places one after the other.
use Rattle.std.proofs.Common.{◌≡◌, ◌≢◌, ⊎_elim, ℕ, zero, suc, ◌<◌, ◌≤◌, Bool, true, List, [], ◌∷◌, length, Some, slice_get, set, refl, sym, ap, ◌∙◌, subst, arith}
use Rattle.std.proofs.lemmas.Bool.{cases_eq}
use Rattle.cc_program.specs.declared.item.Function.{Function}
use Rattle.cc_program.specs.declared.item.Item.{Item}
use Rattle.cc_program.specs.declared.program.Program.{Program}
use Rattle.cc_plan.specs.declared.knowledge.Known.{Known}
use Rattle.cc_plan.specs.declared.knowledge.Known.TheVariants.{Nothing}
use Rattle.cc_plan.specs.declared.knowledge.Knowledge.{Knowledge}
use Rattle.cc_plan.specs.declared.plan.Plan.{Plan}
use Rattle.cc_plan.specs.Placed.{Passes, PlacesItem, IsStart, IsTrace, is_entry}
use Rattle.cc_plan.specs.Places.{Words, IsDivided}
use Rattle.cc_plan.specs.Knowing.{Holds, IsSound}

-- what holds as so many items have got theirs
pub record Placed (p : Program) (f : Function) (items : List Item) (plans : List Plan) (k : Knowledge) (number : ℕ) : Type 0 where
  pub points : k.points ≡ f.points
  pub computes : k.computes ≡ f.computes
  pub known : (s : ℕ) (trace : ℕ → Words) → IsTrace p f.points items plans s number trace → Holds k (trace number)
  pub places : (s i : ℕ) (trace : ℕ → Words) (item : Item) (plan : Plan) → i < number → IsTrace p f.points items plans s i trace
      → slice_get items i ≡ Some item → slice_get plans i ≡ Some plan → PlacesItem p f.computes (trace i) item plan

-- what the step for an item does
pub record PlacesOne (p : Program) (item : Item) (k k' : Knowledge) (plan : Plan) : Type 0 where
  pub place : (words : Words) → Holds k words → PlacesItem p k.computes words item plan
  pub known : (before after : Words) → Holds k before → Passes p k.points item plan before after → Holds k' after
  pub entry : (after : Words) → is_entry p item ≡ true → IsDivided k.points after → Holds k' after
  pub points : k'.points ≡ k.points
  pub computes : k'.computes ≡ k.computes

at_same : {X : Type 0} (xs : List X) (i : ℕ) (x : X) → i < length xs → slice_get (set xs i x) i ≡ Some x
at_same [] i x small = absurd (omega (arith, small))
at_same (y ∷ xs) zero x small = refl
at_same (y ∷ xs) (suc i) x small = at_same xs i x (omega (arith, small))

at_other : {X : Type 0} (xs : List X) (i j : ℕ) (x : X) → j ≢ i → slice_get (set xs i x) j ≡ slice_get xs j
at_other [] i j x ne = refl
at_other (y ∷ xs) zero zero x ne = absurd (ne refl)
at_other (y ∷ xs) zero (suc j) x ne = refl
at_other (y ∷ xs) (suc i) zero x ne = refl
at_other (y ∷ xs) (suc i) (suc j) x ne = at_other xs i j x (λ e. ne (ap suc e))

-- a trace up to an item before the one that got its place
before_set : (p : Program) (points : Bool) (items : List Item) (plans : List Plan) (number : ℕ) (plan : Plan) (s i n : ℕ) (trace : ℕ → Words)
    → s ≤ i → i ≤ number → i ≤ n → IsTrace p points items (set plans number plan) s n trace → IsTrace p points items plans s i trace
before_set p points items plans number plan s i n trace order within last t = record {
  start = t.start;
  order = order;
  divided = t.divided;
  passes = λ j item one from to at at'. t.passes j item one from (omega (arith, to, last)) at
      (at_other plans number j plan (omega (arith, to, within)) ∙ at');
}

pub placed_next : (p : Program) (f : Function) (items : List Item) (plans : List Plan) (k k' : Knowledge) (number : ℕ) (item : Item) (plan : Plan)
    → Placed p f items plans k number → slice_get items number ≡ Some item → number < length plans → PlacesOne p item k k' plan
    → Placed p f items (set plans number plan) k' (suc number)
placed_next p f items plans k k' number item plan placed at small one = record {
  points = one.points ∙ placed.points;
  computes = one.computes ∙ placed.computes;
  known = λ s trace t. ⊎_elim
      (λ (e : s ≡ suc number). one.entry (trace (suc number)) (starts s e t.start)
      (subst (λ q. IsDivided q (trace (suc number))) (sym placed.points) (subst (λ m. IsDivided f.points (trace m)) e t.divided)))
      (λ (ne : s ≢ suc number). let order : s ≤ number = let o = t.order in omega (arith, o, ne) in
      one.known (trace number) (trace (suc number))
      (placed.known s trace (before_set p f.points items plans number plan s number (suc number) trace order (omega arith) (omega arith) t))
      (subst (λ q. Passes p q item plan (trace number) (trace (suc number))) (sym placed.points)
      (t.passes number item plan order (omega arith) at (at_same plans number plan small))))
      (cases_eq s (suc number));
  places = λ s i trace other chosen below t at' there. ⊎_elim
      (λ (e : i ≡ number). here s i trace other chosen e t at' there)
      (λ (ne : i ≢ number). placed.places s i trace other chosen (omega (arith, below, ne))
      (before_set p f.points items plans number plan s i i trace t.order (omega (arith, below, ne)) (omega arith) t) at'
      (sym (at_other plans number i plan ne) ∙ there))
      (cases_eq i number);
}
  where
    starts : (s : ℕ) → s ≡ suc number → IsStart p items s → is_entry p item ≡ true
    starts s e start = subst (λ m. IsStart p items m) e start item at

    here : (s i : ℕ) (trace : ℕ → Words) (other : Item) (chosen : Plan) → i ≡ number
        → IsTrace p f.points items (set plans number plan) s i trace → slice_get items i ≡ Some other
        → slice_get (set plans number plan) i ≡ Some chosen → PlacesItem p f.computes (trace i) other chosen
    here s i trace other chosen e t at' there =
        let same_item : item ≡ other = cc in
        let same_plan : plan ≡ chosen = let same = at_same plans number plan small in cc in
        subst (λ x. PlacesItem p f.computes (trace i) x chosen) same_item
        (subst (λ x. PlacesItem p f.computes (trace i) item x) same_plan
        (subst (λ q. PlacesItem p q (trace i) item plan) placed.computes
        (one.place (trace i) (subst (λ m. Holds k (trace m)) (sym e) (placed.known s trace
        (before_set p f.points items plans number plan s number number trace (subst (λ m. s ≤ m) e t.order) (omega arith) (omega arith)
        (subst (λ m. IsTrace p f.points items (set plans number plan) s m trace) e t)))))))

-- before the first item nothing is known
pub placed_start : (p : Program) (f : Function) (items : List Item) (plans : List Plan) (k : Knowledge) → k.points ≡ f.points
    → k.computes ≡ f.computes → ((n : ℕ) (known : Known) → slice_get k.known n ≡ Some known → known ≡ Nothing) → Placed p f items plans k 0
placed_start p f items plans k points computes none = record {
  points = points;
  computes = computes;
  known = λ s trace t. record {
    always = let o = t.order in let e : s ≡ 0 = omega (arith, o) in
        subst (λ q. IsDivided q (trace 0)) (sym points) (subst (λ m. IsDivided f.points (trace m)) e t.divided);
    known = λ n known named free at.
        subst (λ x. IsSound (trace 0) x (trace 0 n)) (sym (none n known at)) (record { is = tt; base = λ b by. absurd (cc) });
  };
  places = λ s i trace item plan below t at there. absurd (omega (arith, below));
}
