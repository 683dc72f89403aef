-- The names of a source's places are its labels.
use Rattle.std.proofs.Common.{◌≡◌, ℕ, Bool, true, false, cond, ◌||◌, ◌==◌, List, [], ◌∷◌, Option, Some, None, refl, sym, ap, ◌∙◌, subst, arith, find, option_map}
use Rattle.std.specs.Prelude.{All, unwrap_or}
use Rattle.std.specs.List.{list_any}
use Rattle.std.proofs.lemmas.Bool.Decides.{nat_tests}
use Rattle.std.proofs.lemmas.List.Elements.{All-head, All-tail}
use Rattle.mx_source.specs.declared.statement.Label.{Label}
use Rattle.mx_source.specs.declared.statement.Label.TheVariants as label
use Rattle.mx_source.specs.Labels.{LabelFits, names_index, names_address}
use Rattle.mx_lines.specs.Operands.{label_named}
use Rattle.mx_lines.specs.Instructions.{Labels}
use Rattle.mx_asm.specs.Printable.{IsLabelName}
use Rattle.mx_asm.proofs.Tabled.{are_apart, each_found}
use Rattle.lab_words.specs.Naming.{Naming, is_at, names_of, aimed}
use Rattle.lab_words.specs.Assembling.{AreLabels}
use Rattle.lab_words.proofs.Named.{AreNames, NamesCode, NamesData}

abbrev on : (Label → Bool) → List ℕ × Label → Bool
on p e = p e.1

found_by : (P : List ℕ × Label → Type 0) (p : Label → Bool) (x e : List ℕ × Label) (later : Option (List ℕ × Label)) (b : Bool) → p x.1 ≡ b → P x
    → (later ≡ Some e → P e × (p e.1 ≡ true)) → cond b (Some x) later ≡ Some e → P e × (p e.1 ≡ true)
found_by P p x e later true is has more k = let same : x ≡ e = cc in subst (λ y. P y × (p y.1 ≡ true)) same (has, is)
found_by P p x e later false is has more k = more k

-- a label that is found passes, and has what all labels have
found_has : (P : List ℕ × Label → Type 0) (p : Label → Bool) (labels : Labels) (e : List ℕ × Label) → All P labels → find (on p) labels ≡ Some e
    → P e × (p e.1 ≡ true)
found_has P p [] e all h = cc
found_has P p (x ∷ labels) e all h =
    found_by P p x e (find (on p) labels) (p x.1) refl (All-head P x labels all) (λ k. found_has P p labels e (All-tail P x labels all) k) h

first_by : (p q : Label → Bool) (x e : List ℕ × Label) (wide later : Option (List ℕ × Label)) (b c : Bool) → p x.1 ≡ b → q x.1 ≡ c
    → (q x.1 ≡ true → p x.1 ≡ true) → q e.1 ≡ true → (wide ≡ Some e → later ≡ Some e) → cond b (Some x) wide ≡ Some e → cond c (Some x) later ≡ Some e
first_by p q x e wide later true true is_p is_q narrow passes more k = k
first_by p q x e wide later true false is_p is_q narrow passes more k =
    let same : x ≡ e = cc in let none : q e.1 ≡ false = subst (λ y. q y.1 ≡ false) same is_q in cc
first_by p q x e wide later false true is_p is_q narrow passes more k = let also : p x.1 ≡ true = narrow is_q in cc
first_by p q x e wide later false false is_p is_q narrow passes more k = more k

-- the first that passes a test is the first that passes a narrower one, where it passes that
first_is : (p q : Label → Bool) → ((l : Label) → q l ≡ true → p l ≡ true) → (labels : Labels) (e : List ℕ × Label) → find (on p) labels ≡ Some e
    → q e.1 ≡ true → find (on q) labels ≡ Some e
first_is p q narrow [] e h passes = cc
first_is p q narrow (x ∷ labels) e h passes =
    first_by p q x e (find (on p) labels) (find (on q) labels) (p x.1) (q x.1) refl refl (narrow x.1) passes
    (λ k. first_is p q narrow labels e k passes) h

any_by : (x e : List ℕ × Label) (later : Option (List ℕ × Label)) (b any : Bool) → (later ≡ Some e → any ≡ true) → cond b (Some x) later ≡ Some e
    → (b || any) ≡ true
any_by x e later true any more k = refl
any_by x e later false any more k = more k

any_found : (p : Label → Bool) (labels : Labels) (e : List ℕ × Label) → find (on p) labels ≡ Some e → list_any (on p) labels ≡ true
any_found p [] e h = cc
any_found p (x ∷ labels) e h = any_by x e (find (on p) labels) (p x.1) (list_any (on p) labels) (any_found p labels e) h

own_index : (i : ℕ) → names_index i (label.Code i) ≡ true
own_index i = grind (arith, nat_tests)

index_at : (link : ℕ → ℕ) (a i : ℕ) → link i ≡ a → (l : Label) → names_index i l ≡ true → is_at link a l ≡ true
index_at link a i h (label.Code j) k = let same : j ≡ i = grind (arith, nat_tests) in let there : link j ≡ a = ap link same ∙ h in grind (arith, nat_tests)
index_at link a i h (label.Data b) k = cc

only_some : (b : Bool) (o : Option (List ℕ)) (name : List ℕ) → cond b o None ≡ Some name → o ≡ Some name
only_some true o name h = h
only_some false o name h = cc

-- so are those that an aim leaves
pub aimed_names : (labels : Labels) (count : ℕ) (link : ℕ → ℕ) (names : Naming) (aim : Option ℕ) → AreNames labels count link names
    → AreNames labels count link (aimed aim names)
aimed_names labels count link names None are = are
aimed_names labels count link names (Some at) are = record {
  code = λ a name h. are.code a name (only_some (a == at) (names.code a) name h);
  user_data = are.user_data;
}

module _ (labels : Labels) (count : ℕ) (link : ℕ → ℕ) (are : AreLabels count labels) where
  code_by : (a : ℕ) (name : List ℕ) (l : Label) → find (on (is_at link a)) labels ≡ Some (name, l) → LabelFits count l → is_at link a l ≡ true
      → NamesCode labels count link a name
  code_by a name (label.Data b) e fits h = cc
  code_by a name (label.Code i) e fits h =
      let begins : link i ≡ a = grind (arith, nat_tests) in
      let first = first_is (is_at link a) (names_index i) (index_at link a i begins) labels (name, label.Code i) e (own_index i) in record {
        index = i;
        place = record { within = fits; labelled = any_found (names_index i) labels (name, label.Code i) first };
        first = sym (ap (λ o. unwrap_or (option_map (λ p. p.0) o) []) first);
        begins = begins;
      }

  code_named : (a : ℕ) (name : List ℕ) (o : Option (List ℕ × Label)) → find (on (is_at link a)) labels ≡ o → option_map (λ p. p.0) o ≡ Some name
      → NamesCode labels count link a name
  code_named a name None e h = cc
  code_named a name (Some x) e h =
      let has = found_has (λ p. LabelFits count p.1) (is_at link a) labels x are.fit e in
      let same : x.0 ≡ name = cc in
      subst (NamesCode labels count link a) same (code_by a x.0 x.1 e has.0 has.1)

  data_by : (a : ℕ) (name : List ℕ) (l : Label) → IsLabelName name → label_named labels name ≡ Some l → names_address a l ≡ true → NamesData labels a name
  data_by a name (label.Code i) named found h = cc
  data_by a name (label.Data b) named found h =
      let same : b ≡ a = grind (arith, nat_tests) in record { letters = named; found = found ∙ ap (λ n. Some (label.Data n)) same }

  data_named : (a : ℕ) (name : List ℕ) (o : Option (List ℕ × Label)) → find (on (names_address a)) labels ≡ o → option_map (λ p. p.0) o ≡ Some name
      → NamesData labels a name
  data_named a name None e h = cc
  data_named a name (Some x) e h =
      let named = found_has (λ p. IsLabelName p.0) (names_address a) labels x are.names e in
      let found = found_has (λ p. label_named labels p.0 ≡ Some p.1) (names_address a) labels x (each_found labels (are_apart labels are.apart)) e in
      let same : x.0 ≡ name = cc in
      subst (NamesData labels a) same (data_by a x.0 x.1 named.0 found.0 found.1)

  pub are_names : (words data_words : ℕ) → AreNames labels count link (names_of labels link words data_words)
  are_names words data_words = record {
    code = λ a name h. code_named a name (find (on (is_at link a)) labels) refl (only_some _ _ name h);
    user_data = λ a name h. data_named a name (find (on (names_address a)) labels) refl (only_some _ _ name h);
  }
