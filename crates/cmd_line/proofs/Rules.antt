-- What `clap` makes of the command with these options, and what a parse needs of its rules.
use Rattle.std.proofs.Common.{◌≡◌, ℕ, List, [], ◌∷◌, map, Bool, true, false, refl, ap, sym, ◌∙◌, Some, None, cond, subst, inl, inr}
use Rattle.std.specs.Prelude.{◌&&◌, ◌||◌, not, fold}
use Rattle.std.specs.List.{list_any}
use Rattle.std.specs.Str.{bytes_eq}
use Rattle.std.proofs.lemmas.Bool.{cases_Bool}
use Rattle.std.proofs.lemmas.Slice.Eq.{bytes_eq-Decides}
use Rattle.clap.specs.Words.{Text, Row, Rule}
use Rattle.clap.specs.Simple.{Shape, built, filled, filled_from, with_index, marked_built}
use Rattle.clap.specs.Walk.{arg_by_id, arg_by_index, arg_by_long, arg_by_short, with_default, has_row}
use Rattle.clap.specs.Takes.{is_given}
use Rattle.clap.specs.Faults.{defaults_fault}
use Rattle.cmd_line.specs.Command.{command_for, option_rule, names_rule, names_id}
use Rattle.cmd_line.specs.Reading.{is_known}

-- the rules as they are built
abbrev pub names_built : Rule
names_built = with_index 1 (filled names_rule)

abbrev pub option_built : Text → Rule
option_built name = with_index 2 (filled (option_rule name))

abbrev pub rules_of : List Text → List Rule
rules_of options = names_built ∷ map option_built options

-- the command as it is built, with these rules
abbrev pub shape_of : List Rule → Shape
shape_of rules = record (marked_built (command_for []).top) { rules = rules; disable_help_subcommand = true }

filled_options : (options : List Text) → filled_from 2 (map option_rule options) ≡ map option_built options
filled_options [] = refl
filled_options (o ∷ rest) = ap (λ rules. option_built o ∷ rules) (filled_options rest)

pub built_is : (options : List Text) → built (command_for options) ≡ record { top = shape_of (rules_of options); subs = [] }
built_is options = ap (λ rules. record { top = shape_of (names_built ∷ rules); subs = [] }) (filled_options options)

-- no option has the id under which the names are kept
abbrev pub IsApart : List Text → Type 0
IsApart options = is_known options names_id ≡ false

pub record IsKnown (rules : List Rule) (name : Text) : Type 0 where
  pub long : arg_by_long rules name ≡ Some (option_built name)
  pub by_id : arg_by_id rules name ≡ Some (option_built name)
  pub apart : bytes_eq name names_id ≡ false

pub record Serves (options : List Text) (rules : List Rule) : Type 0 where
  pub index : arg_by_index rules 1 ≡ Some names_built
  pub by_id : arg_by_id rules names_id ≡ Some names_built
  pub known : (name : Text) → is_known options name ≡ true → IsKnown rules name
  pub unknown : (name : Text) → is_known options name ≡ false → arg_by_long rules name ≡ None
  pub short : (c : ℕ) → arg_by_short rules c ≡ None
  pub defaults : (rows : List Row) → fold with_default rows rules ≡ rows
  pub no_fault : (rows : List Row) → defaults_fault rows rules ≡ []
  pub optional : (rows : List Row) → list_any (λ a. a.required && not (is_given a.id rows)) rules ≡ false

pub bytes_same : (a b : Text) → bytes_eq a b ≡ true → a ≡ b
bytes_same a b h = (bytes_eq-Decides a b).0 h

pub bytes_refl : (a : Text) → bytes_eq a a ≡ true
bytes_refl a = (bytes_eq-Decides a a).1 refl

pub or_false : (a b : Bool) → (a || b) ≡ false → (a ≡ false) × (b ≡ false)
or_false false false h = (refl, refl)
or_false true b h = absurd (cc)
or_false false true h = absurd (cc)

or_falses : (b : Bool) → (b || false) ≡ b
or_falses true = refl
or_falses false = refl

bytes_apart : (a b : Text) → bytes_eq a b ≡ false → bytes_eq b a ≡ true → ⊥
bytes_apart a b f t =
    let bad : bytes_eq a b ≡ true = (bytes_eq-Decides a b).1 (sym (bytes_same b a t)) in
    absurd (cc)

pub bytes_sym : (a b : Text) → bytes_eq a b ≡ false → bytes_eq b a ≡ false
bytes_sym a b f = elim (cases_Bool (bytes_eq b a)) [
  | inl t ↦ absurd (bytes_apart a b f t)
  | inr g ↦ g
]

known_long : (options : List Text) (name : Text) → is_known options name ≡ true → arg_by_long (map option_built options) name ≡ Some (option_built name)
known_long [] name h = absurd (cc)
known_long (o ∷ rest) name h = elim (cases_Bool (bytes_eq o name)) [
  | inl t ↦ rw t (ap (λ n. Some (option_built n)) (bytes_same o name t))
  | inr f ↦ rw f (known_long rest name (rw f at h))
]

unknown_long : (options : List Text) (name : Text) → is_known options name ≡ false → arg_by_long (map option_built options) name ≡ None
unknown_long [] name h = refl
unknown_long (o ∷ rest) name h =
    let parts = or_false (bytes_eq o name) (is_known rest name) h in
    rw parts.0 (unknown_long rest name parts.1)

known_id : (options : List Text) (name : Text) → is_known options name ≡ true → arg_by_id (map option_built options) name ≡ Some (option_built name)
known_id [] name h = absurd (cc)
known_id (o ∷ rest) name h = elim (cases_Bool (bytes_eq o name)) [
  | inl t ↦ rw t (ap (λ n. Some (option_built n)) (bytes_same o name t))
  | inr f ↦ rw f (known_id rest name (rw f at h))
]

no_short : (options : List Text) (c : ℕ) → arg_by_short (map option_built options) c ≡ None
no_short [] c = refl
no_short (o ∷ rest) c = no_short rest c

same_default : (b : Bool) (rows : List Row) → cond b rows rows ≡ rows
same_default true rows = refl
same_default false rows = refl

no_defaults : (options : List Text) (rows : List Row) → fold with_default rows (map option_built options) ≡ rows
no_defaults [] rows = refl
no_defaults (o ∷ rest) rows = ap (λ r. fold with_default r (map option_built rest)) (same_default (has_row o rows) rows) ∙ no_defaults rest rows

or_true : (b : Bool) → (b || true) ≡ true
or_true true = refl
or_true false = refl

no_default_fault : (options : List Text) (rows : List Row) → defaults_fault rows (map option_built options) ≡ []
unfolding defaults_fault
no_default_fault [] rows = refl
no_default_fault (o ∷ rest) rows = rw (or_true (has_row o rows), same_default (has_row o rows) rows) (no_default_fault rest rows)

none_required : (options : List Text) (rows : List Row) → list_any (λ a. a.required && not (is_given a.id rows)) (map option_built options) ≡ false
none_required [] rows = refl
none_required (o ∷ rest) rows = none_required rest rows

known_apart : (options : List Text) (name : Text) → IsApart options → is_known options name ≡ true → bytes_eq name names_id ≡ false
known_apart options name apart h = elim (cases_Bool (bytes_eq name names_id)) [
  | inl t ↦
      let bad : is_known options names_id ≡ true = subst (λ n. is_known options n ≡ true) (bytes_same name names_id t) h in
      absurd (cc)
  | inr f ↦ f
]

pub serves : (options : List Text) → IsApart options → Serves options (rules_of options)
unfolding defaults_fault
serves options apart = record {
  index = refl;
  by_id = refl;
  known = λ name h. record {
    long = known_long options name h;
    by_id = rw (bytes_sym name names_id (known_apart options name apart h)) (known_id options name h);
    apart = known_apart options name apart h;
  };
  unknown = λ name h. unknown_long options name h;
  short = λ c. no_short options c;
  defaults = λ rows. ap (λ r. fold with_default r (map option_built options)) (same_default (has_row names_id rows) rows) ∙ no_defaults options rows;
  no_fault = λ rows. rw (or_true (has_row names_id rows), same_default (has_row names_id rows) rows) (no_default_fault options rows);
  optional = λ rows. none_required options rows;
}
