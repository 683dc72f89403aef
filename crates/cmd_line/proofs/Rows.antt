-- The rows of a parse hold what was read.
use Rattle.std.proofs.Common.{◌≡◌, List, [], ◌∷◌, ◌++◌, Bool, true, false, refl, ap, sym, ◌∙◌, Some, None, cond, subst, inl, inr}
use Rattle.std.specs.Prelude.{◌||◌, find, unwrap_or, option_and_then, slice_get}
use Rattle.std.specs.List.{list_any}
use Rattle.std.specs.Str.{bytes_eq}
use Rattle.std.proofs.lemmas.Bool.{cases_Bool}
use Rattle.clap.specs.Words.{Text, Row, first_of, all_of}
use Rattle.clap.specs.Walk.{with_values, without, has_row, used, reading_by}
use Rattle.clap.specs.declared.parser.matches.ValueSource.TheVariants.{CommandLine}
use Rattle.clap.specs.declared.builder.value_parser.Reading.{Reading as Manner}
use Rattle.cmd_line.specs.Reading.{Reading, nothing, with_name, with_value, is_given, value_of}
use Rattle.cmd_line.specs.Command.{names_id}
use Rattle.cmd_line.proofs.Rules.{names_built, option_built, or_false, bytes_same, bytes_sym}

-- the rows hold what was read
pub record Holds (rows : List Row) (q : Reading) : Type 0 where
  pub names : unwrap_or (all_of names_id rows) [] ≡ q.names
  pub values : (name : Text) → bytes_eq name names_id ≡ false → first_of name rows ≡ value_of name q.given
  pub given : (name : Text) → bytes_eq name names_id ≡ false → has_row name rows ≡ is_given name q.given

pub holds_nothing : Holds [] nothing
holds_nothing = record { names = refl; values = λ name h. refl; given = λ name h. refl }

abbrev new_row : Text → Manner → Text → Row
new_row id how v = record { id = id; values = v ∷ []; count = None; source = Some CommandLine; reading = how }

-- a first use adds a row
added : (id v : Text) (how : Manner) (rows : List Row) → has_row id rows ≡ false
    → with_values id how CommandLine (v ∷ []) (without id rows) ≡ rows ++ new_row id how v ∷ []
added id v how [] h = refl
added id v how (r ∷ rs) h =
    let parts = or_false (bytes_eq r.id id) (has_row id rs) h in
    rw (parts.0, parts.0) (ap (λ x. r ∷ x) (added id v how rs parts.1))

find_new : (p : Row → Bool) (rows : List Row) (x : Row) → list_any p rows ≡ false → p x ≡ true → find p (rows ++ x ∷ []) ≡ Some x
find_new p [] x h t = rw t refl
find_new p (r ∷ rs) x h t =
    let parts = or_false (p r) (list_any p rs) h in
    rw parts.0 (find_new p rs x parts.1 t)

find_old : (p : Row → Bool) (rows : List Row) (x : Row) → p x ≡ false → find p (rows ++ x ∷ []) ≡ find p rows
find_old p [] x f = rw f refl
find_old p (r ∷ rs) x f = ap (cond (p r) (Some r)) (find_old p rs x f)

or_true : (b : Bool) → (b || true) ≡ true
or_true true = refl
or_true false = refl

any_new : (p : Row → Bool) (rows : List Row) (x : Row) → p x ≡ true → list_any p (rows ++ x ∷ []) ≡ true
any_new p [] x t = rw t refl
any_new p (r ∷ rs) x t = ap (λ b. p r || b) (any_new p rs x t) ∙ or_true (p r)

any_old : (p : Row → Bool) (rows : List Row) (x : Row) → p x ≡ false → list_any p (rows ++ x ∷ []) ≡ list_any p rows
any_old p [] x f = rw f refl
any_old p (r ∷ rs) x f = ap (λ b. p r || b) (any_old p rs x f)

abbrev id_is : Text → Row → Bool
id_is id r = bytes_eq r.id id

value_found : (rows : List Row) (q : Reading) (name v other : Text) (how : Manner) (b : Bool) → Holds rows q → has_row name rows ≡ false
    → bytes_eq other names_id ≡ false → bytes_eq name other ≡ b
    → first_of other (rows ++ new_row name how v ∷ []) ≡ value_of other (with_value q name v).given
value_found rows q name v other how true h none apart t =
    let none' : has_row other rows ≡ false = subst (λ n. has_row n rows ≡ false) (bytes_same name other t) none in
    rw (find_new (id_is other) rows (new_row name how v) none' t, t) refl
value_found rows q name v other how false h none apart t =
    rw (find_old (id_is other) rows (new_row name how v) t, t) (h.values other apart)

row_found : (rows : List Row) (q : Reading) (name v other : Text) (how : Manner) (b : Bool) → Holds rows q → bytes_eq other names_id ≡ false
    → bytes_eq name other ≡ b
    → has_row other (rows ++ new_row name how v ∷ []) ≡ is_given other (with_value q name v).given
row_found rows q name v other how true h apart t = any_new (id_is other) rows (new_row name how v) t ∙ sym (rw t refl)
row_found rows q name v other how false h apart t = any_old (id_is other) rows (new_row name how v) t ∙ h.given other apart ∙ sym (rw t refl)

-- a first use of an option
pub holds_value : (rows : List Row) (q : Reading) (name v : Text) → Holds rows q → has_row name rows ≡ false → bytes_eq name names_id ≡ false
    → Holds (used (option_built name) (v ∷ []) rows) (with_value q name v)
holds_value rows q name v h none apart =
    let how : Manner = reading_by (option_built name) in
    let e : used (option_built name) (v ∷ []) rows ≡ rows ++ new_row name how v ∷ [] = added name v how rows none in
    let P : List Row → Type 0 = λ r. Holds r (with_value q name v) in
    let all : P (rows ++ new_row name how v ∷ []) = record {
      names = rw (find_old (id_is names_id) rows (new_row name how v) apart) h.names;
      values = λ other a. value_found rows q name v other how (bytes_eq name other) h none a refl;
      given = λ other a. row_found rows q name v other how (bytes_eq name other) h a refl;
    } in
    subst P (sym e) all

-- one more name
abbrev named : Manner → Text → List Row → List Row
named how word rows = with_values names_id how CommandLine (word ∷ []) rows

same_id : (r : Row) (other : Text) → bytes_eq r.id names_id ≡ true → bytes_eq names_id other ≡ false → bytes_eq r.id other ≡ false
same_id r other t f = subst (λ n. bytes_eq n other ≡ false) (sym (bytes_same r.id names_id t)) f

named_other : (how : Manner) (word other : Text) (rows : List Row) → bytes_eq names_id other ≡ false
    → find (id_is other) (named how word rows) ≡ find (id_is other) rows
named_other how word other [] f = rw f refl
named_other how word other (r ∷ rs) f = elim (cases_Bool (bytes_eq r.id names_id)) [
  | inl t ↦ rw (t, same_id r other t f) refl
  | inr g ↦ rw g (ap (cond (bytes_eq r.id other) (Some r)) (named_other how word other rs f))
]

named_row : (how : Manner) (word other : Text) (rows : List Row) → bytes_eq names_id other ≡ false → has_row other (named how word rows) ≡ has_row other rows
named_row how word other [] f = rw f refl
named_row how word other (r ∷ rs) f = elim (cases_Bool (bytes_eq r.id names_id)) [
  | inl t ↦ rw (t, same_id r other t f) refl
  | inr g ↦ rw g (ap (λ b. bytes_eq r.id other || b) (named_row how word other rs f))
]

named_names : (how : Manner) (word : Text) (rows : List Row)
    → unwrap_or (all_of names_id (named how word rows)) [] ≡ unwrap_or (all_of names_id rows) [] ++ word ∷ []
named_names how word [] = refl
named_names how word (r ∷ rs) = elim (cases_Bool (bytes_eq r.id names_id)) [
  | inl t ↦ rw (t, t) refl
  | inr g ↦ rw (g, g) (named_names how word rs)
]

pub holds_name : (rows : List Row) (q : Reading) (word : Text) → Holds rows q → Holds (used names_built (word ∷ []) rows) (with_name q word)
holds_name rows q word h =
    let how : Manner = reading_by names_built in
    record {
      names = named_names how word rows ∙ ap (λ ns. ns ++ word ∷ []) h.names;
      values = λ other a. ap (option_and_then (λ r. slice_get r.values 0)) (named_other how word other rows (bytes_sym other names_id a)) ∙ h.values other a;
      given = λ other a. named_row how word other rows (bytes_sym other names_id a) ∙ h.given other a;
    }
