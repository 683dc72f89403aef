-- A row is looked for from the first on.
use Rattle.std.proofs.Common.{◌≡◌, ◌+◌, ◌<◌, ◌≤◌, ◌∙◌, ℕ, Bool, true, false, List, [], ◌∷◌, length, map, drop, get_or, refl, sym, ap, Option, Some, None, IfSome, IsTrue, cond, subst}
use Rattle.std.specs.Prelude.{find, not, option_map, ◌&&◌}
use Rattle.std.specs.List.{list_all}
use Rattle.std.specs.Str.{bytes_eq}
use Rattle.std.specs.Borrow.{Bor}
use Rattle.std.proofs.Math.ListN.{drop_of_length-le}
use Rattle.std.proofs.lemmas.List.{at_drop_more}
use Rattle.cmd_line.specs.Command.{names_id, texts}
use Rattle.cmd_line.specs.Reading.{is_known}
use Rattle.cmd_table.specs.declared.command.Row.{Row as GivenRow}
use Rattle.cmd_table.specs.Asked.{Row, rows, row_of}
use Rattle.cmd_table.specs.Rows.{seen_row}

abbrev pub found : List ℕ → List GivenRow → Option Row
found first table = find (λ r. bytes_eq r.word first) (map seen_row table)

pub here : (first : List ℕ) (table : List GivenRow) (i : ℕ) (d : GivenRow) → i < length table → bytes_eq (get_or table i d).word.now first ≡ true
    → found first (drop i table) ≡ Some (seen_row (get_or table i d))
here first table i d h is = at_drop_more (found first) table i d h ∙ rw is refl

pub beyond : (first : List ℕ) (table : List GivenRow) (i : ℕ) (d : GivenRow) → i < length table → bytes_eq (get_or table i d).word.now first ≡ false
    → found first (drop i table) ≡ found first (drop (i + 1) table)
beyond first table i d h is = at_drop_more (found first) table i d h ∙ rw is refl

pub nowhere : (first : List ℕ) (table : List GivenRow) (i : ℕ) → length table ≤ i → found first (drop i table) ≡ None
nowhere first table i h = ap (found first) (drop_of_length-le table h)

-- no row has an option with the name of the names
abbrev apart : Row → Bool
apart row = not (is_known row.options names_id)

either : (row : Row) (other : Option Row) (test : Bool) → IsTrue (apart row) → IfSome other (λ r. IsTrue (apart r))
    → IfSome (cond test (Some row) other) (λ r. IsTrue (apart r))
either row other true is rest = is
either row other false is rest = rest

both : (a b : Bool) → (a && b) ≡ true → IsTrue a × (b ≡ true)
both true b h = (refl, h)
both false b h = absurd (cc)

all_apart : (first : List ℕ) (table : List Row) → list_all apart table ≡ true → IfSome (find (λ r. bytes_eq r.word first) table) (λ r. IsTrue (apart r))
all_apart first [] all = tt
all_apart first (row ∷ table) all =
    let parts = both (apart row) (list_all apart table) all in
    either row (find (λ r. bytes_eq r.word first) table) (bytes_eq row.word first) parts.0 (all_apart first table parts.1)

apart_at : (result : Option (Bor GivenRow)) (row : Option Row) → option_map (λ r. seen_row r.now) result ≡ row → IfSome row (λ r. IsTrue (apart r))
    → IfSome result (λ r. IsTrue (not (is_known (texts r.now.options.now) names_id)))
apart_at None row e h = tt
apart_at (Some r) row e h = subst (λ (o : Option Row). IfSome o (λ r. IsTrue (apart r))) (sym e) h

-- the options of a row that is found are apart from the names
pub row_apart : (first : List ℕ) (result : Option (Bor GivenRow)) → option_map (λ r. seen_row r.now) result ≡ row_of first
    → IfSome result (λ r. IsTrue (not (is_known (texts r.now.options.now) names_id)))
row_apart first result e = apart_at result (row_of first) e (all_apart first rows refl)
