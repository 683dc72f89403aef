-- What a parse answers is what the words ask.
use Rattle.std.proofs.Common.{◌≡◌, ◌≢◌, ℕ, List, [], ◌∷◌, Bool, true, false, refl, ap, sym, ◌∙◌, Option, Some, None, map, length, IsTrue}
use Rattle.std.specs.Prelude.{not, unwrap_or, option_and_then}
use Rattle.std.specs.Str.{bytes_eq}
use Rattle.clap.specs.Words.{Text, Row, fault_of, matches_of, first_of, all_of}
use Rattle.cmd_line.specs.Command.{command_for, names_id}
use Rattle.cmd_line.specs.Reading.{Reading, answer, is_between, is_known, value_of}
use Rattle.cmd_line.proofs.Rules.{IsApart, or_false}
use Rattle.cmd_line.proofs.Rows.{Holds}
use Rattle.cmd_line.proofs.Whole.{Agrees}

pub apart : (options : List Text) → IsTrue (not (is_known options names_id)) → IsApart options
apart options h = go (is_known options names_id) h
  where
    go : (b : Bool) → IsTrue (not b) → b ≡ false
    go true h = absurd (cc)
    go false h = refl

-- the values in the rows are those that were read
values_are : (options : List Text) (rows : List Row) (q : Reading) → IsApart options → Holds rows q
    → map (λ o. first_of o rows) options ≡ map (λ o. value_of o q.given) options
values_are [] rows q a h = refl
values_are (o ∷ rest) rows q a h =
    let parts = or_false (bytes_eq o names_id) (is_known rest names_id) a in
    ap (λ v. v ∷ map (λ n. first_of n rows) rest) (h.values o parts.0) ∙ ap (λ vs. value_of o q.given ∷ vs) (values_are rest rows q parts.1 h)

-- a parse that fails
pub refuses : (options words : List Text) (fewest most : ℕ) (r : Option Reading) → Agrees options words r → fault_of (command_for options) words ≢ []
    → None ≡ option_and_then (answer options fewest most) r
refuses options words fewest most None g f = refl
refuses options words fewest most (Some q) g f = absurd (f (g.takes q refl))

-- a parse that succeeds, with the names and the values in its rows
pub record Found (options words : List Text) (rows : List Row) (names : List Text) : Type 0 where
  pub passes : fault_of (command_for options) words ≡ []
  pub rows_are : rows ≡ matches_of (command_for options) words
  pub names_are : names ≡ unwrap_or (all_of names_id rows) []

names_read : (options words : List Text) (rows : List Row) (names : List Text) (q : Reading) → Agrees options words (Some q) → Found options words rows names
    → names ≡ q.names
names_read options words rows names q g f = f.names_are ∙ ap (λ r. unwrap_or (all_of names_id r) []) f.rows_are ∙ (g.holds q refl).names

-- with another number of names
pub miscounts : (options words : List Text) (fewest most : ℕ) (rows : List Row) (names : List Text) (r : Option Reading) → Agrees options words r
    → Found options words rows names
    → is_between fewest most (length names) ≡ false → None ≡ option_and_then (answer options fewest most) r
miscounts options words fewest most rows names None g f n = refl
miscounts options words fewest most rows names (Some q) g f n =
    let other : is_between fewest most (length q.names) ≡ false =
    ap (λ ns. is_between fewest most (length ns)) (sym (names_read options words rows names q g f)) ∙ n in
    sym (rw other refl)

-- with its number of names
pub answers : (options words : List Text) (fewest most : ℕ) (rows : List Row) (names : List Text) (values : List (Option Text)) (r : Option Reading)
    → IsApart options → Agrees options words r
    → Found options words rows names → values ≡ map (λ o. first_of o rows) options → is_between fewest most (length names) ≡ true
    → Some (names, values) ≡ option_and_then (answer options fewest most) r
answers options words fewest most rows names values None a g f v n = absurd (g.fails refl f.passes)
answers options words fewest most rows names values (Some q) a g f v n =
    let same : names ≡ q.names = names_read options words rows names q g f in
    let counted : is_between fewest most (length q.names) ≡ true = ap (λ ns. is_between fewest most (length ns)) (sym same) ∙ n in
    let all : values ≡ map (λ o. value_of o q.given) options =
    v ∙ ap (λ rs. map (λ o. first_of o rs) options) f.rows_are ∙ values_are options (matches_of (command_for options) words) q a (g.holds q refl) in
    ap (λ ns. Some (ns, values)) same ∙ ap (λ vs. Some (q.names, vs)) all ∙ sym (rw counted refl)
