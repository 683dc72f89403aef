-- A parse of the command with these options fails exactly where the reading refuses the words, and else holds what was read.
use Rattle.std.proofs.Common.{◌≡◌, ◌≢◌, List, [], ◌∷◌, Bool, true, false, refl, ap, sym, ◌∙◌, Option, Some, None, subst, fold, map, string_bytes, Global}
use Rattle.std.specs.Prelude.{String}
use Rattle.std.specs.Str.{is_utf8}
use Rattle.std.proofs.lemmas.Str.{IsUtf8-had, is_utf8-from_IsUtf8}
use Rattle.clap.specs.Words.{App, Text, Row, Rule, Kinds, fault_of, matches_of}
use Rattle.clap.specs.Walk.{Held, Walk, walked, settled, settled_rows, finished}
use Rattle.clap.specs.Faults.{turn_fault, walk_fault, settle_fault, defaults_fault, check_fault, built_fault}
use Rattle.clap.specs.Kinds.{or_else}
use Rattle.clap.proofs.FaultLemmas.{leaf_fault}
use Rattle.clap.specs.declared.error.kind.ErrorKind.TheVariants as kind
use Rattle.cmd_line.specs.Command.{command_for}
use Rattle.cmd_line.specs.Reading.{Reading, State, ready, awaits, trailing, refused, nothing, after_word, ended, reading, is_known}
use Rattle.cmd_line.proofs.Rules.{shape_of, rules_of, Serves, serves, IsApart, built_is}
use Rattle.cmd_line.proofs.Steps.{held_of, stands_at, waits_at, no_value}
use Rattle.cmd_line.proofs.Rows.{Holds, holds_nothing}
use Rattle.cmd_line.proofs.Turns.{Stands, unsettled, again, missing, Matches, goes, stops, turn, or_else_fails}

-- what is held after all the words
abbrev end_held : List Rule → Walk → List Text → Held
end_held rules w words = (fold (walked rules []) w words).held

-- the fault after the last word, and of all
abbrev finish : List Rule → Held → Kinds
finish rules h = or_else (settle_fault rules false h)
    (or_else (defaults_fault (settled rules h).rows rules) (check_fault (shape_of rules) (finished rules h) false))

abbrev from : List Rule → Walk → List Text → Kinds
from rules w words = or_else (walk_fault (shape_of rules) [] w words) (finish rules (end_held rules w words))

-- from here the words are refused, or the rows at their end hold what was read
abbrev Concludes : Option Reading → List Rule → Walk → List Text → Type 0
Concludes (Some q) rules w words = (from rules w words ≡ []) × Holds (finished rules (end_held rules w words)) q
Concludes None rules w words = from rules w words ≢ []

or_else_none : (a : Kinds) → or_else a [] ≡ a
or_else_none [] = refl
or_else_none (k ∷ ks) = refl

check_passes : (options : List Text) (rules : List Rule) (rows : List Row) → Serves options rules → check_fault (shape_of rules) rows false ≡ []
check_passes options rules rows s = rw (s.optional rows) refl

finish_is : (options : List Text) (rules : List Rule) (h : Held) → Serves options rules → finish rules h ≡ settle_fault rules false h
finish_is options rules h s =
    ap (λ a. or_else (settle_fault rules false h) (or_else a (check_fault (shape_of rules) (finished rules h) false))) (s.no_fault (settled rules h).rows)
    ∙ ap (λ a. or_else (settle_fault rules false h) a) (check_passes options rules (finished rules h) s)
    ∙ or_else_none (settle_fault rules false h)

from_nil : (options : List Text) (rules : List Rule) (w : Walk) → Serves options rules → from rules w [] ≡ settle_fault rules false w.held
unfolding walk_fault
from_nil options rules w s = finish_is options rules w.held s

waits_faults : (options : List Text) (rules : List Rule) (w : Walk) (rows : List Row) (name : Text) (t : Bool) → Serves options rules → w ≡ waits_at rows name t
    → is_known options name ≡ true → from rules w [] ≢ []
waits_faults options rules w rows name t s e k =
    let fault : from rules w [] ≡ kind.InvalidValue ∷ [] =
    ap (λ x. from rules x []) e ∙ from_nil options rules (waits_at rows name t) s ∙ no_value rules rows name (s.known name k).by_id in
    λ f. let bad : [] ≡ kind.InvalidValue ∷ [] = sym f ∙ fault in absurd (cc)

stands_ends : (options : List Text) (rules : List Rule) (w : Walk) (q : Reading) (t : Bool) → Serves options rules → Stands rules q w t
    → Concludes (Some q) rules w []
stands_ends options rules w q t s m = (
  ap (λ x. from rules x []) m.is ∙ from_nil options rules (stands_at m.rows m.pending m.calm t) s ∙ m.settles,
  subst (λ x. Holds (finished rules x.held) q) (sym m.is) (subst (λ r. Holds r q) (sym (s.defaults (settled_rows rules m.pending m.rows))) m.holds),
)

ends : (options : List Text) (rules : List Rule) (st : State) (w : Walk) → Serves options rules → Matches options rules st w → Concludes (ended st) rules w []
ends options rules (ready q) w s m = stands_ends options rules w q false s m
ends options rules (trailing q) w s m = stands_ends options rules w q true s m
ends options rules (awaits name q) w s m = waits_faults options rules w m.rows name false s m.is m.known
ends options rules refused w s (unsettled rows p b t is n) =
    λ f. n (sym (from_nil options rules (stands_at rows p b t) s) ∙ ap (λ x. from rules x []) (sym is) ∙ f)
ends options rules refused w s (again rows name is k there) = waits_faults options rules w rows name false s is k
ends options rules refused w s (missing rows name is k) = waits_faults options rules w rows name true s is k

stays_refused : (options words : List Text) → ended (fold (after_word options) refused words) ≡ None
stays_refused options [] = refl
stays_refused options (word ∷ rest) = stays_refused options rest

same_from : (rules : List Rule) (w : Walk) (word : Text) (rest : List Text) → turn_fault (shape_of rules) [] w word ≡ []
    → from rules w (word ∷ rest) ≡ from rules (walked rules [] w word) rest
unfolding walk_fault
same_from rules w word rest h = rw h refl

next_word : (r : Option Reading) (rules : List Rule) (w : Walk) (word : Text) (rest : List Text) → turn_fault (shape_of rules) [] w word ≡ []
    → Concludes r rules (walked rules [] w word) rest → Concludes r rules w (word ∷ rest)
next_word (Some q) rules w word rest h c = (same_from rules w word rest h ∙ c.0, c.1)
next_word None rules w word rest h c = λ f. c (sym (same_from rules w word rest h) ∙ f)

stopped : (rules : List Rule) (w : Walk) (word : Text) (rest : List Text) → turn_fault (shape_of rules) [] w word ≢ [] → from rules w (word ∷ rest) ≢ []
unfolding walk_fault
stopped rules w word rest h = or_else_fails _ _ (or_else_fails _ _ h)

-- the words are text
abbrev pub AreText : List Text → Type 0
AreText [] = Unit {0}
AreText (word ∷ rest) = (is_utf8 word ≡ true) × AreText rest

concludes : (options : List Text) (rules : List Rule) (words : List Text) (st : State) (w : Walk) → Serves options rules → AreText words
    → Matches options rules st w
    → Concludes (ended (fold (after_word options) st words)) rules w words
concludes options rules [] st w s t m = ends options rules st w s m
concludes options rules (word ∷ rest) st w s t m = elim (turn options rules st w word s t.0 m) [
  | goes f n ↦ next_word (ended (fold (after_word options) (after_word options st word) rest)) rules w word rest f
      (concludes options rules rest (after_word options st word) (walked rules [] w word) s t.1 n)
  | stops f e ↦ subst (λ r. Concludes r rules w (word ∷ rest)) (sym (ap (λ x. ended (fold (after_word options) x rest)) e ∙ stays_refused options rest))
      (stopped rules w word rest f)
]

abbrev start : Walk
start = stands_at [] None false false

start_matches : (options : List Text) (rules : List Rule) → Matches options rules (ready nothing) start
start_matches options rules = record { rows = []; pending = None; calm = false; is = refl; holds = holds_nothing; settles = refl }

fault_is : (options words : List Text) → fault_of (command_for options) words ≡ from (rules_of options) start words
fault_is options words =
    ap (λ a. built_fault a (held_of [] None) words) (built_is options)
    ∙ leaf_fault (record { top = shape_of (rules_of options); subs = [] }) (held_of [] None) words refl

matches_are : (options words : List Text) → matches_of (command_for options) words ≡ finished (rules_of options) (end_held (rules_of options) start words)
matches_are options words = ap (λ (a : App). finished a.top.rules (fold (walked a.top.rules []) start words).held) (built_is options)

-- the parse fails exactly where the reading refuses the words, and else its rows hold what was read
pub record Agrees (options words : List Text) (r : Option Reading) : Type 0 where
  pub fails : r ≡ None → fault_of (command_for options) words ≢ []
  pub takes : (q : Reading) → r ≡ Some q → fault_of (command_for options) words ≡ []
  pub holds : (q : Reading) → r ≡ Some q → Holds (matches_of (command_for options) words) q

agrees_by : (options words : List Text) (r : Option Reading) → Concludes r (rules_of options) start words → Agrees options words r
agrees_by options words None c = record {
  fails = λ e f. c (sym (fault_is options words) ∙ f);
  takes = λ q e. absurd (cc);
  holds = λ q e. absurd (cc);
}
agrees_by options words (Some p) c = record {
  fails = λ e. absurd (cc);
  takes = λ q e. fault_is options words ∙ c.0;
  holds = λ q e.
      let same : p ≡ q = cc in
      subst (λ x. Holds (matches_of (command_for options) words) x) same (subst (λ rows. Holds rows p) (sym (matches_are options words)) c.1);
}

pub agrees : (options words : List Text) → IsApart options → AreText words → Agrees options words (reading options words)
agrees options words apart t =
    agrees_by options words _
    (concludes options (rules_of options) words (ready nothing) start (serves options apart) t (start_matches options (rules_of options)))

pub texts_are : (words : List (String Global)) → AreText (map string_bytes words)
texts_are [] = tt
texts_are (w ∷ ws) = (is_utf8-from_IsUtf8 (string_bytes w) (IsUtf8-had (string_bytes w) w.ok), texts_are ws)
