-- What `clap` does at one word, over any rules that serve the options.
use Rattle.std.proofs.Common.{◌≡◌, ◌≢◌, ℕ, List, [], ◌∷◌, Bool, true, false, refl, Option, Some, None, inl, inr, slice_get, suc, length}
use Rattle.std.specs.Prelude.{◌==◌, ◌&&◌}
use Rattle.std.specs.Str.{bytes_eq, chars}
use Rattle.std.proofs.lemmas.Bool.{cases_Bool}
use Rattle.clap.specs.Words.{Text, Row, Rule}
use Rattle.clap.specs.Walk.{Held, Walk, Waiting, idle, option, positional, walked, settled_rows, used, arg_by_index, arg_by_long, arg_by_id, arg_by_short, has_row}
use Rattle.clap.specs.Faults.{turn_fault, settle_fault, react_fault, flags_fault}
use Rattle.clap.specs.Kinds.{or_else}
use Rattle.clap.specs.Lexer.{long_of, short_of}
use Rattle.clap.specs.declared.error.kind.ErrorKind.TheVariants as kind
use Rattle.cmd_line.specs.Reading.{is_option_word}
use Rattle.cmd_line.specs.Command.{names_id}
use Rattle.cmd_line.proofs.Rules.{shape_of, names_built, option_built, bytes_refl}

-- a word that is no option looks like none to clap
pub no_long : (word : Text) → is_option_word word ≡ false → long_of word ≡ None
no_long [] h = refl
no_long (x ∷ []) h = elim (cases_Bool (x == 45)) [ inl e ↦ rw e refl | inr e ↦ rw e refl ]
no_long (x ∷ y ∷ rest) h = rw h refl

pub no_short : (word : Text) → is_option_word word ≡ false → short_of word ≡ None
no_short [] h = refl
no_short (x ∷ []) h = elim (cases_Bool (x == 45)) [ inl e ↦ rw e refl | inr e ↦ rw e refl ]
no_short (x ∷ y ∷ rest) h = rw h refl

pub no_dashes : (word : Text) → is_option_word word ≡ false → bytes_eq word (45 ∷ 45 ∷ []) ≡ false
no_dashes [] h = refl
no_dashes (x ∷ []) h = elim (cases_Bool (x == 45)) [ inl e ↦ rw e refl | inr e ↦ rw e refl ]
no_dashes (x ∷ y ∷ rest) h = rw h refl

and_false : (b : Bool) → (b && false) ≡ false
and_false true = refl
and_false false = refl

-- an argument whose values are read, with those that it has
abbrev pub Pending : Type 0
Pending = Option (Text × List Text)

abbrev pub held_of : List Row → Pending → Held
held_of rows pending = record { rows = rows; pending = pending; skip = 0 }

-- after a name, or after an option and at the start
abbrev pub calm : Bool → Waiting
calm true = positional
calm false = idle

-- between two words, where no option waits for its value
abbrev pub stands_at : List Row → Pending → Bool → Bool → Walk
stands_at rows pending b t = record { held = held_of rows pending; waiting = calm b; position = 1; is_trailing = t; stopped = None }

-- the option waits for its value
abbrev pub waits_at : List Row → Text → Bool → Walk
waits_at rows name t = record { held = held_of rows (Some (name, [])); waiting = option name; position = 1; is_trailing = t; stopped = None }

-- a name
pub name_fault : (R : List Rule) (rows : List Row) (p : Pending) (b : Bool) (word : Text) → arg_by_index R 1 ≡ Some names_built → is_option_word word ≡ false
    → turn_fault (shape_of R) [] (stands_at rows p b false) word ≡ settle_fault R false (held_of rows p)
name_fault R rows None true word i h = rw (no_dashes word h, no_long word h, no_short word h, i) refl
name_fault R rows None false word i h = rw (no_dashes word h, no_long word h, no_short word h, i) refl
name_fault R rows (Some q) true word i h = rw (no_dashes word h, no_long word h, no_short word h, i, and_false (bytes_eq q.0 names_id)) refl
name_fault R rows (Some q) false word i h = rw (no_dashes word h, no_long word h, no_short word h, i, and_false (bytes_eq q.0 names_id)) refl

pub name_walked : (R : List Rule) (rows : List Row) (p : Pending) (b : Bool) (word : Text) → arg_by_index R 1 ≡ Some names_built → is_option_word word ≡ false
    → walked R [] (stands_at rows p b false) word ≡ stands_at (settled_rows R p rows) (Some (names_id, word ∷ [])) true false
unfolding walked
name_walked R rows None true word i h = rw (no_dashes word h, no_long word h, no_short word h, i) refl
name_walked R rows None false word i h = rw (no_dashes word h, no_long word h, no_short word h, i) refl
name_walked R rows (Some q) true word i h = rw (no_dashes word h, no_long word h, no_short word h, i, and_false (bytes_eq q.0 names_id)) refl
name_walked R rows (Some q) false word i h = rw (no_dashes word h, no_long word h, no_short word h, i, and_false (bytes_eq q.0 names_id)) refl

-- a name after `--`
pub trailing_fault : (R : List Rule) (rows : List Row) (p : Pending) (b : Bool) (word : Text) → arg_by_index R 1 ≡ Some names_built
    → turn_fault (shape_of R) [] (stands_at rows p b true) word ≡ settle_fault R false (held_of rows p)
trailing_fault R rows None b word i = rw i refl
trailing_fault R rows (Some q) b word i = rw (i, and_false (bytes_eq q.0 names_id)) refl

pub trailing_walked : (R : List Rule) (rows : List Row) (p : Pending) (b : Bool) (word : Text) → arg_by_index R 1 ≡ Some names_built
    → walked R [] (stands_at rows p b true) word ≡ stands_at (settled_rows R p rows) (Some (names_id, word ∷ [])) true true
unfolding walked
trailing_walked R rows None b word i = rw i refl
trailing_walked R rows (Some q) b word i = rw (i, and_false (bytes_eq q.0 names_id)) refl

-- `--`
pub dashes_fault : (R : List Rule) (rows : List Row) (p : Pending) (b : Bool) → turn_fault (shape_of R) [] (stands_at rows p b false) (45 ∷ 45 ∷ []) ≡ []
dashes_fault R rows p true = refl
dashes_fault R rows p false = refl

pub dashes_walked : (R : List Rule) (rows : List Row) (p : Pending) (b : Bool) → walked R [] (stands_at rows p b false) (45 ∷ 45 ∷ []) ≡ stands_at rows p b true
unfolding walked
dashes_walked R rows p true = refl
dashes_walked R rows p false = refl

-- `--name=value`
pub attached_fault : (R : List Rule) (rows : List Row) (p : Pending) (b : Bool) (word name value : Text) → arg_by_long R name ≡ Some (option_built name)
    → bytes_eq word (45 ∷ 45 ∷ []) ≡ false → long_of word ≡ Some (name, Some value)
    → turn_fault (shape_of R) [] (stands_at rows p b false) word ≡ or_else (react_fault R false (option_built name) (value ∷ []) (held_of rows p)) []
attached_fault R rows p true word name value k d l = rw (d, l, k) refl
attached_fault R rows p false word name value k d l = rw (d, l, k) refl

pub attached_walked : (R : List Rule) (rows : List Row) (p : Pending) (b : Bool) (word name value : Text) → arg_by_long R name ≡ Some (option_built name)
    → bytes_eq word (45 ∷ 45 ∷ []) ≡ false → long_of word ≡ Some (name, Some value)
    → walked R [] (stands_at rows p b false) word ≡ stands_at (used (option_built name) (value ∷ []) (settled_rows R p rows)) None false false
unfolding walked
attached_walked R rows p true word name value k d l = rw (d, l, k) refl
attached_walked R rows p false word name value k d l = rw (d, l, k) refl

-- `--name`
pub alone_fault : (R : List Rule) (rows : List Row) (p : Pending) (b : Bool) (word name : Text) → arg_by_long R name ≡ Some (option_built name)
    → bytes_eq word (45 ∷ 45 ∷ []) ≡ false → long_of word ≡ Some (name, None)
    → turn_fault (shape_of R) [] (stands_at rows p b false) word ≡ or_else (settle_fault R false (held_of rows p)) []
alone_fault R rows p true word name k d l = rw (d, l, k) refl
alone_fault R rows p false word name k d l = rw (d, l, k) refl

pub alone_walked : (R : List Rule) (rows : List Row) (p : Pending) (b : Bool) (word name : Text) → arg_by_long R name ≡ Some (option_built name)
    → bytes_eq word (45 ∷ 45 ∷ []) ≡ false → long_of word ≡ Some (name, None)
    → walked R [] (stands_at rows p b false) word ≡ waits_at (settled_rows R p rows) name false
unfolding walked
alone_walked R rows p true word name k d l = rw (d, l, k) refl
alone_walked R rows p false word name k d l = rw (d, l, k) refl

-- an option that the command does not have
pub unknown_fault : (R : List Rule) (rows : List Row) (p : Pending) (b : Bool) (word name : Text) (value : Option Text) → arg_by_long R name ≡ None
    → bytes_eq word (45 ∷ 45 ∷ []) ≡ false → long_of word ≡ Some (name, value)
    → turn_fault (shape_of R) [] (stands_at rows p b false) word ≡ kind.UnknownArgument ∷ []
unknown_fault R rows p true word name value k d l = rw (d, l, k) refl
unknown_fault R rows p false word name value k d l = rw (d, l, k) refl

-- `-x`
flags_unknown : (R : List Rule) (k : ℕ) (flags : Text) (h : Held) (c : ℕ) → arg_by_short R c ≡ None → slice_get (chars flags) 0 ≡ Some c
    → flags_fault R false (suc k) flags 0 h ≡ kind.UnknownArgument ∷ []
unfolding flags_fault
flags_unknown R k flags h c none first = rw (first, none) refl

pub bundle_fault : (R : List Rule) (rows : List Row) (p : Pending) (b : Bool) (word flags : Text) → bytes_eq word (45 ∷ 45 ∷ []) ≡ false → long_of word ≡ None
    → short_of word ≡ Some flags
    → flags_fault R false (length flags) flags 0 (held_of rows p) ≡ kind.UnknownArgument ∷ []
    → turn_fault (shape_of R) [] (stands_at rows p b false) word ≡ kind.UnknownArgument ∷ []
bundle_fault R rows p true word flags d l s f = rw (d, l, s, f) refl
bundle_fault R rows p false word flags d l s f = rw (d, l, s, f) refl

waits_bundle : (R : List Rule) (rows : List Row) (name word flags : Text) → bytes_eq word (45 ∷ 45 ∷ []) ≡ false → long_of word ≡ None
    → short_of word ≡ Some flags
    → flags_fault R false (length flags) flags 0 (held_of rows (Some (name, []))) ≡ kind.UnknownArgument ∷ []
    → turn_fault (shape_of R) [] (waits_at rows name false) word ≡ kind.UnknownArgument ∷ []
waits_bundle R rows name word flags d l s f = rw (d, l, s, f) refl

head_of : (cs : List ℕ) → cs ≢ [] → (c : ℕ) × (slice_get cs 0 ≡ Some c)
head_of [] h = absurd (h refl)
head_of (c ∷ cs) h = (c, refl)

short_dashes : (x : ℕ) (xs : Text) → (x == 45) ≡ false → bytes_eq (45 ∷ x ∷ xs) (45 ∷ 45 ∷ []) ≡ false
short_dashes x xs h = rw h refl

short_long : (x : ℕ) (xs : Text) → (x == 45) ≡ false → long_of (45 ∷ x ∷ xs) ≡ None
short_long x xs h = rw h refl

short_short : (x : ℕ) (xs : Text) → (x == 45) ≡ false → short_of (45 ∷ x ∷ xs) ≡ Some (x ∷ xs)
short_short x xs h = rw h refl

pub short_fault : (R : List Rule) (rows : List Row) (p : Pending) (b : Bool) (x : ℕ) (xs : Text) → ((c : ℕ) → arg_by_short R c ≡ None) → (x == 45) ≡ false
    → chars (x ∷ xs) ≢ []
    → turn_fault (shape_of R) [] (stands_at rows p b false) (45 ∷ x ∷ xs) ≡ kind.UnknownArgument ∷ []
short_fault R rows p b x xs none h full =
    let first = head_of (chars (x ∷ xs)) full in
    bundle_fault R rows p b (45 ∷ x ∷ xs) (x ∷ xs) (short_dashes x xs h) (short_long x xs h) (short_short x xs h)
    (flags_unknown R (length xs) (x ∷ xs) (held_of rows p) first.0 (none first.0) first.1)

pub waits_short : (R : List Rule) (rows : List Row) (name : Text) (x : ℕ) (xs : Text) → ((c : ℕ) → arg_by_short R c ≡ None) → (x == 45) ≡ false
    → chars (x ∷ xs) ≢ []
    → turn_fault (shape_of R) [] (waits_at rows name false) (45 ∷ x ∷ xs) ≡ kind.UnknownArgument ∷ []
waits_short R rows name x xs none h full =
    let first = head_of (chars (x ∷ xs)) full in
    waits_bundle R rows name (45 ∷ x ∷ xs) (x ∷ xs) (short_dashes x xs h) (short_long x xs h) (short_short x xs h)
    (flags_unknown R (length xs) (x ∷ xs) (held_of rows (Some (name, []))) first.0 (none first.0) first.1)

-- the value of an option
pub value_fault : (R : List Rule) (rows : List Row) (name word : Text) → is_option_word word ≡ false
    → turn_fault (shape_of R) [] (waits_at rows name false) word ≡ []
value_fault R rows name word h = rw (no_dashes word h, no_long word h, no_short word h) refl

pub value_walked : (R : List Rule) (rows : List Row) (name word : Text) → arg_by_id R name ≡ Some (option_built name) → is_option_word word ≡ false
    → walked R [] (waits_at rows name false) word ≡ stands_at rows (Some (name, word ∷ [])) false false
unfolding walked
value_walked R rows name word k h = rw (no_dashes word h, no_long word h, no_short word h, k, bytes_refl name) refl

-- `--` in place of a value
pub waits_dashes_fault : (R : List Rule) (rows : List Row) (name : Text) → turn_fault (shape_of R) [] (waits_at rows name false) (45 ∷ 45 ∷ []) ≡ []
waits_dashes_fault R rows name = refl

pub waits_dashes : (R : List Rule) (rows : List Row) (name : Text) → walked R [] (waits_at rows name false) (45 ∷ 45 ∷ []) ≡ waits_at rows name true
unfolding walked
waits_dashes R rows name = refl

-- an option in place of a value
pub no_value : (R : List Rule) (rows : List Row) (name : Text) → arg_by_id R name ≡ Some (option_built name)
    → settle_fault R false (held_of rows (Some (name, []))) ≡ kind.InvalidValue ∷ []
no_value R rows name k = rw k refl

pub waits_unknown : (R : List Rule) (rows : List Row) (awaited word name : Text) (value : Option Text) → arg_by_long R name ≡ None
    → bytes_eq word (45 ∷ 45 ∷ []) ≡ false → long_of word ≡ Some (name, value)
    → turn_fault (shape_of R) [] (waits_at rows awaited false) word ≡ kind.UnknownArgument ∷ []
waits_unknown R rows awaited word name value k d l = rw (d, l, k) refl

pub waits_option : (R : List Rule) (rows : List Row) (awaited word name : Text) (value : Option Text) → arg_by_long R name ≡ Some (option_built name)
    → arg_by_id R awaited ≡ Some (option_built awaited)
    → bytes_eq word (45 ∷ 45 ∷ []) ≡ false → long_of word ≡ Some (name, value)
    → turn_fault (shape_of R) [] (waits_at rows awaited false) word ≡ kind.InvalidValue ∷ []
waits_option R rows awaited word name (Some value) k a d l = rw (d, l, k, a) refl
waits_option R rows awaited word name None k a d l = rw (d, l, k, a) refl

-- a name after `--` in place of a value
pub missing_fault : (R : List Rule) (rows : List Row) (name word : Text) → arg_by_index R 1 ≡ Some names_built → arg_by_id R name ≡ Some (option_built name)
    → turn_fault (shape_of R) [] (waits_at rows name true) word ≡ kind.InvalidValue ∷ []
missing_fault R rows name word i k = rw (i, and_false (bytes_eq name names_id), k) refl

-- a use that is settled
pub name_settles : (R : List Rule) (rows : List Row) (word : Text) → arg_by_id R names_id ≡ Some names_built
    → settle_fault R false (held_of rows (Some (names_id, word ∷ []))) ≡ []
name_settles R rows word k = rw k refl

pub value_settles : (R : List Rule) (rows : List Row) (name value : Text) → arg_by_id R name ≡ Some (option_built name) → has_row name rows ≡ false
    → settle_fault R false (held_of rows (Some (name, value ∷ []))) ≡ []
value_settles R rows name value k h = rw (k, h) refl

pub value_repeats : (R : List Rule) (rows : List Row) (name value : Text) → arg_by_id R name ≡ Some (option_built name) → has_row name rows ≡ true
    → settle_fault R false (held_of rows (Some (name, value ∷ []))) ≡ kind.ArgumentConflict ∷ []
value_repeats R rows name value k h = rw (k, h) refl

pub attached_settles : (R : List Rule) (rows : List Row) (p : Pending) (name value : Text) → settle_fault R false (held_of rows p) ≡ []
    → has_row name (settled_rows R p rows) ≡ false
    → or_else (react_fault R false (option_built name) (value ∷ []) (held_of rows p)) [] ≡ []
attached_settles R rows p name value s h = rw (s, h) refl

pub attached_repeats : (R : List Rule) (rows : List Row) (p : Pending) (name value : Text) → settle_fault R false (held_of rows p) ≡ []
    → has_row name (settled_rows R p rows) ≡ true
    → or_else (react_fault R false (option_built name) (value ∷ []) (held_of rows p)) [] ≡ kind.ArgumentConflict ∷ []
attached_repeats R rows p name value s h = rw (s, h) refl

pub settled_name : (R : List Rule) (rows : List Row) (word : Text) → arg_by_id R names_id ≡ Some names_built
    → settled_rows R (Some (names_id, word ∷ [])) rows ≡ used names_built (word ∷ []) rows
settled_name R rows word k = rw k refl

pub settled_value : (R : List Rule) (rows : List Row) (name value : Text) → arg_by_id R name ≡ Some (option_built name)
    → settled_rows R (Some (name, value ∷ [])) rows ≡ used (option_built name) (value ∷ []) rows
settled_value R rows name value k = rw k refl
