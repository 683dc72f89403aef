-- The reading and the parse go side by side over the words.
use Rattle.std.proofs.Common.{◌≡◌, ◌≢◌, ℕ, List, [], ◌∷◌, Bool, true, false, refl, ap, sym, ◌∙◌, Option, Some, None, cond, subst, inl, inr}
use Rattle.std.specs.Prelude.{◌==◌, ◌&&◌, not, encode_utf8_all}
use Rattle.std.specs.Str.{bytes_eq, chars, is_utf8, all_scalars}
use Rattle.std.specs.Char.{encode_utf8}
use Rattle.std.proofs.lemmas.Bool.{cases_Bool}
use Rattle.std.proofs.lemmas.Bool.Decides.{nat_tests}
use Rattle.std.proofs.Common.{arith}
use Rattle.clap.specs.Words.{Text, Row, Rule}
use Rattle.clap.specs.Walk.{Walk, walked, settled_rows, used, has_row}
use Rattle.clap.specs.Faults.{turn_fault, settle_fault}
use Rattle.clap.specs.Kinds.{Kinds, or_else}
use Rattle.clap.specs.Lexer.{long_of, name_and_value}
use Rattle.clap.specs.declared.error.kind.ErrorKind.{ErrorKind}
use Rattle.clap.specs.declared.error.kind.ErrorKind.TheVariants as kind
use Rattle.cmd_line.specs.Reading.{Reading, State, ready, awaits, trailing, refused, is_option_word, is_known, is_given, with_name, with_value, after_word, after_option}
use Rattle.cmd_line.specs.Command.{names_id}
use Rattle.cmd_line.proofs.Rules.{shape_of, option_built, Serves, IsKnown}
use Rattle.cmd_line.proofs.Steps.{Pending, held_of, stands_at, waits_at, name_fault, name_walked, trailing_fault, trailing_walked, dashes_fault, dashes_walked, attached_fault, attached_walked, alone_fault, alone_walked, unknown_fault, short_fault, waits_short, value_fault, value_walked, waits_dashes_fault, waits_dashes, waits_unknown, waits_option, missing_fault, name_settles, value_settles, value_repeats, attached_settles, attached_repeats, settled_name, settled_value}
use Rattle.cmd_line.proofs.Rows.{Holds, holds_value, holds_name}

-- the parse stands where q was read, and what is pending settles
pub record Stands (rules : List Rule) (q : Reading) (w : Walk) (t : Bool) : Type 0 where
  pub rows : List Row
  pub pending : Pending
  pub calm : Bool
  pub is : w ≡ stands_at rows pending calm t
  pub holds : Holds (settled_rows rules pending rows) q
  pub settles : settle_fault rules false (held_of rows pending) ≡ []

-- the option waits for its value, and was not given before
pub record Waits (options : List Text) (name : Text) (q : Reading) (w : Walk) : Type 0 where
  pub rows : List Row
  pub is : w ≡ waits_at rows name false
  pub holds : Holds rows q
  pub known : is_known options name ≡ true
  pub fresh : has_row name rows ≡ false

-- whatever comes, the parse will be refused: what is pending does not settle, or an option was given again, or it lacks its value
pub data Fails (options : List Text) (rules : List Rule) (w : Walk) : Type 0 where
  unsettled : (rows : List Row) (p : Pending) (b t : Bool) → w ≡ stands_at rows p b t → settle_fault rules false (held_of rows p) ≢ [] → Fails options rules w
  again : (rows : List Row) (name : Text) → w ≡ waits_at rows name false → is_known options name ≡ true → has_row name rows ≡ true → Fails options rules w
  missing : (rows : List Row) (name : Text) → w ≡ waits_at rows name true → is_known options name ≡ true → Fails options rules w

abbrev pub Matches : List Text → List Rule → State → Walk → Type 0
Matches options rules (ready q) w = Stands rules q w false
Matches options rules (awaits name q) w = Waits options name q w
Matches options rules (trailing q) w = Stands rules q w true
Matches options rules refused w = Fails options rules w

-- one word: both go on, or the parse is refused and so is the reading
pub data Turn (options : List Text) (rules : List Rule) (st : State) (w : Walk) (word : Text) : Type 0 where
  goes : turn_fault (shape_of rules) [] w word ≡ [] → Matches options rules (after_word options st word) (walked rules [] w word) → Turn options rules st w word
  stops : turn_fault (shape_of rules) [] w word ≢ [] → after_word options st word ≡ refused → Turn options rules st w word

full : (k : ErrorKind) (a : Kinds) → a ≡ k ∷ [] → a ≢ []
full k a e = λ f. let bad : [] ≡ k ∷ [] = sym f ∙ e in absurd (cc)

or_else_none : (a : Kinds) → a ≡ [] → or_else a [] ≡ []
or_else_none a e = ap (λ k. or_else k []) e

pub or_else_fails : (a b : Kinds) → a ≢ [] → or_else a b ≢ []
or_else_fails [] b h = λ e. h refl
or_else_fails (k ∷ ks) b h = λ e. absurd (cc)

-- the kinds of words
pub data Class (word : Text) : Type 0 where
  plain : is_option_word word ≡ false → Class word
  dashes : word ≡ 45 ∷ 45 ∷ [] → Class word
  long : (z : ℕ) (zs : Text) → word ≡ 45 ∷ 45 ∷ z ∷ zs → Class word
  short : (x : ℕ) (xs : Text) → word ≡ 45 ∷ x ∷ xs → (x == 45) ≡ false → Class word

is_45 : (x : ℕ) → (x == 45) ≡ true → x ≡ 45
is_45 x h = grind (arith, nat_tests)

twice : (x y : ℕ) (rest : Text) → x ≡ 45 → y ≡ 45 → Class (x ∷ y ∷ rest)
twice x y [] p q = dashes (ap (λ b. b ∷ y ∷ []) p ∙ ap (λ b. 45 ∷ b ∷ []) q)
twice x y (z ∷ zs) p q = long z zs (ap (λ b. b ∷ y ∷ z ∷ zs) p ∙ ap (λ b. 45 ∷ b ∷ z ∷ zs) q)

classify : (word : Text) → Class word
classify [] = plain refl
classify (x ∷ []) = plain refl
classify (x ∷ y ∷ rest) = elim (cases_Bool (x == 45)) [
  | inr f ↦ plain f
  | inl t ↦ elim (cases_Bool (y == 45)) [
    | inr g ↦ short y rest (ap (λ b. b ∷ y ∷ rest) (is_45 x t)) g
    | inl u ↦ twice x y rest (is_45 x t) (is_45 y u)
  ]
]

text_tail : (x : ℕ) (xs : Text) → is_utf8 (45 ∷ x ∷ xs) ≡ true → chars (x ∷ xs) ≢ []
unfolding chars encode_utf8 is_utf8
text_tail x xs h = λ e.
    let test : List ℕ → Bool = λ cs. all_scalars (45 ∷ cs) && bytes_eq (encode_utf8_all (45 ∷ cs)) (45 ∷ x ∷ xs) in
    let bad : false ≡ true = sym (ap test e) ∙ h in
    absurd (cc)

moved : (options : List Text) (rules : List Rule) (st to : State) (w v : Walk) (word : Text) → turn_fault (shape_of rules) [] w word ≡ []
    → walked rules [] w word ≡ v
    → after_word options st word ≡ to → Matches options rules to v → Turn options rules st w word
moved options rules st to w v word f e s m =
    goes f (subst (λ x. Matches options rules x (walked rules [] w word)) (sym s) (subst (λ x. Matches options rules to x) (sym e) m))

-- a name
name_stands : (options : List Text) (rules : List Rule) (rows : List Row) (p : Pending) (q : Reading) (word : Text) (t : Bool) → Serves options rules
    → Holds (settled_rows rules p rows) q
    → Stands rules (with_name q word) (stands_at (settled_rows rules p rows) (Some (names_id, word ∷ [])) true t) t
name_stands options rules rows p q word t s h = record {
  rows = settled_rows rules p rows;
  pending = Some (names_id, word ∷ []);
  calm = true;
  is = refl;
  holds = subst (λ r. Holds r (with_name q word)) (sym (settled_name rules (settled_rows rules p rows) word s.by_id))
      (holds_name (settled_rows rules p rows) q word h);
  settles = name_settles rules (settled_rows rules p rows) word s.by_id;
}

value_stands : (options : List Text) (rules : List Rule) (rows : List Row) (name value : Text) (q : Reading) → IsKnown rules name → Holds rows q
    → has_row name rows ≡ false
    → Stands rules (with_value q name value) (stands_at rows (Some (name, value ∷ [])) false false) false
value_stands options rules rows name value q k h none = record {
  rows = rows;
  pending = Some (name, value ∷ []);
  calm = false;
  is = refl;
  holds = subst (λ r. Holds r (with_value q name value)) (sym (settled_value rules rows name value k.by_id)) (holds_value rows q name value h none k.apart);
  settles = value_settles rules rows name value k.by_id none;
}

-- `--name` and `--name=value`, of an option of the command
long_known : (options : List Text) (rules : List Rule) (rows : List Row) (p : Pending) (b : Bool) (q : Reading) (word name : Text) (value : Option Text)
    → IsKnown rules name → is_known options name ≡ true
    → bytes_eq word (45 ∷ 45 ∷ []) ≡ false → long_of word ≡ Some (name, value) → Holds (settled_rows rules p rows) q
    → settle_fault rules false (held_of rows p) ≡ []
    → (g : Bool) → has_row name (settled_rows rules p rows) ≡ g → after_word options (ready q) word ≡ cond (not g) (after_option q name value) refused
    → Turn options rules (ready q) (stands_at rows p b false) word
long_known options rules rows p b q word name (Some v) k o d l h s false none a =
    moved options rules (ready q) (ready (with_value q name v)) (stands_at rows p b false) _ word
    (attached_fault rules rows p b word name v k.long d l ∙ attached_settles rules rows p name v s none)
    (attached_walked rules rows p b word name v k.long d l) a (record {
      rows = used (option_built name) (v ∷ []) (settled_rows rules p rows);
      pending = None;
      calm = false;
      is = refl;
      holds = holds_value (settled_rows rules p rows) q name v h none k.apart;
      settles = refl;
    })
long_known options rules rows p b q word name (Some v) k o d l h s true there a =
    stops (full kind.ArgumentConflict _ (attached_fault rules rows p b word name v k.long d l ∙ attached_repeats rules rows p name v s there)) a
long_known options rules rows p b q word name None k o d l h s false none a =
    moved options rules (ready q) (awaits name q) (stands_at rows p b false) _ word
    (alone_fault rules rows p b word name k.long d l ∙ or_else_none _ s)
    (alone_walked rules rows p b word name k.long d l) a (record { rows = settled_rows rules p rows; is = refl; holds = h; known = o; fresh = none })
long_known options rules rows p b q word name None k o d l h s true there a =
    moved options rules (ready q) refused (stands_at rows p b false) _ word
    (alone_fault rules rows p b word name k.long d l ∙ or_else_none _ s)
    (alone_walked rules rows p b word name k.long d l) a (again (settled_rows rules p rows) name refl o there)

long_ready : (options : List Text) (rules : List Rule) (rows : List Row) (p : Pending) (b : Bool) (q : Reading) (z : ℕ) (zs : Text) → Serves options rules
    → Holds (settled_rows rules p rows) q
    → settle_fault rules false (held_of rows p) ≡ [] → (o : Bool) → is_known options (name_and_value (z ∷ zs)).0 ≡ o
    → Turn options rules (ready q) (stands_at rows p b false) (45 ∷ 45 ∷ z ∷ zs)
long_ready options rules rows p b q z zs s h e true o =
    let np : Text × Option Text = name_and_value (z ∷ zs) in
    let k = s.known np.0 o in
    let same : has_row np.0 (settled_rows rules p rows) ≡ is_given np.0 q.given = h.given np.0 k.apart in
    long_known options rules rows p b q (45 ∷ 45 ∷ z ∷ zs) np.0 np.1 k o refl refl h e (has_row np.0 (settled_rows rules p rows)) refl
    (ap (λ x. cond (x && not (is_given np.0 q.given)) (after_option q np.0 np.1) refused) o
    ∙ ap (λ x. cond (not x) (after_option q np.0 np.1) refused) (sym same))
long_ready options rules rows p b q z zs s h e false o =
    let np : Text × Option Text = name_and_value (z ∷ zs) in
    stops (full kind.UnknownArgument _ (unknown_fault rules rows p b (45 ∷ 45 ∷ z ∷ zs) np.0 np.1 (s.unknown np.0 o) refl refl))
    (ap (λ x. cond (x && not (is_given np.0 q.given)) (after_option q np.0 np.1) refused) o)

at_ready : (options : List Text) (rules : List Rule) (rows : List Row) (p : Pending) (b : Bool) (q : Reading) (word : Text) → Serves options rules
    → is_utf8 word ≡ true → Holds (settled_rows rules p rows) q
    → settle_fault rules false (held_of rows p) ≡ [] → Class word → Turn options rules (ready q) (stands_at rows p b false) word
at_ready options rules rows p b q word s u h e (plain c) =
    moved options rules (ready q) (ready (with_name q word)) (stands_at rows p b false) _ word (name_fault rules rows p b word s.index c ∙ e)
    (name_walked rules rows p b word s.index c)
    (rw c refl) (name_stands options rules rows p q word false s h)
at_ready options rules rows p b q word s u h e (dashes is) =
    subst (λ x. Turn options rules (ready q) (stands_at rows p b false) x) (sym is)
    (moved options rules (ready q) (trailing q) (stands_at rows p b false) _ (45 ∷ 45 ∷ []) (dashes_fault rules rows p b) (dashes_walked rules rows p b) refl
    (record { rows = rows; pending = p; calm = b; is = refl; holds = h; settles = e }))
at_ready options rules rows p b q word s u h e (long z zs is) =
    subst (λ x. Turn options rules (ready q) (stands_at rows p b false) x) (sym is)
    (long_ready options rules rows p b q z zs s h e (is_known options (name_and_value (z ∷ zs)).0) refl)
at_ready options rules rows p b q word s u h e (short x xs is n) =
    subst (λ y. Turn options rules (ready q) (stands_at rows p b false) y) (sym is)
    (stops (full kind.UnknownArgument _ (short_fault rules rows p b x xs s.short n (text_tail x xs (subst (λ y. is_utf8 y ≡ true) is u)))) (rw n refl))

-- an option in place of a value
waits_long : (options : List Text) (rules : List Rule) (rows : List Row) (name : Text) (z : ℕ) (zs : Text) → Serves options rules → is_known options name ≡ true
    → (o : Bool) → is_known options (name_and_value (z ∷ zs)).0 ≡ o → turn_fault (shape_of rules) [] (waits_at rows name false) (45 ∷ 45 ∷ z ∷ zs) ≢ []
waits_long options rules rows name z zs s k true o =
    let np : Text × Option Text = name_and_value (z ∷ zs) in
    full kind.InvalidValue _ (waits_option rules rows name (45 ∷ 45 ∷ z ∷ zs) np.0 np.1 (s.known np.0 o).long (s.known name k).by_id refl refl)
waits_long options rules rows name z zs s k false o =
    let np : Text × Option Text = name_and_value (z ∷ zs) in
    full kind.UnknownArgument _ (waits_unknown rules rows name (45 ∷ 45 ∷ z ∷ zs) np.0 np.1 (s.unknown np.0 o) refl refl)

at_awaits : (options : List Text) (rules : List Rule) (rows : List Row) (name : Text) (q : Reading) (word : Text) → Serves options rules → is_utf8 word ≡ true
    → Holds rows q
    → is_known options name ≡ true → has_row name rows ≡ false → Class word → Turn options rules (awaits name q) (waits_at rows name false) word
at_awaits options rules rows name q word s u h k none (plain c) =
    moved options rules (awaits name q) (ready (with_value q name word)) (waits_at rows name false) _ word (value_fault rules rows name word c)
    (value_walked rules rows name word (s.known name k).by_id c)
    (rw c refl) (value_stands options rules rows name word q (s.known name k) h none)
at_awaits options rules rows name q word s u h k none (dashes is) =
    subst (λ x. Turn options rules (awaits name q) (waits_at rows name false) x) (sym is)
    (moved options rules (awaits name q) refused (waits_at rows name false) _ (45 ∷ 45 ∷ []) (waits_dashes_fault rules rows name)
    (waits_dashes rules rows name) refl (missing rows name refl k))
at_awaits options rules rows name q word s u h k none (long z zs is) =
    subst (λ x. Turn options rules (awaits name q) (waits_at rows name false) x) (sym is)
    (stops (waits_long options rules rows name z zs s k (is_known options (name_and_value (z ∷ zs)).0) refl) refl)
at_awaits options rules rows name q word s u h k none (short x xs is n) =
    subst (λ y. Turn options rules (awaits name q) (waits_at rows name false) y) (sym is)
    (stops (full kind.UnknownArgument _ (waits_short rules rows name x xs s.short n (text_tail x xs (subst (λ y. is_utf8 y ≡ true) is u)))) refl)

at_trailing : (options : List Text) (rules : List Rule) (rows : List Row) (p : Pending) (b : Bool) (q : Reading) (word : Text) → Serves options rules
    → Holds (settled_rows rules p rows) q
    → settle_fault rules false (held_of rows p) ≡ [] → Turn options rules (trailing q) (stands_at rows p b true) word
at_trailing options rules rows p b q word s h e =
    moved options rules (trailing q) (trailing (with_name q word)) (stands_at rows p b true) _ word (trailing_fault rules rows p b word s.index ∙ e)
    (trailing_walked rules rows p b word s.index)
    refl (name_stands options rules rows p q word true s h)

-- what is pending does not settle
unsettled_long : (options : List Text) (rules : List Rule) (rows : List Row) (p : Pending) (b : Bool) (word name : Text) (value : Option Text)
    → Serves options rules → settle_fault rules false (held_of rows p) ≢ []
    → bytes_eq word (45 ∷ 45 ∷ []) ≡ false → long_of word ≡ Some (name, value) → (o : Bool) → is_known options name ≡ o
    → turn_fault (shape_of rules) [] (stands_at rows p b false) word ≢ []
unsettled_long options rules rows p b word name value s n d l false o =
    full kind.UnknownArgument _ (unknown_fault rules rows p b word name value (s.unknown name o) d l)
unsettled_long options rules rows p b word name (Some v) s n d l true o =
    λ e. or_else_fails _ _ (or_else_fails _ _ n) (sym (attached_fault rules rows p b word name v (s.known name o).long d l) ∙ e)
unsettled_long options rules rows p b word name None s n d l true o =
    λ e. or_else_fails _ _ n (sym (alone_fault rules rows p b word name (s.known name o).long d l) ∙ e)

at_unsettled : (options : List Text) (rules : List Rule) (rows : List Row) (p : Pending) (b : Bool) (word : Text) → Serves options rules → is_utf8 word ≡ true
    → settle_fault rules false (held_of rows p) ≢ [] → Class word → Turn options rules refused (stands_at rows p b false) word
at_unsettled options rules rows p b word s u n (plain c) = stops (λ e. n (sym (name_fault rules rows p b word s.index c) ∙ e)) refl
at_unsettled options rules rows p b word s u n (dashes is) =
    subst (λ x. Turn options rules refused (stands_at rows p b false) x) (sym is)
    (moved options rules refused refused (stands_at rows p b false) _ (45 ∷ 45 ∷ []) (dashes_fault rules rows p b) (dashes_walked rules rows p b) refl
    (unsettled rows p b true refl n))
at_unsettled options rules rows p b word s u n (long z zs is) =
    subst (λ x. Turn options rules refused (stands_at rows p b false) x) (sym is)
    (stops (unsettled_long options rules rows p b (45 ∷ 45 ∷ z ∷ zs) (name_and_value (z ∷ zs)).0 (name_and_value (z ∷ zs)).1 s n refl refl
    (is_known options (name_and_value (z ∷ zs)).0) refl) refl)
at_unsettled options rules rows p b word s u n (short x xs is h) =
    subst (λ y. Turn options rules refused (stands_at rows p b false) y) (sym is)
    (stops (full kind.UnknownArgument _ (short_fault rules rows p b x xs s.short h (text_tail x xs (subst (λ y. is_utf8 y ≡ true) is u)))) refl)

-- the option was given before
at_again : (options : List Text) (rules : List Rule) (rows : List Row) (name : Text) (word : Text) → Serves options rules → is_utf8 word ≡ true
    → is_known options name ≡ true → has_row name rows ≡ true → Class word → Turn options rules refused (waits_at rows name false) word
at_again options rules rows name word s u k there (plain c) =
    moved options rules refused refused (waits_at rows name false) _ word (value_fault rules rows name word c)
    (value_walked rules rows name word (s.known name k).by_id c) refl
    (unsettled rows (Some (name, word ∷ [])) false false refl (full kind.ArgumentConflict _ (value_repeats rules rows name word (s.known name k).by_id there)))
at_again options rules rows name word s u k there (dashes is) =
    subst (λ x. Turn options rules refused (waits_at rows name false) x) (sym is)
    (moved options rules refused refused (waits_at rows name false) _ (45 ∷ 45 ∷ []) (waits_dashes_fault rules rows name) (waits_dashes rules rows name) refl
    (missing rows name refl k))
at_again options rules rows name word s u k there (long z zs is) =
    subst (λ x. Turn options rules refused (waits_at rows name false) x) (sym is)
    (stops (waits_long options rules rows name z zs s k (is_known options (name_and_value (z ∷ zs)).0) refl) refl)
at_again options rules rows name word s u k there (short x xs is n) =
    subst (λ y. Turn options rules refused (waits_at rows name false) y) (sym is)
    (stops (full kind.UnknownArgument _ (waits_short rules rows name x xs s.short n (text_tail x xs (subst (λ y. is_utf8 y ≡ true) is u)))) refl)

at_refused : (options : List Text) (rules : List Rule) (w : Walk) (word : Text) → Serves options rules → is_utf8 word ≡ true → Fails options rules w
    → Turn options rules refused w word
at_refused options rules w word s u (unsettled rows p b true is n) =
    subst (λ x. Turn options rules refused x word) (sym is) (stops (λ e. n (sym (trailing_fault rules rows p b word s.index) ∙ e)) refl)
at_refused options rules w word s u (unsettled rows p b false is n) =
    subst (λ x. Turn options rules refused x word) (sym is) (at_unsettled options rules rows p b word s u n (classify word))
at_refused options rules w word s u (again rows name is k there) =
    subst (λ x. Turn options rules refused x word) (sym is) (at_again options rules rows name word s u k there (classify word))
at_refused options rules w word s u (missing rows name is k) =
    subst (λ x. Turn options rules refused x word) (sym is)
    (stops (full kind.InvalidValue _ (missing_fault rules rows name word s.index (s.known name k).by_id)) refl)

pub turn : (options : List Text) (rules : List Rule) (st : State) (w : Walk) (word : Text) → Serves options rules → is_utf8 word ≡ true
    → Matches options rules st w → Turn options rules st w word
turn options rules (ready q) w word s u m =
    subst (λ x. Turn options rules (ready q) x word) (sym m.is) (at_ready options rules m.rows m.pending m.calm q word s u m.holds m.settles (classify word))
turn options rules (awaits name q) w word s u m =
    subst (λ x. Turn options rules (awaits name q) x word) (sym m.is) (at_awaits options rules m.rows name q word s u m.holds m.known m.fresh (classify word))
turn options rules (trailing q) w word s u m =
    subst (λ x. Turn options rules (trailing q) x word) (sym m.is) (at_trailing options rules m.rows m.pending m.calm q word s m.holds m.settles)
turn options rules refused w word s u m = at_refused options rules w word s u m
