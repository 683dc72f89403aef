-- Where a walk over the first lines of a text stands, by what those lines are.
use Rattle.std.proofs.Common.{◌≡◌, ℕ, ◌+◌, ◌≤◌, ◌||◌, ◌&&◌, List, [], ◌∷◌, ◌++◌, cond, Bool, true, false, Option, Some, None, refl, ap, sym, ◌∙◌, arith}
use Rattle.std.specs.Prelude.{not, is_some, min, filter, filter_map, unwrap_or, option_map, bytes_eq}
use Rattle.std.specs.Option.{option_or}
use Rattle.std.specs.List.{list_any, last_or, cons_option}
use Rattle.std.proofs.lemmas.Bool.{false≢true}
use Rattle.std.proofs.lemmas.List.Sums.{sum_by-cons}
use Rattle.std.proofs.lemmas.Slice.Eq.{bytes_eq-Decides}
use Rattle.std.specs.Bool.{one_answer}
use Rattle.mx_source.specs.declared.statement.Label.{Label}
use Rattle.mx_asm.specs.declared.position.Section.{Section}
use Rattle.mx_asm.specs.declared.position.Section.TheVariants as section
use Rattle.mx_asm.specs.declared.position.Position.{Position}
use Rattle.mx_asm.specs.declared.directive.Directive.{Directive}
use Rattle.mx_asm.specs.declared.directive.Directive.TheVariants as d
use Rattle.mx_lines.specs.Words.{Word, Name, Colon}
use Rattle.mx_lines.specs.Operands.{label_named}
use Rattle.mx_lines.specs.Instructions.{Labels}
use Rattle.mx_asm.specs.Directives.{is_dotted, directive_named}
use Rattle.mx_asm.specs.Positions.{front_names, statement_words, directs, section_after, instruction_count, word_count, behind, after, label_at, label_here, is_defined, define, define_front, is_repeated, line_words, with_labels, labels_from, position_at_end}
use Rattle.mx_faults.specs.Before.{statement, directed_to, sets_section, defines, before_definition, has_twice, instructions, data_words}
use Rattle.mx_faults.specs.Walking.{section_of, kind_by}

-- the section that a line sets
abbrev set_by : List ℕ → Option Section
set_by line = sets_section (statement line)

-- the section behind lines that begin in a section
abbrev pub behind_from : Section → List (List ℕ) → Section
behind_from s lines = unwrap_or (last_or None (filter_map (λ line. sets_section (statement line)) lines)) s

directed_is : (s : Section) (o : Option Directive) → directs s o ≡ unwrap_or (directed_to o) s
directed_is s None = refl
directed_is s (Some d.Code) = refl
directed_is s (Some d.Data) = refl
directed_is s (Some d.Input) = refl
directed_is s (Some d.Word) = refl
directed_is s (Some d.Space) = refl

sets : (s : Section) (words : List Word) → section_after s words ≡ unwrap_or (sets_section words) s
sets s (Name name ∷ []) = directed_is s (directive_named name)
sets s _ = refl

last_some : (x : Section) (xs : List Section) (s t : Section) → unwrap_or (last_or (Some x) xs) s ≡ unwrap_or (last_or (Some x) xs) t
last_some x [] s t = refl
last_some x (y ∷ ys) s t = last_some y ys s t

last_front : (x : Section) (xs : List Section) (s : Section) → unwrap_or (last_or None xs) x ≡ unwrap_or (last_or (Some x) xs) s
last_front x [] s = refl
last_front x (y ∷ ys) s = last_some y ys x s

-- a section that is set comes before those behind it
set_first : (o : Option Section) (xs : List Section) (s : Section) → unwrap_or (last_or None xs) (unwrap_or o s) ≡ unwrap_or (last_or None (cons_option o xs)) s
set_first None xs s = refl
set_first (Some x) xs s = last_front x xs s

section_step : (s : Section) (line : List ℕ) (lines : List (List ℕ)) → behind_from (section_after s (statement line)) lines ≡ behind_from s (line ∷ lines)
section_step s line lines =
    ap (unwrap_or (last_or None (filter_map set_by lines))) (sets s (statement line))
    ∙ set_first (set_by line) (filter_map set_by lines) s

after_section : (p : Position) (words : List Word) → (after p words).section ≡ section_after p.section (statement_words words)
unfolding behind
after_section p words = refl

after_index : (p : Position) (words : List Word) → (after p words).index ≡ p.index + instruction_count (statement_words words)
unfolding behind
after_index p words = refl

after_address : (p : Position) (words : List Word) → (after p words).address ≡ min (p.address + word_count (statement_words words)) 65537
unfolding behind
after_address p words = refl

pub walk_section : (lines : List (List ℕ)) (p : Position) → (position_at_end p lines).section ≡ behind_from p.section lines
walk_section [] p = refl
walk_section (line ∷ lines) p =
    walk_section lines (after p (line_words line))
    ∙ ap (λ s. behind_from s lines) (after_section p (line_words line))
    ∙ section_step p.section line lines

pub walk_index : (lines : List (List ℕ)) (p : Position) → (position_at_end p lines).index ≡ p.index + instructions lines
walk_index [] p = omega arith
walk_index (line ∷ lines) p =
    let rest = walk_index lines (after p (line_words line)) in
    let here = after_index p (line_words line) in
    let sum = sum_by-cons (λ line. instruction_count (statement line)) line lines in
    omega (arith, rest, here, sum)

pub walk_address : (lines : List (List ℕ)) (p : Position) → p.address ≤ 65537 → (position_at_end p lines).address ≡ min (p.address + data_words lines) 65537
walk_address [] p h = omega arith
walk_address (line ∷ lines) p h =
    let here = after_address p (line_words line) in
    let rest = walk_address lines (after p (line_words line)) (omega (arith, here)) in
    let sum = sum_by-cons (λ line. word_count (statement line)) line lines in
    omega (arith, rest, here, sum)

pub same_name : (x y : List ℕ) → bytes_eq x y ≡ true → x ≡ y
same_name x y h = (bytes_eq-Decides x y).0 h

found_first : (b : Bool) (x : Label) (o q r : Option Label) → o ≡ option_or q r → cond b (Some x) o ≡ option_or (cond b (Some x) q) r
found_first true x o q r e = refl
found_first false x o q r e = e

found_more : (labels : Labels) (l : Label) (n name : List ℕ)
    → label_named (labels ++ (n, l) ∷ []) name ≡ option_or (label_named labels name) (cond (bytes_eq name n) (Some l) None)
found_more [] l n name = refl
found_more (e ∷ labels) l n name = found_first (bytes_eq name e.0) e.1 _ _ _ (found_more labels l n name)

-- what a name is, where the labels at a line's front are added
map_or : (o q : Option Label) → option_map section_of (option_or o q) ≡ option_or (option_map section_of o) (option_map section_of q)
map_or None q = refl
map_or (Some l) q = refl

map_cond : (b : Bool) (l : Label) → option_map section_of (cond b (Some l) None) ≡ cond b (Some (section_of l)) None
map_cond true l = refl
map_cond false l = refl

kind_added : (labels : Labels) (l : Label) (n name : List ℕ)
    → kind_by (labels ++ (n, l) ∷ []) name ≡ option_or (kind_by labels name) (cond (bytes_eq name n) (Some (section_of l)) None)
kind_added labels l n name =
    ap (option_map section_of) (found_more labels l n name)
    ∙ map_or (label_named labels name) (cond (bytes_eq name n) (Some l) None)
    ∙ ap (option_or (kind_by labels name)) (map_cond (bytes_eq name n) l)

-- a name that is there already keeps its kind
or_there : (o : Option Section) (b : Bool) (s : Section) → (b ≡ true → is_some o ≡ true) → o ≡ option_or o (cond b (Some s) None)
or_there None true s h = absurd (false≢true (h refl))
or_there None false s h = refl
or_there (Some x) b s h = refl

is_some_map : (o : Option Label) → is_some (option_map section_of o) ≡ is_some o
is_some_map None = refl
is_some_map (Some l) = refl

or_none : (o : Option Section) → o ≡ option_or o None
or_none None = refl
or_none (Some x) = refl

define_by : (labels : Labels) (l : Label) (n name : List ℕ) (dotted known : Bool) → is_some (label_named labels n) ≡ known
    → kind_by (cond (dotted || known) labels (labels ++ (n, l) ∷ [])) name ≡ option_or (kind_by labels name)
    (cond (not dotted && bytes_eq name n) (Some (section_of l)) None)
define_by labels l n name true known h = or_none (kind_by labels name)
define_by labels l n name false true h =
    or_there (kind_by labels name) (bytes_eq name n) (section_of l)
    (λ e. is_some_map (label_named labels name) ∙ ap (λ x. is_some (label_named labels x)) (same_name name n e) ∙ h)
define_by labels l n name false false h = kind_added labels l n name

kind_defined : (labels : Labels) (l : Label) (n name : List ℕ)
    → kind_by (define labels l n) name ≡ option_or (kind_by labels name) (cond (not (is_dotted n) && bytes_eq name n) (Some (section_of l)) None)
unfolding define
kind_defined labels l n name = define_by labels l n name (is_dotted n) (is_some (label_named labels n)) refl

-- the labels among the names at a line's front
abbrev pub undotted : List (List ℕ) → List (List ℕ)
undotted names = filter (λ name. not (is_dotted name)) names

or_or : (o : Option Section) (a b : Bool) (s : Section)
    → option_or (option_or o (cond a (Some s) None)) (cond b (Some s) None) ≡ option_or o (cond (a || b) (Some s) None)
or_or (Some x) a b s = refl
or_or None true b s = refl
or_or None false b s = refl

any_undotted : (keep : Bool) (p : List ℕ → Bool) (n : List ℕ) (names : List (List ℕ))
    → (keep && p n) || list_any p (undotted names) ≡ list_any p (cond keep (n ∷ undotted names) (undotted names))
any_undotted true p n names = refl
any_undotted false p n names = refl

kind_front : (labels : Labels) (l : Label) (words : List Word) (name : List ℕ)
    → kind_by (define_front labels l words) name ≡ option_or (kind_by labels name)
    (cond (list_any (bytes_eq name) (undotted (front_names words))) (Some (section_of l)) None)
kind_front labels l (Name n ∷ Colon ∷ words) name =
    kind_front (define labels l n) l words name
    ∙ ap (λ o. option_or o (cond (list_any (bytes_eq name) (undotted (front_names words))) (Some (section_of l)) None)) (kind_defined labels l n name)
    ∙ or_or (kind_by labels name) (not (is_dotted n) && bytes_eq name n) (list_any (bytes_eq name) (undotted (front_names words))) (section_of l)
    ∙ ap (λ b. option_or (kind_by labels name) (cond b (Some (section_of l)) None)) (any_undotted (not (is_dotted n)) (bytes_eq name) n (front_names words))
kind_front labels l _ name = or_none (kind_by labels name)

label_section : (s : Section) (index address : ℕ) → section_of (label_at s index address) ≡ s
label_section section.Code index address = refl
label_section section.Data index address = refl

-- the kind that lines from a section on give a name
abbrev pub kind_from : Section → List (List ℕ) → List ℕ → Option Section
kind_from s lines name = cond (list_any (defines name) lines) (Some (behind_from s (before_definition name lines))) None

kind_line : (o : Option Section) (here : Bool) (s : Section) (later : Bool) (t u : Section) → t ≡ u
    → option_or (option_or o (cond here (Some s) None)) (cond later (Some t) None) ≡ option_or o (cond (here || later) (Some (cond here s u)) None)
kind_line (Some x) here s later t u e = refl
kind_line None true s later t u e = refl
kind_line None false s true t u e = ap Some e
kind_line None false s false t u e = refl

behind_cond : (b : Bool) (s : Section) (line : List ℕ) (lines : List (List ℕ))
    → cond b s (behind_from s (line ∷ lines)) ≡ behind_from s (cond b [] (line ∷ lines))
behind_cond true s line lines = refl
behind_cond false s line lines = refl

pub walk_kind : (lines : List (List ℕ)) (p : Position) (labels : Labels) (name : List ℕ)
    → kind_by (labels_from p labels lines) name ≡ option_or (kind_by labels name) (kind_from p.section lines name)
walk_kind [] p labels name = or_none (kind_by labels name)
walk_kind (line ∷ lines) p labels name =
    let words = line_words line in
    let before = before_definition name lines in
    walk_kind lines (after p words) (with_labels p labels words) name
    ∙ ap (λ o. option_or o (kind_from (after p words).section lines name))
    (kind_front labels (label_here p) words name
    ∙ ap (λ s. option_or (kind_by labels name) (cond (defines name line) (Some s) None)) (label_section p.section p.index p.address))
    ∙ kind_line (kind_by labels name) (defines name line) p.section (list_any (defines name) lines) (behind_from (after p words).section before)
    (behind_from p.section (line ∷ before))
    (ap (λ s. behind_from s before) (after_section p words) ∙ section_step p.section line before)
    ∙ ap (λ s. option_or (kind_by labels name) (cond (defines name line || list_any (defines name) lines) (Some s) None))
    (behind_cond (defines name line) p.section line before)

-- a name is one of these labels
abbrev pub known : Labels → List ℕ → Bool
known labels name = is_some (label_named labels name)

or_some : (o : Option Section) (b : Bool) (s : Section) → is_some (option_or o (cond b (Some s) None)) ≡ is_some o || b
or_some None true s = refl
or_some None false s = refl
or_some (Some x) b s = refl

known_kind : (labels : Labels) (name : List ℕ) → known labels name ≡ is_some (kind_by labels name)
known_kind labels name = sym (is_some_map (label_named labels name))

-- the names that a walk knows: those that its lines define
pub walk_known : (lines : List (List ℕ)) (p : Position) (name : List ℕ) → known (labels_from p [] lines) name ≡ list_any (defines name) lines
walk_known lines p name =
    known_kind (labels_from p [] lines) name
    ∙ ap is_some (walk_kind lines p [] name)
    ∙ or_some None (list_any (defines name) lines) (behind_from p.section (before_definition name lines))

pub known_defined : (labels : Labels) (l : Label) (n name : List ℕ)
    → known (define labels l n) name ≡ known labels name || (not (is_dotted n) && bytes_eq name n)
known_defined labels l n name =
    known_kind (define labels l n) name
    ∙ ap is_some (kind_defined labels l n name)
    ∙ or_some (kind_by labels name) (not (is_dotted n) && bytes_eq name n) (section_of l)
    ∙ ap (λ b. b || (not (is_dotted n) && bytes_eq name n)) (sym (known_kind labels name))

or_mixed : (a b c d : Bool) → (a || b) || (c || d) ≡ (a || c) || (b || d)
or_mixed true b c d = refl
or_mixed false true true d = refl
or_mixed false true false d = refl
or_mixed false false c d = refl

any_or : (p q : List ℕ → Bool) (names : List (List ℕ)) → list_any (λ n. p n || q n) names ≡ list_any p names || list_any q names
any_or p q [] = refl
any_or p q (n ∷ names) = ap (λ b. (p n || q n) || b) (any_or p q names) ∙ or_mixed (p n) (q n) (list_any p names) (list_any q names)

any_same : (p q : List ℕ → Bool) (names : List (List ℕ)) → ((n : List ℕ) → p n ≡ q n) → list_any p names ≡ list_any q names
any_same p q [] h = refl
any_same p q (n ∷ names) h = ap (λ b. b || list_any p names) (h n) ∙ ap (λ b. q n || b) (any_same p q names h)

either_way : (x y : List ℕ) → bytes_eq x y ≡ bytes_eq y x
either_way x y = one_answer (bytes_eq x y) (bytes_eq y x) (bytes_eq-Decides x y)
    ((λ h. sym ((bytes_eq-Decides y x).0 h)), (λ e. (bytes_eq-Decides y x).1 (sym e)))

-- a label at the front is known, or stands there twice
abbrev Repeats : (List ℕ → Bool) → List (List ℕ) → Bool
Repeats p names = list_any p names || has_twice names

repeat_line : (keep k any eq twice : Bool) → (keep && k) || ((any || (keep && eq)) || twice) ≡ cond keep ((k || any) || (eq || twice)) (any || twice)
repeat_line true true any eq twice = refl
repeat_line true false true eq twice = refl
repeat_line true false false eq twice = refl
repeat_line false k true eq twice = refl
repeat_line false k false eq twice = refl

any_and : (keep : Bool) (q : List ℕ → Bool) (names : List (List ℕ)) → list_any (λ n. keep && q n) names ≡ keep && list_any q names
any_and true q names = refl
any_and false q [] = refl
any_and false q (n ∷ names) = any_and false q names

keep_cond : (keep : Bool) (p : List ℕ → Bool) (n : List ℕ) (names : List (List ℕ))
    → cond keep ((p n || list_any p names) || (list_any (bytes_eq n) names || has_twice names)) (Repeats p names) ≡ Repeats p (cond keep (n ∷ names) names)
keep_cond true p n names = refl
keep_cond false p n names = refl

-- whether a label at the front of a line is defined before, or earlier on this line
pub repeats_is : (labels : Labels) (l : Label) (words : List Word)
    → is_repeated labels l words ≡ list_any (known labels) (undotted (front_names words)) || has_twice (undotted (front_names words))
repeats_is labels l (Name n ∷ Colon ∷ words) =
    let keep = not (is_dotted n) in
    let names = undotted (front_names words) in
    ap (λ b. is_defined labels n || b) (repeats_is (define labels l n) l words)
    ∙ ap (λ b. is_defined labels n || (b || has_twice names))
    (any_same (known (define labels l n)) (λ x. known labels x || (keep && bytes_eq n x)) names
    (λ x. known_defined labels l n x ∙ ap (λ b. known labels x || (keep && b)) (either_way x n))
    ∙ any_or (known labels) (λ x. keep && bytes_eq n x) names
    ∙ ap (λ b. list_any (known labels) names || b) (any_and keep (bytes_eq n) names))
    ∙ repeat_line keep (known labels n) (list_any (known labels) names) (list_any (bytes_eq n) names) (has_twice names)
    ∙ keep_cond keep (known labels) n names
repeats_is labels l _ = refl
