-- The names of labels in a program are apart.
use Rattle.std.proofs.Common.{◌≡◌, ◌≢◌, ℕ, ◌+◌, ◌≤◌, ◌<◌, Bool, true, false, ◌||◌, ◌==◌, cond, List, [], ◌∷◌, ◌++◌, length, map, Option, Some, None, refl, ap, sym, ◌∙◌, subst, append_assoc, length-append, arith}
use Rattle.std.specs.Prelude.{codes, is_some}
use Rattle.std.specs.Fmt.{decimal, digits}
use Rattle.std.specs.List.{IsDistinct, AllByRecursion}
use Rattle.std.specs.Str.{bytes_eq}
use Rattle.std.proofs.lemmas.Bool.{false≢true, agree_below_at}
use Rattle.std.proofs.lemmas.Fmt.{decimal_injective}
use Rattle.std.proofs.lemmas.List.{append_cancel_right}
use Rattle.std.proofs.lemmas.Slice.Eq.{bytes_eq-Decides}
use Rattle.mx_source.specs.declared.Label.{Label}
use Rattle.mx_asm.specs.declared.Position.{Position}
use Rattle.mx_lines.specs.Words.{Word, Name, Colon}
use Rattle.mx_lines.specs.Instructions.{Labels}
use Rattle.mx_lines.specs.Operands.{label_named}
use Rattle.mx_asm.specs.Directives.{is_dotted}
use Rattle.mx_asm.specs.Positions.{define, define_front, with_labels, labels_from, label_here, after, line_words}
use Rattle.mx_lines.proofs.Copied.{swapped}
use Rattle.mx_module.specs.Links.{has_two_dots, begins_two_dots}
use Rattle.mx_lex.specs.Lines.{lines_of}
use Rattle.mx_asm.specs.Positions.{start}
use Rattle.mx_module.specs.ModuleView.{IsProgram}
use Rattle.mx_module.specs.Modules.{ModuleValue, modules_from, behind_text, plain_lines}
use Rattle.mx_module.specs.LinkFaults.{is_exported, fault_in_links, fault_in_modules}
use Rattle.mx_module.specs.Joined.{AreApart, program_name, renamed, labels_in}
use Rattle.mx_module.proofs.Apart.{AreAway, both_apart, both_none, names}
use Rattle.mx_module.proofs.Chained.{many}
use Rattle.mx_module.proofs.Exported.{exports_plain, IsPlain, Unshared, unshared_behind, refusal_none}

differ : (x y : List ℕ) (b : Bool) → (b ≡ true → x ≡ y) → (x ≡ y → ⊥) → b ≡ false
differ x y true f g = absurd (g (f refl))
differ x y false f g = refl

not_same : (x y : List ℕ) → (x ≡ y → ⊥) → bytes_eq x y ≡ false
not_same x y h = differ x y (bytes_eq x y) (bytes_eq-Decides x y).0 h

apart_names : (x y : List ℕ) → bytes_eq x y ≡ false → x ≡ y → ⊥
apart_names x y h e = false≢true (sym h ∙ (bytes_eq-Decides x y).1 e)

-- a `.` stands among these bytes
has_dot : List ℕ → Bool
has_dot [] = false
has_dot (b ∷ bs) = (b == 46) || has_dot bs

-- what stands behind the last `.`
tail_of : List ℕ → List ℕ
tail_of [] = []
tail_of (b ∷ bs) = cond (has_dot bs) (tail_of bs) (cond (b == 46) bs [])

or_right : (a b : Bool) → b ≡ true → a || b ≡ true
or_right true b h = refl
or_right false b h = h

dot_in : (xs ds : List ℕ) → has_dot (xs ++ 46 ∷ ds) ≡ true
unfolding has_dot
dot_in [] ds = refl
dot_in (x ∷ xs) ds = or_right (x == 46) (has_dot (xs ++ 46 ∷ ds)) (dot_in xs ds)

tail_is : (xs ds : List ℕ) → has_dot ds ≡ false → tail_of (xs ++ 46 ∷ ds) ≡ ds
unfolding has_dot tail_of
tail_is [] ds h = ap (λ b. cond b (tail_of ds) ds) h
tail_is (x ∷ xs) ds h = ap (λ b. cond b (tail_of (xs ++ 46 ∷ ds)) (cond (x == 46) (xs ++ 46 ∷ ds) [])) (dot_in xs ds) ∙ tail_is xs ds h

number_plain : (k : ℕ) → k < 32 → has_dot (decimal k) ≡ false
unfolding has_dot digits
number_plain k h = agree_below_at (λ n. has_dot (decimal n)) (λ n. false) 32 k refl h

-- a name with the number of its module
abbrev numbered : List ℕ → ℕ → List ℕ
numbered a k = a ++ codes ".." ++ decimal k

same_number : (a b : List ℕ) (j k : ℕ) → j < 32 → k < 32 → numbered a j ≡ numbered b k → j ≡ k
same_number a b j k hj hk e =
    let one : (c : List ℕ) (n : ℕ) → n < 32 → tail_of (numbered c n) ≡ decimal n = λ c n h.
    ap tail_of (append_assoc c (46 ∷ 46 ∷ []) (decimal n) ∙ sym (append_assoc c (46 ∷ []) (46 ∷ decimal n)))
    ∙ tail_is (c ++ 46 ∷ []) (decimal n) (number_plain n h) in
    decimal_injective j k (omega arith) (omega arith) (sym (one a j hj) ∙ ap tail_of e ∙ one b k hk)

dots_in : (a ds : List ℕ) → has_two_dots (a ++ 46 ∷ 46 ∷ ds) ≡ true
dots_in [] ds = refl
dots_in (x ∷ a) ds = or_right (begins_two_dots x (a ++ 46 ∷ 46 ∷ ds)) (has_two_dots (a ++ 46 ∷ 46 ∷ ds)) (dots_in a ds)

not_plain : (a b : List ℕ) (k : ℕ) → IsPlain a → a ≡ numbered b k → ⊥
not_plain a b k plain e = false≢true (sym plain ∙ ap has_two_dots (e ∙ append_assoc b (46 ∷ 46 ∷ []) (decimal k)) ∙ dots_in b (decimal k))

abbrev named : Bool → List ℕ → ℕ → List ℕ
named exported a k = cond exported a (numbered a k)

-- names of one module stay apart
own_by : (a b : List ℕ) (k : ℕ) (p q : Bool) → (p ≡ true → IsPlain a) → (q ≡ true → IsPlain b) → named p a k ≡ named q b k → a ≡ b
own_by a b k true true f g e = e
own_by a b k true false f g e = absurd (not_plain a b k (f refl) e)
own_by a b k false true f g e = absurd (not_plain b a k (g refl) (sym e))
own_by a b k false false f g e = append_cancel_right a b (codes "..") (append_cancel_right (a ++ codes "..") (b ++ codes "..") (decimal k) e)

-- and names of two modules
other_by : (a b : List ℕ) (j k : ℕ) (p q : Bool) → j < k → k < 32 → (p ≡ true → IsPlain a) → (q ≡ true → IsPlain b) → (p ≡ true → q ≡ true → a ≡ b → ⊥)
    → named p a j ≡ named q b k → ⊥
other_by a b j k true true lt le f g h e = h refl refl e
other_by a b j k true false lt le f g h e = not_plain a b k (f refl) e
other_by a b j k false true lt le f g h e = not_plain b a j (g refl) (sym e)
other_by a b j k false false lt le f g h e = let n = same_number a b j k (omega arith) le e in absurd (omega (arith, n))

-- exported names of the module have no `..`, and its labels are apart
pub record IsOwn (m : ModuleValue) : Type 0 where
  pub plain : (n : List ℕ) → is_exported m n ≡ true → IsPlain n
  pub labels : AreApart m.labels

own_each : (m : ModuleValue) (place : ℕ) (own : (n : List ℕ) → is_exported m n ≡ true → IsPlain n) (a : List ℕ) (es : Labels)
    → AllByRecursion (λ y. bytes_eq a y ≡ false) (names es)
    → AllByRecursion (λ y. bytes_eq (program_name m place a) y ≡ false) (names (map (renamed m place) es))
own_each m place own a [] h = tt
own_each m place own a (e ∷ es) h = (
  not_same (program_name m place a) (program_name m place e.0)
      (λ q. apart_names a e.0 h.0 (own_by a e.0 (place + 1) (is_exported m a) (is_exported m e.0) (own a) (own e.0) q)),
  own_each m place own a es h.1,
)

own_apart : (m : ModuleValue) (place : ℕ) → ((n : List ℕ) → is_exported m n ≡ true → IsPlain n) → (es : Labels) → AreApart es
    → AreApart (map (renamed m place) es)
unfolding IsDistinct
own_apart m place own [] h = tt
own_apart m place own (e ∷ es) h = (own_each m place own e.0 es h.0, own_apart m place own es h.1)

module _ (m : ModuleValue) (j : ℕ) (own : IsOwn m) (a : List ℕ) where
  each_away : (x : ModuleValue) (k : ℕ) → j < k → k < 31 → IsOwn x → ((n : List ℕ) → is_exported m n ≡ true → is_exported x n ≡ false) → (es : Labels)
      → AllByRecursion (λ y. bytes_eq (program_name m j a) y ≡ false) (names (map (renamed x k) es))
  each_away x k lt le other un [] = tt
  each_away x k lt le other un (e ∷ es) = (
    not_same (program_name m j a) (program_name x k e.0)
        (other_by a e.0 (j + 1) (k + 1) (is_exported m a) (is_exported x e.0) (omega arith) (omega arith) (own.plain a) (other.plain e.0)
        (λ p q same. false≢true (sym (un a p) ∙ ap (is_exported x) same ∙ q))),
    each_away x k lt le other un es,
  )

abbrev pub AllOwn : List ModuleValue → Type 0
AllOwn [] = Unit {0}
AllOwn (m ∷ ms) = IsOwn m × AllOwn ms

later_away : (m : ModuleValue) (j : ℕ) (own : IsOwn m) (a : List ℕ) (k : ℕ) (rest : List ModuleValue) → j < k → k + length rest ≤ 31 → AllOwn rest
    → Unshared m rest
    → AllByRecursion (λ y. bytes_eq (program_name m j a) y ≡ false) (names (labels_in k rest))
later_away m j own a k [] lt le others un = tt
later_away m j own a k (x ∷ rest) lt le others un =
    both_none (program_name m j a) (map (renamed x k) x.labels) (labels_in (k + 1) rest)
    (each_away m j own a x k lt (omega arith) others.0 un.0 x.labels)
    (later_away m j own a (k + 1) rest (omega arith) (omega arith) others.1 un.1)

all_away : (m : ModuleValue) (j : ℕ) (own : IsOwn m) (es : Labels) (k : ℕ) (rest : List ModuleValue) → j < k → k + length rest ≤ 31 → AllOwn rest
    → Unshared m rest
    → AreAway (map (renamed m j) es) (labels_in k rest)
all_away m j own [] k rest lt le others un = tt
all_away m j own (e ∷ es) k rest lt le others un = (later_away m j own e.0 k rest lt le others un, all_away m j own es k rest lt le others un)

-- all names of a program without faults of imports and exports are apart
pub names_apart : (all before rest : List ModuleValue) → all ≡ before ++ rest → length before + length rest ≤ 31 → AllOwn rest
    → fault_in_modules all (length before) rest ≡ None → AreApart (labels_in (length before) rest)
unfolding IsDistinct
names_apart all before [] e le own h = tt
names_apart all before (m ∷ rest) e le own h =
    let two = refusal_none (fault_in_links all (length before) m m.links) (fault_in_modules all (length before + 1) rest) h in
    let more : length (before ++ m ∷ []) ≡ length before + 1 = length-append before (m ∷ []) in
    let later : AreApart (labels_in (length before + 1) rest) = subst (λ k. AreApart (labels_in k rest)) more
    (names_apart all (before ++ m ∷ []) rest (e ∙ sym (append_assoc before (m ∷ []) rest)) (omega (arith, more)) own.1
    (subst (λ k. fault_in_modules all k rest ≡ None) (sym more) two.1)) in
    both_apart (map (renamed m (length before)) m.labels) (labels_in (length before + 1) rest)
    (own_apart m (length before) own.0.plain m.labels own.0.labels) later
    (all_away m (length before) own.0 m.labels (length before + 1) rest (omega arith) (omega arith) own.1 (unshared_behind all m before rest e two.1))

-- the labels of a text are apart
new_first : (es : Labels) (n : List ℕ) (x : List ℕ) (l : Label) → AllByRecursion (λ y. bytes_eq x y ≡ false) (names es) → bytes_eq x n ≡ false
    → AllByRecursion (λ y. bytes_eq x y ≡ false) (names (es ++ (n, l) ∷ []))
new_first [] n x l h k = (k, tt)
new_first (e ∷ es) n x l h k = (h.0, new_first es n x l h.1 k)

not_found : (b : Bool) (x : Label) (o : Option Label) → cond b (Some x) o ≡ None → (b ≡ false) × (o ≡ None)
not_found true x o h = cc
not_found false x o h = (refl, h)

push_apart : (es : Labels) (n : List ℕ) (l : Label) → AreApart es → label_named es n ≡ None → AreApart (es ++ (n, l) ∷ [])
unfolding IsDistinct
push_apart [] n l h k = (tt, tt)
push_apart (e ∷ es) n l h k =
    let two = not_found (bytes_eq n e.0) e.1 (label_named es n) k in
    (new_first es n e.0 l h.0 (swapped n e.0 two.0), push_apart es n l h.1 two.1)

defined_by : (es : Labels) (n : List ℕ) (l : Label) (dotted : Bool) (found : Option Label) → label_named es n ≡ found → AreApart es
    → AreApart (cond (dotted || is_some found) es (es ++ (n, l) ∷ []))
defined_by es n l true found e h = h
defined_by es n l false (Some x) e h = h
defined_by es n l false None e h = push_apart es n l h e

define_apart : (es : Labels) (l : Label) (n : List ℕ) → AreApart es → AreApart (define es l n)
unfolding define
define_apart es l n h = defined_by es n l (is_dotted n) (label_named es n) refl h

front_apart : (es : Labels) (l : Label) (ws : List Word) → AreApart es → AreApart (define_front es l ws)
front_apart es l (Name n ∷ Colon ∷ ws) h = front_apart (define es l n) l ws (define_apart es l n h)
front_apart es l _ h = h

pub labels_apart : (lines : List (List ℕ)) (p : Position) (es : Labels) → AreApart es → AreApart (labels_from p es lines)
labels_apart [] p es h = h
labels_apart (line ∷ lines) p es h =
    labels_apart lines (after p (line_words line)) (with_labels p es (line_words line)) (front_apart es (label_here p) (line_words line) h)

pub none_apart : AreApart []
unfolding IsDistinct
none_apart = tt

-- so are those of the modules of texts
all_own : (p : Position) (texts : List (List ℕ)) → AllOwn (modules_from p texts)
all_own p [] = tt
all_own p (t ∷ ts) = (record { plain = exports_plain (lines_of t); labels = labels_apart (plain_lines t) p [] none_apart }, all_own (behind_text p t) ts)

pub program_apart : (ms : List ModuleValue) → IsProgram ms → fault_in_modules ms 0 ms ≡ None → AreApart (labels_in 0 ms)
program_apart ms h none =
    let few = many ms h in
    names_apart ms [] ms refl (omega (arith, few)) (subst AllOwn (sym h.same) (all_own (start 256) h.texts)) none
