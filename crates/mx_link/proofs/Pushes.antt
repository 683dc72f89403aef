-- What is still to be appended for a block, and for the blocks of a layout.
use Rattle.std.proofs.Common.{◌<◌, arith, subst, ⊎_elim, ◌≡◌, ℕ, suc, ◌+◌, List, [], ◌∷◌, ◌++◌, length, drop, map, Some, refl, sym, ap, ◌∙◌, add-one, append_assoc}
use Rattle.std.specs.Prelude.{slice_get}
use Rattle.std.specs.List.{flat_map}
use Rattle.std.proofs.lemmas.Bool.{cases_lt}
use Rattle.std.proofs.lemmas.Option.{same_Some}
use Rattle.std.proofs.lemmas.List.{append-nil, map-append}
use Rattle.std.proofs.Math.Seq.{drop-length}
use Rattle.mx_isa.specs.declared.Inst.{Inst}
use Rattle.mx_code.specs.Codes.{word_of_row}
use Rattle.mx_source.specs.declared.Statement.{Statement}
use Rattle.mx_blocks.specs.declared.Item.{Item}
use Rattle.mx_source.proofs.Printing.{drop-slice_get}
use Rattle.mx_validate.specs.Padded.{items_of}
use Rattle.mx_squash.specs.declared.Copied.{Copied}
use Rattle.mx_squash.specs.Copies.{Site}
use Rattle.mx_link.specs.declared.linked.Origin.{Origin}
use Rattle.mx_link.specs.Origins.{Filling, origins_from, origins_at}
use Rattle.mx_link.specs.Words.{insts_from, inst_at, code_of}
use Rattle.mx_link.specs.Parts.{site_words, origin_at}

-- the origins and the words of a site's items from place p on
abbrev pub origins_after : Site → Copied → ℕ → List Origin
origins_after s c p = origins_from s c p (drop p (items_of s.plan))

abbrev pub words_after : (ℕ → ℕ) → List Statement → Site → Copied → ℕ → List ℕ
words_after link statements s c p = map word_of_row (insts_from link statements c (s.start + p) (origins_after s c p))

-- the origins and the words of some of all sites
abbrev pub site_origins : Filling → List Site → List Site → List Origin
site_origins filling all some = flat_map (λ s. origins_at s (filling all s)) some

abbrev pub sites_words : Filling → (ℕ → ℕ) → List Statement → List Site → List Site → List ℕ
sites_words filling link statements all some = flat_map (λ s. site_words link statements s (filling all s)) some

origins_next :
    (s : Site) (c : Copied) (p : ℕ) (item : Item) → slice_get (items_of s.plan) p ≡ Some item
    → origins_after s c p ≡ origin_at s c p item ∷ origins_after s c (p + 1)
origins_next s c p item e =
    ap (origins_from s c p) (drop-slice_get (items_of s.plan) p item e)
    ∙ ap (λ n. origin_at s c p item ∷ origins_from s c n (drop n (items_of s.plan))) (sym (add-one p))

pushed : {A : Type 0} (xs : List A) (x : A) (rest next whole : List A) → rest ≡ x ∷ next → xs ++ rest ≡ whole → (xs ++ x ∷ []) ++ next ≡ whole
pushed xs x rest next whole e h = append_assoc xs (x ∷ []) next ∙ (ap (λ ys. xs ++ ys) (sym e) ∙ h)

-- one more origin
pub origin_pushed :
    (s : Site) (c : Copied) (p : ℕ) (item : Item) (xs whole : List Origin) → slice_get (items_of s.plan) p ≡ Some item
    → xs ++ origins_after s c p ≡ whole → (xs ++ origin_at s c p item ∷ []) ++ origins_after s c (p + 1) ≡ whole
origin_pushed s c p item xs whole e h = pushed xs (origin_at s c p item) (origins_after s c p) (origins_after s c (p + 1)) whole (origins_next s c p item e) h

words_next :
    (link : ℕ → ℕ) (statements : List Statement) (s : Site) (c : Copied) (p : ℕ) (item : Item) → slice_get (items_of s.plan) p ≡ Some item →
    words_after link statements s c p ≡ word_of_row (inst_at link statements c (s.start + p) (origin_at s c p item)) ∷ words_after link statements s c
    (p + 1)
words_next link statements s c p item e =
    ap (λ os. map word_of_row (insts_from link statements c (s.start + p) os)) (origins_next s c p item e)
    ∙ ap (λ n. word_of_row (inst_at link statements c (s.start + p) (origin_at s c p item)) ∷ map word_of_row
    (insts_from link statements c n (origins_after s c (p + 1)))) next
  where
    next : suc (s.start + p) ≡ s.start + (p + 1)
    next = omega arith

-- one more word
pub word_pushed :
    (link : ℕ → ℕ) (statements : List Statement) (s : Site) (c : Copied) (p : ℕ) (item : Item) (xs whole : List ℕ)
    → slice_get (items_of s.plan) p ≡ Some item → xs ++ words_after link statements s c p ≡ whole →
    (xs ++ word_of_row (inst_at link statements c (s.start + p) (origin_at s c p item)) ∷ []) ++ words_after link statements s c (p + 1) ≡ whole
word_pushed link statements s c p item xs whole e h =
    pushed xs (word_of_row (inst_at link statements c (s.start + p) (origin_at s c p item))) (words_after link statements s c p)
    (words_after link statements s c (p + 1)) whole (words_next link statements s c p item e) h

-- each instruction before a place is so
abbrev pub EachBefore : (Inst → Type 0) → (ℕ → ℕ) → List Statement → Site → Copied → ℕ → Type 0
EachBefore Q link statements s c n =
    (p : ℕ) (item : Item) → p < n → slice_get (items_of s.plan) p ≡ Some item → Q (inst_at link statements c (s.start + p) (origin_at s c p item))

pub before_next :
    (Q : Inst → Type 0) (link : ℕ → ℕ) (statements : List Statement) (s : Site) (c : Copied) (n : ℕ) (item : Item)
    → slice_get (items_of s.plan) n ≡ Some item → Q (inst_at link statements c (s.start + n) (origin_at s c n item))
    → EachBefore Q link statements s c n → EachBefore Q link statements s c (n + 1)
before_next Q link statements s c n item e q h p other low f = ⊎_elim
    (λ below. h p other below f)
    (λ at.
    let same : n ≡ p = omega arith in
    let item_same : item ≡ other = same_Some item other (sym e ∙ ap (slice_get (items_of s.plan)) same ∙ f) in
    subst (λ (m : ℕ). Q (inst_at link statements c (s.start + m) (origin_at s c m other))) same
    (subst (λ (x : Item). Q (inst_at link statements c (s.start + n) (origin_at s c n x))) item_same q))
    (cases_lt p n)

-- one more piece
pub flat_pushed :
    {X A : Type 0} (f : X → List A) (all : List X) (k : ℕ) (s : X) (xs next whole : List A) → slice_get all k ≡ Some s → next ≡ xs ++ f s
    → xs ++ flat_map f (drop k all) ≡ whole → next ++ flat_map f (drop (k + 1) all) ≡ whole
flat_pushed f all k s xs next whole e g h =
    ap (λ ys. ys ++ flat_map f (drop (k + 1) all)) g
    ∙ ap (λ n. (xs ++ f s) ++ flat_map f (drop n all)) (add-one k)
    ∙ append_assoc xs (f s) (flat_map f (drop (suc k) all))
    ∙ ap (λ ys. xs ++ flat_map f ys) (sym (drop-slice_get all k s e))
    ∙ h

-- the last piece
pub flat_end :
    {X A : Type 0} (f : X → List A) (all : List X) (k : ℕ) (xs whole : List A) → k ≡ length all → xs ++ flat_map f (drop k all) ≡ whole
    → xs ≡ whole
flat_end f all k xs whole e h =
    sym (append-nil xs)
    ∙ ap (λ ys. xs ++ flat_map f ys) (sym (drop-length all))
    ∙ ap (λ n. xs ++ flat_map f (drop n all)) (sym e)
    ∙ h

map-flat_map : {X A B : Type 0} (f : A → B) (g : X → List A) (xs : List X) → map f (flat_map g xs) ≡ flat_map (λ x. map f (g x)) xs
map-flat_map f g [] = refl
map-flat_map f g (x ∷ xs) = map-append f (g x) (flat_map g xs) ∙ ap (λ ys. map f (g x) ++ ys) (map-flat_map f g xs)

pub all_words :
    (filling : Filling) (link : ℕ → ℕ) (statements : List Statement) (all : List Site)
    → sites_words filling link statements all all ≡ code_of filling link statements all
all_words filling link statements all =
    sym (map-flat_map word_of_row (λ (s : Site). insts_from link statements (filling all s) s.start (origins_at s (filling all s))) all)
