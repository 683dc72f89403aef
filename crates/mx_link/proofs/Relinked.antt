-- Links in a list, and the same words by the same links.
use Rattle.std.proofs.Common.{◌≡◌, ℕ, zero, suc, ◌+◌, ◌<◌, ◌≤◌, List, [], ◌∷◌, ◌++◌, length, map, All, Option, Some, None, pos, refl, ap, ◌∙◌, arith}
use Rattle.std.specs.Prelude.{slice_get, slice_index}
use Rattle.std.specs.List.{flat_map}
use Rattle.mx_isa.specs.declared.Inst.TheVariants.{Addi, Jspci}
use Rattle.mx_isa.specs.declared.Inst.TheVariants.{Branch as BranchInst}
use Rattle.mx_code.specs.Codes.{word_of_row}
use Rattle.mx_source.specs.declared.Statement.{Statement}
use Rattle.mx_source.specs.declared.Statement.TheVariants.{Plain, LaCode, Branch, Call, CallReg, JumpReg, Halt}
use Rattle.mx_source.specs.declared.Value.{Value}
use Rattle.mx_source.specs.declared.Value.TheVariants.{Int, Code}
use Rattle.mx_source.specs.Labels.{IsPlace}
use Rattle.mx_source.specs.Statements.{StatementFits, ValueFits}
use Rattle.mx_source.specs.SourceValue.{SourceValue, IsSource}
use Rattle.mx_squash.specs.declared.Copied.{Copied}
use Rattle.mx_squash.specs.Copies.{Site, no_copies}
use Rattle.mx_link.specs.declared.linked.Origin.{Origin}
use Rattle.mx_link.specs.declared.linked.Origin.TheVariants.{Own, Copy, Pad}
use Rattle.mx_link.specs.Origins.{Filling, origins_at}
use Rattle.mx_link.specs.Words.{displacement, linked_inst, linked_statement, inst_at, insts_from, code_of, value_word, words_of}
use Rattle.mx_link.specs.Linked.{map_from}
use Rattle.mx_link.proofs.Places.{at_place}

-- two maps agree at the places of a source
abbrev pub Agree : SourceValue → (ℕ → ℕ) → (ℕ → ℕ) → Type 0
Agree source f g = (i : ℕ) → i ≤ length source.statements → f i ≡ g i

same_inst :
    (source : SourceValue) (f g : ℕ → ℕ) (c : Copied) (at : ℕ) (s : Statement) → Agree source f g
    → StatementFits (IsPlace source.labels (length source.statements)) s → linked_inst f c at s ≡ linked_inst g c at s
same_inst source f g c at (Plain inst) h fits = refl
same_inst source f g c at (LaCode dest target) h fits = ap (λ n. Addi 0 dest (pos n)) (h target fits.within)
same_inst source f g c at (Branch a b k target) h fits = ap (λ n. BranchInst a b k c.squash (displacement at (n + c.count))) (h target fits.within)
same_inst source f g c at (Call dest target) h fits = ap (λ n. Jspci 0 dest (pos (n + c.count))) (h target fits.within)
same_inst source f g c at (CallReg a dest) h fits = refl
same_inst source f g c at (JumpReg a) h fits = refl
same_inst source f g c at Halt h fits = refl

same_statement :
    (source : SourceValue) (f g : ℕ → ℕ) (c : Copied) (at i : ℕ) → IsSource source → Agree source f g
    → linked_statement f c at (slice_get source.statements i) ≡ linked_statement g c at (slice_get source.statements i)
same_statement source f g c at i is h = by_place (slice_get source.statements i) refl
  where
    by_place : (o : Option Statement) → slice_get source.statements i ≡ o → linked_statement f c at o ≡ linked_statement g c at o
    by_place None e = refl
    by_place (Some s) e =
        same_inst source f g c at s h (at_place (StatementFits (IsPlace source.labels (length source.statements))) source.statements i s is.statements_fit e)

-- the same instruction
pub same_at :
    (source : SourceValue) (f g : ℕ → ℕ) (c : Copied) (at : ℕ) (o : Origin) → IsSource source → Agree source f g
    → inst_at f source.statements c at o ≡ inst_at g source.statements c at o
same_at source f g c at (Own i) is h = same_statement source f g c at i is h
same_at source f g c at (Copy i) is h = same_statement source f g no_copies at i is h
same_at source f g c at Pad is h = refl

same_from :
    (source : SourceValue) (f g : ℕ → ℕ) (c : Copied) (at : ℕ) (origins : List Origin) → IsSource source → Agree source f g
    → insts_from f source.statements c at origins ≡ insts_from g source.statements c at origins
same_from source f g c at [] is h = refl
same_from source f g c at (o ∷ origins) is h =
    ap (λ i. i ∷ insts_from f source.statements c (suc at) origins) (same_at source f g c at o is h)
    ∙ ap (λ is. inst_at g source.statements c at o ∷ is) (same_from source f g c (suc at) origins is h)

same_pieces : {X A : Type 0} (f g : X → List A) → ((x : X) → f x ≡ g x) → (xs : List X) → flat_map f xs ≡ flat_map g xs
same_pieces f g h [] = refl
same_pieces f g h (x ∷ xs) = ap (λ ys. ys ++ flat_map f xs) (h x) ∙ ap (λ ys. g x ++ ys) (same_pieces f g h xs)

-- the same code
pub same_code :
    (filling : Filling) (source : SourceValue) (f g : ℕ → ℕ) (all : List Site) → IsSource source → Agree source f g
    → code_of filling f source.statements all ≡ code_of filling g source.statements all
same_code filling source f g all is h =
    ap (map word_of_row) (same_pieces
    (λ (s : Site). insts_from f source.statements (filling all s) s.start (origins_at s (filling all s)))
    (λ (s : Site). insts_from g source.statements (filling all s) s.start (origins_at s (filling all s)))
    (λ s. same_from source f g (filling all s) s.start (origins_at s (filling all s)) is h) all)

same_value :
    (source : SourceValue) (f g : ℕ → ℕ) (v : Value) → Agree source f g → ValueFits (IsPlace source.labels (length source.statements)) v
    → value_word f v ≡ value_word g v
same_value source f g (Int word) h fits = refl
same_value source f g (Code i) h fits = h i fits.within

same_map : {X Y : Type 0} (f g : X → Y) (xs : List X) → All (λ x. f x ≡ g x) xs → map f xs ≡ map g xs
same_map f g [] h = refl
same_map f g (x ∷ xs) h = ap (λ y. y ∷ map f xs) (h 0 x (omega arith)) ∙ ap (λ ys. g x ∷ ys) (same_map f g xs (λ i d low. h (suc i) d (omega arith)))

-- the same data words
pub same_words :
    (source : SourceValue) (f g : ℕ → ℕ) → IsSource source → Agree source f g → words_of f source.user_data ≡ words_of g source.user_data
same_words source f g is h = same_map (value_word f) (value_word g) source.user_data (λ i d low. same_value source f g _ h (is.words_fit i d low))

-- a list that holds a map
pub links_listed :
    (link : ℕ → ℕ) (xs : List ℕ) (i n : ℕ) → length xs ≡ n → ((k : ℕ) → k < n → slice_index xs k ≡ link (i + k))
    → xs ≡ map_from link i n
links_listed link [] i zero e h = refl
links_listed link [] i (suc n) e h = absurd (omega arith)
links_listed link (x ∷ xs) i zero e h = absurd (omega arith)
links_listed link (x ∷ xs) i (suc n) e h =
    let here : i + 0 ≡ i = omega arith in
    ap (λ y. y ∷ xs) (h 0 (omega arith) ∙ ap link here)
    ∙ ap (λ ys. link i ∷ ys) (links_listed link xs (suc i) n (omega arith) (λ k low. h (suc k) (omega arith) ∙ ap link (next i k)))
  where
    next : (a b : ℕ) → a + suc b ≡ suc a + b
    next a b = omega arith
