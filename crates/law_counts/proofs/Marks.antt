-- The test that an address passes where its word is of a statement (`is_word_of`): it marks the words of each site by their origins
-- (`sites_marked`), and so a stretch of words weighs what its origins weigh.
use Rattle.std.proofs.Common.{◌≡◌, ℕ, zero, suc, ◌+◌, ◌-◌, ◌<◌, Bool, true, false, cond, leb, List, [], ◌∷◌, ◌++◌, length, All, slice_index_or, refl, sym, ap, ◌∙◌, subst, arith}
use Rattle.std.specs.List.{flat_map}
use Rattle.std.proofs.lemmas.Bool.Decides.{nat_tests}
use Rattle.mx_layout.specs.Layout.{plan_size, StandFrom}
use Rattle.mx_squash.specs.Copies.{Site}
use Rattle.mx_link.specs.declared.linked.Origin.{Origin}
use Rattle.mx_link.specs.declared.linked.Origin.TheVariants.{Pad}
use Rattle.mx_link.specs.Gathered.{is_of}
use Rattle.law_counts.proofs.Tally.{one, span}

-- the address is that of a word of statement q, where words with these origins stand from a base on
abbrev pub is_word_of : ℕ → List Origin → ℕ → ℕ → Bool
is_word_of base origins q a = cond (leb base a) (is_of q (slice_index_or origins (a - base) Pad)) false

-- how many of these words are of statement q
abbrev pub weigh : ℕ → List Origin → ℕ
weigh q [] = 0
weigh q (o ∷ os) = one (is_of q o) + weigh q os

pub weigh_append : (q : ℕ) (xs ys : List Origin) → weigh q (xs ++ ys) ≡ weigh q xs + weigh q ys
weigh_append q [] ys = omega arith
weigh_append q (x ∷ xs) ys = let h = weigh_append q xs ys in omega arith

module _ (T : ℕ → Bool) (q : ℕ) where
  -- the addresses from a on pass where words with these origins are of the statement
  abbrev pub Marked : ℕ → List Origin → Type 0
  Marked a [] = Unit {0}
  Marked a (o ∷ os) = (T a ≡ is_of q o) × Marked (a + 1) os

  pub marked_left : (a : ℕ) (xs ys : List Origin) → Marked a (xs ++ ys) → Marked a xs
  marked_left a [] ys h = tt
  marked_left a (x ∷ xs) ys h = (h.0, marked_left (a + 1) xs ys h.1)

  pub marked_right : (a : ℕ) (xs ys : List Origin) → Marked a (xs ++ ys) → Marked (a + length xs) ys
  marked_right a [] ys h = subst (λ n. Marked n ys) (omega arith) h
  marked_right a (x ∷ xs) ys h = subst (λ n. Marked n ys) (omega arith) (marked_right (a + 1) xs ys h.1)

  pub marked_span : (a : ℕ) (os : List Origin) → Marked a os → span T (length os) a ≡ weigh q os
  marked_span a [] h = refl
  marked_span a (o ∷ os) h = λ j. one (h.0 j) + marked_span (a + 1) os h.1 j

  pub marked_at : (a : ℕ) (os : List Origin) → Marked a os → (k : ℕ) → k < length os → T (a + k) ≡ is_of q (slice_index_or os k Pad)
  marked_at a [] h k l = absurd (omega arith)
  marked_at a (o ∷ os) h zero l = let on : a + 0 ≡ a = omega arith in ap T on ∙ h.0
  marked_at a (o ∷ os) h (suc k) l = let on : a + suc k ≡ a + 1 + k = omega arith in ap T on ∙ marked_at (a + 1) os h.1 k (omega arith)

  all_marked : (a : ℕ) (os : List Origin) → ((k : ℕ) → k < length os → T (a + k) ≡ is_of q (slice_index_or os k Pad)) → Marked a os
  all_marked a [] h = tt
  all_marked a (o ∷ os) h =
      let on : a ≡ a + 0 = omega arith in (
        ap T on ∙ h 0 (omega arith),
        all_marked (a + 1) os (λ k l. let more : a + 1 + k ≡ a + suc k = omega arith in ap T more ∙ h (suc k) (omega arith)),
      )

  -- origins that are as many as the words of the sites' plans mark the sites' words
  pub sites_marked :
      (piece : Site → List Origin) → ((s : Site) → length (piece s) ≡ plan_size s.plan) → (a : ℕ) (list : List Site) → StandFrom a list
      → Marked a (flat_map piece list) → All (λ (s : Site). Marked s.start (piece s)) list
  sites_marked piece long a [] h m k d l = absurd (omega arith)
  sites_marked piece long a (s ∷ list) h m zero d l =
      subst (λ n. Marked n (piece s)) (sym h.0) (marked_left a (piece s) (flat_map piece list) m)
  sites_marked piece long a (s ∷ list) h m (suc k) d l =
      sites_marked piece long (a + plan_size s.plan) list h.1
      (subst (λ n. Marked (a + n) (flat_map piece list)) (long s) (marked_right a (piece s) (flat_map piece list) m)) k d (omega arith)

-- so does the test of a statement
pub words_marked : (base : ℕ) (origins : List Origin) (q : ℕ) → Marked (is_word_of base origins q) q base origins
words_marked base origins q = all_marked (is_word_of base origins q) q base origins (λ k l.
    let on : base + k - base ≡ k = omega arith in
    ap (λ b. cond b (is_of q (slice_index_or origins (base + k - base) Pad)) false) (above k)
    ∙ ap (λ n. is_of q (slice_index_or origins n Pad)) on)
  where
    above : (k : ℕ) → leb base (base + k) ≡ true
    above k = grind (arith, nat_tests)
