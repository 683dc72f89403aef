-- What is accepted is spelled as a file, and what is spelled as a file is accepted.
use Rattle.std.proofs.Common.{◌≡◌, ℕ, zero, suc, ◌+◌, ◌*◌, ◌≤◌, Bool, true, false, cond, nat_lt, nat_eq, List, [], ◌∷◌, ◌++◌, length, take, drop, Option, Some, None, refl, sym, subst, ap, ◌∙◌, arith, append_assoc, length-append, All, inl, inr}
use Rattle.std.specs.Prelude.{◌==◌, ◌&&◌}
use Rattle.std.specs.List.{starts_with, position_from}
use Rattle.std.proofs.lemmas.Bool.Decides.{nat_tests}
use Rattle.std.proofs.lemmas.List.{drop-drop, length-drop, append-nil}
use Rattle.std.proofs.lemmas.Grind.{flat_map-append}
use Rattle.std.proofs.lemmas.Iterator.Adapters.{position_from-zero}
use Rattle.mx_image.specs.declared.error.ImageError.{ImageError}
use Rattle.mx_image.specs.declared.error.ImageError.TheVariants.{BadMagic, Truncated, BadRange, Trailing}
use Rattle.mx_image.specs.Bytes.{word_bytes, words_bytes, number_in, number_at, numbers}
use Rattle.mx_image.specs.Contents.{Contents, plain, IsImage, IsFile, IsLink, LinksFit, AreWords}
use Rattle.mx_image.specs.Files.{magic, image_bytes, file_bytes, flag_of, image_in, file_in, file_in_2, links_offset, or_next, short_refusal, long_refusal, magic_refusal, field_refusal, is_outside, outside_refusal, links_refusal, refusal_1, refusal_2, image_refusal, file_refusal, Spells}
use Rattle.mx_image.proofs.Numbers.{AreBytes, number-word, numbers-words, length-words, drop-words, words-numbers, numbers-plus, length-numbers}

or_none : (a b : Option ImageError) → or_next a b ≡ None → (a ≡ None) × (b ≡ None)
or_none None b h = (refl, h)
or_none (Some e) b h = absurd (cc)

test_none : (b : Bool) (e : ImageError) → cond b (Some e) None ≡ None → b ≡ false
test_none true e h = absurd (cc)
test_none false e h = refl

-- what a test that does not refuse tells
pub not_short : (end : ℕ) (bs : List ℕ) → short_refusal end bs ≡ None → end ≤ length bs
not_short end bs h = let t = test_none (nat_lt (length bs) end) (Truncated (length bs)) h in grind (arith, nat_tests)

pub not_long : (end : ℕ) (bs : List ℕ) → long_refusal end bs ≡ None → length bs ≤ end
not_long end bs h = let t = test_none (nat_lt end (length bs)) (Trailing end) h in grind (arith, nat_tests)

pub not_over : (at most : ℕ) (bs : List ℕ) → field_refusal at most bs ≡ None → number_at at bs ≤ most
not_over at most bs h =
    let t = test_none (nat_lt most (number_at at bs)) (BadRange at) (or_none (short_refusal (at + 4) bs) _ h).1 in
    grind (arith, nat_tests)

version_is : (b : Bool) (next : Option ImageError) (e : ImageError) → cond b next (Some e) ≡ None → (b ≡ true) × (next ≡ None)
version_is true next e h = (refl, h)
version_is false next e h = absurd (cc)

passes : (b : Bool) (e : ImageError) → cond b None (Some e) ≡ None → b ≡ true
passes true e h = refl
passes false e h = absurd (cc)

four_are : (a b c d : ℕ) → (a == 77 && (b == 88 && (c == 73 && (d == 77 && true)))) ≡ true → (a ≡ 77) × (b ≡ 88) × (c ≡ 73) × (d ≡ 77)
four_are a b c d h = (grind (arith, nat_tests), grind (arith, nat_tests), grind (arith, nat_tests), grind (arith, nat_tests))

magic_is : (bs : List ℕ) → 4 ≤ length bs → magic_refusal bs ≡ None → bs ≡ magic ++ drop 4 bs
magic_is (a ∷ b ∷ c ∷ d ∷ bs) h m =
    let four = four_are a b c d (passes (starts_with nat_eq magic (take 4 (a ∷ b ∷ c ∷ d ∷ bs))) BadMagic m) in
    let p : a ≡ 77 = four.0 in
    let q : b ≡ 88 = four.1 in
    let r : c ≡ 73 = four.2 in
    let s : d ≡ 77 = four.3 in
    cc
magic_is [] h m = absurd (omega arith)
magic_is (a ∷ []) h m = absurd (omega arith)
magic_is (a ∷ b ∷ []) h m = absurd (omega arith)
magic_is (a ∷ b ∷ c ∷ []) h m = absurd (omega arith)

-- bytes after an offset are bytes
bytes_after : (n : ℕ) (bs : List ℕ) → AreBytes bs → AreBytes (drop n bs)
bytes_after zero bs a = a
bytes_after (suc n) [] a = λ k. omega arith
bytes_after (suc n) (b ∷ bs) a = bytes_after n bs (λ k. a (suc k))

later : (m n : ℕ) (bs : List ℕ) → number_in (drop m (drop n bs)) ≡ number_at (n + m) bs
later m n bs = ap number_in (drop-drop m n bs)

-- the bytes after the magic, by their numbers
after_magic : (k : ℕ) (bs : List ℕ) → AreBytes bs → length bs ≡ 4 + 4 * k → drop 4 bs ≡ words_bytes (numbers k (drop 4 bs))
after_magic k bs a h = sym (words-numbers k (drop 4 bs) (bytes_after 4 bs a) (let e = length-drop 4 bs in omega (arith, e)))

-- the sizes of bytes of version 1 that are not refused
pub record Accepted1 (bs : List ℕ) : Type 0 where
  pub code : number_at 8 bs ≤ 60000
  pub user_data : number_at 12 bs ≤ 65280
  pub whole : length bs ≡ 16 + 4 * (number_at 8 bs + number_at 12 bs)

pub accepted_1 : (bs : List ℕ) → refusal_1 bs ≡ None → Accepted1 bs
accepted_1 bs h =
    let end : ℕ = 16 + 4 * (number_at 8 bs + number_at 12 bs) in
    let p = or_none (field_refusal 8 60000 bs) _ h in
    let q = or_none (field_refusal 12 65280 bs) _ p.1 in
    let r = or_none (short_refusal end bs) (long_refusal end bs) q.1 in
    let s = not_short end bs r.0 in
    let l = not_long end bs r.1 in
    record { code = not_over 8 60000 bs p.0; user_data = not_over 12 65280 bs q.0; whole = omega (arith, s, l) }

-- the numbers of version 1
numbers_1 : (bs : List ℕ) → number_at 4 bs ≡ 1
    → numbers (suc (suc (suc (number_at 8 bs + number_at 12 bs)))) (drop 4 bs)
    ≡ 1 ∷ number_at 8 bs ∷ number_at 12 bs ∷ ((image_in bs).code ++ (image_in bs).user_data)
numbers_1 bs v =
    let c = number_at 8 bs in
    let d = number_at 12 bs in
    let e : number_in (drop 4 (drop 4 bs)) ≡ c = later 4 4 bs in
    let f : drop 4 (drop 4 (drop 4 bs)) ≡ drop 12 bs = ap (drop 4) (drop-drop 4 4 bs) ∙ drop-drop 4 8 bs in
    let g : number_in (drop 4 (drop 4 (drop 4 bs))) ≡ d = ap number_in f in
    let h : drop 4 (drop 4 (drop 4 (drop 4 bs))) ≡ drop 16 bs = ap (drop 4) f ∙ drop-drop 4 12 bs in
    let i : numbers (c + d) (drop 16 bs) ≡ numbers c (drop 16 bs) ++ numbers d (drop (16 + 4 * c) bs) =
    numbers-plus c d (drop 16 bs) ∙ ap (λ xs. numbers c (drop 16 bs) ++ numbers d xs) (drop-drop (4 * c) 16 bs) in
    cc (e, g, ap (numbers (c + d)) h, i)

pub spelled_1 : (bs : List ℕ) → AreBytes bs → magic_refusal bs ≡ None → 8 ≤ length bs → number_at 4 bs ≡ 1 → refusal_1 bs ≡ None
    → bs ≡ image_bytes (image_in bs).code (image_in bs).user_data
spelled_1 bs a m n v h =
    let s = accepted_1 bs h in
    let c = number_at 8 bs in
    let d = number_at 12 bs in
    magic_is bs (omega arith) m
    ∙ ap (λ xs. magic ++ xs) (after_magic (suc (suc (suc (c + d)))) bs a (omega (arith, s.whole)))
    ∙ ap (λ ws. magic ++ words_bytes ws) (numbers_1 bs v)
    ∙ ap (λ n. magic ++ words_bytes (1 ∷ n ∷ d ∷ ((image_in bs).code ++ (image_in bs).user_data))) (sym (length-numbers c (drop 16 bs)))
    ∙ ap (λ n. magic ++ words_bytes (1 ∷ length (image_in bs).code ∷ n ∷ ((image_in bs).code ++ (image_in bs).user_data)))
    (sym (length-numbers d (drop (16 + 4 * c) bs)))

equal : (a b : ℕ) → (a == b) ≡ true → a ≡ b
equal a b h = grind (arith, nat_tests)

-- an accepted image is spelled so
pub image_spelled : (bs : List ℕ) → AreBytes bs → image_refusal bs ≡ None → bs ≡ image_bytes (image_in bs).code (image_in bs).user_data
image_spelled bs a h =
    let p = or_none (magic_refusal bs) _ h in
    let q = or_none (short_refusal 8 bs) _ p.1 in
    let r = version_is (number_at 4 bs == 1) (refusal_1 bs) (BadRange 4) q.1 in
    spelled_1 bs a p.0 (not_short 8 bs q.0) (equal (number_at 4 bs) 1 r.0) r.1

-- no link is outside exactly where all are links
link_test : (words link : ℕ) → is_outside words link ≡ false → IsLink words link
link_test words link h = (grind (arith, nat_tests), grind (arith, nat_tests))

test_link : (words link : ℕ) → IsLink words link → is_outside words link ≡ false
test_link words link h = let p = h.0 in let q = h.1 in grind (arith, nat_tests)

links_from_none : (words i : ℕ) (ls : List ℕ) → position_from (is_outside words) i ls ≡ None → All (IsLink words) ls
links_from_none words i [] h k d lt = absurd (omega arith)
links_from_none words i (l ∷ ls) h zero d lt = link_test words l (head_false (is_outside words l) i (position_from (is_outside words) (i + 1) ls) h).0
  where
    head_false : (b : Bool) (i : ℕ) (o : Option ℕ) → cond b (Some i) o ≡ None → (b ≡ false) × (o ≡ None)
    head_false true i o h = absurd (cc)
    head_false false i o h = (refl, h)
links_from_none words i (l ∷ ls) h (suc k) d lt =
    links_from_none words (i + 1) ls (tail_none (is_outside words l) i (position_from (is_outside words) (i + 1) ls) h) k d (omega arith)
  where
    tail_none : (b : Bool) (i : ℕ) (o : Option ℕ) → cond b (Some i) o ≡ None → o ≡ None
    tail_none true i o h = absurd (cc)
    tail_none false i o h = h

none_from_links : (words i : ℕ) (ls : List ℕ) → All (IsLink words) ls → position_from (is_outside words) i ls ≡ None
none_from_links words i [] h = refl
none_from_links words i (l ∷ ls) h =
    ap (λ b. cond b (Some i) (position_from (is_outside words) (i + 1) ls)) (test_link words l (h 0 0 (omega arith)))
    ∙ none_from_links words (i + 1) ls (λ k d lt. h (suc k) d (omega arith))

outside_none : (from : ℕ) (o : Option ℕ) → outside_refusal from o ≡ None → o ≡ None
outside_none from None h = refl
outside_none from (Some k) h = absurd (cc)

-- the sizes and links of bytes of version 2 that are not refused
pub record Accepted2 (bs : List ℕ) : Type 0 where
  pub flag : number_at 8 bs ≤ 1
  pub code : number_at 12 bs ≤ 60000
  pub user_data : number_at 16 bs ≤ 65280
  pub links : number_at 20 bs ≤ 20001
  pub whole : length bs ≡ 24 + 4 * ((number_at 12 bs + number_at 16 bs) + number_at 20 bs)
  pub within : All (IsLink (number_at 12 bs)) (file_in_2 bs).links

pub accepted_2 : (bs : List ℕ) → refusal_2 bs ≡ None → Accepted2 bs
accepted_2 bs h =
    let end : ℕ = links_offset bs + 4 * number_at 20 bs in
    let p = or_none (field_refusal 8 1 bs) _ h in
    let q = or_none (field_refusal 12 60000 bs) _ p.1 in
    let r = or_none (field_refusal 16 65280 bs) _ q.1 in
    let t = or_none (field_refusal 20 20001 bs) _ r.1 in
    let u = or_none (short_refusal end bs) _ t.1 in
    let v = or_none (links_refusal bs) (long_refusal end bs) u.1 in
    let s = not_short end bs u.0 in
    let l = not_long end bs v.1 in
    let none = outside_none (links_offset bs) _ v.0 in
    record {
      flag = not_over 8 1 bs p.0;
      code = not_over 12 60000 bs q.0;
      user_data = not_over 16 65280 bs r.0;
      links = not_over 20 20001 bs t.0;
      whole = omega (arith, s, l);
      within = links_from_none (number_at 12 bs) 0 (file_in_2 bs).links (sym (position_from-zero (is_outside (number_at 12 bs)) (file_in_2 bs).links) ∙ none);
    }

flag_again : (n : ℕ) → n ≤ 1 → flag_of (n == 1) ≡ n
flag_again zero h = refl
flag_again (suc zero) h = refl
flag_again (suc (suc n)) h = absurd (omega arith)

-- the numbers of version 2
numbers_2 : (bs : List ℕ) → number_at 4 bs ≡ 2
    → numbers (suc (suc (suc (suc (suc ((number_at 12 bs + number_at 16 bs) + number_at 20 bs)))))) (drop 4 bs)
    ≡ 2 ∷ number_at 8 bs ∷ number_at 12 bs ∷ number_at 16 bs ∷ number_at 20 bs ∷ (((file_in_2 bs).code ++ (file_in_2 bs).user_data) ++ (file_in_2 bs).links)
numbers_2 bs v =
    let c = number_at 12 bs in
    let d = number_at 16 bs in
    let m = number_at 20 bs in
    let e8 : drop 4 (drop 4 bs) ≡ drop 8 bs = drop-drop 4 4 bs in
    let e12 : drop 4 (drop 4 (drop 4 bs)) ≡ drop 12 bs = ap (drop 4) e8 ∙ drop-drop 4 8 bs in
    let e16 : drop 4 (drop 4 (drop 4 (drop 4 bs))) ≡ drop 16 bs = ap (drop 4) e12 ∙ drop-drop 4 12 bs in
    let e20 : drop 4 (drop 4 (drop 4 (drop 4 (drop 4 bs)))) ≡ drop 20 bs = ap (drop 4) e16 ∙ drop-drop 4 16 bs in
    let e24 : drop 4 (drop 4 (drop 4 (drop 4 (drop 4 (drop 4 bs))))) ≡ drop 24 bs = ap (drop 4) e20 ∙ drop-drop 4 20 bs in
    let words : numbers ((c + d) + m) (drop 24 bs) ≡ (numbers c (drop 24 bs) ++ numbers d (drop (24 + 4 * c) bs)) ++ numbers m (drop (24 + 4 * (c + d)) bs) =
    numbers-plus (c + d) m (drop 24 bs)
    ∙ ap (λ xs. numbers (c + d) (drop 24 bs) ++ numbers m xs) (drop-drop (4 * (c + d)) 24 bs)
    ∙ ap (λ xs. xs ++ numbers m (drop (24 + 4 * (c + d)) bs))
    (numbers-plus c d (drop 24 bs) ∙ ap (λ xs. numbers c (drop 24 bs) ++ numbers d xs) (drop-drop (4 * c) 24 bs)) in
    cc (ap number_in e8, ap number_in e12, ap number_in e16, ap number_in e20, ap (numbers ((c + d) + m)) e24, words)

pub spelled_2 : (bs : List ℕ) → AreBytes bs → magic_refusal bs ≡ None → 8 ≤ length bs → number_at 4 bs ≡ 2 → refusal_2 bs ≡ None
    → bs ≡ file_bytes (file_in_2 bs)
spelled_2 bs a n l v h =
    let s = accepted_2 bs h in
    let c = number_at 12 bs in
    let d = number_at 16 bs in
    let m = number_at 20 bs in
    let f = file_in_2 bs in
    let words : List ℕ = (f.code ++ f.user_data) ++ f.links in
    magic_is bs (omega arith) n
    ∙ ap (λ xs. magic ++ xs) (after_magic (suc (suc (suc (suc (suc ((c + d) + m)))))) bs a (omega (arith, s.whole)))
    ∙ ap (λ ws. magic ++ words_bytes ws) (numbers_2 bs v)
    ∙ ap (λ k. magic ++ words_bytes (2 ∷ k ∷ c ∷ d ∷ m ∷ words)) (sym (flag_again (number_at 8 bs) s.flag))
    ∙ ap (λ k. magic ++ words_bytes (2 ∷ flag_of f.input ∷ k ∷ d ∷ m ∷ words)) (sym (length-numbers c (drop 24 bs)))
    ∙ ap (λ k. magic ++ words_bytes (2 ∷ flag_of f.input ∷ length f.code ∷ k ∷ m ∷ words)) (sym (length-numbers d (drop (24 + 4 * c) bs)))
    ∙ ap (λ k. magic ++ words_bytes (2 ∷ flag_of f.input ∷ length f.code ∷ length f.user_data ∷ k ∷ words)) (sym (length-numbers m (drop (links_offset bs) bs)))

-- an accepted file is spelled so, in its version
pub file_spelled : (bs : List ℕ) → AreBytes bs → file_refusal bs ≡ None → Spells bs (file_in bs)
file_spelled bs a h =
    let p = or_none (magic_refusal bs) _ h in
    let q = or_none (short_refusal 8 bs) _ p.1 in
    by_version (number_at 4 bs == 1) (number_at 4 bs == 2) (equal (number_at 4 bs) 1) (equal (number_at 4 bs) 2) p.0 (not_short 8 bs q.0) q.1
  where
    by_version : (b c : Bool) → (b ≡ true → number_at 4 bs ≡ 1) → (c ≡ true → number_at 4 bs ≡ 2) → magic_refusal bs ≡ None → 8 ≤ length bs
        → cond b (refusal_1 bs) (cond c (refusal_2 bs) (Some (BadRange 4))) ≡ None → Spells bs (cond b (image_in bs) (file_in_2 bs))
    by_version true c one two m n r = inr (spelled_1 bs a m n (one refl) r, refl, refl)
    by_version false true one two m n r = inl (spelled_2 bs a m n (two refl) r)
    by_version false false one two m n r = absurd (cc)

-- and its links fit
pub file_links : (bs : List ℕ) → file_refusal bs ≡ None → LinksFit (length (file_in bs).code) (file_in bs).links
file_links bs h =
    let p = or_none (magic_refusal bs) _ h in
    let q = or_none (short_refusal 8 bs) _ p.1 in
    by_version (number_at 4 bs == 1) (number_at 4 bs == 2) q.1
  where
    by_version : (b c : Bool) → cond b (refusal_1 bs) (cond c (refusal_2 bs) (Some (BadRange 4))) ≡ None
        → (let f = cond b (image_in bs) (file_in_2 bs) in LinksFit (length f.code) f.links)
    by_version true c r = record { few = omega arith; within = λ k d lt. absurd (omega arith) }
    by_version false true r =
        let s = accepted_2 bs r in
        record {
          few = omega (arith, s.links, length-numbers (number_at 20 bs) (drop (links_offset bs) bs));
          within = subst (λ n. All (IsLink n) (file_in_2 bs).links) (sym (length-numbers (number_at 12 bs) (drop 24 bs))) s.within;
        }
    by_version false false r = absurd (cc)

-- what does not refuse
both_none : (a b : Option ImageError) → a ≡ None → b ≡ None → or_next a b ≡ None
both_none a b h k = ap (λ o. or_next o b) h ∙ k

short_none : (end : ℕ) (bs : List ℕ) → end ≤ length bs → short_refusal end bs ≡ None
short_none end bs h = ap (λ b. cond b (Some (Truncated (length bs))) None) (let t : nat_lt (length bs) end ≡ false = grind (arith, nat_tests) in t)

long_none : (end : ℕ) (bs : List ℕ) → length bs ≤ end → long_refusal end bs ≡ None
long_none end bs h = ap (λ b. cond b (Some (Trailing end)) None) (let t : nat_lt end (length bs) ≡ false = grind (arith, nat_tests) in t)

field_none : (at most : ℕ) (bs : List ℕ) → at + 4 ≤ length bs → number_at at bs ≤ most → field_refusal at most bs ≡ None
field_none at most bs h k =
    both_none (short_refusal (at + 4) bs) _ (short_none (at + 4) bs h)
    (ap (λ b. cond b (Some (BadRange at)) None) (let t : nat_lt most (number_at at bs) ≡ false = grind (arith, nat_tests) in t))

alone : (ws : List ℕ) → AreWords ws → numbers (length ws) (words_bytes ws) ≡ ws
alone ws h = ap (numbers (length ws)) (sym (append-nil (words_bytes ws))) ∙ numbers-words ws [] h

same_contents : (c d : List ℕ) (i : Bool) (l c' d' : List ℕ) (i' : Bool) (l' : List ℕ) → c ≡ c' → d ≡ d' → i ≡ i' → l ≡ l'
    → (let a : Contents = record { code = c; user_data = d; input = i; links = l } in let b : Contents =
    record { code = c'; user_data = d'; input = i'; links = l' } in a ≡ b)
same_contents c d i l c' d' i' l' e f g h = λ k. record { code = e k; user_data = f k; input = g k; links = h k }

module _ (code user_data : List ℕ) (h : IsImage code user_data) where
  abbrev bs : List ℕ
  bs = image_bytes code user_data

  size_c : number_at 8 bs ≡ length code
  size_c = number-word (length code) (words_bytes (length user_data ∷ (code ++ user_data))) (omega (arith, h.code_few))

  size_d : number_at 12 bs ≡ length user_data
  size_d = number-word (length user_data) (words_bytes (code ++ user_data)) (omega (arith, h.data_few))

  whole : length bs ≡ 16 + 4 * (length code + length user_data)
  whole = omega (arith, length-words (code ++ user_data), length-append code user_data)

  pub code_again : (image_in bs).code ≡ code
  code_again =
      ap (λ n. numbers n (words_bytes (code ++ user_data))) size_c
      ∙ ap (numbers (length code)) (flat_map-append word_bytes code user_data)
      ∙ numbers-words code (words_bytes user_data) h.code_words

  pub data_again : (image_in bs).user_data ≡ user_data
  data_again =
      ap (numbers (number_at 12 bs)) (sym (drop-drop (4 * number_at 8 bs) 16 bs) ∙ drop-words code user_data (number_at 8 bs) size_c)
      ∙ ap (λ n. numbers n (words_bytes user_data)) size_d
      ∙ alone user_data h.data_words

  pub plain_again : file_in bs ≡ plain code user_data
  plain_again = same_contents _ _ _ _ _ _ _ _ code_again data_again refl refl

  pub accepts_1 : refusal_1 bs ≡ None
  accepts_1 =
      let end : ℕ = 16 + 4 * (number_at 8 bs + number_at 12 bs) in
      let e : length bs ≡ end = omega (arith, whole, size_c, size_d) in
      both_none (field_refusal 8 60000 bs) _ (field_none 8 60000 bs (omega (arith, whole)) (omega (arith, size_c, h.code_few)))
      (both_none (field_refusal 12 65280 bs) _ (field_none 12 65280 bs (omega (arith, whole)) (omega (arith, size_d, h.data_few)))
      (both_none (short_refusal end bs) _ (short_none end bs (omega (arith, e))) (long_none end bs (omega (arith, e)))))

  pub image_accepted : image_refusal bs ≡ None
  image_accepted = both_none (short_refusal 8 bs) _ (short_none 8 bs (omega (arith, whole))) accepts_1

  pub plain_accepted : file_refusal bs ≡ None
  plain_accepted = both_none (short_refusal 8 bs) _ (short_none 8 bs (omega (arith, whole))) accepts_1

flag_small : (b : Bool) → flag_of b ≤ 1
flag_small true = omega arith
flag_small false = omega arith

flag_is : (b : Bool) → (flag_of b == 1) ≡ b
flag_is true = refl
flag_is false = refl

module _ (f : Contents) (h : IsFile f) where
  abbrev ws : List ℕ
  ws = (f.code ++ f.user_data) ++ f.links

  abbrev cs : List ℕ
  cs = file_bytes f

  flag : number_at 8 cs ≡ flag_of f.input
  flag = number-word (flag_of f.input) (words_bytes (length f.code ∷ length f.user_data ∷ length f.links ∷ ws)) (omega (arith, flag_small f.input))

  count_c : number_at 12 cs ≡ length f.code
  count_c = number-word (length f.code) (words_bytes (length f.user_data ∷ length f.links ∷ ws)) (omega (arith, h.image.code_few))

  count_d : number_at 16 cs ≡ length f.user_data
  count_d = number-word (length f.user_data) (words_bytes (length f.links ∷ ws)) (omega (arith, h.image.data_few))

  count_m : number_at 20 cs ≡ length f.links
  count_m = number-word (length f.links) (words_bytes ws) (omega (arith, h.links.few))

  all : length cs ≡ 24 + 4 * ((length f.code + length f.user_data) + length f.links)
  all = omega (arith, length-words ws, length-append (f.code ++ f.user_data) f.links, length-append f.code f.user_data)

  link_words : AreWords f.links
  link_words = λ k d lt. let p = h.links.within k d lt in let q = h.image.code_few in omega (arith, p.1)

  code_back : (file_in_2 cs).code ≡ f.code
  code_back =
      ap (λ n. numbers n (words_bytes ws)) count_c
      ∙ ap (λ xs. numbers (length f.code) (words_bytes xs)) (append_assoc f.code f.user_data f.links)
      ∙ ap (numbers (length f.code)) (flat_map-append word_bytes f.code (f.user_data ++ f.links))
      ∙ numbers-words f.code (words_bytes (f.user_data ++ f.links)) h.image.code_words

  data_back : (file_in_2 cs).user_data ≡ f.user_data
  data_back =
      ap (numbers (number_at 16 cs)) (
      sym (drop-drop (4 * number_at 12 cs) 24 cs)
      ∙ ap (λ xs. drop (4 * number_at 12 cs) (words_bytes xs)) (append_assoc f.code f.user_data f.links)
      ∙ drop-words f.code (f.user_data ++ f.links) (number_at 12 cs) count_c
      )
      ∙ ap (λ n. numbers n (words_bytes (f.user_data ++ f.links))) count_d
      ∙ ap (numbers (length f.user_data)) (flat_map-append word_bytes f.user_data f.links)
      ∙ numbers-words f.user_data (words_bytes f.links) h.image.data_words

  links_back : (file_in_2 cs).links ≡ f.links
  links_back =
      ap (numbers (number_at 20 cs)) (
      sym (drop-drop (4 * (number_at 12 cs + number_at 16 cs)) 24 cs)
      ∙ drop-words (f.code ++ f.user_data) f.links (number_at 12 cs + number_at 16 cs) (omega (arith, count_c, count_d, length-append f.code f.user_data))
      )
      ∙ ap (λ n. numbers n (words_bytes f.links)) count_m
      ∙ alone f.links link_words

  pub file_again : file_in cs ≡ f
  file_again = same_contents _ _ _ _ _ _ _ _ code_back data_back (ap (λ n. n == 1) flag ∙ flag_is f.input) links_back

  no_outside : links_refusal cs ≡ None
  no_outside =
      ap (outside_refusal (links_offset cs)) (
      position_from-zero (is_outside (number_at 12 cs)) (file_in_2 cs).links
      ∙ ap (λ ls. position_from (is_outside (number_at 12 cs)) 0 ls) links_back
      ∙ ap (λ n. position_from (is_outside n) 0 f.links) count_c
      ∙ none_from_links (length f.code) 0 f.links h.links.within
      )

  pub file_accepted : file_refusal cs ≡ None
  file_accepted =
      let end : ℕ = links_offset cs + 4 * number_at 20 cs in
      let e : length cs ≡ end = omega (arith, all, count_c, count_d, count_m) in
      both_none (short_refusal 8 cs) _ (short_none 8 cs (omega (arith, all)))
      (both_none (field_refusal 8 1 cs) _ (field_none 8 1 cs (omega (arith, all)) (omega (arith, flag, flag_small f.input)))
      (both_none (field_refusal 12 60000 cs) _ (field_none 12 60000 cs (omega (arith, all)) (omega (arith, count_c, h.image.code_few)))
      (both_none (field_refusal 16 65280 cs) _ (field_none 16 65280 cs (omega (arith, all)) (omega (arith, count_d, h.image.data_few)))
      (both_none (field_refusal 20 20001 cs) _ (field_none 20 20001 cs (omega (arith, all)) (omega (arith, count_m, h.links.few)))
      (both_none (short_refusal end cs) _ (short_none end cs (omega (arith, e)))
      (both_none (links_refusal cs) _ no_outside (long_none end cs (omega (arith, e)))))))))
