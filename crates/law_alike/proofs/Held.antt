-- Two lists of fetches behind which a cache holds the same lines with the same words.
use Rattle.std.proofs.Common.{◌≡◌, ◌≢◌, ℕ, zero, suc, Bool, true, false, eqb, ◌&&◌, ◌||◌, List, [], ◌∷◌, ◌++◌, take, refl, sym, ap, ◌∙◌, arith}
use Rattle.std.specs.List.{list_any}
use Rattle.std.proofs.lemmas.Bool.Decides.{nat_tests}
use Rattle.mx_icache.specs.Residency.{line_of, set_of, is_among_last, allocated, is_held, missed_since, resident}
use Rattle.mx_icache.proofs.Steps.{near, missed_since-resident, missed_since-filled, missed_since-allocated, missed_since-other, allocated-held, allocated-missed, allocated-other}
use Rattle.law_alike.specs.Alike.{AnswerAlike}

-- in each set the same lines were allocated last, and of the words of a held line the same ones missed since
pub record HoldAlike (past past' : List ℕ) : Type 0 where
  pub lines : (l : ℕ) → take 8 (allocated past (set_of l)) ≡ take 8 (allocated past' (set_of l))
  pub words : (a : ℕ) → is_held past (line_of a) ≡ true → missed_since past a ≡ missed_since past' a

-- the lines that are taken are equal, and so are fewer of them
fewer : (n : ℕ) (xs ys : List ℕ) → take (suc n) xs ≡ take (suc n) ys → take n xs ≡ take n ys
fewer zero xs ys e = refl
fewer (suc n) [] [] e = refl
fewer (suc n) [] (y ∷ ys) e = absurd (cc)
fewer (suc n) (x ∷ xs) [] e = absurd (cc)
fewer (suc n) (x ∷ xs) (y ∷ ys) e =
    let first : x ≡ y = cc in
    let rest : take (suc n) xs ≡ take (suc n) ys = cc in
    λ k. first k ∷ fewer n xs ys rest k

-- a line among fewer is among more
among_more : (n : ℕ) (xs : List ℕ) (l : ℕ) → list_any (λ m. eqb m l) (take n xs) ≡ true
    → list_any (λ m. eqb m l) (take (suc n) xs) ≡ true
among_more zero xs l e = absurd (cc)
among_more (suc n) [] l e = absurd (cc)
among_more (suc n) (x ∷ xs) l e = either (eqb x l) _ _ (among_more n xs l) e
  where
    either : (b rest more : Bool) → (rest ≡ true → more ≡ true) → (b || rest) ≡ true → (b || more) ≡ true
    either true rest more onward h = refl
    either false rest more onward h = onward h

module _ (past past' : List ℕ) (h : HoldAlike past past') where
  held_alike : (l : ℕ) → is_held past l ≡ is_held past' l
  held_alike l = ap (list_any (λ m. eqb m l)) (h.lines l)

  word_alike : (a : ℕ) (held : Bool) → is_held past (line_of a) ≡ held → (held && missed_since past a) ≡ (held && missed_since past' a)
  word_alike a true e = h.words a e
  word_alike a false e = refl

  pub resident_alike : (a : ℕ) → resident past a ≡ resident past' a
  resident_alike a = word_alike a (is_held past (line_of a)) refl ∙ ap (λ b. b && missed_since past' a) (held_alike (line_of a))

  -- one more fetch, of a line that is held
  module _ (a : ℕ) (held : is_held past (line_of a) ≡ true) where
    held' : is_held past' (line_of a) ≡ true
    held' = sym (held_alike (line_of a)) ∙ held

    word_of_held : (b : ℕ) (v : Bool) → missed_since past a ≡ v → missed_since past b ≡ missed_since past' b
        → missed_since (a ∷ past) b ≡ missed_since (a ∷ past') b
    word_of_held b true e same =
        missed_since-resident a past b held e ∙ same ∙ sym (missed_since-resident a past' b held' (sym (h.words a held) ∙ e))
    word_of_held b false e same =
        missed_since-filled a past b held e ∙ ap (λ v. near a b || v) same
        ∙ sym (missed_since-filled a past' b held' (sym (h.words a held) ∙ e))

    pub held_on : HoldAlike (a ∷ past) (a ∷ past')
    held_on = record {
      lines = λ l. ap (take 8) (allocated-held a past (set_of l) held) ∙ h.lines l ∙ sym (ap (take 8) (allocated-held a past' (set_of l) held'));
      words = λ b e. word_of_held b (missed_since past a) refl
          (h.words b (ap (λ x. is_among_last x (line_of b)) (sym (allocated-held a past (set_of (line_of b)) held)) ∙ e));
    }

  -- of a line that is not held
  module _ (a : ℕ) (missing : is_held past (line_of a) ≡ false) where
    missing' : is_held past' (line_of a) ≡ false
    missing' = sym (held_alike (line_of a)) ∙ missing

    lines_by : (l : ℕ) (v : Bool) → eqb (set_of (line_of a)) (set_of l) ≡ v
        → take 8 (allocated (a ∷ past) (set_of l)) ≡ take 8 (allocated (a ∷ past') (set_of l))
    lines_by l true e =
        let same : set_of (line_of a) ≡ set_of l = grind (arith, nat_tests) in
        let one : take 8 (allocated (a ∷ past) (set_of (line_of a))) ≡ line_of a ∷ take 7 (allocated past (set_of (line_of a))) =
        ap (take 8) (allocated-missed a past missing) in
        let two : take 8 (allocated (a ∷ past') (set_of (line_of a))) ≡ line_of a ∷ take 7 (allocated past' (set_of (line_of a))) =
        ap (take 8) (allocated-missed a past' missing') in
        let rest = fewer 7 (allocated past (set_of (line_of a))) (allocated past' (set_of (line_of a))) (h.lines (line_of a)) in
        let both : take 8 (allocated (a ∷ past) (set_of (line_of a))) ≡ take 8 (allocated (a ∷ past') (set_of (line_of a))) =
        one ∙ ap (λ x. line_of a ∷ x) rest ∙ sym two in
        rw same at both
    lines_by l false e =
        let apart : set_of (line_of a) ≢ set_of l = grind (arith, nat_tests) in
        ap (take 8) (allocated-other a past (set_of l) apart) ∙ h.lines l ∙ sym (ap (take 8) (allocated-other a past' (set_of l) apart))

    -- what another line holds, it held before
    held_before : (l : ℕ) (v : Bool) → eqb (set_of (line_of a)) (set_of l) ≡ v → line_of a ≢ l → is_held (a ∷ past) l ≡ true
        → is_held past l ≡ true
    held_before l true e ne still =
        let same : set_of (line_of a) ≡ set_of l = grind (arith, nat_tests) in
        let test : eqb (line_of a) l ≡ false = grind (arith, nat_tests) in
        let now : is_among_last (line_of a ∷ allocated past (set_of (line_of a))) l ≡ true =
        sym (ap (λ x. is_among_last x l) (allocated-missed a past missing)) ∙ ap (λ s. is_among_last (allocated (a ∷ past) s) l) same ∙ still in
        let rest : list_any (λ m. eqb m l) (take 7 (allocated past (set_of (line_of a)))) ≡ true =
        ap (λ b. b || list_any (λ m. eqb m l) (take 7 (allocated past (set_of (line_of a))))) (sym test) ∙ now in
        ap (λ s. is_among_last (allocated past s) l) (sym same) ∙ among_more 7 (allocated past (set_of (line_of a))) l rest
    held_before l false e ne still =
        let apart : set_of (line_of a) ≢ set_of l = grind (arith, nat_tests) in
        ap (λ x. is_among_last x l) (sym (allocated-other a past (set_of l) apart)) ∙ still

    words_by : (b : ℕ) (v : Bool) → eqb (line_of a) (line_of b) ≡ v → is_held (a ∷ past) (line_of b) ≡ true
        → missed_since (a ∷ past) b ≡ missed_since (a ∷ past') b
    words_by b true e still =
        let same : line_of a ≡ line_of b = grind (arith, nat_tests) in
        missed_since-allocated a past b missing same ∙ sym (missed_since-allocated a past' b missing' same)
    words_by b false e still =
        let apart : line_of a ≢ line_of b = grind (arith, nat_tests) in
        missed_since-other a past b apart ∙ h.words b (held_before (line_of b) (eqb (set_of (line_of a)) (set_of (line_of b))) refl apart still)
        ∙ sym (missed_since-other a past' b apart)

    pub missing_on : HoldAlike (a ∷ past) (a ∷ past')
    missing_on = record {
      lines = λ l. lines_by l (eqb (set_of (line_of a)) (set_of l)) refl;
      words = λ b e. words_by b (eqb (line_of a) (line_of b)) refl e;
    }

  by_held : (a : ℕ) (held : Bool) → is_held past (line_of a) ≡ held → HoldAlike (a ∷ past) (a ∷ past')
  by_held a true e = held_on a e
  by_held a false e = missing_on a e

  pub hold_on : (a : ℕ) → HoldAlike (a ∷ past) (a ∷ past')
  hold_on a = by_held a (is_held past (line_of a)) refl

hold_behind : (past past' coming : List ℕ) → HoldAlike past past' → HoldAlike (coming ++ past) (coming ++ past')
hold_behind past past' [] h = h
hold_behind past past' (a ∷ coming) h = hold_on (coming ++ past) (coming ++ past') (hold_behind past past' coming h) a

pub answers_from : (past past' : List ℕ) → HoldAlike past past' → AnswerAlike past past'
answers_from past past' h coming a = resident_alike (coming ++ past) (coming ++ past') (hold_behind past past' coming h) a
