-- Counting the steps of a run that execute a word whose address passes a test. A stretch of words counts once for each of its
-- addresses that passes (`stretch`), a terminator and its slots likewise, unless it squashes them (`ends_tally`).
use Rattle.std.proofs.Common.{◌≡◌, ℕ, zero, suc, ◌+◌, ◌^◌, ◌<◌, ◌≤◌, Bool, true, false, cond, not, ◌&&◌, List, [], ◌∷◌, length, take, drop, refl, sym, ap, ◌∙◌, subst, arith}
use Rattle.std.proofs.lemmas.List.{length-take-le, take-append-drop}
use Rattle.mx_isa.specs.declared.inst.Inst.{Inst}
use Rattle.mx_isa.specs.Effect.{Decision, decides}
use Rattle.mx_delay.specs.Delay.{Delay, queued, squash, next_of}
use Rattle.mx_delay.specs.Clean.{Watched}
use Rattle.law_link.proofs.Going.{Did, ArePlain, Stands, stands_left, stands_right, did, did_all, starts, for, for_same, for_add, once, cancelled, goes, Keeps, keeps_for, halted_for}
use Rattle.law_link.proofs.Ends.{Ended, past_transfer, one_taken}
use Rattle.law_link.proofs.Setting.{StepSetting}

abbrev pub one : Bool → ℕ
one b = cond b 1 0

plain_front : (k : ℕ) (insts : List Inst) → ArePlain insts → ArePlain (take k insts)
plain_front zero insts h = tt
plain_front (suc k) [] h = tt
plain_front (suc k) (x ∷ insts) h = (h.0, plain_front k insts h.1)

module _ (T : ℕ → Bool) where
  -- the coming step executes a word whose address passes
  abbrev pub hits : Delay → Bool
  hits s = not s.halted && (not s.first.squashed && T s.first.address)

  -- how many of n addresses pass
  abbrev pub span : ℕ → ℕ → ℕ
  span zero a = 0
  span (suc n) a = one (T a) + span n (a + 1)

  pub span_last : (n a : ℕ) → span (suc n) a ≡ span n a + one (T (a + n))
  span_last zero a =
      let on : a ≡ a + 0 = omega arith in
      let e = ap (λ b. one (T b)) on in
      omega arith
  span_last (suc n) a =
      let h = span_last n (a + 1) in
      let on : a + 1 + n ≡ a + suc n = omega arith in
      let e = ap (λ b. one (T b)) on in
      omega arith

  pub span_add : (m n a : ℕ) → span (m + n) a ≡ span m a + span n (a + m)
  span_add zero n a =
      let k : zero + n ≡ n = omega arith in
      let on : a ≡ a + 0 = omega arith in
      let e : span (zero + n) a ≡ span n (a + 0) = (λ j. span (k j) (on j)) in
      omega arith
  span_add (suc m) n a =
      let h = span_add m n (a + 1) in
      let k : suc m + n ≡ suc (m + n) = omega arith in
      let e = ap (λ j. span j a) k in
      let on : a + 1 + m ≡ a + suc m = omega arith in
      let f = ap (span n) on in
      omega arith

  module _ (machine : StepSetting) where
    open machine use {code, inside, place as p, input}

    abbrev steps : ℕ → Watched → Watched
    steps = for machine

    abbrev begins : ℕ → Did → Watched
    begins = starts machine

    -- how many of the first n steps hit
    abbrev pub tally : ℕ → Watched → ℕ
    tally zero s = 0
    tally (suc n) s = tally n s + one (hits (steps n s).at)

    pub tally_same : (m n : ℕ) (s : Watched) → m ≡ n → tally m s ≡ tally n s
    tally_same m n s e = ap (λ k. tally k s) e

    pub tally_one : (m : ℕ) (s : Watched) → tally (m + 1) s ≡ tally m s + one (hits (steps m s).at)
    tally_one m s = tally_same (m + 1) (suc m) s (omega arith)

    pub tally_add : (m n : ℕ) (s : Watched) → tally (m + n) s ≡ tally m s + tally n (steps m s)
    tally_add m zero s =
        let e = tally_same (m + zero) m s (omega arith) in
        omega arith
    tally_add m (suc n) s =
        let e = tally_same (m + suc n) (suc (m + n)) s (omega arith) in
        let h = tally_add m n s in
        let f = ap (λ (x : Watched). one (hits x.at)) (for_add machine m n s) in
        omega arith

    pub tally_kept : (n : ℕ) (x y : Watched) → Keeps machine x y → tally n x ≡ tally n y
    tally_kept zero x y h = refl
    tally_kept (suc n) x y h =
        let k = keeps_for machine n x y h in
        λ j. tally_kept n x y h j + one (hits (k.at j))

    pub tally_halted : (n : ℕ) (s : Watched) → s.at.halted ≡ true → tally n s ≡ 0
    tally_halted zero s h = refl
    tally_halted (suc n) s h =
        let r = tally_halted n s h in
        let e : one (hits (steps n s).at) ≡ 0 =
        ap (λ (x : Watched). one (hits x.at)) (halted_for machine n s h)
        ∙ ap (λ b. one (not b && (not s.at.first.squashed && T s.at.first.address))) h in
        omega arith

    -- a stretch of plain words
    module _ (insts : List Inst) (b : ℕ) (s : Did) (stands : Stands code inside b insts) (plain : ArePlain insts) (low : p.code ≤ b)
        (small : b + length insts + 2 < 2 ^ 31) where
      word_there : (k : ℕ) → k ≤ length insts → (d : Did) × (steps k (begins b s) ≡ begins (b + k) d)
      word_there k h =
          let taken : length (take k insts) ≡ k = length-take-le k insts h in
          let st = stands_left code inside b (take k insts) (drop k insts)
          (subst (Stands code inside b) (sym (take-append-drop k insts)) stands) in (
            did_all machine b (take k insts) s,
            for_same machine k (length (take k insts)) (begins b s) (sym taken)
                ∙ goes machine (take k insts) b s st (plain_front k insts plain) low (omega arith)
                ∙ ap (λ n. begins (b + n) (did_all machine b (take k insts) s)) taken,
          )

      pub first_there : (k : ℕ) → k ≤ length insts → (steps k (begins b s)).at.first.address ≡ b + k
      first_there k h = let w = word_there k h in ap (λ (x : Watched). x.at.first.address) w.1

      -- counts once for each of its addresses that passes
      pub stretch : (k : ℕ) → k ≤ length insts → tally k (begins b s) ≡ span k b
      stretch zero h = refl
      stretch (suc k) h =
          let w = word_there k (omega arith) in
          let r = stretch k (omega arith) in
          (λ j. r j + one (hits (w.1 j).at)) ∙ sym (span_last k b)

      -- and so does the word behind it
      pub stretch_more : (k : ℕ) → k ≤ length insts → tally (suc k) (begins b s) ≡ span (suc k) b
      stretch_more k h =
          let w = word_there k h in
          let r = stretch k h in
          (λ j. r j + one (hits (w.1 j).at)) ∙ sym (span_last k b)

    -- a terminator and its slots
    module _ (pre : List Inst) (t f g : Inst) (b : ℕ) (ended : Ended machine pre t f g b) (s : Did) where
      open ended use {at, plain, plain_f, plain_g, on, low, h as small}

      abbrev q : ℕ
      q = b + length pre

      abbrev d : Decision
      d = decides t q (did_all machine b pre s).core.regs

      abbrev len : ℕ
      len = length pre

      rest : Stands code inside q (t ∷ f ∷ g ∷ [])
      rest = stands_right code inside b pre (t ∷ f ∷ g ∷ []) at

      first_words : tally (len + 1) (begins b s) ≡ span (len + 1) b
      first_words =
          let k : len + 1 ≡ suc len = omega arith in
          ap (λ n. tally n (begins b s)) k
          ∙ stretch_more pre b s (stands_left code inside b pre (t ∷ f ∷ g ∷ []) at) plain low (omega arith) len (omega arith)
          ∙ ap (λ n. span n b) (sym k)

      pub ends_tally :
          (c : Bool) (z : ℕ) → d.cancels ≡ c → next_of d.target (q + 2) ≡ z → p.code ≤ z → z + 2 < 2 ^ 31
          → tally (len + 1 + 1 + 1) (begins b s) ≡ span (len + 1) b + cond c 0 (one (T (q + 1)) + one (T (q + 2)))
      ends_tally false z is_c is_z low_z high =
          let zero_words = first_words in
          let one_word = tally_one (len + 1) (begins b s) in
          let two_words = tally_one (len + 1 + 1) (begins b s) in
          let x = ap (λ (w : Watched). one (hits w.at)) (past_transfer machine pre t f g b ended s false z is_c is_z low_z) in
          let y = ap (λ (w : Watched). one (hits w.at)) (one_taken machine pre t f g b ended s z is_c is_z low_z high) in
          omega arith
      ends_tally true z is_c is_z low_z high =
          let zero_words = first_words in
          let one_word = tally_one (len + 1) (begins b s) in
          let two_words = tally_one (len + 1 + 1) (begins b s) in
          let past = past_transfer machine pre t f g b ended s true z is_c is_z low_z in
          let next = for_add machine (len + 1) 1 (begins b s) ∙ ap (once machine) past
          ∙ sym (cancelled machine (q + 1) (squash true (queued (q + 2))) z (did machine q t (did_all machine b pre s)) rest.2.1 low_z (omega arith)) in
          let x = ap (λ (w : Watched). one (hits w.at)) past in
          let y = ap (λ (w : Watched). one (hits w.at)) next in
          omega arith
