-- Watched runs of the machine with delay slots.
use Rattle.std.proofs.Common.{◌≡◌, ℕ, zero, suc, ◌+◌, ◌-◌, ◌≤◌, Bool, true, false, cond, not, ◌&&◌, List, ◌++◌, Option, None, refl, sym, ap, ◌∙◌, arith, ⊎_elim}
use Rattle.std.specs.Prelude.{option_to_list}
use Rattle.std.proofs.lemmas.Bool.{cond-true, cond-false, cases_Bool, and_parts}
use Rattle.mx_isa.specs.declared.place.Place.{Place}
use Rattle.mx_isa.specs.Views.{reads}
use Rattle.mx_delay.specs.Delay.{Code, does, Delay, delay_byte, delay_step, delay_for}
use Rattle.mx_delay.specs.Clean.{is_clean_step, loads_to, Watched, watch, watch_for}

module _ (code : Code) (inside : ℕ → Bool) (p : Place) (input : Option (List ℕ)) where
  abbrev pub next : Watched → Watched
  next s = watch code inside p input s

  -- the steps that are done where a word of the user passes
  abbrev pub past : Bool → Watched → Watched
  past b s = cond b (next s) s

  -- one step that is watched, where the run has not halted
  abbrev stepped : Watched → Watched
  stepped s =
      let i = does code s.at.first in
      record {
        at = delay_step code p input s.at;
        clean = s.clean && (is_clean_step code inside p input s.at && not (reads i s.loaded));
        loaded = loads_to i;
      }

  -- what is known of a clean step
  pub record CleanStep (s : Watched) : Type 0 where
    pub at : (next s).at ≡ delay_step code p input s.at
    pub loaded : (next s).loaded ≡ loads_to (does code s.at.first)
    pub clean : is_clean_step code inside p input s.at ≡ true
    pub apart : reads (does code s.at.first) s.loaded ≡ false

  pub clean_step : (s : Watched) → s.at.halted ≡ false → (next s).clean ≡ true → CleanStep s
  clean_step s goes c =
      let is : next s ≡ stepped s = cond-false s.at.halted s (stepped s) goes in
      let i = does code s.at.first in
      let parts = and_parts s.clean (is_clean_step code inside p input s.at && not (reads i s.loaded)) (sym (ap (λ (x : Watched). x.clean) is) ∙ c) in
      let both = and_parts (is_clean_step code inside p input s.at) (not (reads i s.loaded)) parts.1 in
      record {
        at = ap (λ (x : Watched). x.at) is;
        loaded = ap (λ (x : Watched). x.loaded) is;
        clean = both.0;
        apart = none_of (reads i s.loaded) both.1;
      }
    where
      none_of : (b : Bool) → not b ≡ true → b ≡ false
      none_of b h = grind arith

  -- the byte of a clean step
  pub console_next : (s : Watched) → s.at.halted ≡ false → CleanStep s → (next s).at.console ≡ s.at.console ++ option_to_list (delay_byte code p input s.at)
  console_next s goes step =
      ap (λ (d : Delay). d.console) (step.at ∙ cond-false s.at.halted s.at _ goes)
      ∙ ap (λ o. s.at.console ++ option_to_list o) (sym (cond-false s.at.halted None _ goes))

  -- what is watched is the machine with delay slots
  next_at : (s : Watched) → (next s).at ≡ delay_step code p input s.at
  next_at s = ⊎_elim
      (λ h. ap (λ (x : Watched). x.at) (cond-true s.at.halted s (stepped s) h) ∙ sym (stays h))
      (λ h. ap (λ (x : Watched). x.at) (cond-false s.at.halted s (stepped s) h))
      (cases_Bool s.at.halted)
    where
      stays : s.at.halted ≡ true → delay_step code p input s.at ≡ s.at
      stays h = cond-true s.at.halted s.at _ h

  pub watched_at : (n : ℕ) (s : Watched) → (watch_for code inside p input n s).at ≡ delay_for code p input n s.at
  watched_at zero s = refl
  watched_at (suc n) s = watched_at n (next s) ∙ ap (delay_for code p input n) (next_at s)

  -- a step does not make clean what was not
  pub clean_before : (s : Watched) → (next s).clean ≡ true → s.clean ≡ true
  clean_before s c = ⊎_elim
      (λ h. sym (ap (λ (x : Watched). x.clean) (cond-true s.at.halted s (stepped s) h)) ∙ c)
      (λ h. (and_parts s.clean _ (sym (ap (λ (x : Watched). x.clean) (cond-false s.at.halted s (stepped s) h)) ∙ c)).0)
      (cases_Bool s.at.halted)

  pub clean_first : (n : ℕ) (s : Watched) → (watch_for code inside p input n s).clean ≡ true → s.clean ≡ true
  clean_first zero s c = c
  clean_first (suc n) s c = clean_before s (clean_first n (next s) c)

  pub watched_more : (m n : ℕ) (s : Watched) → watch_for code inside p input (m + n) s ≡ watch_for code inside p input n (watch_for code inside p input m s)
  watched_more zero n s = ap (λ k. watch_for code inside p input k s) (let e : zero + n ≡ n = omega arith in e)
  watched_more (suc m) n s = ap (λ k. watch_for code inside p input k s) (let e : suc m + n ≡ suc (m + n) = omega arith in e) ∙ watched_more m n (next s)

  -- what is clean for more steps is clean for fewer
  pub clean_for_fewer : (m n : ℕ) (s : Watched) → m ≤ n → (watch_for code inside p input n s).clean ≡ true → (watch_for code inside p input m s).clean ≡ true
  clean_for_fewer m n s h c =
      clean_first (n - m) (watch_for code inside p input m s)
      (sym (ap (λ (x : Watched). x.clean) (watched_more m (n - m) s))
      ∙ ap (λ k. (watch_for code inside p input k s).clean) (let e : m + (n - m) ≡ n = omega arith in e)
      ∙ c)
