-- A stretch of words, a step a word. The invariant is a queue that holds the address of the next word and the two behind it, with
-- what the words so far did (`Did`). A plain word takes it one address on (`plain_word`), a stretch of them its length on
-- (`goes`), a transfer to where it leads (`word`); a squashed word is a no-op (`cancelled`). `Keeps` goes across every step:
-- of two machines that hold the same, the one is clean where the other is. `Grows` says what no step takes back.
use Rattle.std.proofs.Common.{◌≡◌, ℕ, zero, suc, ◌+◌, ◌^◌, ◌<◌, ◌≤◌, Bool, true, false, cond, leb, not, ◌&&◌, List, [], ◌∷◌, ◌++◌, ◌⊎◌, length, None, option_to_list, append_assoc, refl, sym, ap, ◌∙◌, subst, arith, ⊎_elim, inl, inr}
use Rattle.std.proofs.lemmas.Bool.{and_parts}
use Rattle.std.proofs.lemmas.Bool.Decides.{nat_tests}
use Rattle.std.proofs.lemmas.List.{append-nil}
use Rattle.mx_isa.specs.declared.inst.Inst.{Inst}
use Rattle.mx_isa.specs.Effect.{Core, Decision, Change, change, apply, decides, act, falls_through, sent}
use Rattle.mx_isa.specs.Views.{reads, access, is_halt, is_transfer}
use Rattle.mx_isa.specs.UserBus.{user_bus}
use Rattle.mx_isa.proofs.Frame.{decides_anywhere, change_anywhere}
use Rattle.mx_delay.specs.Delay.{Code, idle, Queued, queued, squash, does, next_of, Delay, user_byte, stepped, delay_step}
use Rattle.mx_delay.specs.Clean.{is_lawful, is_clean_step, loads_to, Watched, watch, watch_for}
use Rattle.law_link.proofs.Setting.{StepSetting}

-- what the words so far did
pub record Did : Type 0 where
  pub core : Core
  pub console : List ℕ
  pub clean : Bool
  pub loaded : ℕ

-- neither a transfer nor a halt
pub record IsPlain (i : Inst) : Type 0 where
  pub stays : is_transfer i ≡ false
  pub runs_on : is_halt i ≡ false

abbrev pub ArePlain : List Inst → Type 0
ArePlain [] = Unit {0}
ArePlain (i ∷ insts) = IsPlain i × ArePlain insts

pub idle_plain : IsPlain idle
idle_plain = record { stays = refl; runs_on = refl }

-- these words stand from b on, within the image
abbrev pub Stands : Code → (ℕ → Bool) → ℕ → List Inst → Type 0
Stands code inside b [] = Unit {0}
Stands code inside b (i ∷ insts) = (code b ≡ i) × (inside b ≡ true) × Stands code inside (b + 1) insts

pub stands_left : (code : Code) (inside : ℕ → Bool) (b : ℕ) (is js : List Inst) → Stands code inside b (is ++ js) → Stands code inside b is
stands_left code inside b [] js h = tt
stands_left code inside b (i ∷ is) js h = (h.0, h.1, stands_left code inside (b + 1) is js h.2)

pub stands_right :
    (code : Code) (inside : ℕ → Bool) (b : ℕ) (is js : List Inst) → Stands code inside b (is ++ js) → Stands code inside (b + length is) js
stands_right code inside b [] js h = subst (λ n. Stands code inside n js) (omega arith) h
stands_right code inside b (i ∷ is) js h = subst (λ n. Stands code inside n js) (omega arith) (stands_right code inside (b + 1) is js h.2)

pub did_same : (d e : Did) → d.core ≡ e.core → d.console ≡ e.console → d.clean ≡ e.clean → d.loaded ≡ e.loaded → d ≡ e
did_same d e f g h k = λ j. record { core = f j; console = g j; clean = h j; loaded = k j }

pub still_inside : (x y b l r : Bool) → b ≡ true → l ≡ true → (x && (y && not r)) ≡ (x && ((b && (y && l)) && not r))
still_inside x y b l r e f = grind arith

module _ (machine : StepSetting) where
  open machine use {code, inside, place as p, input}

  abbrev pub once : Watched → Watched
  once = watch code inside p input

  -- a word within the image, at an address
  abbrev pub did : ℕ → Inst → Did → Did
  did a i s = record {
    core = act (user_bus p input) i a s.core.regs s.core;
    console = s.console ++ option_to_list (user_byte p input i a s.core);
    clean = s.clean && (is_lawful p input (access i) s.core.regs && not (reads i s.loaded));
    loaded = loads_to i;
  }

  abbrev pub did_all : ℕ → List Inst → Did → Did
  did_all a [] s = s
  did_all a (i ∷ insts) s = did_all (a + 1) insts (did a i s)

  -- what does not transfer does the same at any address
  pub did_anywhere : (a b : ℕ) (i : Inst) (s : Did) → is_transfer i ≡ false → did a i s ≡ did b i s
  did_anywhere a b i s h =
      let c = s.core in
      let bus = user_bus p input in
      let e : change i a c.regs c.md (bus.load c.mem c.taken) ≡ change i b c.regs c.md (bus.load c.mem c.taken) =
      change_anywhere i a b c.regs c.md (bus.load c.mem c.taken) h in
      did_same _ _ (ap (λ (d : Change). apply bus d c) e) (ap (λ (d : Change). s.console ++ option_to_list (sent bus d.stores)) e) refl refl

  -- a queue of which the last is not squashed
  abbrev pub queue : Queued → Queued → ℕ → Did → Watched
  queue x y z s = record {
    at = record { first = x; second = y; third = queued z; core = s.core; console = s.console; halted = false };
    clean = s.clean;
    loaded = s.loaded;
  }

  abbrev pub starts : ℕ → Did → Watched
  starts b s = queue (queued b) (queued (b + 1)) (b + 2) s

  abbrev pub for : ℕ → Watched → Watched
  for = watch_for code inside p input

  pub for_same : (m n : ℕ) (s : Watched) → m ≡ n → for m s ≡ for n s
  for_same m n s e = ap (λ k. for k s) e

  pub for_add : (m n : ℕ) (s : Watched) → for (m + n) s ≡ for n (for m s)
  for_add zero n s = for_same (zero + n) n s (omega arith)
  for_add (suc m) n s = for_same (suc m + n) (suc (m + n)) s (omega arith) ∙ for_add m n (once s)

  -- a step by a word that decides, inside the image or not
  abbrev made : ℕ → Queued → ℕ → Did → Inst → Decision → Bool → Watched
  made a y z s i d within = record {
    at = stepped p input i d (queue (queued a) y z s).at;
    clean = s.clean && ((within && (is_lawful p input (access i) s.core.regs && leb p.code (next_of d.target z))) && not (reads i s.loaded));
    loaded = loads_to i;
  }

  -- a word at the front of a queue, with what it decides
  pub word :
      (a : ℕ) (y : Queued) (z : ℕ) (s : Did) (i : Inst) (d : Decision) → code a ≡ i → inside a ≡ true → d ≡ decides i a s.core.regs
      → is_halt i ≡ false → p.code ≤ next_of d.target z → queue (squash d.cancels y) (squash d.cancels (queued z)) (next_of d.target z) (did a i s)
      ≡ once (queue (queued a) y z s)
  word a y z s i d at within is_d on low =
      (λ k. record {
        at = record {
          first = squash d.cancels y;
          second = squash d.cancels (queued z);
          third = queued (next_of d.target z);
          core = (did a i s).core;
          console = (did a i s).console;
          halted = sym on k;
        };
        clean = still_inside s.clean (is_lawful p input (access i) s.core.regs) (inside a) (leb p.code (next_of d.target z)) (reads i s.loaded) within above k;
        loaded = loads_to i;
      })
      ∙ ap (λ (e : Decision). made a y z s i e (inside a)) is_d
      ∙ ap (λ (j : Inst). made a y z s j (decides j a s.core.regs) (inside a)) (sym at)
    where
      above : leb p.code (next_of d.target z) ≡ true
      above = grind (arith, nat_tests)

  pub plain_word :
      (a : ℕ) (y : Queued) (z : ℕ) (s : Did) (i : Inst) → code a ≡ i → inside a ≡ true → IsPlain i → p.code ≤ z → z + 1 < 2 ^ 31
      → queue y (queued z) (z + 1) (did a i s) ≡ once (queue (queued a) y z s)
  plain_word a y z s i at within plain low h =
      ap (λ n. queue y (queued z) n (did a i s)) next
      ∙ word a y z s i falls_through at within (sym (decides_anywhere i a s.core.regs plain.stays)) plain.runs_on (let e = next in omega arith)
    where
      next : z + 1 ≡ next_of None z
      next = omega arith

  -- a squashed word
  pub cancelled :
      (a : ℕ) (y : Queued) (z : ℕ) (s : Did) → inside a ≡ true → p.code ≤ z → z + 1 < 2 ^ 31
      → queue y (queued z) (z + 1) (did a idle s) ≡ once (queue (squash true (queued a)) y z s)
  cancelled a y z s within low h =
      (λ k. record {
        at = record { first = y; second = queued z; third = queued (next k); core = (did a idle s).core; console = (did a idle s).console; halted = false };
        clean = still_inside s.clean (is_lawful p input (access idle) s.core.regs) (inside a) (leb p.code (next_of None z))
            (reads idle s.loaded) within above k;
        loaded = 0;
      })
    where
      next : z + 1 ≡ next_of None z
      next = omega arith

      above : leb p.code (next_of None z) ≡ true
      above = let e = next in grind (arith, nat_tests)

  pub goes :
      (insts : List Inst) (b : ℕ) (s : Did) → Stands code inside b insts → ArePlain insts → p.code ≤ b → b + length insts + 2 < 2 ^ 31
      → for (length insts) (starts b s) ≡ starts (b + length insts) (did_all b insts s)
  goes [] b s at plain low h = ap (λ n. starts n s) (omega arith)
  goes (i ∷ insts) b s at plain low h =
      ap (for (length insts)) (sym (plain_word b (queued (b + 1)) (b + 2) s i at.0 at.1 plain.0 (omega arith) (omega arith)) ∙ same)
      ∙ goes insts (b + 1) (did b i s) at.2 plain.1 (omega arith) (omega arith)
      ∙ ap (λ n. starts n (did_all b (i ∷ insts) s)) (omega arith)
    where
      same : queue (queued (b + 1)) (queued (b + 2)) (b + 2 + 1) (did b i s) ≡ starts (b + 1) (did b i s)
      same = (λ k. queue (queued (b + 1)) (queued (two k)) (three k) (did b i s))
        where
          two : b + 2 ≡ b + 1 + 1
          two = omega arith

          three : b + 2 + 1 ≡ b + 1 + 2
          three = omega arith

  -- x does what y does, and is clean where y is
  pub record Keeps (x y : Watched) : Type 0 where
    pub at : x.at ≡ y.at
    pub clean : y.clean ≡ true → x.clean ≡ true
    pub loaded : (x.loaded ≡ y.loaded) ⊎ (x.loaded ≡ 0)

  pub keeps_self : (x y : Watched) → x ≡ y → Keeps x y
  keeps_self x y e =
      record { at = ap (λ (s : Watched). s.at) e; clean = λ h. ap (λ (s : Watched). s.clean) e ∙ h; loaded = inl (ap (λ (s : Watched). s.loaded) e) }

  pub keeps_then : (x y z : Watched) → Keeps x y → Keeps y z → Keeps x z
  keeps_then x y z f g = record {
    at = f.at ∙ g.at;
    clean = λ h. f.clean (g.clean h);
    loaded = ⊎_elim (λ e. ⊎_elim (λ d. inl (e ∙ d)) (λ d. inr (e ∙ d)) g.loaded) inr f.loaded;
  }

  reads_zero : (i : Inst) → reads i 0 ≡ false
  reads_zero i = grind arith

  abbrev step_clean : Delay → ℕ → Bool
  step_clean t l = is_clean_step code inside p input t && not (reads (does code t.first) l)

  still_clean :
      (t : Delay) (a b : Bool) (l m : ℕ) → (b ≡ true → a ≡ true) → (l ≡ m) ⊎ (l ≡ 0) → (b && step_clean t m) ≡ true
      → (a && step_clean t l) ≡ true
  still_clean t a b l m f e h = ⊎_elim
      (λ d. both a (step_clean t l) (f ((and_parts b (step_clean t m) h).0)) (ap (step_clean t) d ∙ (and_parts b (step_clean t m) h).1))
      (λ d. less_read a (is_clean_step code inside p input t) (reads (does code t.first) l) (reads (does code t.first) m)
      (f ((and_parts b (step_clean t m) h).0)) (ap (reads (does code t.first)) d ∙ reads_zero (does code t.first)) (and_parts b (step_clean t m) h).1)
      e
    where
      both : (a x : Bool) → a ≡ true → x ≡ true → (a && x) ≡ true
      both a x h g = grind arith

      less_read : (a x z w : Bool) → a ≡ true → z ≡ false → (x && not w) ≡ true → (a && (x && not z)) ≡ true
      less_read a x z w h g k = grind arith

  abbrev on : Delay → Bool → ℕ → Watched
  on t c l = record { at = delay_step code p input t; clean = c && step_clean t l; loaded = loads_to (does code t.first) }

  keeps_on :
      (t : Delay) (h : Bool) (a b : Bool) (l m : ℕ) → (b ≡ true → a ≡ true) → (l ≡ m) ⊎ (l ≡ 0)
      → (let x : Watched = record { at = t; clean = a; loaded = l } in let y : Watched = record { at = t; clean = b; loaded = m } in
      Keeps (cond h x (on t a l)) (cond h y (on t b m)))
  keeps_on t true a b l m f e = record { at = refl; clean = f; loaded = e }
  keeps_on t false a b l m f e = record { at = refl; clean = still_clean t a b l m f e; loaded = inl refl }

  keeps_step : (x y : Watched) → Keeps x y → Keeps (once x) (once y)
  keeps_step x y k =
      subst (λ (t : Delay). let z : Watched = record { at = t; clean = x.clean; loaded = x.loaded } in Keeps (once z) (once y)) (sym k.at)
      (keeps_on y.at y.at.halted x.clean y.clean x.loaded y.loaded k.clean k.loaded)

  pub keeps_for : (n : ℕ) (x y : Watched) → Keeps x y → Keeps (for n x) (for n y)
  keeps_for zero x y k = k
  keeps_for (suc n) x y k = keeps_for n (once x) (once y) (keeps_step x y k)

  -- what only grows, and what only falls
  pub record Grows (x y : Watched) : Type 0 where
    pub bytes : (s : List ℕ) × (y.at.console ≡ x.at.console ++ s)
    pub clean : y.clean ≡ true → x.clean ≡ true
    pub halted : x.at.halted ≡ true → y.at.halted ≡ true

  grows_on : (s : Watched) (h : Bool) → s.at.halted ≡ h → Grows s (cond h s (on s.at s.clean s.loaded))
  grows_on s true e = record { bytes = ([], sym (append-nil s.at.console)); clean = λ h. h; halted = λ h. h }
  grows_on s false e = record {
    bytes = (
      option_to_list (user_byte p input (does code s.at.first) s.at.first.address s.at.core),
      ap (λ b. (let u : Delay = cond b s.at (stepped p input (does code s.at.first) (decides (does code s.at.first) s.at.first.address s.at.core.regs) s.at) in
          u.console)) e,
    );
    clean = λ h. (and_parts s.clean (step_clean s.at s.loaded) h).0;
    halted = λ h. absurd (true_false (sym h ∙ e));
  }
    where
      true_false : true ≡ false → ⊥
      true_false e = grind arith

  grows_step : (s : Watched) → Grows s (once s)
  grows_step s = grows_on s s.at.halted refl

  pub grows_then : (x y z : Watched) → Grows x y → Grows y z → Grows x z
  grows_then x y z f g = record {
    bytes = (f.bytes.0 ++ g.bytes.0, g.bytes.1 ∙ ap (λ l. l ++ g.bytes.0) f.bytes.1 ∙ append_assoc x.at.console f.bytes.0 g.bytes.0);
    clean = λ h. f.clean (g.clean h);
    halted = λ h. g.halted (f.halted h);
  }

  pub grows_for : (n : ℕ) (s : Watched) → Grows s (for n s)
  grows_for zero s = record { bytes = ([], sym (append-nil s.at.console)); clean = λ h. h; halted = λ h. h }
  grows_for (suc n) s = grows_then s (once s) (for (suc n) s) (grows_step s) (grows_for n (once s))

  pub halted_for : (n : ℕ) (s : Watched) → s.at.halted ≡ true → for n s ≡ s
  halted_for zero s h = refl
  halted_for (suc n) s h = ap (for n) (stays s.at.halted h) ∙ halted_for n s h
    where
      stays : (b : Bool) → b ≡ true → cond b s (on s.at s.clean s.loaded) ≡ s
      stays true e = refl
      stays false e = absurd (grind arith)
