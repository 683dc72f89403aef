-- The end of a block. The invariant of Going, a queue of three addresses and what was done, goes across a terminator and its two
-- slots, both taken, both squashed or one taken (`slots_taken`, `slots_cancelled`, `one_taken`), and across a halt (`halts`).
-- A no-op in a slot makes no difference (`undo`, `keeps_idle`), nor does where a plain word is done (`keeps_head`).
use Rattle.std.proofs.Common.{◌≡◌, ℕ, ◌+◌, ◌^◌, ◌<◌, ◌≤◌, Bool, true, false, leb, not, ◌&&◌, List, [], ◌∷◌, ◌++◌, length, refl, sym, ap, ◌∙◌, subst, arith, inl, inr}
use Rattle.std.proofs.lemmas.Bool.{and_parts}
use Rattle.std.proofs.lemmas.Bool.Decides.{nat_tests}
use Rattle.std.proofs.lemmas.List.{append-nil}
use Rattle.mx_isa.specs.declared.inst.Inst.{Inst}
use Rattle.mx_isa.specs.declared.inst.Inst.TheVariants.{Halt}
use Rattle.mx_isa.specs.Effect.{Core, Decision, decides, falls_through}
use Rattle.mx_isa.specs.Views.{reads, access, is_halt}
use Rattle.mx_delay.specs.Delay.{idle, Queued, queued, squash, next_of, stepped}
use Rattle.mx_delay.specs.Clean.{is_lawful, loads_to, Watched}
use Rattle.law_link.proofs.Going.{Did, IsPlain, ArePlain, Stands, stands_left, stands_right, still_inside, did, did_all, did_anywhere, queue, starts, for, for_add, word, plain_word, cancelled, goes, Keeps}
use Rattle.law_link.proofs.Setting.{StepSetting}
use Rattle.law_link.proofs.Going.{once}

module _ (machine : StepSetting) where
  open machine use {code, inside, place as p, input}

  abbrev doing : ℕ → Inst → Did → Did
  doing = did machine

  abbrev doing_all : ℕ → List Inst → Did → Did
  doing_all = did_all machine

  abbrev line : Queued → Queued → ℕ → Did → Watched
  line = queue machine

  abbrev begins : ℕ → Did → Watched
  begins = starts machine

  abbrev steps : ℕ → Watched → Watched
  steps = for machine

  -- the words of a stretch, then those behind them
  pub append_did : (a : ℕ) (is js : List Inst) (s : Did) → doing_all a (is ++ js) s ≡ doing_all (a + length is) js (doing_all a is s)
  append_did a [] js s = ap (λ n. doing_all n js s) (omega arith)
  append_did a (i ∷ is) js s = append_did (a + 1) is js (doing a i s) ∙ ap (λ n. doing_all n js (doing_all a (i ∷ is) s)) (omega arith)

  -- two words after one another in a queue
  two_words :
      (a b z : ℕ) (s : Did) (i j : Inst) → code a ≡ i → inside a ≡ true → IsPlain i → code b ≡ j → inside b ≡ true → IsPlain j
      → p.code ≤ z → z + 2 < 2 ^ 31 → steps 2 (line (queued a) (queued b) z s) ≡ begins z (doing b j (doing a i s))
  two_words a b z s i j ci ii pi cj ij pj low h =
      ap (once machine) (sym (plain_word machine a (queued b) z s i ci ii pi low (omega arith)))
      ∙ sym (plain_word machine b (queued z) (z + 1) (doing a i s) j cj ij pj (omega arith) (omega arith))
      ∙ (λ k. line (queued z) (queued (z + 1)) (two k) (doing b j (doing a i s)))
    where
      two : z + 1 + 1 ≡ z + 2
      two = omega arith

  abbrev dead : ℕ → Queued
  dead a = squash true (queued a)

  two_dead :
      (a b z : ℕ) (s : Did) → inside a ≡ true → inside b ≡ true → p.code ≤ z → z + 2 < 2 ^ 31
      → steps 2 (line (dead a) (dead b) z s) ≡ begins z (doing b idle (doing a idle s))
  two_dead a b z s ia ib low h =
      ap (once machine) (sym (cancelled machine a (dead b) z s ia low (omega arith)))
      ∙ sym (cancelled machine b (queued z) (z + 1) (doing a idle s) ib (omega arith) (omega arith))
      ∙ (λ k. line (queued z) (queued (z + 1)) (two k) (doing b idle (doing a idle s)))
    where
      two : z + 1 + 1 ≡ z + 2
      two = omega arith

  -- a stretch of plain words from an address on, and behind it a transfer and two plain words
  pub record Ended (pre : List Inst) (t f g : Inst) (b : ℕ) : Type 0 where
    pub at : Stands code inside b (pre ++ t ∷ f ∷ g ∷ [])
    pub plain : ArePlain pre
    pub plain_f : IsPlain f
    pub plain_g : IsPlain g
    pub on : is_halt t ≡ false
    pub low : p.code ≤ b
    pub h : b + length pre + 5 < 2 ^ 31

  module _ (pre : List Inst) (t f g : Inst) (b : ℕ) (ended : Ended pre t f g b) (s : Did) where
    open ended use {at, plain, plain_f, plain_g, on, low, h}

    abbrev q : ℕ
    q = b + length pre

    abbrev rest : Stands code inside q (t ∷ f ∷ g ∷ [])
    rest = stands_right code inside b pre (t ∷ f ∷ g ∷ []) at

    abbrev s0 : Did
    s0 = doing_all b pre s

    abbrev s1 : Did
    s1 = doing q t s0

    pub at_g : code (q + 2) ≡ g
    at_g = subst (λ n. code n ≡ g) two rest.2.2.0
      where
        two : q + 1 + 1 ≡ q + 2
        two = omega arith

    pub in_g : inside (q + 2) ≡ true
    in_g = subst (λ n. inside n ≡ true) two rest.2.2.1
      where
        two : q + 1 + 1 ≡ q + 2
        two = omega arith

    abbrev d : Decision
    d = decides t q s0.core.regs

    pub past_transfer :
        (c : Bool) (z : ℕ) → d.cancels ≡ c → next_of d.target (q + 2) ≡ z → p.code ≤ z
        → steps (length pre + 1) (begins b s) ≡ line (squash c (queued (q + 1))) (squash c (queued (q + 2))) z s1
    past_transfer c z is_c is_z low_z =
        for_add machine (length pre) 1 (begins b s)
        ∙ ap (once machine) (goes machine pre b s (stands_left code inside b pre (t ∷ f ∷ g ∷ []) at) plain low (omega arith))
        ∙ sym (word machine q (queued (q + 1)) (q + 2) s0 t d rest.0 rest.1 refl on (omega arith))
        ∙ ap (λ (x : Bool). line (squash x (queued (q + 1))) (squash x (queued (q + 2))) (next_of d.target (q + 2)) s1) is_c
        ∙ ap (λ n. line (squash c (queued (q + 1))) (squash c (queued (q + 2))) n s1) is_z

    -- and so many words behind its own
    past_by :
        (n : ℕ) (c : Bool) (z : ℕ) → d.cancels ≡ c → next_of d.target (q + 2) ≡ z → p.code ≤ z
        → steps (length pre + 1 + n) (begins b s) ≡ steps n (line (squash c (queued (q + 1))) (squash c (queued (q + 2))) z s1)
    past_by n c z is_c is_z low_z = for_add machine (length pre + 1) n (begins b s) ∙ ap (steps n) (past_transfer c z is_c is_z low_z)

    -- both slots are taken
    pub slots_taken :
        (z : ℕ) → d.cancels ≡ false → next_of d.target (q + 2) ≡ z → p.code ≤ z → z + 2 < 2 ^ 31
        → steps (length pre + 1 + 2) (begins b s) ≡ begins z (doing (q + 2) g (doing (q + 1) f s1))
    slots_taken z is_c is_z low_z k =
        past_by 2 false z is_c is_z low_z ∙ two_words (q + 1) (q + 2) z s1 f g rest.2.0 rest.2.1 plain_f at_g in_g plain_g low_z k

    -- both slots are squashed
    pub slots_cancelled :
        (z : ℕ) → d.cancels ≡ true → next_of d.target (q + 2) ≡ z → p.code ≤ z → z + 2 < 2 ^ 31
        → steps (length pre + 1 + 2) (begins b s) ≡ begins z (doing (q + 2) idle (doing (q + 1) idle s1))
    slots_cancelled z is_c is_z low_z k =
        past_by 2 true z is_c is_z low_z ∙ two_dead (q + 1) (q + 2) z s1 rest.2.1 in_g low_z k

    -- the first slot is done
    pub one_taken :
        (z : ℕ) → d.cancels ≡ false → next_of d.target (q + 2) ≡ z → p.code ≤ z → z + 2 < 2 ^ 31
        → steps (length pre + 1 + 1) (begins b s) ≡ line (queued (q + 2)) (queued z) (z + 1) (doing (q + 1) f s1)
    one_taken z is_c is_z low_z k =
        past_by 1 false z is_c is_z low_z
        ∙ sym (plain_word machine (q + 1) (queued (q + 2)) z s1 f rest.2.0 rest.2.1 plain_f low_z (omega arith))

  -- a halt
  abbrev halted_at : ℕ → Did → Watched
  halted_at q r = let d : Did = doing q Halt r in record {
    at = record {
      first = queued (q + 1);
      second = queued (q + 2);
      third = queued (next_of falls_through.target (q + 2));
      core = d.core;
      console = d.console;
      halted = true;
    };
    clean = d.clean;
    loaded = 0;
  }

  abbrev stopped : ℕ → Did → Inst → Bool → Watched
  stopped q r j within = record {
    at = stepped p input j (decides j q r.core.regs) (begins q r).at;
    clean = r.clean && ((within && (is_lawful p input (access j) r.core.regs && leb p.code (next_of (decides j q r.core.regs).target (q + 2))))
        && not (reads j r.loaded));
    loaded = loads_to j;
  }

  halting : (q : ℕ) (r : Did) → code q ≡ Halt → inside q ≡ true → p.code ≤ q → q + 3 < 2 ^ 31 → halted_at q r ≡ once machine (begins q r)
  halting q r at within low h =
      (λ k. record {
        at = (halted_at q r).at;
        clean = still_inside r.clean (is_lawful p input (access Halt) r.core.regs) (inside q) (leb p.code (next_of falls_through.target (q + 2)))
            (reads Halt r.loaded) within above k;
        loaded = 0;
      })
      ∙ ap (λ (j : Inst). stopped q r j (inside q)) (sym at)
    where
      above : leb p.code (next_of falls_through.target (q + 2)) ≡ true
      above = let e : next_of falls_through.target (q + 2) ≡ q + 3 = omega arith in grind (arith, nat_tests)

  pub record Halts (pre : List Inst) (b : ℕ) (s : Did) : Type 0 where
    pub core : (steps (length pre + 1) (begins b s)).at.core ≡ (doing (b + length pre) Halt (doing_all b pre s)).core
    pub console : (steps (length pre + 1) (begins b s)).at.console ≡ (doing (b + length pre) Halt (doing_all b pre s)).console
    pub clean : (steps (length pre + 1) (begins b s)).clean ≡ (doing (b + length pre) Halt (doing_all b pre s)).clean
    pub halted : (steps (length pre + 1) (begins b s)).at.halted ≡ true

  pub halts :
      (pre : List Inst) (b : ℕ) (s : Did) → Stands code inside b (pre ++ Halt ∷ []) → ArePlain pre → p.code ≤ b → b + length pre + 3 < 2 ^ 31
      → Halts pre b s
  halts pre b s at plain low h =
      let r : Did = doing_all b pre s in
      let rest : Stands code inside (b + length pre) (Halt ∷ []) = stands_right code inside b pre (Halt ∷ []) at in
      let e : steps (length pre + 1) (begins b s) ≡ halted_at (b + length pre) r =
      for_add machine (length pre) 1 (begins b s)
      ∙ ap (once machine) (goes machine pre b s (stands_left code inside b pre (Halt ∷ []) at) plain low (omega arith))
      ∙ sym (halting (b + length pre) r rest.0 rest.1 (omega arith) h) in
      record {
        core = ap (λ (x : Watched). x.at.core) e;
        console = ap (λ (x : Watched). x.at.console) e;
        clean = ap (λ (x : Watched). x.clean) e;
        halted = ap (λ (x : Watched). x.at.halted) e;
      }

  reads_idle : (l : ℕ) → reads idle l ≡ false
  reads_idle l = grind (arith, nat_tests)

  -- a no-op more
  pub record Same3 (d e : Did) : Type 0 where
    pub core : d.core ≡ e.core
    pub console : d.console ≡ e.console
    pub clean : d.clean ≡ true

  pub undo : (a : ℕ) (d e : Did) → doing a idle d ≡ e → e.clean ≡ true → Same3 d e
  undo a d e h c = record {
    core = ap (λ (x : Did). x.core) h;
    console = sym (append-nil d.console) ∙ ap (λ (x : Did). x.console) h;
    clean = (and_parts d.clean (is_lawful p input (access idle) d.core.regs && not (reads idle d.loaded)) (ap (λ (x : Did). x.clean) h ∙ c)).0;
  }

  pub keeps_idle : (z a : ℕ) (e : Did) → Keeps machine (begins z (doing a idle e)) (begins z e)
  keeps_idle z a e = record {
    at = (λ k. record { first = queued z; second = queued (z + 1); third = queued (z + 2); core = e.core; console = append-nil e.console k; halted = false });
    clean = λ h. still e.clean (reads idle e.loaded) h (reads_idle e.loaded);
    loaded = inr refl;
  }
    where
      still : (a b : Bool) → a ≡ true → b ≡ false → (a && (true && not b)) ≡ true
      still a b h k = grind arith

  pub keeps_head :
      (x : Inst) (z a b : ℕ) (d e : Did) → IsPlain x → Same3 d e → reads x d.loaded ≡ false
      → Keeps machine (begins z (doing a x d)) (begins z (doing b x e))
  keeps_head x z a b d e plain s r =
      let c : doing a x (record { core = e.core; console = e.console; clean = true; loaded = 0 })
      ≡ doing b x (record { core = e.core; console = e.console; clean = true; loaded = 0 }) =
      did_anywhere machine a b x (record { core = e.core; console = e.console; clean = true; loaded = 0 }) plain.stays in
      record {
        at = ap (λ (c : Core). let t : Did = record { core = c; console = d.console; clean = true; loaded = 0 } in (begins z (doing a x t)).at) s.core
            ∙ ap (λ (l : List ℕ). let t : Did = record { core = e.core; console = l; clean = true; loaded = 0 } in (begins z (doing a x t)).at) s.console
            ∙ ap (λ (t : Did). (begins z t).at) c;
        clean = λ h. still d.clean (is_lawful p input (access x) d.core.regs) (reads x d.loaded) s.clean
            (ap (λ (c : Core). is_lawful p input (access x) c.regs) s.core
            ∙ (and_parts (is_lawful p input (access x) e.core.regs) (not (reads x e.loaded))
            ((and_parts e.clean (is_lawful p input (access x) e.core.regs && not (reads x e.loaded)) h).1)).0) r;
        loaded = inl refl;
      }
    where
      still : (a b c : Bool) → a ≡ true → b ≡ true → c ≡ false → (a && (b && not c)) ≡ true
      still a b c h k l = grind arith
