-- Two independent instructions may change places.
use Rattle.std.proofs.Common.{◌≡◌, ◌≢◌, ℕ, suc, ◌%◌, Bool, true, false, cond, eqb, ◌&&◌, ◌||◌, List, ◌++◌, ◌⊎◌, Option, Some, None, option_to_list, refl, sym, ap, ◌∙◌, arith, ⊎_elim, inl, inr}
use Rattle.std.specs.Prelude.{is_some}
use Rattle.std.proofs.lemmas.Bool.{cases_eq, cases_Bool, eqb-true, ne_eqb}
use Rattle.std.proofs.lemmas.Bool.Decides.{nat_tests}
use Rattle.std.proofs.lemmas.Grind.{common_steps}
use Rattle.mx_isa.specs.declared.inst.Special.TheVariants.{Md}
use Rattle.mx_isa.specs.declared.inst.Inst.{Inst}
use Rattle.mx_isa.specs.declared.inst.Inst.TheVariants.{Load, Store, MoveFrom, MoveTo}
use Rattle.mx_isa.specs.declared.place.Place.{Place}
use Rattle.mx_isa.specs.Fields.{InstFits}
use Rattle.mx_isa.specs.Words.{Words, put, reg}
use Rattle.mx_isa.specs.Effect.{Sent, Found, Change, Decision, change, decides, Core, Bus, stored, sent, or_kept, apply, act}
use Rattle.mx_isa.specs.Views.{reads_md, writes_md, reads, writes, Access, access, address, is_transfer}
use Rattle.mx_isa.specs.UserBus.{is_user, plain_word, from_input, user_bus}
use Rattle.mx_isa.proofs.Frame.{put_put, SeesAlike, FindsAlike, change_same, decides_same, change_unwritten, change_md_none, StoresAt, stores_at, sees_alike, base_read, apply_apply, FitsIn, fits_in, apart_at, address_same}
use Rattle.mx_delay.specs.Clean.{is_lawful}
use Rattle.mx_depend.specs.Independence.{OtherWord, Independent}
use Rattle.law_order.specs.Running.{Ran, run_one}

-- a memory that keeps what other addresses hold, takes input at one address and sends bytes from one;
-- `input` says whether it may take any
pub record IsBus (input : Bool) (bus : Bus) : Type 0 where
  pub load_other : (m : Words) (t a v b : ℕ) → a ≢ b → bus.load (bus.store m a v) t b ≡ bus.load m t b
  pub store_store : (m : Words) (a v b w : ℕ) → a ≢ b → bus.store (bus.store m a v) b w ≡ bus.store (bus.store m b w) a v
  pub load_taken : (m : Words) (t t' a b : ℕ) → (bus.load m t a).takes ≡ true → a ≢ b → bus.load m t' b ≡ bus.load m t b
  pub takes_input : (m : Words) (t a : ℕ) → (bus.load m t a).takes ≡ true → input ≡ true
  pub one_byte : (a v b w : ℕ) → a ≢ b → (bus.byte a v ≡ None) ⊎ (bus.byte b w ≡ None)

two_stores : (x y : Bool) (m : Words) (a v b w : ℕ) → a ≢ b
    → cond y (put (cond x (put m a v) m) b w) (cond x (put m a v) m) ≡ cond x (put (cond y (put m b w) m) a v) (cond y (put m b w) m)
two_stores true true m a v b w h = put_put m a v b w h
two_stores true false m a v b w h = refl
two_stores false true m a v b w h = refl
two_stores false false m a v b w h = refl

-- what is taken is taken from the input
takes_here :
    (user here : Bool) (w : ℕ) (found : Found) → (cond user (plain_word w) (cond here found (plain_word 0))).takes ≡ true
    → (here ≡ true) × (found.takes ≡ true)
takes_here true here w found h = absurd (cc)
takes_here false true w found h = (refl, h)
takes_here false false w found h = absurd (cc)

input_taken : (input : Option (List ℕ)) (t : ℕ) → (from_input input t).takes ≡ true → is_some input ≡ true
input_taken None t h = absurd (cc)
input_taken (Some bytes) t h = refl

pub user_bus_law :
    (p : Place) (input : Option (List ℕ)) (ordered : Bool) → (is_some input ≡ true → ordered ≡ true) → IsBus ordered (user_bus p input)
user_bus_law p input ordered h = record {
  load_other = λ m t a v b ne. ap (λ w. cond (is_user p b) (plain_word w) (cond (eqb b p.input) (from_input input t) (plain_word 0))) (kept m a v b ne);
  store_store = λ m a v b w ne. two_stores (is_user p a) (is_user p b) m a v b w ne;
  load_taken = λ m t t' a b taken ne.
      let e : eqb b p.input ≡ false = elsewhere a b (takes_here (is_user p a) (eqb a p.input) (m a) (from_input input t) taken).0 ne in
      ap (λ here. cond (is_user p b) (plain_word (m b)) (cond here (from_input input t') (plain_word 0))) e
      ∙ sym (ap (λ here. cond (is_user p b) (plain_word (m b)) (cond here (from_input input t) (plain_word 0))) e);
  takes_input = λ m t a taken. h (input_taken input t (takes_here (is_user p a) (eqb a p.input) (m a) (from_input input t) taken).1);
  one_byte = λ a v b w ne. ⊎_elim
      (λ e. inr (ap (λ here. cond here (Some (w % 256)) None) (ne_eqb b p.console (λ f. ne (e ∙ sym f)))))
      (λ d. inl (ap (λ here. cond here (Some (v % 256)) None) (ne_eqb a p.console d)))
      (cases_eq a p.console);
}
  where
    kept : (m : Words) (a v b : ℕ) → a ≢ b → cond (is_user p a) (put m a v) m b ≡ m b
    kept m a v b ne = ⊎_elim (λ e. grind (arith, nat_tests)) (λ e. grind (arith, nat_tests)) (cases_Bool (is_user p a))

    elsewhere : (a b : ℕ) → eqb a p.input ≡ true → a ≢ b → eqb b p.input ≡ false
    elsewhere a b e ne = ne_eqb b p.input (λ f. ne (eqb-true a p.input e ∙ sym f))

-- what an instruction takes of the input, by what it reaches
abbrev pub TakesAt : Option Access → Words → (ℕ → Found) → Bool → Type 0
TakesAt None r find takes = takes ≡ false
TakesAt (Some a) r find takes = takes ≡ true → (a.stores ≡ false) × ((find (address a r)).takes ≡ true)

takes_at : (i : Inst) (at : ℕ) (r : Words) (md : ℕ) (find : ℕ → Found) → TakesAt (access i) r find (change i at r md find).takes
takes_at (Load base d offset) at r md find = λ h. (refl, h)
takes_at (Store base v offset) at r md find = λ h. absurd (cc)
takes_at (MoveTo a Md) at r md find = refl
takes_at (MoveFrom d Md) at r md find = refl
takes_at _ at r md find = refl

pub other_sym : (input : Bool) (a b : Option Access) → OtherWord input a b → OtherWord input b a
other_sym input None None o = tt
other_sym input None (Some b) o = tt
other_sym input (Some a) None o = tt
other_sym input (Some a) (Some b) o = λ e. let h = o (grind arith) in (sym h.0, λ e. h.1 (sym e))

pub independent_sym : (x y : Inst) (input : Bool) → Independent x y input → Independent y x input
independent_sym x y input h = record {
  writes_reads = h.reads_writes;
  reads_writes = h.writes_reads;
  writes_writes = λ n e. grind (arith, nat_tests, h.writes_writes n);
  memory = other_sym input (access x) (access y) h.memory;
}

module _ (input : Bool) (bus : Bus) (law : IsBus input bus) where
  -- what one instruction stores or takes, the other does not load
  finds_after : (a b : Option Access) (o : Option Sent) (takes : Bool) (r m : Words) (t : ℕ)
      → OtherWord input a b → StoresAt a r o → TakesAt a r (bus.load m t) takes → FitsIn a → FitsIn b
      → FindsAlike b r (bus.load m t) (bus.load (stored bus o m) (cond takes (suc t) t))
  finds_after a None o takes r m t other s k f g = tt
  finds_after None (Some b) (Some p) takes r m t other s k f g = absurd s
  finds_after None (Some b) None takes r m t other s k f g = λ l. ap (λ c. bus.load m (cond c (suc t) t) (address b r)) (sym k)
  finds_after (Some a) (Some b) None false r m t other s k f g = λ l. refl
  finds_after (Some a) (Some b) None true r m t other s k f g =
      λ l. let taken = (k refl).1 in let i = law.takes_input m t (address a r) taken in
      sym (law.load_taken m t (suc t) (address a r) (address b r) taken (apart_at a b r f g (other (grind arith))))
  finds_after (Some a) (Some b) (Some p) false r m t other s k f g =
      λ l. let w = s.0 in sym (law.load_other m t p.address p.word (address b r) (λ e. apart_at a b r f g (other (grind arith)) (sym s.1 ∙ e)))
  finds_after (Some a) (Some b) (Some p) true r m t other s k f g = λ l. let w = s.0 in let n = (k refl).0 in absurd (grind arith)

  stores_after : (a b : Option Access) (o q : Option Sent) (r m : Words)
      → OtherWord input a b → StoresAt a r o → StoresAt b r q → FitsIn a → FitsIn b
      → stored bus q (stored bus o m) ≡ stored bus o (stored bus q m)
  stores_after a b None q r m other s t f g = refl
  stores_after a b (Some o) None r m other s t f g = refl
  stores_after None b (Some o) (Some q) r m other s t f g = absurd s
  stores_after (Some a) None (Some o) (Some q) r m other s t f g = absurd t
  stores_after (Some a) (Some b) (Some o) (Some q) r m other s t f g =
      let w = s.0 in law.store_store m o.address o.word q.address q.word (λ e. apart_at a b r f g (other (grind arith)) (sym s.1 ∙ e ∙ t.1))

  -- not both of two independent instructions send a byte
  one_sends : (a b : Option Access) (o q : Option Sent) (r : Words)
      → OtherWord input a b → StoresAt a r o → StoresAt b r q → FitsIn a → FitsIn b
      → (sent bus o ≡ None) ⊎ (sent bus q ≡ None)
  one_sends a b None q r other s t f g = inl refl
  one_sends a b (Some o) None r other s t f g = inr refl
  one_sends None b (Some o) (Some q) r other s t f g = absurd s
  one_sends (Some a) None (Some o) (Some q) r other s t f g = absurd t
  one_sends (Some a) (Some b) (Some o) (Some q) r other s t f g =
      let w = s.0 in law.one_byte o.address o.word q.address q.word (λ e. apart_at a b r f g (other (grind arith)) (sym s.1 ∙ e ∙ t.1))

  -- what an instruction changes in a state
  abbrev pub made : Inst → ℕ → Core → Change
  made i at s = change i at s.regs s.md (bus.load s.mem s.taken)

  -- the second instruction sees the same, whether or not the first came before it
  pub sees_next : (x y : Inst) (at : ℕ) (s : Core) → Independent x y input → SeesAlike y s.regs (act bus x at s.regs s).regs
  sees_next x y at s h =
      sees_alike y s.regs (made x at s).dest (made x at s).value (λ n r e. change_unwritten x at s.regs s.md (bus.load s.mem s.taken) n e (not_written n r))
    where
      not_written : (n : ℕ) → reads y n ≡ true → writes x n ≡ false
      not_written n r = grind (arith, nat_tests, h.writes_reads n)

  -- and changes the same
  pub second_same :
      (x y : Inst) (at at' : ℕ) (s : Core) → Independent x y input → InstFits x → InstFits y → made y at' s ≡ made y at' (act bus x at s.regs s)
  second_same x y at at' s h f g =
      change_same y at' s.regs _ s.md _ (bus.load s.mem s.taken) _
      (sees_next x y at s h)
      (λ r. ap (λ o. or_kept o s.md) (sym (change_md_none x at s.regs s.md (bus.load s.mem s.taken) (md_free r))))
      (finds_after (access x) (access y) (made x at s).stores (made x at s).takes s.regs s.mem s.taken h.memory
      (stores_at x at s.regs s.md (bus.load s.mem s.taken)) (takes_at x at s.regs s.md (bus.load s.mem s.taken)) (fits_in x f) (fits_in y g))
    where
      md_free : reads_md y ≡ true → writes_md x ≡ false
      md_free r = grind (arith, nat_tests, h.writes_reads 32)

  -- so the two may change places
  pub act_act : (x y : Inst) (at at' : ℕ) (s : Core) → Independent x y input → InstFits x → InstFits y
      → (let t : Core = act bus x at s.regs s in let u : Core = act bus y at' s.regs s in act bus y at' t.regs t ≡ act bus x at u.regs u)
  act_act x y at at' s h f g =
      let cx = made x at s in
      let cy = made y at' s in
      let t : Core = act bus x at s.regs s in
      let u : Core = act bus y at' s.regs s in
      let e : cy ≡ made y at' t = second_same x y at at' s h f g in
      let d : cx ≡ made x at u = second_same y x at' at s (independent_sym x y input h) g f in
      ap (λ c. apply bus c t) (sym e)
      ∙ apply_apply bus cx cy s apart mds
      (stores_after (access x) (access y) cx.stores cy.stores s.regs s.mem h.memory
      (stores_at x at s.regs s.md (bus.load s.mem s.taken)) (stores_at y at' s.regs s.md (bus.load s.mem s.taken)) (fits_in x f) (fits_in y g))
      ∙ ap (λ c. apply bus c u) d
    where
      apart : (made x at s).dest ≡ (made y at' s).dest → (made x at s).dest ≡ 0
      apart e = ⊎_elim
          (λ w. change_unwritten y at' s.regs s.md (bus.load s.mem s.taken) (made x at s).dest e (h.writes_writes (made x at s).dest w))
          (λ w. change_unwritten x at s.regs s.md (bus.load s.mem s.taken) (made x at s).dest refl w)
          (cases_Bool (writes x (made x at s).dest))

      mds : ((made x at s).new_md ≡ None) ⊎ ((made y at' s).new_md ≡ None)
      mds = ⊎_elim
          (λ w. inr (change_md_none y at' s.regs s.md (bus.load s.mem s.taken) (grind (arith, nat_tests, h.writes_writes 32))))
          (λ w. inl (change_md_none x at s.regs s.md (bus.load s.mem s.taken) w))
          (cases_Bool (writes_md x))

-- an access is as lawful where its base holds the same
lawful_same :
    (p : Place) (input : Option (List ℕ)) (i : Inst) (r r' : Words) → SeesAlike i r r'
    → is_lawful p input (access i) r ≡ is_lawful p input (access i) r'
lawful_same p input i r r' s = by_access (access i) refl
  where
    by_access : (o : Option Access) → access i ≡ o → is_lawful p input o r ≡ is_lawful p input o r'
    by_access None e = refl
    by_access (Some a) e =
        let b = base_read i a e in
        ap (λ n. is_user p n || cond a.stores (eqb n p.console) (is_some input && eqb n p.input))
        (address_same a r r' (ap (reg r) b ∙ s.first ∙ sym (ap (reg r') b)))

bytes_swap :
    (s : List ℕ) (o q : Option ℕ) → (o ≡ None) ⊎ (q ≡ None)
    → (s ++ option_to_list o) ++ option_to_list q ≡ (s ++ option_to_list q) ++ option_to_list o
bytes_swap s None q h = grind (arith, common_steps)
bytes_swap s (Some x) None h = grind (arith, common_steps)
bytes_swap s (Some x) (Some y) h = ⊎_elim (λ e. absurd (cc)) (λ e. absurd (cc)) h

clean_swap : (a b c : Bool) → ((a && b) && c) ≡ ((a && c) && b)
clean_swap a b c = grind arith

leads_swap : (x y : Bool) (a b d : Decision) → (x ≡ false) ⊎ (y ≡ false) → cond y b (cond x a d) ≡ cond x a (cond y b d)
leads_swap true true a b d h = ⊎_elim (λ e. absurd (cc)) (λ e. absurd (cc)) h
leads_swap true false a b d h = refl
leads_swap false y a b d h = refl

pub ran_same : (c c' : Core) (b b' : List ℕ) (x x' : Bool) (d d' : Decision) → c ≡ c' → b ≡ b' → x ≡ x' → d ≡ d'
    → (let s : Ran = record { core = c; bytes = b; clean = x; leads = d } in let t : Ran = record { core = c'; bytes = b'; clean = x'; leads = d' } in
    s ≡ t)
ran_same c c' b b' x x' d d' e f g h = λ k. record { core = e k; bytes = f k; clean = g k; leads = h k }

-- what lets two instructions change places: they are independent, have words, and do not both transfer
pub record MaySwap (ordered : Bool) (x y : Inst) : Type 0 where
  pub independent : Independent x y ordered
  pub first : InstFits x
  pub second : InstFits y
  pub one : (is_transfer x ≡ false) ⊎ (is_transfer y ≡ false)

-- they do the same in either order, also at addresses of their own
pub swap :
    (p : Place) (input : Option (List ℕ)) (ordered : Bool) → (is_some input ≡ true → ordered ≡ true) → (x y : Inst) (at at' : ℕ) (s : Ran)
    → MaySwap ordered x y
    → run_one p input at' y (run_one p input at x s) ≡ run_one p input at x (run_one p input at' y s)
swap p input ordered keeps x y at at' s h =
    let c = s.core in
    let bus : Bus = user_bus p input in
    let law : IsBus ordered bus = user_bus_law p input ordered keeps in
    let t : Core = act bus x at c.regs c in
    let u : Core = act bus y at' c.regs c in
    let cx : Change = made ordered bus law x at c in
    let cy : Change = made ordered bus law y at' c in
    let back = independent_sym x y ordered h.independent in
    let e : cy ≡ made ordered bus law y at' t = second_same ordered bus law x y at at' c h.independent h.first h.second in
    let d : cx ≡ made ordered bus law x at u = second_same ordered bus law y x at' at c back h.second h.first in
    let sy = sees_next ordered bus law x y at c h.independent in
    let sx = sees_next ordered bus law y x at' c back in
    let at_x = stores_at x at c.regs c.md (bus.load c.mem c.taken) in
    let at_y = stores_at y at' c.regs c.md (bus.load c.mem c.taken) in
    ran_same _ _ _ _ _ _ _ _
    (act_act ordered bus law x y at at' c h.independent h.first h.second)
    (ap (λ (o : Change). (s.bytes ++ option_to_list (sent bus cx.stores)) ++ option_to_list (sent bus o.stores)) (sym e)
    ∙ bytes_swap s.bytes (sent bus cx.stores) (sent bus cy.stores)
    (one_sends ordered bus law (access x) (access y) cx.stores cy.stores c.regs h.independent.memory at_x at_y (fits_in x h.first) (fits_in y h.second))
    ∙ ap (λ (o : Change). (s.bytes ++ option_to_list (sent bus cy.stores)) ++ option_to_list (sent bus o.stores)) d)
    (ap (λ b. (s.clean && is_lawful p input (access x) c.regs) && b) (sym (lawful_same p input y c.regs t.regs sy))
    ∙ clean_swap s.clean (is_lawful p input (access x) c.regs) (is_lawful p input (access y) c.regs)
    ∙ ap (λ b. (s.clean && is_lawful p input (access y) c.regs) && b) (lawful_same p input x c.regs u.regs sx))
    (ap (λ b. cond (is_transfer y) b (cond (is_transfer x) (decides x at c.regs) s.leads)) (sym (decides_same y at' c.regs t.regs sy))
    ∙ leads_swap (is_transfer x) (is_transfer y) (decides x at c.regs) (decides y at' c.regs) s.leads h.one
    ∙ ap (λ b. cond (is_transfer x) b (cond (is_transfer y) (decides y at' c.regs) s.leads)) (decides_same x at c.regs u.regs sx))
