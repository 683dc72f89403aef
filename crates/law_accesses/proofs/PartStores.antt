-- Stores of bytes and halves.
use Rattle.std.proofs.Common.{◌≡◌, ◌≢◌, ◌≤◌, ◌<◌, ◌^◌, ℕ, ◌+◌, ◌-◌, ◌*◌, ◌/◌, ◌%◌, Bool, true, false, cond, ◌==◌, ◌||◌, List, [], ◌∷◌, ◌++◌, Option, None, Ok, refl, sym, ap, ap₂, ◌∙◌, arith, subst}
use Rattle.std.specs.Int.{w32, rotate_left}
use Rattle.std.proofs.lemmas.Bool.Decides.{nat_tests}
use Rattle.mx_isa.specs.Arithmetic.{funnel, result_of, CountFits}
use Rattle.mx_isa.specs.Words.{put, reg}
use Rattle.mx_isa.specs.Effect.{Core, Bus, act, op_uses_md}
use Rattle.mx_isa.specs.declared.inst.Inst.TheVariants as inst
use Rattle.mx_isa.specs.declared.inst.Op.{Op}
use Rattle.mx_isa.specs.declared.inst.Op.TheVariants as machine
use Rattle.mx_isa.proofs.Frame.{reg_write}
use Rattle.cc_lines.specs.declared.instruction.Shift.TheVariants.{Rotate}
use Rattle.cc_lines.specs.declared.instruction.Width.TheVariants as width
use Rattle.cc_emit.specs.declared.line.Computed.TheVariants.{Sub, Rotlb}
use Rattle.cc_emit.specs.declared.line.Line.{Line}
use Rattle.cc_emit.specs.declared.line.Line.TheVariants.{Plain as PlainLine, Constant}
use Rattle.cc_emit.specs.declared.line.Plain.{Plain}
use Rattle.cc_emit.specs.declared.line.Plain.TheVariants.{Compute, Sh, Move}
use Rattle.cc_plan.specs.declared.plan.Place.{Place}
use Rattle.cc_plan.specs.declared.plan.Place.TheVariants.{Byte, Turned, Far}
use Rattle.cc_meaning.specs.declared.value.Value.{Value}
use Rattle.cc_meaning.specs.Memory.{stored}
use Rattle.cc_meaning.specs.declared.layout.Layout.{Layout}
use Rattle.cc_meaning.specs.States.{State, memory_word, with_word}
use Rattle.cc_operations.specs.Operations.{lines, shift, shifted}
use Rattle.cc_accesses.specs.Stores.{part_stored, word_register, inserted, byte_inserted, half_inserted, bits_before}
use Rattle.cc_accesses.specs.Places.{word_base, word_offset, part_of, reached, word_load, word_store}
use Rattle.law_operations.specs.Runs.{ran, ran_lines, HoldsWords, HoldsFirst, IsNamed}
use Rattle.law_operations.proofs.Rest.{Sets, ran_only}
use Rattle.law_operations.proofs.Steps.{computes}
use Rattle.law_accesses.specs.Memories.{Access, IsReachable, ShowsData, ShowsMemory, Stored, known_after_byte}
use Rattle.law_accesses.proofs.Data.{store_puts, shows_after, put_other}
use Rattle.law_accesses.proofs.Reaching.{Reached, Distinct, place_reached, reached_then, located, in_data, straight_then, plain_straight, is_straight}
use Rattle.law_accesses.proofs.WholeWords.{fetched}
use Rattle.law_accesses.proofs.PartLoads.{ran_three, shift_gives, BeginsAt, begins, aligned_from, even_from, quarter_rest}
use Rattle.law_accesses.proofs.Parts.{turned}
use Rattle.law_accesses.proofs.Insertions.{byte_put, half_put, with_others, with_other_half, byte_stored, half_stored, known_byte_in, told_byte_in, byte_back, back_by, known_half_in, told_half_in, half_back, half_back_by, low_byte, low_half}

-- ---- single instructions, which leave r26 too unless they write it

pub set_again : (d v w : ℕ) (s t u : Core) → Sets d v s t → Sets d w t u → Sets d w s u
set_again d v w s t u g h = record {
  given = h.given;
  kept = λ n k. h.kept n k ∙ g.kept n k;
  md = h.md ∙ g.md;
  mem = h.mem ∙ g.mem;
  taken = h.taken ∙ g.taken;
  words = h.words;
}

pub set_as : (d v w : ℕ) (s t : Core) → v ≡ w → Sets d v s t → Sets d w s t
set_as d v w s t e g =
    record { given = λ ne. g.given ne ∙ e; kept = g.kept; md = g.md; mem = g.mem; taken = g.taken; words = g.words }

pub computed : (bus : Bus) (a d b : ℕ) (c : Op) (s : Core) → HoldsWords s.regs → CountFits c → op_uses_md c ≡ false
    → Sets d (result_of c (reg s.regs a) (reg s.regs b) s.md) s (act bus (inst.Compute a d b c) 0 s.regs s)
computed bus a d b c s w n h =
    let g = computes bus a d b c s w n h in
    record {
      given = g.given;
      kept = λ i k. reg_write s.regs d (result_of c (reg s.regs a) (reg s.regs b) s.md) i k;
      md = g.md;
      mem = g.mem;
      taken = g.taken;
      words = g.words;
    }

shift_kept : (t u : Bool) (bus : Bus) (w n i : ℕ) (s : Core) → (i ≡ w → i ≡ 0)
    → reg (ran bus (cond t (cond u [] (Move w w ∷ [])) (shift Rotate w w n ∷ [])) s).regs i ≡ reg s.regs i
shift_kept true true bus w n i s k = refl
shift_kept true false bus w n i s k = reg_write s.regs w _ i k
shift_kept false u bus w n i s k = reg_write s.regs w _ i k

-- a word is rotated by a number
rotated : (count w x : ℕ) (bus : Bus) (s t : Core) → w ≢ 0 → Sets w x s t
    → Sets w (rotate_left w32 x (count % 32)) s (ran bus (shifted Rotate w w count) t)
rotated count w x bus s t ne g =
    let h = shift_gives Rotate w w count bus t g.words in
    set_again w x _ s t _ g
    (record {
      given = λ z. h.given z ∙ ap (λ y. rotate_left w32 y (count % 32)) (g.given ne);
      kept = λ i k. shift_kept (count % 32 == 0) (w == w || w == 0) bus w (count % 32) i t k;
      md = h.md;
      mem = h.mem;
      taken = h.taken;
      words = h.words;
    })

-- the low bits of a register come in at the top
filled : (n w rs x r : ℕ) (bus : Bus) (s t : Core) → n ≤ 31 → w ≢ 0 → (rs ≡ w → rs ≡ 0) → reg s.regs rs ≡ r → Sets w x s t
    → Sets w (funnel n x r) s (ran bus (Sh w rs n w ∷ []) t)
filled n w rs x r bus s t l ne apart e g =
    set_again w x _ s t _ g
    (set_as w _ _ t _ (ap₂ (funnel n) (g.given ne) (g.kept rs apart ∙ e)) (computed bus w w rs (machine.Sh n) t g.words l refl))

-- the top bits leave
emptied : (n w x : ℕ) (bus : Bus) (s t : Core) → n ≤ 31 → w ≢ 0 → Sets w x s t → Sets w (funnel n 0 x) s (ran bus (Sh 0 w n w ∷ []) t)
emptied n w x bus s t l ne g =
    set_again w x _ s t _ g (set_as w _ _ t _ (ap (funnel n 0) (g.given ne)) (computed bus 0 w w (machine.Sh n) t g.words l refl))

-- a word is turned by a register
pub told : (by w x k : ℕ) (bus : Bus) (s t : Core) → w ≢ 0 → w ≢ by → reg s.regs by % 4 ≡ k → Sets w x s t
    → Sets w (turned x k) s (ran bus (Compute Rotlb w by w ∷ []) t)
told by w x k bus s t ne apart b g =
    set_again w x _ s t _ g
    (set_as w _ _ t _
    (ap₂ (λ i j. rotate_left w32 i (8 * j)) (g.given ne) (ap (λ i. i % 4) (g.kept by (λ e. absurd (apart (sym e)))) ∙ b))
    (computed bus w w by machine.Rotlb t g.words tt refl))

-- ---- a part is inserted

-- the word is in w; r1 may be written, and what is known of it holds
record Inserts (w z : ℕ) (first : Option ℕ) (before after : Core) : Type 0 where
  pub given : reg after.regs w ≡ z
  pub known : HoldsFirst first after.regs
  pub kept : (n : ℕ) → n ≢ 1 → n ≢ w → reg after.regs n ≡ reg before.regs n
  pub md : after.md ≡ before.md
  pub mem : after.mem ≡ before.mem
  pub taken : after.taken ≡ before.taken
  pub words : HoldsWords after.regs

inserts_set : (w z : ℕ) (first : Option ℕ) (s t : Core) → w ≢ 0 → w ≢ 1 → HoldsFirst first s.regs → Sets w z s t
    → Inserts w z first s t
inserts_set w z first s t ne one h g = record {
  given = g.given ne;
  known = λ n e. g.kept 1 (λ q. absurd (one (sym q))) ∙ h n e;
  kept = λ n k l. g.kept n (λ q. absurd (l q));
  md = g.md;
  mem = g.mem;
  taken = g.taken;
  words = g.words;
}

-- at a known byte
known_in : (bits w rs x r y z byte : ℕ) (bus : Bus) (s t : Core) → bits ≤ 31 → w ≢ 0 → (rs ≡ w → rs ≡ 0)
    → reg s.regs rs ≡ r → Sets w x s t
    → funnel bits (rotate_left w32 x ((bits + bits_before byte) % 32)) r ≡ y → rotate_left w32 y ((32 - bits_before byte) % 32) ≡ z
    → Sets w z s
    (ran bus (shifted Rotate w w (32 - bits_before byte)) (ran bus (Sh w rs bits w ∷ []) (ran bus (shifted Rotate w w (bits + bits_before byte)) t)))
known_in bits w rs x r y z byte bus s t l ne apart e g p q =
    let h = rotated (bits + bits_before byte) w x bus s t ne g in
    let i = filled bits w rs _ r bus s _ l ne apart e h in
    let j = rotated (32 - bits_before byte) w y bus s _ ne (set_as w _ y s _ p i) in
    set_as w _ z s _ q j

-- where a register tells it, a half
half_in : (w rs by x r k y z : ℕ) (bus : Bus) (s t : Core) → w ≢ 0 → w ≢ by → (rs ≡ w → rs ≡ 0) → reg s.regs rs ≡ r
    → reg s.regs by % 4 ≡ k
    → Sets w x s t → funnel 16 (funnel 16 0 (turned x k)) r ≡ y → turned y k ≡ z → Sets w z s (ran bus (half_inserted w rs by) t)
half_in w rs by x r k y z bus s t ne away apart e b g p q =
    let h = told by w x k bus s t ne away b g in
    let i = let l : 16 ≤ 31 = omega arith in emptied 16 w (turned x k) bus s _ l ne h in
    let j = let l : 16 ≤ 31 = omega arith in filled 16 w rs _ r bus s _ l ne apart e i in
    set_as w _ z s _ q (told by w y k bus s _ ne away b (set_as w _ y s _ p j))

-- and a byte, for which r1 turns the word back
pub negated : (by k : ℕ) → by < 2 ^ 32 → by % 4 ≡ k → (0 + (2 ^ 32 - by)) % 2 ^ 32 % 4 ≡ (4 - k) % 4
negated by k h e = omega arith

byte_in : (w rs by x r k y z : ℕ) (bus : Bus) (s t : Core) → w ≢ 0 → w ≢ 1 → w ≢ by → (rs ≡ w → rs ≡ 0) → reg s.regs rs ≡ r
    → reg s.regs by % 4 ≡ k → Sets w x s t → funnel 8 (funnel 24 0 (turned x k)) r ≡ y → turned y ((4 - k) % 4) ≡ z
    → Inserts w z None s (ran bus (byte_inserted w rs by) t)
byte_in w rs by x r k y z bus s t ne one away apart e b g p q =
    let h = told by w x k bus s t ne away b g in
    let i = let l : 24 ≤ 31 = omega arith in emptied 24 w (turned x k) bus s _ l ne h in
    let j = let l : 8 ≤ 31 = omega arith in set_as w _ y s _ p (filled 8 w rs _ r bus s _ l ne apart e i) in
    let u = ran bus (Compute Rotlb w by w ∷ Sh 0 w 24 w ∷ Sh w rs 8 w ∷ []) t in
    let c = computed bus 0 1 by machine.Sub u j.words tt refl in
    let v = ran bus (Compute Sub 0 by 1 ∷ []) u in
    let some : Distinct 1 0 = omega arith in
    let back : reg v.regs 1 % 4 ≡ (4 - k) % 4 = ap (λ m. m % 4) (c.given some)
    ∙ negated (reg u.regs by) k (j.words by) (ap (λ m. m % 4) (j.kept by (λ d. absurd (away (sym d)))) ∙ b) in
    let there : reg v.regs w ≡ y = c.kept w (λ d. absurd (one d)) ∙ j.given ne in
    let d = computed bus w w 1 machine.Rotlb v c.words tt refl in
    record {
      given = d.given ne ∙ ap₂ (λ i j. rotate_left w32 i (8 * j)) there back ∙ q;
      known = λ n f. absurd (cc);
      kept = λ n f m. d.kept n (λ i. absurd (m i)) ∙ c.kept n (λ i. absurd (f i)) ∙ j.kept n (λ i. absurd (m i));
      md = d.md ∙ c.md ∙ j.md;
      mem = d.mem ∙ c.mem ∙ j.mem;
      taken = d.taken ∙ c.taken ∙ j.taken;
      words = d.words;
    }

-- ---- at any place

-- a register that takes the word is none that the lines read
record IsApart (place : Place) (w rs : ℕ) : Type 0 where
  pub some : w ≢ 0
  pub first : w ≢ 1
  pub base : word_base place ≢ w
  pub base_first : word_base place ≢ 1
  pub from : rs ≡ w → rs ≡ 0
  pub by : (base words by : ℕ) → place ≡ Turned base words by → w ≢ by

register_some : (b : ℕ) → word_register b ≢ 0
register_some b = grind (arith, nat_tests)

register_not_first : (b : ℕ) → word_register b ≢ 1
register_not_first b = grind (arith, nat_tests)

register_not_base : (b : ℕ) → b ≢ word_register b
register_not_base b = grind (arith, nat_tests)

register_second : (b : ℕ) → b ≢ 26 → word_register b ≡ 26
register_second b h = grind (arith, nat_tests)

apart : (place : Place) (rs : ℕ) → IsReachable place → rs ≢ word_register (word_base place)
    → IsApart place (word_register (word_base place)) rs
apart place rs h ne = record {
  some = register_some (word_base place);
  first = register_not_first (word_base place);
  base = register_not_base (word_base place);
  base_first = base_not_first place h;
  from = λ e. absurd (ne e);
  by = not_told place h;
}
  where
    base_not_first : (place : Place) → IsReachable place → word_base place ≢ 1
    base_not_first (Byte base words byte) h = h.0.0
    base_not_first (Turned base words by) h = h.0.0
    base_not_first (Far base bytes) h = let e : Distinct 26 1 = omega arith in e

    turned_by : {a b c d e f : ℕ} → Turned a b c ≡ Turned d e f → c ≡ f
    turned_by e = cc

    not_told : (place : Place) → IsReachable place → (base words by : ℕ) → place ≡ Turned base words by
        → word_register (word_base place) ≢ by
    not_told (Byte base words byte) h b n r e q = absurd (cc)
    not_told (Turned base words by) h b n r e q = h.2.1 (turned_by e ∙ sym q ∙ register_second base h.0.1)
    not_told (Far base bytes) h b n r e q = absurd (cc)

-- the lines of a part in the word
straight_both : (a b : List Line) → is_straight a ≡ true → is_straight b ≡ true → is_straight (a ++ b) ≡ true
straight_both [] b h k = k
straight_both (PlainLine plain ∷ a) b h k = straight_both a b h k
straight_both (Constant value rd ∷ a) b h k = straight_both a b h k
straight_both (_ ∷ a) b h k = absurd (cc)

straight_known : (a b c : List Plain) → is_straight (lines a ++ (lines b ++ lines c)) ≡ true
straight_known a b c =
    straight_both (lines a) (lines b ++ lines c) (plain_straight a) (straight_both (lines b) (lines c) (plain_straight b) (plain_straight c))

straight_inserted : (place : Place) (w rs bits : ℕ) → is_straight (inserted (part_of place) w rs bits) ≡ true
straight_inserted (Byte base words byte) w rs bits =
    straight_known (shifted Rotate w w (bits + bits_before byte)) (Sh w rs bits w ∷ []) (shifted Rotate w w (32 - bits_before byte))
straight_inserted (Turned base words by) w rs bits = plain_straight (cond (bits == 8) (byte_inserted w rs by) (half_inserted w rs by))
straight_inserted (Far base bytes) w rs bits = plain_straight (cond (bits == 8) (byte_inserted w rs 1) (half_inserted w rs 1))

-- the lines of a store of a part, after those that reach the place
stored_then : (place : Place) (w rs bits : ℕ) (bus : Bus) (t : Core)
    → ran_lines bus (lines (word_load place w ∷ []) ++ (inserted (part_of place) w rs bits ++ lines (word_store place w ∷ []))) t
    ≡ ran bus (word_store place w ∷ []) (ran_lines bus (inserted (part_of place) w rs bits) (ran bus (word_load place w ∷ []) t))
stored_then place w rs bits bus t =
    straight_then bus (inserted (part_of place) w rs bits) (lines (word_store place w ∷ [])) (ran bus (word_load place w ∷ []) t)
    (straight_inserted place w rs bits)

abbrev Inserted : Place → ℕ → ℕ → ℕ → ℕ → Option ℕ → Bus → Core → Core → Type 0
Inserted place w rs bits z first bus t u = Inserts w z first t (ran_lines bus (inserted (part_of place) w rs bits) u)

byte_inserts : (place : Place) (w rs x k r : ℕ) (first : Option ℕ) (bus : Bus) (t u : Core) → IsApart place w rs → HoldsFirst first t.regs
    → BeginsAt place k t → Sets w x t u → reg t.regs rs ≡ r → x < 2 ^ 32 → k < 4
    → Inserted place w rs 8 (byte_put x k (r % 2 ^ 8)) (known_after_byte first place) bus t u
byte_inserts (Byte base words byte) w rs x k r first bus t u p f b g e h small =
    let c = r % 2 ^ 8 in
    let l : 8 ≤ 31 = omega arith in
    let z = byte_put x k c in
    let entered =
    subst (λ i. funnel 8 (rotate_left w32 x ((8 + bits_before i) % 32)) r ≡ with_others x k c) (sym b) (known_byte_in x k r h small) in
    let back = subst (λ i. rotate_left w32 (with_others x k c) ((32 - bits_before i) % 32) ≡ z) (sym b)
    (back_by (with_others x k c) k small ∙ byte_back x k c h small (low_byte r)) in
    subst (Inserts w z first t)
    (sym (ran_three bus (shifted Rotate w w (8 + bits_before byte)) (Sh w rs 8 w ∷ []) (shifted Rotate w w (32 - bits_before byte)) u))
    (inserts_set w z first t _ p.some p.first f (known_in 8 w rs x r (with_others x k c) z byte bus t u l p.some p.from e g entered back))
byte_inserts (Turned base words by) w rs x k r first bus t u p f b g e h small =
    subst (Inserts w (byte_put x k (r % 2 ^ 8)) None t) (sym (ran_only bus (byte_inserted w rs by) u))
    (byte_in w rs by x r k _ _ bus t u p.some p.first (p.by base words by refl) p.from e b g (told_byte_in x k r h small)
    (byte_back x k (r % 2 ^ 8) h small (low_byte r)))
byte_inserts (Far base bytes) w rs x k r first bus t u p f b g e h small =
    subst (Inserts w (byte_put x k (r % 2 ^ 8)) None t) (sym (ran_only bus (byte_inserted w rs 1) u))
    (byte_in w rs 1 x r k _ _ bus t u p.some p.first p.first p.from e b g (told_byte_in x k r h small)
    (byte_back x k (r % 2 ^ 8) h small (low_byte r)))

half_inserts : (place : Place) (w rs x k r : ℕ) (first : Option ℕ) (bus : Bus) (t u : Core) → IsApart place w rs → HoldsFirst first t.regs
    → BeginsAt place k t → Sets w x t u → reg t.regs rs ≡ r → x < 2 ^ 32 → k < 4 → k % 2 ≡ 0
    → Inserted place w rs 16 (half_put x k (r % 2 ^ 16)) first bus t u
half_inserts (Byte base words byte) w rs x k r first bus t u p f b g e h small even =
    let c = r % 2 ^ 16 in
    let l : 16 ≤ 31 = omega arith in
    let z = half_put x k c in
    let entered =
    subst (λ i. funnel 16 (rotate_left w32 x ((16 + bits_before i) % 32)) r ≡ with_other_half x k c) (sym b) (known_half_in x k r h small even) in
    let back = subst (λ i. rotate_left w32 (with_other_half x k c) ((32 - bits_before i) % 32) ≡ z) (sym b)
    (half_back_by (with_other_half x k c) k small even ∙ half_back x k c h small even (low_half r)) in
    subst (Inserts w z first t)
    (sym (ran_three bus (shifted Rotate w w (16 + bits_before byte)) (Sh w rs 16 w ∷ []) (shifted Rotate w w (32 - bits_before byte)) u))
    (inserts_set w z first t _ p.some p.first f (known_in 16 w rs x r (with_other_half x k c) z byte bus t u l p.some p.from e g entered back))
half_inserts (Turned base words by) w rs x k r first bus t u p f b g e h small even =
    subst (Inserts w (half_put x k (r % 2 ^ 16)) first t) (sym (ran_only bus (half_inserted w rs by) u))
    (inserts_set w _ first t _ p.some p.first f
    (half_in w rs by x r k _ _ bus t u p.some (p.by base words by refl) p.from e b g (told_half_in x k r h small even)
    (half_back x k (r % 2 ^ 16) h small even (low_half r))))
half_inserts (Far base bytes) w rs x k r first bus t u p f b g e h small even =
    subst (Inserts w (half_put x k (r % 2 ^ 16)) first t) (sym (ran_only bus (half_inserted w rs 1) u))
    (inserts_set w _ first t _ p.some p.first f
    (half_in w rs 1 x r k _ _ bus t u p.some p.first p.from e b g (told_half_in x k r h small even)
    (half_back x k (r % 2 ^ 16) h small even (low_half r))))

-- ---- the whole store

-- the word of a place in a register, which leaves r26 too unless it takes it
pub fetched_sets : (bus : Bus) (place : Place) (first : Option ℕ) (w address : ℕ) (l : Layout) (a : State) (s t : Core)
    → Access bus first place address l a s → (known : Option ℕ) → Reached place known s t
    → Sets w (s.mem (address / 4)) t (ran bus (word_load place w ∷ []) t)
fetched_sets bus place first w address l a s t x known g =
    let h = fetched bus place known w address l a s t x.keeps x.shown x.at (in_data l address x.within) g in
    record {
      given = h.given;
      kept = λ n k. reg_write t.regs w _ n k;
      md = h.md;
      mem = h.mem;
      taken = h.taken;
      words = h.words;
    }

put_back : (bus : Bus) (place : Place) (first known after : Option ℕ) (w rs z address : ℕ) (l : Layout) (a : State) (v : Value) (s t u : Core)
    → Access bus first place address l a s → IsApart place w rs → Reached place known s t → Inserts w z after t u → ShowsData v z
    → Stored l (with_word a address v) (address / 4) w after s (ran bus (word_store place w ∷ []) u)
put_back bus place first known after w rs z address l a v s t u x p g i shown =
    let e = located (reg s.regs) place address x.at (in_data l address x.within) in
    let n = address / 4 in
    let base = i.kept (word_base place) p.base_first p.base in
    subst (Stored l (with_word a address v) (address / 4) w after s)
    (sym (store_puts bus (word_base place) (word_offset place) w n u x.keeps g.small
    (ap (λ m. (m + word_offset place) % 2 ^ 32) base ∙ g.at ∙ e.0) e.1.1))
    (record {
      shown = subst (λ mem. ShowsMemory l (with_word a address v) (put mem n (reg u.regs w))) (sym (i.mem ∙ g.mem))
          (shows_after l a address v s.mem (reg u.regs w) x.shown (i.words w) (subst (ShowsData v) (sym i.given) shown));
      others = λ j l. put_other u.mem n (reg u.regs w) j l ∙ ap (λ mem. mem j) (i.mem ∙ g.mem);
      known = i.known;
      kept = λ j l q r. i.kept j l r ∙ g.kept j l q;
      md = i.md ∙ g.md;
      taken = i.taken ∙ g.taken;
      words = i.words;
    })

abbrev Ends : Layout → Option ℕ → Place → ℕ → ℕ → State → ℕ → Bus → Option ℕ → Core → Type 0
Ends l first place rs bits a number bus known s =
    Stored l a number (word_register (word_base place)) known s (ran_lines bus (part_stored first place rs bits).lines s)

part_ends : (bus : Bus) (first after : Option ℕ) (place : Place) (rs bits z address : ℕ) (l : Layout) (a : State) (v : Value) (s : Core)
    → Access bus first place address l a s → rs ≢ word_register (word_base place)
    → (let t = ran_lines bus (reached first place).lines s in let w = word_register (word_base place) in
    Inserted place w rs bits z after bus t (ran bus (word_load place w ∷ []) t))
    → ShowsData v z → Ends l first place rs bits (with_word a address v) (address / 4) bus after s
part_ends bus first after place rs bits z address l a v s x ne i shown =
    let w = word_register (word_base place) in
    let t = ran_lines bus (reached first place).lines s in
    let g = place_reached first place bus s x.words x.known x.reachable in
    let code =
    reached_then first place (lines (word_load place w ∷ []) ++ (inserted (part_of place) w rs bits ++ lines (word_store place w ∷ []))) bus s
    ∙ stored_then place w rs bits bus t in
    subst (Stored l (with_word a address v) (address / 4) w after s) (sym code)
    (put_back bus place first (reached first place).first after w rs z address l a v s t _ x (apart place rs x.reachable ne) g i shown)

pub byte_store_stores : (first : Option ℕ) (place : Place) (rs address : ℕ) (signed : Bool) (l : Layout) (a : State) (r v : Value) (bus : Bus) (s : Core)
    → Access bus first place address l a s → IsNamed rs → rs ≢ word_register (word_base place) → ShowsData r (reg s.regs rs)
    → stored (width.Byte signed) (address % 4) (memory_word a address) r ≡ Ok v
    → Ends l first place rs 8 (with_word a address v) (address / 4) bus (known_after_byte first place) s
byte_store_stores first place rs address signed l a r v bus s x named ne shown e =
    let w = word_register (word_base place) in
    let k = address % 4 in
    let n = address / 4 in
    let t = ran_lines bus (reached first place).lines s in
    let g = place_reached first place bus s x.words x.known x.reachable in
    let there = located (reg s.regs) place address x.at (in_data l address x.within) in
    let fits = x.shown.words n there.1.1 in
    let b = begins place (reached first place).first k s t x.reachable g there.1.0 in
    let f = fetched_sets bus place first w address l a s t x (reached first place).first g in
    let i = byte_inserts place w rs (s.mem n) k (reg s.regs rs) (reached first place).first bus t _ (apart place rs x.reachable ne) g.known b f
    (g.kept rs named.0 named.1) fits (quarter_rest address) in
    part_ends bus first (known_after_byte first place) place rs 8 (byte_put (s.mem n) k (reg s.regs rs % 2 ^ 8)) address l a v s x ne
    (with_known place i)
    (byte_stored (memory_word a address) r v _ (s.mem n) (reg s.regs rs) k fits (quarter_rest address) refl e (x.shown.shown address x.within) shown)
  where
    with_known : (place : Place) {w z : ℕ} {t u : Core} → Inserts w z (known_after_byte (reached first place).first place) t u
        → Inserts w z (known_after_byte first place) t u
    with_known (Byte base words byte) i = i
    with_known (Turned base words by) i = i
    with_known (Far base bytes) i = i

pub half_store_stores : (first : Option ℕ) (place : Place) (rs address : ℕ) (signed : Bool) (l : Layout) (a : State) (r v : Value) (bus : Bus) (s : Core)
    → Access bus first place address l a s → IsNamed rs → rs ≢ word_register (word_base place) → ShowsData r (reg s.regs rs)
    → stored (width.Half signed) (address % 4) (memory_word a address) r ≡ Ok v
    → Ends l first place rs 16 (with_word a address v) (address / 4) bus (part_stored first place rs 16).first s
half_store_stores first place rs address signed l a r v bus s x named ne shown e =
    let w = word_register (word_base place) in
    let k = address % 4 in
    let n = address / 4 in
    let t = ran_lines bus (reached first place).lines s in
    let g = place_reached first place bus s x.words x.known x.reachable in
    let there = located (reg s.regs) place address x.at (in_data l address x.within) in
    let fits = x.shown.words n there.1.1 in
    let split = aligned_from (k % 2 == 0) _ v e in
    let even = even_from k split.0 in
    let b = begins place (reached first place).first k s t x.reachable g there.1.0 in
    let f = fetched_sets bus place first w address l a s t x (reached first place).first g in
    let i = half_inserts place w rs (s.mem n) k (reg s.regs rs) (reached first place).first bus t _ (apart place rs x.reachable ne) g.known b f
    (g.kept rs named.0 named.1) fits (quarter_rest address) even in
    part_ends bus first (reached first place).first place rs 16 (half_put (s.mem n) k (reg s.regs rs % 2 ^ 16)) address l a v s x ne i
    (half_stored (memory_word a address) r v _ (s.mem n) (reg s.regs rs) k fits (quarter_rest address) even refl split.1
    (x.shown.shown address x.within) shown)
