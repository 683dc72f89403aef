-- Stores with a mask: swl and swr.
use Rattle.std.proofs.Common.{◌≡◌, ◌≢◌, ◌≤◌, ◌<◌, ◌^◌, ℕ, pos, ◌+◌, ◌-◌, ◌*◌, ◌/◌, ◌%◌, [], ◌∷◌, ◌++◌, Option, Ok, refl, sym, ap, ap₂, ◌∙◌, arith, subst}
use Rattle.std.specs.Prelude.{bit_and, bit_or}
use Rattle.std.specs.Int.{w32, rotate_left}
use Rattle.mx_isa.specs.Words.{put, reg}
use Rattle.mx_isa.specs.Effect.{Core, Bus}
use Rattle.mx_isa.specs.declared.inst.Op.TheVariants as machine
use Rattle.cc_lines.specs.declared.instruction.Width.TheVariants.{Left, Right}
use Rattle.cc_emit.specs.declared.line.Computed.TheVariants.{Sub, And, Or, Bic}
use Rattle.cc_emit.specs.declared.line.Mask.{Mask}
use Rattle.cc_emit.specs.declared.line.Mask.TheVariants.{StoreLeft, StoreRight}
use Rattle.cc_emit.specs.declared.line.Plain.TheVariants.{Compute, Asr, Not, Load, Store}
use Rattle.cc_emit.specs.declared.line.Word.{Word}
use Rattle.cc_plan.specs.declared.plan.Place.TheVariants.{Far}
use Rattle.cc_plan.specs.Places.{quarter}
use Rattle.cc_meaning.specs.declared.value.Value.{Value}
use Rattle.cc_meaning.specs.Memory.{stored}
use Rattle.cc_meaning.specs.declared.layout.Layout.{Layout}
use Rattle.cc_meaning.specs.States.{State, memory_word, with_word}
use Rattle.cc_operations.specs.Operations.{lines}
use Rattle.cc_accesses.specs.Places.{addressed}
use Rattle.cc_accesses.specs.Unaligned as unaligned
use Rattle.cc_accesses.specs.Unaligned.{mask_taken, register_turned, merged_in_memory}
use Rattle.law_operations.specs.Runs.{ran, ran_lines, HoldsWords, ShowsValue, IsNamed}
use Rattle.law_accesses.specs.Memories.{IsData, KeepsData, Access, ShowsData, ShowsMemory}
use Rattle.law_accesses.specs.Masks.{ran_taking, HasTable, StoredMasked}
use Rattle.law_accesses.proofs.Data.{store_puts, put_other, shows_after}
use Rattle.law_accesses.proofs.Reaching.{Distinct, added_straight, quarter_is, located, in_data}
use Rattle.law_accesses.proofs.Parts.{turned}
use Rattle.law_accesses.proofs.PartLoads.{quarter_rest}
use Rattle.law_accesses.proofs.PartStores.{computed, negated}
use Rattle.law_accesses.proofs.Merging.{mask_at, joined, left_out, right_out, left_value_out, right_value_out}
use Rattle.law_accesses.proofs.Masking.{taking_straight, taking_parts, Addressed, addressed_at, whole, data_small, loads, Turns, Prepared, prepared}

-- ---- the register is turned

left_turned : (rs r k : ℕ) (bus : Bus) (t : Core) → HoldsWords t.regs → rs ≢ 26 → reg t.regs rs ≡ r → reg t.regs 1 % 4 ≡ k
    → Turns (turned r ((4 - k) % 4)) t (ran bus (register_turned rs StoreLeft) t)
left_turned rs r k bus t w ne e b =
    let some : Distinct 26 0 = omega arith in
    let c = computed bus 0 26 1 machine.Sub t w tt refl in
    let u = ran bus (Compute Sub 0 1 26 ∷ []) t in
    let d = computed bus rs 26 26 machine.Rotlb u c.words tt refl in
    let there : reg u.regs rs ≡ r = c.kept rs (λ q. absurd (ne q)) ∙ e in
    let by : reg u.regs 26 % 4 ≡ (4 - k) % 4 = ap (λ i. i % 4) (c.given some) ∙ negated (reg t.regs 1) k (w 1) b in
    record {
      second = d.given some ∙ ap₂ (λ i j. rotate_left w32 i (8 * j)) there by;
      kept = λ n i j. d.kept n (λ q. absurd (i q)) ∙ c.kept n (λ q. absurd (i q));
      md = d.md ∙ c.md;
      mem = d.mem ∙ c.mem;
      taken = d.taken ∙ c.taken;
      words = d.words;
    }

complemented : (x k : ℕ) → x < 2 ^ 32 → x % 4 ≡ k → (2 ^ 32 - 1 - x) % 4 ≡ 3 - k
complemented x k h e = omega arith

right_turned : (rs r k : ℕ) (bus : Bus) (t : Core) → HoldsWords t.regs → rs ≢ 26 → reg t.regs rs ≡ r → reg t.regs 1 % 4 ≡ k
    → Turns (turned r (3 - k)) t (ran bus (register_turned rs StoreRight) t)
right_turned rs r k bus t w ne e b =
    let some : Distinct 26 0 = omega arith in
    let c = computed bus 1 26 0 machine.Not t w tt refl in
    let u = ran bus (Not 1 26 ∷ []) t in
    let d = computed bus rs 26 26 machine.Rotlb u c.words tt refl in
    let there : reg u.regs rs ≡ r = c.kept rs (λ q. absurd (ne q)) ∙ e in
    let by : reg u.regs 26 % 4 ≡ 3 - k = ap (λ i. i % 4) (c.given some) ∙ complemented (reg t.regs 1) k (w 1) b in
    record {
      second = d.given some ∙ ap₂ (λ i j. rotate_left w32 i (8 * j)) there by;
      kept = λ n i j. d.kept n (λ q. absurd (i q)) ∙ c.kept n (λ q. absurd (i q));
      md = d.md ∙ c.md;
      mem = d.mem ∙ c.mem;
      taken = d.taken ∙ c.taken;
      words = d.words;
    }

-- ---- the word takes bits

-- r26 has what goes to the word with the number in r1
record Combines (number z : ℕ) (before after : Core) : Type 0 where
  pub first : reg after.regs 1 ≡ number
  pub second : reg after.regs 26 ≡ z
  pub kept : (n : ℕ) → n ≢ 1 → n ≢ 26 → n ≢ 27 → n ≢ 22 → reg after.regs n ≡ reg before.regs n
  pub md : after.md ≡ before.md
  pub mem : after.mem ≡ before.mem
  pub taken : after.taken ≡ before.taken
  pub words : HoldsWords after.regs

-- the word with the number in r1 goes to r22
found : (first : Option ℕ) (address y m : ℕ) (bus : Bus) (s t u : Core) → KeepsData bus → Addressed first address s t → IsData (address / 4)
    → s.mem (address / 4) < 2 ^ 32 → Prepared y m t u
    → let v = ran bus (Asr 1 2 1 ∷ Load (pos 0) 1 22 ∷ []) u in
    Combines (address / 4) y t v × ((reg v.regs 22 ≡ s.mem (address / 4)) × (reg v.regs 27 ≡ m))
found first address y m bus s t u keeps g d fits p =
    let n = address / 4 in
    let one : Distinct 1 0 = omega arith in
    let other : Distinct 22 0 = omega arith in
    let a : Distinct 26 1 = omega arith in
    let b : Distinct 27 1 = omega arith in
    let c : Distinct 1 22 = omega arith in
    let e : Distinct 26 22 = omega arith in
    let f : Distinct 27 22 = omega arith in
    let h : Distinct 1 26 = omega arith in
    let i : Distinct 1 27 = omega arith in
    let two : 2 ≤ 31 = omega arith in
    let q = computed bus 1 1 0 (machine.Asr 2) u p.words two refl in
    let v = ran bus (Asr 1 2 1 ∷ []) u in
    let at : reg v.regs 1 ≡ n = q.given one ∙ quarter_is (reg u.regs 1) (p.words 1) ∙ ap quarter (p.kept 1 h i) ∙ g.word in
    let same : v.mem n ≡ s.mem n = ap (λ k. k n) (q.mem ∙ p.mem ∙ g.mem) in
    let r = loads bus 1 22 n v keeps q.words at d (subst (λ w. w < 2 ^ 32) (sym same) fits) in (
      record {
        first = r.kept 1 (λ k. absurd (c k)) ∙ at;
        second = r.kept 26 (λ k. absurd (e k)) ∙ q.kept 26 (λ k. absurd (a k)) ∙ p.second;
        kept = λ j k l o x. r.kept j (λ z. absurd (x z)) ∙ q.kept j (λ z. absurd (k z)) ∙ p.kept j l o;
        md = r.md ∙ q.md ∙ p.md;
        mem = r.mem ∙ q.mem ∙ p.mem;
        taken = r.taken ∙ q.taken ∙ p.taken;
        words = r.words;
      },
      (r.given other ∙ same, r.kept 27 (λ k. absurd (f k)) ∙ q.kept 27 (λ k. absurd (b k)) ∙ p.third),
    )

-- and its bits that the mask does not have are joined to those of r26 that it has
combines : (number x y m : ℕ) (bus : Bus) (s t : Core) → Combines number y s t → reg t.regs 22 ≡ x → reg t.regs 27 ≡ m
    → Combines number (joined m y x) s (ran bus (Compute And 26 27 26 ∷ Compute Bic 22 27 22 ∷ Compute Or 26 22 26 ∷ []) t)
combines number x y m bus s t g e f =
    let some : Distinct 26 0 = omega arith in
    let other : Distinct 22 0 = omega arith in
    let apart : Distinct 22 26 = omega arith in
    let mask : Distinct 27 26 = omega arith in
    let one : Distinct 1 26 = omega arith in
    let two : Distinct 1 22 = omega arith in
    let c = computed bus 26 26 27 machine.And t g.words tt refl in
    let u = ran bus (Compute And 26 27 26 ∷ []) t in
    let d = computed bus 22 22 27 machine.Bic u c.words tt refl in
    let v = ran bus (Compute Bic 22 27 22 ∷ []) u in
    let i = computed bus 26 26 22 machine.Or v d.words tt refl in
    let high : reg v.regs 26 ≡ bit_and y m = d.kept 26 (λ q. absurd (apart (sym q))) ∙ c.given some ∙ ap₂ bit_and g.second f in
    let low : reg v.regs 22 ≡ bit_and x (2 ^ 32 - 1 - m) = d.given other
    ∙ ap₂ (λ j k. bit_and j (2 ^ 32 - 1 - k)) (c.kept 22 (λ q. absurd (apart q)) ∙ e) (c.kept 27 (λ q. absurd (mask q)) ∙ f) in
    record {
      first = i.kept 1 (λ q. absurd (one q)) ∙ d.kept 1 (λ q. absurd (two q)) ∙ c.kept 1 (λ q. absurd (one q)) ∙ g.first;
      second = i.given some ∙ ap₂ bit_or high low;
      kept = λ n j k l o. i.kept n (λ q. absurd (k q)) ∙ d.kept n (λ q. absurd (o q)) ∙ c.kept n (λ q. absurd (k q)) ∙ g.kept n j k l o;
      md = i.md ∙ d.md ∙ c.md ∙ g.md;
      mem = i.mem ∙ d.mem ∙ c.mem ∙ g.mem;
      taken = i.taken ∙ d.taken ∙ c.taken ∙ g.taken;
      words = i.words;
    }

-- the word goes to memory
goes : (first : Option ℕ) (address z : ℕ) (l : Layout) (a : State) (v : Value) (bus : Bus) (s t u : Core) → KeepsData bus
    → ShowsMemory l a s.mem → IsData (address / 4) → Addressed first address s t → Combines (address / 4) z t u → ShowsData v z
    → StoredMasked l (with_word a address v) (address / 4) s (ran bus (Store (pos 0) 1 26 ∷ []) u)
goes first address z l a v bus s t u keeps m d g c shown =
    let n = address / 4 in
    let none : 0 < 2 ^ 32 = omega arith in
    subst (StoredMasked l (with_word a address v) n s)
    (sym (store_puts bus 1 0 26 n u keeps none (ap (λ i. (i + 0) % 2 ^ 32) c.first ∙ whole n (data_small n d)) d))
    (record {
      shown = subst (λ mem. ShowsMemory l (with_word a address v) (put mem n (reg u.regs 26))) (sym (c.mem ∙ g.mem))
          (shows_after l a address v s.mem (reg u.regs 26) m (c.words 26) (subst (ShowsData v) (sym c.second) shown));
      others = λ i j. put_other u.mem n (reg u.regs 26) i j ∙ ap (λ mem. mem i) (c.mem ∙ g.mem);
      kept = λ i j k o q. c.kept i j k o q ∙ g.kept i j k;
      md = c.md ∙ g.md;
      taken = c.taken ∙ g.taken;
      words = c.words;
    })

-- ---- a whole store

abbrev Ends : (Word → ℕ) → Layout → Option ℕ → ℕ → ℕ → ℕ → Mask → State → ℕ → Bus → Core → Type 0
Ends held l first base bytes rs mask a number bus s =
    StoredMasked l a number s (ran_taking held bus (unaligned.stored first (Far base bytes) rs mask) s)

-- where the register was turned so
store_ends : (mask : Mask) (first : Option ℕ) (base bytes rs address y : ℕ) (held : Word → ℕ) (l : Layout) (a : State) (v : Value) (bus : Bus)
    (s : Core) → Access bus first (Far base bytes) address l a s → HasTable held mask s.mem
    → (let t = ran_lines bus (addressed first (Far base bytes)).lines s in Turns y t (ran bus (register_turned rs mask) t))
    → ShowsData v (joined (mask_at mask (address % 4)) y (s.mem (address / 4)))
    → Ends held l first base bytes rs mask (with_word a address v) (address / 4) bus s
store_ends mask first base bytes rs address y held l a v bus s x table c shown =
    let n = address / 4 in
    let k = address % 4 in
    let known = (addressed first (Far base bytes)).first in
    let within = (located (reg s.regs) (Far base bytes) address x.at (in_data l address x.within)).1.1 in
    let t = ran_lines bus (addressed first (Far base bytes)).lines s in
    let g = addressed_at first base bytes address l a bus s x in
    let p = prepared held bus mask y k t _ x.keeps (subst (HasTable held mask) (sym g.mem) table) (quarter_rest address) g.byte c in
    let f = found known address y (mask_at mask k) bus s t _ x.keeps g within (x.shown.words n within) p in
    let z = combines n (s.mem n) y (mask_at mask k) bus t _ f.0 f.1.0 f.1.1 in
    let code = taking_straight held bus (addressed first (Far base bytes)).lines
    (lines (register_turned rs mask) ++ (mask_taken mask ++ lines merged_in_memory)) s (added_straight first base bytes 1)
    ∙ taking_parts held bus mask (register_turned rs mask) merged_in_memory t in
    subst (StoredMasked l (with_word a address v) n s) (sym code)
    (goes known address (joined (mask_at mask k) y (s.mem n)) l a v bus s t _ x.keeps x.shown within g z shown)

pub left_store_stores : (first : Option ℕ) (base bytes rs address : ℕ) (held : Word → ℕ) (l : Layout) (a : State) (r v : Value) (bus : Bus) (s : Core)
    → Access bus first (Far base bytes) address l a s → IsNamed rs → HasTable held StoreLeft s.mem → ShowsData r (reg s.regs rs)
    → stored Left (address % 4) (memory_word a address) r ≡ Ok v
    → Ends held l first base bytes rs StoreLeft (with_word a address v) (address / 4) bus s
left_store_stores first base bytes rs address held l a r v bus s x named table shown e =
    let k = address % 4 in
    let n = address / 4 in
    let small = quarter_rest address in
    let fits = x.shown.words n (located (reg s.regs) (Far base bytes) address x.at (in_data l address x.within)).1.1 in
    let g = addressed_at first base bytes address l a bus s x in
    let c = left_turned rs (reg s.regs rs) k bus _ g.words named.1 (g.kept rs named.0 named.1) g.byte in
    store_ends StoreLeft first base bytes rs address _ held l a v bus s x table c
    (λ q. subst (ShowsValue v) (sym (left_out (s.mem n) (reg s.regs rs) k fits (x.words rs) small))
    (left_value_out (memory_word a address) r v (s.mem n) (reg s.regs rs) k fits (x.words rs) small e (x.shown.shown address x.within) shown))

pub right_store_stores : (first : Option ℕ) (base bytes rs address : ℕ) (held : Word → ℕ) (l : Layout) (a : State) (r v : Value) (bus : Bus) (s : Core)
    → Access bus first (Far base bytes) address l a s → IsNamed rs → HasTable held StoreRight s.mem → ShowsData r (reg s.regs rs)
    → stored Right (address % 4) (memory_word a address) r ≡ Ok v
    → Ends held l first base bytes rs StoreRight (with_word a address v) (address / 4) bus s
right_store_stores first base bytes rs address held l a r v bus s x named table shown e =
    let k = address % 4 in
    let n = address / 4 in
    let small = quarter_rest address in
    let fits = x.shown.words n (located (reg s.regs) (Far base bytes) address x.at (in_data l address x.within)).1.1 in
    let g = addressed_at first base bytes address l a bus s x in
    let c = right_turned rs (reg s.regs rs) k bus _ g.words named.1 (g.kept rs named.0 named.1) g.byte in
    store_ends StoreRight first base bytes rs address _ held l a v bus s x table c
    (λ q. subst (ShowsValue v) (sym (right_out (s.mem n) (reg s.regs rs) k fits (x.words rs) small))
    (right_value_out (memory_word a address) r v (s.mem n) (reg s.regs rs) k fits (x.words rs) small e (x.shown.shown address x.within) shown))
