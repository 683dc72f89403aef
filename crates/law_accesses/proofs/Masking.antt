-- Loads with a mask: lwl and lwr.
use Rattle.std.proofs.Common.{◌≡◌, ◌≢◌, ◌≤◌, ◌<◌, ◌^◌, ℕ, pos, suc, ◌+◌, ◌-◌, ◌*◌, ◌/◌, ◌%◌, true, cond, List, [], ◌∷◌, ◌++◌, Option, Ok, refl, sym, ap, ap₂, ◌∙◌, arith, subst}
use Rattle.std.specs.Prelude.{bit_and, bit_or}
use Rattle.std.specs.Int.{w32, cast_unsigned, rotate_left}
use Rattle.mx_isa.specs.Arithmetic.{funnel}
use Rattle.mx_isa.specs.UserBus.{plain_word}
use Rattle.mx_isa.specs.Words.{reg, write}
use Rattle.mx_isa.specs.Effect.{Core, Bus, Found, act, offset_by}
use Rattle.mx_isa.specs.declared.inst.Inst.TheVariants as inst
use Rattle.mx_isa.specs.declared.inst.Op.TheVariants as machine
use Rattle.mx_isa.proofs.Frame.{reg_write}
use Rattle.cc_lines.specs.declared.instruction.Width.TheVariants.{Left, Right}
use Rattle.cc_emit.specs.declared.line.Computed.TheVariants.{And, Bic}
use Rattle.cc_emit.specs.declared.line.Line.{Line}
use Rattle.cc_emit.specs.declared.line.Line.TheVariants.{Plain as PlainLine, Constant}
use Rattle.cc_emit.specs.declared.line.Mask.{Mask}
use Rattle.cc_emit.specs.declared.line.Mask.TheVariants.{LoadLeft, LoadRight, StoreLeft, StoreRight}
use Rattle.cc_emit.specs.declared.line.Plain.{Plain}
use Rattle.cc_emit.specs.declared.line.Plain.TheVariants.{Compute, Addi, Asr, Sh, Load}
use Rattle.cc_emit.specs.declared.line.Word.{Word}
use Rattle.cc_emit.specs.declared.line.Word.TheVariants.{Mask as MaskWord}
use Rattle.cc_plan.specs.declared.plan.Place.TheVariants.{Far}
use Rattle.cc_plan.specs.Places.{quarter}
use Rattle.cc_meaning.specs.declared.value.Value.{Value}
use Rattle.cc_meaning.specs.Memory.{loaded}
use Rattle.cc_meaning.specs.declared.layout.Layout.{Layout}
use Rattle.cc_meaning.specs.States.{State, memory_word}
use Rattle.cc_operations.specs.Operations.{lines}
use Rattle.cc_accesses.specs.Places.{addressed}
use Rattle.cc_accesses.specs.Unaligned as unaligned
use Rattle.cc_accesses.specs.Unaligned.{mask_taken, word_fetched, word_turned, merged}
use Rattle.law_emit.specs.Statements.{instruction}
use Rattle.law_operations.specs.Runs.{ran, ran_lines, HoldsWords, HoldsFirst, ShowsValue, IsNamed}
use Rattle.law_operations.proofs.Numbers.{added_leaves}
use Rattle.law_operations.proofs.Rest.{Sets, ran_only}
use Rattle.law_operations.proofs.Steps.{written}
use Rattle.law_accesses.specs.Memories.{IsData, KeepsData, Access, ShowsData}
use Rattle.law_accesses.specs.Masks.{ran_taking, HasTable, LeavesMasked}
use Rattle.law_accesses.proofs.Data.{load_gives}
use Rattle.law_accesses.proofs.Reaching.{Distinct, is_straight, plain_straight, added_straight, quarter_is, located, in_data}
use Rattle.law_accesses.proofs.Parts.{four_cases, turned}
use Rattle.law_accesses.proofs.PartLoads.{quarter_rest}
use Rattle.law_accesses.proofs.PartStores.{set_again, set_as, computed, told}
use Rattle.law_accesses.proofs.Merging.{mask_at, joined, left_in, right_in, left_value, right_value}

-- ---- lines before others

pub taking_straight : (held : Word → ℕ) (bus : Bus) (code rest : List Line) (s : Core) → is_straight code ≡ true
    → ran_taking held bus (code ++ rest) s ≡ ran_taking held bus rest (ran_lines bus code s)
taking_straight held bus [] rest s h = refl
taking_straight held bus (PlainLine plain ∷ code) rest s h = taking_straight held bus code rest (act bus (instruction plain) 0 s.regs s) h
taking_straight held bus (Constant value rd ∷ code) rest s h = taking_straight held bus code rest (record s { regs = write s.regs rd value }) h
taking_straight held bus (_ ∷ code) rest s h = absurd (cc)

pub taking_plain : (held : Word → ℕ) (bus : Bus) (code : List Plain) (rest : List Line) (s : Core)
    → ran_taking held bus (lines code ++ rest) s ≡ ran_taking held bus rest (ran bus code s)
taking_plain held bus code rest s =
    taking_straight held bus (lines code) rest s (plain_straight code) ∙ ap (ran_taking held bus rest) (ran_only bus code s)

pub taking_only : (held : Word → ℕ) (bus : Bus) (code : List Plain) (s : Core) → ran_taking held bus (lines code) s ≡ ran bus code s
taking_only held bus [] s = refl
taking_only held bus (plain ∷ code) s = taking_only held bus code (act bus (instruction plain) 0 s.regs s)

-- the number of a mask in its table, and the mask
abbrev pub counted : Bus → Core → Core
counted bus s = ran bus (Sh 0 1 2 27 ∷ Sh 27 0 30 27 ∷ []) s

abbrev pub took : (Word → ℕ) → Bus → Mask → Core → Core
took held bus mask s = act bus (inst.Load 27 27 (pos (held (MaskWord mask)))) 0 s.regs s

-- lines that prepare, those that take a mask, and others
pub taking_parts : (held : Word → ℕ) (bus : Bus) (mask : Mask) (code rest : List Plain) (s : Core)
    → ran_taking held bus (lines code ++ (mask_taken mask ++ lines rest)) s ≡ ran bus rest (took held bus mask (counted bus (ran bus code s)))
taking_parts held bus mask code rest s =
    taking_plain held bus code (mask_taken mask ++ lines rest) s
    ∙ taking_only held bus rest (took held bus mask (counted bus (ran bus code s)))

-- ---- the address in r1

pub record Addressed (first : Option ℕ) (address : ℕ) (before after : Core) : Type 0 where
  pub known : HoldsFirst first after.regs
  pub byte : reg after.regs 1 % 4 ≡ address % 4
  pub word : quarter (reg after.regs 1) ≡ address / 4
  pub kept : (n : ℕ) → n ≢ 1 → n ≢ 26 → reg after.regs n ≡ reg before.regs n
  pub md : after.md ≡ before.md
  pub mem : after.mem ≡ before.mem
  pub taken : after.taken ≡ before.taken
  pub words : HoldsWords after.regs

pub addressed_at : (first : Option ℕ) (base bytes address : ℕ) (l : Layout) (a : State) (bus : Bus) (s : Core)
    → Access bus first (Far base bytes) address l a s
    → Addressed (addressed first (Far base bytes)).first address s (ran_lines bus (addressed first (Far base bytes)).lines s)
addressed_at first base bytes address l a bus s x =
    let g = added_leaves first base bytes 1 bus s x.words x.known x.reachable.1 x.reachable.0.0 in
    let e = located (reg s.regs) (Far base bytes) address x.at (in_data l address x.within) in
    let one : Distinct 1 0 = omega arith in
    record {
      known = g.known;
      byte = ap (λ i. i % 4) (g.given one) ∙ e.1.0;
      word = ap quarter (g.given one) ∙ e.0;
      kept = λ n i j. g.kept n (λ q. absurd (i q)) i j;
      md = g.md;
      mem = g.mem;
      taken = g.taken;
      words = g.words;
    }

-- ---- single instructions

pub whole : (n : ℕ) → n < 2 ^ 32 → (n + 0) % 2 ^ 32 ≡ n
whole n h = omega arith

pub data_small : (n : ℕ) → IsData n → n < 2 ^ 32
data_small n d = let l = d.1 in let k : n < 65536 = l in omega arith

pub loads : (bus : Bus) (base rd n : ℕ) (s : Core) → KeepsData bus → HoldsWords s.regs → reg s.regs base ≡ n → IsData n → s.mem n < 2 ^ 32
    → Sets rd (s.mem n) s (ran bus (Load (pos 0) base rd ∷ []) s)
loads bus base rd n s k h e d fits =
    let none : 0 < 2 ^ 32 = omega arith in
    let g = load_gives bus base 0 rd n s k h none (ap (λ i. (i + 0) % 2 ^ 32) e ∙ whole n (data_small n d)) d fits in
    record { given = g.given; kept = λ i j. reg_write s.regs rd _ i j; md = g.md; mem = g.mem; taken = g.taken; words = g.words }

-- the word at the address
pub fetched_word : (first : Option ℕ) (address : ℕ) (bus : Bus) (s t : Core) → KeepsData bus → Addressed first address s t → IsData (address / 4)
    → s.mem (address / 4) < 2 ^ 32 → Sets 26 (s.mem (address / 4)) t (ran bus word_fetched t)
fetched_word first address bus s t k g d fits =
    let n = address / 4 in
    let two : 2 ≤ 31 = omega arith in
    let some : Distinct 26 0 = omega arith in
    let u = ran bus (Asr 1 2 26 ∷ []) t in
    let c = computed bus 1 26 0 (machine.Asr 2) t g.words two refl in
    let at : reg u.regs 26 ≡ n = c.given some ∙ quarter_is (reg t.regs 1) (g.words 1) ∙ g.word in
    let same : u.mem n ≡ s.mem n = ap (λ m. m n) (c.mem ∙ g.mem) in
    set_again 26 _ _ t u _ c (set_as 26 _ _ u _ same (loads bus 26 26 n u k c.words at d (subst (λ w. w < 2 ^ 32) (sym same) fits)))

-- r26 has a turned word, and r27 may have been written
pub record Turns (y : ℕ) (before after : Core) : Type 0 where
  pub second : reg after.regs 26 ≡ y
  pub kept : (n : ℕ) → n ≢ 26 → n ≢ 27 → reg after.regs n ≡ reg before.regs n
  pub md : after.md ≡ before.md
  pub mem : after.mem ≡ before.mem
  pub taken : after.taken ≡ before.taken
  pub words : HoldsWords after.regs

pub turns : (y : ℕ) (s t : Core) → Sets 26 y s t → Turns y s t
turns y s t g =
    let some : Distinct 26 0 = omega arith in
    record {
      second = g.given some;
      kept = λ n i j. g.kept n (λ q. absurd (i q));
      md = g.md;
      mem = g.mem;
      taken = g.taken;
      words = g.words;
    }

left_turned : (x k : ℕ) (bus : Bus) (t : Core) → reg t.regs 1 % 4 ≡ k → Sets 26 x t (ran bus word_fetched t)
    → Turns (turned x k) t (ran bus (word_turned LoadLeft) t)
left_turned x k bus t e g =
    let some : Distinct 26 0 = omega arith in
    let apart : Distinct 26 1 = omega arith in
    turns (turned x k) t _ (told 1 26 x k bus t _ some apart e g)

next_byte : (x k : ℕ) → x % 4 ≡ k → (x + 1) % 2 ^ 32 % 4 ≡ (k + 1) % 4
next_byte x k e = omega arith

right_turned : (x k : ℕ) (bus : Bus) (t : Core) → HoldsWords t.regs → reg t.regs 1 % 4 ≡ k → Sets 26 x t (ran bus word_fetched t)
    → Turns (turned x ((k + 1) % 4)) t (ran bus (word_turned LoadRight) t)
right_turned x k bus t w e g =
    let some : Distinct 26 0 = omega arith in
    let third : Distinct 27 0 = omega arith in
    let apart : Distinct 1 26 = omega arith in
    let other : Distinct 26 27 = omega arith in
    let u = ran bus word_fetched t in
    let v = ran bus (Addi 1 (pos 1) 27 ∷ []) u in
    let c = added_one bus u g.words in
    let d = computed bus 26 26 27 machine.Rotlb v c.words tt refl in
    let there : reg v.regs 26 ≡ x = c.kept 26 (λ q. absurd (other q)) ∙ g.given some in
    let by : reg v.regs 27 % 4 ≡ (k + 1) % 4 =
    ap (λ i. i % 4) (c.given third) ∙ next_byte (reg u.regs 1) k (ap (λ i. i % 4) (g.kept 1 (λ q. absurd (apart q))) ∙ e) in
    record {
      second = d.given some ∙ ap₂ (λ i j. rotate_left w32 i (8 * j)) there by;
      kept = λ n i j. d.kept n (λ q. absurd (i q)) ∙ c.kept n (λ q. absurd (j q)) ∙ g.kept n (λ q. absurd (i q));
      md = d.md ∙ c.md ∙ g.md;
      mem = d.mem ∙ c.mem ∙ g.mem;
      taken = d.taken ∙ c.taken ∙ g.taken;
      words = d.words;
    }
  where
    added_one : (bus : Bus) (u : Core) → HoldsWords u.regs
        → Sets 27 ((reg u.regs 1 + 1) % 2 ^ 32) u (ran bus (Addi 1 (pos 1) 27 ∷ []) u)
    added_one bus u w =
        let small : (reg u.regs 1 + 1) % 2 ^ 32 < 2 ^ 32 = omega arith in
        let g = written 27 ((reg u.regs 1 + 1) % 2 ^ 32) u w small in
        record { given = g.given; kept = λ i j. reg_write u.regs 27 _ i j; md = g.md; mem = g.mem; taken = g.taken; words = g.words }

-- ---- the mask

low_two : (x : ℕ) → funnel 30 (funnel 2 0 x) 0 ≡ x % 4
low_two x = omega arith

counted_sets : (k : ℕ) (bus : Bus) (s : Core) → HoldsWords s.regs → reg s.regs 1 % 4 ≡ k → Sets 27 k s (counted bus s)
counted_sets k bus s w e =
    let some : Distinct 27 0 = omega arith in
    let two : 2 ≤ 31 = omega arith in
    let thirty : 30 ≤ 31 = omega arith in
    let c = computed bus 0 27 1 (machine.Sh 2) s w two refl in
    let t = ran bus (Sh 0 1 2 27 ∷ []) s in
    let d = computed bus 27 27 0 (machine.Sh 30) t c.words thirty refl in
    set_again 27 _ k s t _ c (set_as 27 _ k t _ (ap (λ i. funnel 30 i 0) (c.given some) ∙ low_two (reg s.regs 1) ∙ e) d)

at_number : (x h k : ℕ) → x ≡ k → h + k < 2 ^ 32 → (x + cast_unsigned w32 (pos h)) % 2 ^ 32 ≡ h + k
at_number x h k e l = omega arith

taken_word : (f : Found) (v : ℕ) (s : Core) → HoldsWords s.regs → v < 2 ^ 32 → f ≡ plain_word v
    → Sets 27 v s (record s { regs = write s.regs 27 f.word; taken = cond f.takes (suc s.taken) s.taken })
taken_word f v s h small e =
    subst (λ g. Sets 27 v s (record s { regs = write s.regs 27 g.word; taken = cond g.takes (suc s.taken) s.taken })) (sym e)
    (let g = written 27 v s h small in
    record { given = g.given; kept = λ i j. reg_write s.regs 27 v i j; md = g.md; mem = g.mem; taken = g.taken; words = g.words })

-- the masks are words
mask_small : (mask : Mask) (k : ℕ) → k < 4 → mask_at mask k < 2 ^ 32
mask_small LoadLeft k small = four_cases (λ k. mask_at LoadLeft k < 2 ^ 32) (omega arith) (omega arith) (omega arith) (omega arith) k small
mask_small LoadRight k small = four_cases (λ k. mask_at LoadRight k < 2 ^ 32) (omega arith) (omega arith) (omega arith) (omega arith) k small
mask_small StoreLeft k small = four_cases (λ k. mask_at StoreLeft k < 2 ^ 32) (omega arith) (omega arith) (omega arith) (omega arith) k small
mask_small StoreRight k small = four_cases (λ k. mask_at StoreRight k < 2 ^ 32) (omega arith) (omega arith) (omega arith) (omega arith) k small

took_sets : (held : Word → ℕ) (bus : Bus) (mask : Mask) (k : ℕ) (s : Core) → KeepsData bus → HoldsWords s.regs → HasTable held mask s.mem
    → k < 4 → reg s.regs 27 ≡ k → Sets 27 (mask_at mask k) s (took held bus mask s)
took_sets held bus mask k s keeps w table small e =
    let h = held (MaskWord mask) in
    let t = table k small in
    let at : offset_by s.regs 27 (pos h) ≡ h + k = at_number (reg s.regs 27) h k e (data_small (h + k) t.0) in
    taken_word (bus.load s.mem s.taken (offset_by s.regs 27 (pos h))) (mask_at mask k) s w (mask_small mask k small)
    (ap (bus.load s.mem s.taken) at ∙ keeps.finds s.mem s.taken (h + k) t.0 ∙ ap plain_word t.1)

-- r26 has a turned word, and r27 a mask
pub record Prepared (y m : ℕ) (before after : Core) : Type 0 where
  pub second : reg after.regs 26 ≡ y
  pub third : reg after.regs 27 ≡ m
  pub kept : (n : ℕ) → n ≢ 26 → n ≢ 27 → reg after.regs n ≡ reg before.regs n
  pub md : after.md ≡ before.md
  pub mem : after.mem ≡ before.mem
  pub taken : after.taken ≡ before.taken
  pub words : HoldsWords after.regs

pub prepared : (held : Word → ℕ) (bus : Bus) (mask : Mask) (y k : ℕ) (s t : Core) → KeepsData bus → HasTable held mask s.mem → k < 4
    → reg s.regs 1 % 4 ≡ k → Turns y s t → Prepared y (mask_at mask k) s (took held bus mask (counted bus t))
prepared held bus mask y k s t keeps table small e g =
    let third : Distinct 27 0 = omega arith in
    let other : Distinct 26 27 = omega arith in
    let one : Distinct 1 26 = omega arith in
    let two : Distinct 1 27 = omega arith in
    let c = counted_sets k bus t g.words (ap (λ i. i % 4) (g.kept 1 one two) ∙ e) in
    let d = took_sets held bus mask k (counted bus t) keeps c.words (subst (HasTable held mask) (sym (c.mem ∙ g.mem)) table) small (c.given third) in
    record {
      second = d.kept 26 (λ q. absurd (other q)) ∙ c.kept 26 (λ q. absurd (other q)) ∙ g.second;
      third = d.given third;
      kept = λ n i j. d.kept n (λ q. absurd (j q)) ∙ c.kept n (λ q. absurd (j q)) ∙ g.kept n i j;
      md = d.md ∙ c.md ∙ g.md;
      mem = d.mem ∙ c.mem ∙ g.mem;
      taken = d.taken ∙ c.taken ∙ g.taken;
      words = d.words;
    }

-- ---- the register takes bits

record Merges (rd z : ℕ) (before after : Core) : Type 0 where
  pub given : rd ≢ 0 → reg after.regs rd ≡ z
  pub kept : (n : ℕ) → (n ≡ rd → n ≡ 0) → n ≢ 26 → n ≢ 27 → reg after.regs n ≡ reg before.regs n
  pub md : after.md ≡ before.md
  pub mem : after.mem ≡ before.mem
  pub taken : after.taken ≡ before.taken
  pub words : HoldsWords after.regs

merges : (rd r y m : ℕ) (bus : Bus) (s t : Core) → rd ≢ 26 → rd ≢ 27 → reg s.regs rd ≡ r → Prepared y m s t
    → Merges rd (joined m r y) s (ran bus (merged rd) t)
merges rd r y m bus s t second third e g =
    let some : Distinct 26 0 = omega arith in
    let other : Distinct 27 26 = omega arith in
    let c = computed bus rd rd 27 machine.And t g.words tt refl in
    let u = ran bus (Compute And rd 27 rd ∷ []) t in
    let y' : reg u.regs 26 ≡ y = c.kept 26 (λ q. absurd (second (sym q))) ∙ g.second in
    let m' : reg u.regs 27 ≡ m = c.kept 27 (λ q. absurd (third (sym q))) ∙ g.third in
    let d = computed bus 26 26 27 machine.Bic u c.words tt refl in
    let v = ran bus (Compute Bic 26 27 26 ∷ []) u in
    let low : reg v.regs 26 ≡ bit_and y (2 ^ 32 - 1 - m) = d.given some ∙ ap₂ (λ i j. bit_and i (2 ^ 32 - 1 - j)) y' m' in
    let i = computed bus rd rd 26 machine.Or v d.words tt refl in
    record {
      given = λ ne. i.given ne
          ∙ ap₂ bit_or (d.kept rd (λ q. absurd (second q)) ∙ c.given ne ∙ ap₂ bit_and (g.kept rd second third ∙ e) g.third) low;
      kept = λ n j k l. i.kept n j ∙ d.kept n (λ q. absurd (k q)) ∙ c.kept n j ∙ g.kept n k l;
      md = i.md ∙ d.md ∙ c.md ∙ g.md;
      mem = i.mem ∙ d.mem ∙ c.mem ∙ g.mem;
      taken = i.taken ∙ d.taken ∙ c.taken ∙ g.taken;
      words = i.words;
    }

-- ---- a whole load

masked : (first : Option ℕ) (address rd z : ℕ) (v : Value) (s t u : Core) → rd ≢ 1 → Addressed first address s t → Merges rd z t u
    → ShowsValue v z → LeavesMasked rd v first s u
masked first address rd z v s t u ne g h shown =
    let second : Distinct 1 26 = omega arith in
    let third : Distinct 1 27 = omega arith in
    record {
      given = λ some. subst (ShowsValue v) (sym (h.given some)) shown;
      known = λ n e. h.kept 1 (λ q. absurd (ne (sym q))) second third ∙ g.known n e;
      kept = λ n i j k l. h.kept n i k l ∙ g.kept n j k;
      md = h.md ∙ g.md;
      mem = h.mem ∙ g.mem;
      taken = h.taken ∙ g.taken;
      words = h.words;
    }

abbrev Ends : (Word → ℕ) → Option ℕ → ℕ → ℕ → ℕ → Mask → Value → Bus → Core → Type 0
Ends held first base bytes rd mask v bus s =
    LeavesMasked rd v (addressed first (Far base bytes)).first s (ran_taking held bus (unaligned.loaded first (Far base bytes) rd mask) s)

-- where the word was turned so
load_ends : (mask : Mask) (first : Option ℕ) (base bytes rd address y : ℕ) (held : Word → ℕ) (l : Layout) (a : State) (v : Value) (bus : Bus)
    (s : Core) → Access bus first (Far base bytes) address l a s → IsNamed rd → rd ≢ 27 → HasTable held mask s.mem
    → (let t = ran_lines bus (addressed first (Far base bytes)).lines s in Turns y t (ran bus (word_turned mask) t))
    → ShowsValue v (joined (mask_at mask (address % 4)) (reg s.regs rd) y) → Ends held first base bytes rd mask v bus s
load_ends mask first base bytes rd address y held l a v bus s x named ne table c shown =
    let k = address % 4 in
    let known = (addressed first (Far base bytes)).first in
    let t = ran_lines bus (addressed first (Far base bytes)).lines s in
    let g = addressed_at first base bytes address l a bus s x in
    let d = prepared held bus mask y k t _ x.keeps (subst (HasTable held mask) (sym g.mem) table) (quarter_rest address) g.byte c in
    let m = merges rd (reg s.regs rd) y (mask_at mask k) bus t _ named.1 ne (g.kept rd named.0 named.1) d in
    let code = taking_straight held bus (addressed first (Far base bytes)).lines
    (lines (word_turned mask) ++ (mask_taken mask ++ lines (merged rd))) s (added_straight first base bytes 1)
    ∙ taking_parts held bus mask (word_turned mask) (merged rd) t in
    subst (LeavesMasked rd v known s) (sym code) (masked known address rd _ v s t _ named.0 g m shown)

pub left_load_leaves : (first : Option ℕ) (base bytes rd address : ℕ) (held : Word → ℕ) (l : Layout) (a : State) (old v : Value) (bus : Bus) (s : Core)
    → Access bus first (Far base bytes) address l a s → IsNamed rd → rd ≢ 27 → HasTable held LoadLeft s.mem → ShowsData old (reg s.regs rd)
    → loaded Left (address % 4) (memory_word a address) old ≡ Ok v → Ends held first base bytes rd LoadLeft v bus s
left_load_leaves first base bytes rd address held l a old v bus s x named ne table shown e =
    let k = address % 4 in
    let n = address / 4 in
    let small = quarter_rest address in
    let within = (located (reg s.regs) (Far base bytes) address x.at (in_data l address x.within)).1.1 in
    let fits = x.shown.words n within in
    let t = ran_lines bus (addressed first (Far base bytes)).lines s in
    let g = addressed_at first base bytes address l a bus s x in
    let c = left_turned (s.mem n) k bus t g.byte (fetched_word _ address bus s t x.keeps g within fits) in
    load_ends LoadLeft first base bytes rd address _ held l a v bus s x named ne table c
    (subst (ShowsValue v) (sym (left_in (s.mem n) (reg s.regs rd) k fits small))
    (left_value (memory_word a address) old v (s.mem n) (reg s.regs rd) k fits small e (x.shown.shown address x.within) shown))

pub right_load_leaves : (first : Option ℕ) (base bytes rd address : ℕ) (held : Word → ℕ) (l : Layout) (a : State) (old v : Value) (bus : Bus) (s : Core)
    → Access bus first (Far base bytes) address l a s → IsNamed rd → rd ≢ 27 → HasTable held LoadRight s.mem → ShowsData old (reg s.regs rd)
    → loaded Right (address % 4) (memory_word a address) old ≡ Ok v → Ends held first base bytes rd LoadRight v bus s
right_load_leaves first base bytes rd address held l a old v bus s x named ne table shown e =
    let k = address % 4 in
    let n = address / 4 in
    let small = quarter_rest address in
    let within = (located (reg s.regs) (Far base bytes) address x.at (in_data l address x.within)).1.1 in
    let fits = x.shown.words n within in
    let t = ran_lines bus (addressed first (Far base bytes)).lines s in
    let g = addressed_at first base bytes address l a bus s x in
    let c = right_turned (s.mem n) k bus t g.words g.byte (fetched_word _ address bus s t x.keeps g within fits) in
    load_ends LoadRight first base bytes rd address _ held l a v bus s x named ne table c
    (subst (ShowsValue v) (sym (right_in (s.mem n) (reg s.regs rd) k fits (x.words rd) small))
    (right_value (memory_word a address) old v (s.mem n) (reg s.regs rd) k fits (x.words rd) small e
    (x.shown.shown address x.within) shown))
