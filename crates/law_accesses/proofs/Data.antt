-- What single loads and stores do with words of data.
use Rattle.std.proofs.Common.{◌≡◌, ◌≢◌, ◌≤◌, ◌<◌, ◌^◌, ℕ, suc, ◌+◌, ◌/◌, ◌%◌, true, false, cond, List, length, ◌⊎◌, sym, ap, ◌∙◌, arith, subst, ⊎_elim, inl, inr, slice_set, get_or}
use Rattle.std.specs.Prelude.{nat_lt}
use Rattle.std.specs.Int.{w32, cast_signed}
use Rattle.std.proofs.lemmas.Bool.{cases_eq, cases_Bool}
use Rattle.std.proofs.lemmas.Bool.Decides.{nat_tests}
use Rattle.std.proofs.lemmas.List.{get_or-set_same, get_or-set_other, get_or_past, set_past}
use Rattle.mx_isa.specs.Words.{Words, put, reg, write}
use Rattle.mx_isa.specs.Effect.{Core, Bus, Found, act, offset_by}
use Rattle.mx_isa.specs.UserBus.{plain_word}
use Rattle.cc_emit.specs.declared.line.Plain.TheVariants.{Load, Store}
use Rattle.cc_meaning.specs.declared.value.Value.{Value}
use Rattle.cc_meaning.specs.declared.value.Value.TheVariants.{Number}
use Rattle.cc_meaning.specs.Values.{unspecified}
use Rattle.cc_meaning.specs.declared.layout.Layout.{Layout}
use Rattle.cc_meaning.specs.Layouts.{is_memory}
use Rattle.cc_meaning.specs.States.{State, with_word}
use Rattle.law_emit.specs.Statements.{instruction}
use Rattle.law_operations.specs.Runs.{HoldsWords, ShowsValue, Gives}
use Rattle.law_operations.proofs.Numbers.{addi_sum}
use Rattle.law_operations.proofs.Steps.{written}
use Rattle.law_accesses.specs.Memories.{IsData, KeepsData, ShowsData, ShowsMemory}

-- ---- a load

found_gives : (f : Found) (rd v : ℕ) (s : Core) → HoldsWords s.regs → v < 2 ^ 32 → f ≡ plain_word v
    → Gives rd (Number v) s (record s { regs = write s.regs rd f.word; taken = cond f.takes (suc s.taken) s.taken })
found_gives f rd v s h small e =
    subst (λ g. Gives rd (Number v) s (record s { regs = write s.regs rd g.word; taken = cond g.takes (suc s.taken) s.taken })) (sym e)
    (written rd v s h small)

-- the address of a load or a store
pub address_is : (s : Core) (base offset n : ℕ) → offset < 2 ^ 32 → (reg s.regs base + offset) % 2 ^ 32 ≡ n
    → offset_by s.regs base (cast_signed w32 offset) ≡ n
address_is s base offset n small e = addi_sum (reg s.regs base) offset small ∙ e

pub load_gives : (bus : Bus) (base offset rd n : ℕ) (s : Core) → KeepsData bus → HoldsWords s.regs → offset < 2 ^ 32
    → (reg s.regs base + offset) % 2 ^ 32 ≡ n → IsData n → s.mem n < 2 ^ 32
    → Gives rd (Number (s.mem n)) s (act bus (instruction (Load (cast_signed w32 offset) base rd)) 0 s.regs s)
load_gives bus base offset rd n s k h small e d fits =
    found_gives (bus.load s.mem s.taken (offset_by s.regs base (cast_signed w32 offset))) rd (s.mem n) s h fits
    (ap (bus.load s.mem s.taken) (address_is s base offset n small e) ∙ k.finds s.mem s.taken n d)

-- a register that has what shows a value shows it
pub gives_shown : (d : ℕ) (v : Value) (w : ℕ) (s t : Core) → ShowsValue v w → Gives d (Number w) s t → Gives d v s t
gives_shown d v w s t h g = record {
  given = λ ne. subst (ShowsValue v) (sym (g.given ne)) h;
  kept = g.kept;
  md = g.md;
  mem = g.mem;
  taken = g.taken;
  words = g.words;
}

-- ---- a store

-- a store leaves all but the word
pub store_puts : (bus : Bus) (base offset rs n : ℕ) (s : Core) → KeepsData bus → offset < 2 ^ 32
    → (reg s.regs base + offset) % 2 ^ 32 ≡ n → IsData n
    → act bus (instruction (Store (cast_signed w32 offset) base rs)) 0 s.regs s ≡ record s { mem = put s.mem n (reg s.regs rs) }
store_puts bus base offset rs n s k small e d =
    ap (λ m. record s { mem = m })
    (ap (λ x. bus.store s.mem x (reg s.regs rs)) (address_is s base offset n small e) ∙ k.takes s.mem n (reg s.regs rs) d)

pub put_same : (m : Words) (n v : ℕ) → put m n v n ≡ v
put_same m n v = grind (arith, nat_tests)

pub put_other : (m : Words) (n v i : ℕ) → i ≢ n → put m n v i ≡ m i
put_other m n v i h = grind (arith, nat_tests)

within_or_past : (n m : ℕ) → (n < m) ⊎ (m ≤ n)
within_or_past n m = ⊎_elim (λ e. inl (below n m e)) (λ e. inr (past n m e)) (cases_Bool (nat_lt n m))
  where
    below : (n m : ℕ) → nat_lt n m ≡ true → n < m
    below n m e = grind (arith, nat_tests)

    past : (n m : ℕ) → nat_lt n m ≡ false → m ≤ n
    past n m e = grind (arith, nat_tests)

-- the assembly's memory after a store, by the numbers of words
stored_same : (l : List Value) (n : ℕ) (v : Value)
    → (get_or (slice_set l n v) n unspecified ≡ v) ⊎ (get_or (slice_set l n v) n unspecified ≡ unspecified)
stored_same l n v =
    ⊎_elim (λ (h : n < length l). inl (get_or-set_same l n v unspecified h))
    (λ (h : length l ≤ n). inr (ap (λ k. get_or k n unspecified) (set_past l n v h) ∙ get_or_past l n unspecified h))
    (within_or_past n (length l))

-- a word of the assembly's memory, by its number
abbrev word_of : State → ℕ → Value
word_of a n = get_or a.memory n unspecified

-- data show a memory after one word of each is replaced
pub shows_after : (l : Layout) (a : State) (address : ℕ) (v : Value) (mem : Words) (w : ℕ) → ShowsMemory l a mem → w < 2 ^ 32 → ShowsData v w
    → ShowsMemory l (with_word a address v) (put mem (address / 4) w)
shows_after l a address v mem w m small h = record {
  shown = λ b d. ⊎_elim (same (b / 4)) (λ ne. other b d ne) (cases_eq (b / 4) n);
  words = λ i d. ⊎_elim (λ (e : i ≡ n). subst (λ x. x < 2 ^ 32) (sym (ap (put mem n w) e ∙ put_same mem n w)) small)
      (λ ne. subst (λ x. x < 2 ^ 32) (sym (put_other mem n w i ne)) (m.words i d)) (cases_eq i n);
}
  where
    n : ℕ
    n = address / 4

    after : State
    after = with_word a address v

    at : ShowsData (word_of after n) (put mem n w n)
    at = subst (ShowsData (word_of after n)) (sym (put_same mem n w))
        (⊎_elim (λ (e : word_of after n ≡ v). subst (λ x. ShowsData x w) (sym e) h)
        (λ (e : word_of after n ≡ unspecified). subst (λ x. ShowsData x w) (sym e) (λ q. (tt, tt, tt, tt)))
        (stored_same a.memory n v))

    same : (i : ℕ) → i ≡ n → ShowsData (word_of after i) (put mem n w i)
    same i e = subst (λ j. ShowsData (word_of after j) (put mem n w j)) (sym e) at

    other : (b : ℕ) → is_memory l b ≡ true → b / 4 ≢ n → ShowsData (word_of after (b / 4)) (put mem n w (b / 4))
    other b d ne = subst (ShowsData (word_of after (b / 4))) (sym (put_other mem n w (b / 4) ne))
        (subst (λ x. ShowsData x (mem (b / 4))) (sym (get_or-set_other a.memory n (b / 4) v unspecified ne)) (m.shown b d))
