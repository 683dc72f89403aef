-- Whether two instructions are independent, and whether an edge leads from one to another, is decided.
use Rattle.std.proofs.Common.{◌≡◌, ℕ, zero, suc, ◌+◌, ◌<◌, ◌≤◌, Bool, true, false, ◌||◌, ◌⊎◌, List, length, Option, Some, None, refl, sym, ◌∙◌, subst, ⊎_elim, inl, inr, arith}
use Rattle.std.proofs.lemmas.Bool.{true≢false, false≢true, cases_lt, cases_eq, cases_Bool}
use Rattle.std.proofs.lemmas.Bool.Decides.{nat_tests, Decides-int_eq}
use Rattle.std.specs.Prelude.{ℤ}
use Rattle.std.specs.Ordering.{int_eq}
use Rattle.mx_isa.specs.declared.inst.Inst.{Inst}
use Rattle.mx_isa.specs.Views.{reads, writes, dest, writes_md, named, Access, access}
use Rattle.mx_depend.specs.Independence.{Apart, OtherWord, Independent}
use Rattle.mx_depend.specs.Graphs.{inst_at, IsEdge}

-- a fact holds or is refuted
abbrev pub Decided : Type 0 → Type 0
Decided P = P ⊎ (¬ P)

pub both : (P Q : Type 0) → Decided P → Decided Q → Decided (P × Q)
both P Q p q = ⊎_elim
    (λ yes. ⊎_elim (λ also. inl (yes, also)) (λ none. inr (λ h. none h.1)) q)
    (λ none. inr (λ h. none h.0))
    p

pub implied : (P Q : Type 0) → Decided P → Decided Q → Decided (P → Q)
implied P Q p q = ⊎_elim
    (λ yes. ⊎_elim (λ also. inl (λ h. also)) (λ none. inr (λ h. none (h yes))) q)
    (λ none. inl (λ h. absurd (none h)))
    p

pub refuted : (P : Type 0) → Decided P → Decided (¬ P)
refuted P p = ⊎_elim (λ yes. inr (λ none. none yes)) (λ none. inl none) p

-- what is decided at each number is decided of all below a bound
pub all_below : (P : ℕ → Type 0) (n : ℕ) → ((k : ℕ) → Decided (P k)) → Decided ((k : ℕ) → k < n → P k)
all_below P zero each = inl (λ k l. absurd (omega arith))
all_below P (suc n) each = ⊎_elim
    (λ rest. ⊎_elim
    (λ last. inl (λ k l. ⊎_elim (λ below. rest k below) (λ above. (let at : n ≡ k = omega arith in subst P at last)) (cases_lt k n)))
    (λ none. inr (λ h. none (h n (omega arith))))
    (each n))
    (λ none. inr (λ h. none (λ k l. h k (omega arith))))
    (all_below P n each)

pub bool_decided : (b c : Bool) → Decided (b ≡ c)
bool_decided true true = inl refl
bool_decided true false = inr true≢false
bool_decided false true = inr false≢true
bool_decided false false = inl refl

-- a set without names from a bound on is apart from another or not
apart_decided : (p q : ℕ → Bool) (m : ℕ) → ((n : ℕ) → m ≤ n → p n ≡ false) → Decided (Apart p q)
apart_decided p q m high = ⊎_elim
    (λ low. inl (λ n e. ⊎_elim (λ below. low n below e) (λ above. absurd (true≢false (sym e ∙ high n above))) (cases_lt n m)))
    (λ none. inr (λ h. none (λ n l e. h n e)))
    (all_below (λ n. p n ≡ true → q n ≡ false) m (λ n. implied _ _ (bool_decided (p n) true) (bool_decided (q n) false)))

few_written : (i : Inst) (n : ℕ) → dest i + 33 ≤ n → writes i n ≡ false
few_written i n l = by (dest i) (writes_md i) l
  where
    by : (d : ℕ) (b : Bool) → d + 33 ≤ n → named d 0 b n ≡ false
    by d b l = grind (arith, nat_tests)

integer_decided : (x y : ℤ) → Decided (x ≡ y)
integer_decided x y = ⊎_elim
    (λ t. inl ((Decides-int_eq x y).0 t))
    (λ f. inr (λ e. false≢true (sym f ∙ (Decides-int_eq x y).1 e)))
    (cases_Bool (int_eq x y))

other_decided : (input : Bool) (a b : Option Access) → Decided (OtherWord input a b)
other_decided input None b = inl tt
other_decided input (Some a) None = inl tt
other_decided input (Some a) (Some b) = implied _ _ (bool_decided ((a.stores || b.stores) || input) true)
    (both _ _ (cases_eq a.base b.base) (refuted _ (integer_decided a.offset b.offset)))

pub independent_decided : (x y : Inst) (input : Bool) → Decided (Independent x y input)
independent_decided x y input = ⊎_elim
    (λ h. inl (record { writes_reads = h.0; reads_writes = h.1.0; writes_writes = h.1.1.0; memory = h.1.1.1 }))
    (λ none. inr (λ i. none (i.writes_reads, (i.reads_writes, (i.writes_writes, i.memory)))))
    (both _ _ (apart_decided (writes x) (reads y) (dest x + 33) (few_written x))
    (both _ _ (apart_decided (writes y) (reads x) (dest y + 33) (few_written y))
    (both _ _ (apart_decided (writes x) (writes y) (dest x + 33) (few_written x)) (other_decided input (access x) (access y)))))

pub edge_decided : (insts : List Inst) (input : Bool) (x y : ℕ) → Decided (IsEdge insts input x y)
edge_decided insts input x y = ⊎_elim
    (λ later. ⊎_elim
    (λ within. ⊎_elim
    (λ free. inr (λ e. e.depends free))
    (λ depends. inl (record { later = later; within = within; depends = depends }))
    (independent_decided (inst_at insts x) (inst_at insts y) input))
    (λ past. inr (λ e. (let within = e.within in absurd (omega arith))))
    (cases_lt y (length insts)))
    (λ past. inr (λ e. (let later = e.later in absurd (omega arith))))
    (cases_lt x y)
