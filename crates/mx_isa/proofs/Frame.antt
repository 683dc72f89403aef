-- Laws of the effect of an instruction, by its views. They are the only proofs by cases on an instruction.
use Rattle.std.proofs.Common.{◌≡◌, ◌≢◌, ℕ, ℤ, pos, negsuc, suc, ◌+◌, ◌^◌, ◌<◌, Bool, true, false, cond, ◌⊎◌, Option, Some, None, refl, sym, ap, ◌∙◌, arith, ⊎_elim, inl, inr}
use Rattle.std.specs.Prelude.{is_some}
use Rattle.std.specs.Int.{w32, cast_unsigned}
use Rattle.std.proofs.lemmas.Bool.{cases_eq, cases_Bool}
use Rattle.std.proofs.lemmas.Bool.Decides.{nat_tests}
use Rattle.mx_isa.specs.declared.inst.Op.{Op}
use Rattle.mx_isa.specs.declared.inst.Op.TheVariants.{Mstart, Mstep, Dstep}
use Rattle.mx_isa.specs.declared.inst.Special.TheVariants.{Md}
use Rattle.mx_isa.specs.declared.inst.Inst.{Inst}
use Rattle.mx_isa.specs.declared.inst.Inst.TheVariants.{Load, Store, Branch, Compute, Addi, MoveFrom, MoveTo, Jspci}
use Rattle.mx_isa.specs.Arithmetic.{word_of, result_of, md_after}
use Rattle.mx_isa.specs.Fields.{IsSignedField, InstFits}
use Rattle.mx_isa.specs.Words.{Words, put, reg, write}
use Rattle.mx_isa.specs.Effect.{Sent, Found, Change, unchanged, falls_through, op_uses_md, change, decides, Core, Bus, stored, or_kept, apply}
use Rattle.mx_isa.specs.Views.{sources, dest, reads_md, writes_md, named, reads, writes, Access, access, address, is_load, is_store, is_transfer}

-- two functions that agree everywhere are one
pub same_words : (f g : Words) → ((n : ℕ) → f n ≡ g n) → f ≡ g
same_words f g h = λ i n. h n i

pub write_write : (f : Words) (a x b y : ℕ) → (a ≡ b → a ≡ 0) → write (write f a x) b y ≡ write (write f b y) a x
write_write f a x b y h = same_words _ _ (λ n. grind (arith, nat_tests))

pub put_put : (f : Words) (a x b y : ℕ) → a ≢ b → put (put f a x) b y ≡ put (put f b y) a x
put_put f a x b y h = same_words _ _ (λ n. grind (arith, nat_tests))

pub reg_write : (f : Words) (d v n : ℕ) → (n ≡ d → n ≡ 0) → reg (write f d v) n ≡ reg f n
reg_write f d v n h = grind (arith, nat_tests)

pub reg_write_same : (f : Words) (d v : ℕ) → d ≢ 0 → reg (write f d v) d ≡ v
reg_write_same f d v h = grind (arith, nat_tests)

pub write_none : (f : Words) (v : ℕ) → write f 0 v ≡ f
write_none f v = refl

-- the registers that an instruction reads are alike
pub record SeesAlike (i : Inst) (r r' : Words) : Type 0 where
  pub first : reg r (sources i).0 ≡ reg r' (sources i).0
  pub second : reg r (sources i).1 ≡ reg r' (sources i).1

-- where a load reads, two memories answer the same
abbrev pub FindsAlike : Option Access → Words → (ℕ → Found) → (ℕ → Found) → Type 0
FindsAlike None r find find' = Unit {0}
FindsAlike (Some a) r find find' = a.stores ≡ false → find (address a r) ≡ find' (address a r)

-- an operation that does not read MD gives the same whatever it holds
result_same : (op : Op) (x y md md' : ℕ) → (op_uses_md op ≡ true → md ≡ md') → result_of op x y md ≡ result_of op x y md'
result_same Mstart x y md md' h = ap (result_of Mstart x y) (h refl)
result_same Mstep x y md md' h = ap (result_of Mstep x y) (h refl)
result_same Dstep x y md md' h = ap (result_of Dstep x y) (h refl)
result_same _ x y md md' h = refl

new_md : Op → ℕ → ℕ → ℕ → Option ℕ
new_md op x y md = cond (op_uses_md op) (Some (md_after op x y md)) None

new_md_same : (op : Op) (x y md md' : ℕ) → (op_uses_md op ≡ true → md ≡ md') → new_md op x y md ≡ new_md op x y md'
unfolding new_md
new_md_same Mstart x y md md' h = ap (new_md Mstart x y) (h refl)
new_md_same Mstep x y md md' h = ap (new_md Mstep x y) (h refl)
new_md_same Dstep x y md md' h = ap (new_md Dstep x y) (h refl)
new_md_same _ x y md md' h = refl

computes : ℕ → ℕ → Option ℕ → Change
computes d v m = record { dest = d; value = v; new_md = m; stores = None; takes = false }

-- an instruction that sees the same changes the same
pub change_same : (i : Inst) (at : ℕ) (r r' : Words) (md md' : ℕ) (find find' : ℕ → Found)
    → SeesAlike i r r' → (reads_md i ≡ true → md ≡ md') → FindsAlike (access i) r find find'
    → change i at r md find ≡ change i at r' md' find'
unfolding computes new_md
change_same (Load base d offset) at r r' md md' find find' s m l = let e = s.first in let g = l refl in cc
change_same (Store base v offset) at r r' md md' find find' s m l = let e = s.first in let f = s.second in cc
change_same (Branch a b condition squash by) at r r' md md' find find' s m l = refl
change_same (Compute a d b op) at r r' md md' find find' s m l =
    ap (λ x. computes d (result_of op x (reg r b) md) (new_md op x (reg r b) md)) s.first
    ∙ ap (λ y. computes d (result_of op (reg r' a) y md) (new_md op (reg r' a) y md)) s.second
    ∙ ap (λ v. computes d v (new_md op (reg r' a) (reg r' b) md)) (result_same op (reg r' a) (reg r' b) md md' m)
    ∙ ap (computes d (result_of op (reg r' a) (reg r' b) md')) (new_md_same op (reg r' a) (reg r' b) md md' m)
change_same (Addi a d imm) at r r' md md' find find' s m l = let e = s.first in cc
change_same (MoveFrom d Md) at r r' md md' find find' s m l = let g = m refl in cc
change_same (MoveTo a Md) at r r' md md' find find' s m l = let e = s.first in cc
change_same _ at r r' md md' find find' s m l = refl

-- and decides the same
pub decides_same : (i : Inst) (at : ℕ) (r r' : Words) → SeesAlike i r r' → decides i at r ≡ decides i at r'
decides_same (Branch a b condition squash by) at r r' s = let e = s.first in let f = s.second in cc
decides_same (Jspci a d imm) at r r' s = let e = s.first in cc
decides_same _ at r r' s = refl

-- only a transfer changes or decides by its own address
pub change_anywhere : (i : Inst) (at at' : ℕ) (r : Words) (md : ℕ) (find : ℕ → Found) → is_transfer i ≡ false → change i at r md find ≡ change i at' r md find
change_anywhere (Jspci a d imm) at at' r md find h = absurd (cc)
change_anywhere (MoveFrom d Md) at at' r md find h = refl
change_anywhere (MoveTo a Md) at at' r md find h = refl
change_anywhere _ at at' r md find h = refl

pub decides_anywhere : (i : Inst) (at : ℕ) (r : Words) → is_transfer i ≡ false → decides i at r ≡ falls_through
decides_anywhere (Branch a b condition squash by) at r h = absurd (cc)
decides_anywhere (Jspci a d imm) at r h = absurd (cc)
decides_anywhere _ at r h = refl

-- a change goes to the register that the instruction names, or to none
pub change_dest : (i : Inst) (at : ℕ) (r : Words) (md : ℕ) (find : ℕ → Found) → let d = (change i at r md find).dest in (d ≡ dest i) ⊎ (d ≡ 0)
change_dest (Load base d offset) at r md find = inl refl
change_dest (Compute a d b op) at r md find = inl refl
change_dest (Addi a d imm) at r md find = inl refl
change_dest (MoveFrom d Md) at r md find = inl refl
change_dest (MoveTo a Md) at r md find = inr refl
change_dest (Jspci a d imm) at r md find = inl refl
change_dest _ at r md find = inr refl

-- so what the instruction does not write is no register that the change goes to
pub change_unwritten : (i : Inst) (at : ℕ) (r : Words) (md : ℕ) (find : ℕ → Found) (n : ℕ) → n ≡ (change i at r md find).dest → writes i n ≡ false → n ≡ 0
change_unwritten i at r md find n e h = unwritten n (change i at r md find).dest (dest i) (writes_md i) (change_dest i at r md find) e h
  where
    unwritten : (n d w : ℕ) (m : Bool) → (d ≡ w) ⊎ (d ≡ 0) → n ≡ d → named w 0 m n ≡ false → n ≡ 0
    unwritten n d w m k e h = grind (arith, nat_tests)

-- MD changes exactly where the instruction writes it
pub change_md : (i : Inst) (at : ℕ) (r : Words) (md : ℕ) (find : ℕ → Found) → is_some (change i at r md find).new_md ≡ writes_md i
change_md (Compute a d b op) at r md find = ⊎_elim (λ e. cc) (λ e. cc) (cases_Bool (op_uses_md op))
change_md (MoveTo a Md) at r md find = refl
change_md (MoveFrom d Md) at r md find = refl
change_md _ at r md find = refl

none_of : (o : Option ℕ) → is_some o ≡ false → o ≡ None
none_of None h = refl
none_of (Some n) h = absurd (cc)

pub change_md_none : (i : Inst) (at : ℕ) (r : Words) (md : ℕ) (find : ℕ → Found) → writes_md i ≡ false → (change i at r md find).new_md ≡ None
change_md_none i at r md find h = none_of _ (change_md i at r md find ∙ h)

-- only a load takes a byte
pub change_takes : (i : Inst) (at : ℕ) (r : Words) (md : ℕ) (find : ℕ → Found) → is_load i ≡ false → (change i at r md find).takes ≡ false
change_takes (Load base d offset) at r md find h = absurd (cc)
change_takes (MoveTo a Md) at r md find h = refl
change_takes (MoveFrom d Md) at r md find h = refl
change_takes _ at r md find h = refl

-- a load gives what it finds, and takes a byte where that does
abbrev pub LoadsFrom : Option Access → Words → (ℕ → Found) → Change → Type 0
LoadsFrom None r find c = c.takes ≡ false
LoadsFrom (Some a) r find c = a.stores ≡ false → (c.value ≡ (find (address a r)).word) × (c.takes ≡ (find (address a r)).takes)

pub change_loads : (i : Inst) (at : ℕ) (r : Words) (md : ℕ) (find : ℕ → Found) → LoadsFrom (access i) r find (change i at r md find)
change_loads (Load base d offset) at r md find = λ h. (refl, refl)
change_loads (Store base v offset) at r md find = λ h. absurd (cc)
change_loads (MoveTo a Md) at r md find = refl
change_loads (MoveFrom d Md) at r md find = refl
change_loads _ at r md find = refl

-- the access of a load and of a store, and of no other
pub load_access : (i : Inst) → is_load i ≡ true → (a : Access) × (access i ≡ Some a) × (a.stores ≡ false)
load_access (Load base d offset) h = (record { stores = false; base = base; offset = offset }, refl, refl)
load_access _ h = absurd (cc)

pub store_access : (i : Inst) → is_store i ≡ true → (a : Access) × (access i ≡ Some a) × (a.stores ≡ true)
store_access (Store base v offset) h = (record { stores = true; base = base; offset = offset }, refl, refl)
store_access _ h = absurd (cc)

pub no_access : (i : Inst) → is_load i ≡ false → is_store i ≡ false → access i ≡ None
no_access (Load base d offset) h k = absurd (cc)
no_access (Store base v offset) h k = absurd (cc)
no_access _ h k = refl

-- what an instruction stores, by what it reaches
abbrev pub StoresAt : Option Access → Words → Option Sent → Type 0
StoresAt None r None = Unit {0}
StoresAt None r (Some p) = ⊥
StoresAt (Some a) r None = a.stores ≡ false
StoresAt (Some a) r (Some p) = (a.stores ≡ true) × (p.address ≡ address a r)

pub stores_at : (i : Inst) (at : ℕ) (r : Words) (md : ℕ) (find : ℕ → Found) → StoresAt (access i) r (change i at r md find).stores
stores_at (Load base d offset) at r md find = refl
stores_at (Store base v offset) at r md find = (refl, refl)
stores_at (MoveTo a Md) at r md find = tt
stores_at (MoveFrom d Md) at r md find = tt
stores_at _ at r md find = tt

-- a store sends its second source
pub stores_word : (i : Inst) (at : ℕ) (r : Words) (md : ℕ) (find : ℕ → Found) (p : Sent) → (change i at r md find).stores ≡ Some p
    → p.word ≡ reg r (sources i).1
stores_word (Store base v offset) at r md find p h = cc
stores_word (MoveTo a Md) at r md find p h = absurd (cc)
stores_word (MoveFrom d Md) at r md find p h = absurd (cc)
stores_word _ at r md find p h = absurd (cc)

-- reads are the two sources and MD
pub reads_first : (i : Inst) → (sources i).0 ≢ 0 → reads i (sources i).0 ≡ true
reads_first i h = grind (arith, nat_tests)

pub reads_second : (i : Inst) → (sources i).1 ≢ 0 → reads i (sources i).1 ≡ true
reads_second i h = grind (arith, nat_tests)

-- a register that is not read may change unseen
pub sees_alike : (i : Inst) (f : Words) (d v : ℕ) → ((n : ℕ) → reads i n ≡ true → n ≡ d → n ≡ 0) → SeesAlike i f (write f d v)
sees_alike i f d v h = record {
  first = one (sources i).0 (reads_first i);
  second = one (sources i).1 (reads_second i);
}
  where
    one : (n : ℕ) → (n ≢ 0 → reads i n ≡ true) → reg f n ≡ reg (write f d v) n
    one n k = ⊎_elim (λ e. grind (arith, nat_tests)) (λ ne. sym (reg_write f d v n (h n (k ne)))) (cases_eq n 0)

pub sees_same : (i : Inst) (r : Words) → SeesAlike i r r
sees_same i r = record { first = refl; second = refl }

-- an access's base is a source
pub base_read : (i : Inst) (a : Access) → access i ≡ Some a → a.base ≡ (sources i).0
base_read (Load base d offset) a h = cc
base_read (Store base v offset) a h = cc
base_read _ a h = absurd (cc)

pub kept_kept : (a b : Option ℕ) (m : ℕ) → (a ≡ None) ⊎ (b ≡ None) → or_kept b (or_kept a m) ≡ or_kept a (or_kept b m)
kept_kept None b m h = refl
kept_kept (Some x) None m h = refl
kept_kept (Some x) (Some y) m h = ⊎_elim (λ e. cc) (λ e. cc) h

pub core_same : (r r' : Words) (md md' : ℕ) (m m' : Words) (t t' : ℕ) → r ≡ r' → md ≡ md' → m ≡ m' → t ≡ t'
    → (let a : Core = record { regs = r; md = md; mem = m; taken = t } in let b : Core = record { regs = r'; md = md'; mem = m'; taken = t' } in a ≡ b)
core_same r r' md md' m m' t t' e f g k = λ i. record { regs = e i; md = f i; mem = g i; taken = k i }

taken_taken : (a b : Bool) (t : ℕ) → cond b (suc (cond a (suc t) t)) (cond a (suc t) t) ≡ cond a (suc (cond b (suc t) t)) (cond b (suc t) t)
taken_taken true true t = refl
taken_taken true false t = refl
taken_taken false true t = refl
taken_taken false false t = refl

-- two changes may change places where their registers differ, one leaves MD, and their stores may
pub apply_apply : (bus : Bus) (c d : Change) (s : Core) → (c.dest ≡ d.dest → c.dest ≡ 0) → (c.new_md ≡ None) ⊎ (d.new_md ≡ None)
    → stored bus d.stores (stored bus c.stores s.mem) ≡ stored bus c.stores (stored bus d.stores s.mem)
    → apply bus d (apply bus c s) ≡ apply bus c (apply bus d s)
apply_apply bus c d s h k l =
    core_same _ _ _ _ _ _ _ _ (write_write s.regs c.dest c.value d.dest d.value h) (kept_kept c.new_md d.new_md s.md k) l (taken_taken c.takes d.takes s.taken)

-- an instruction that changes nothing
pub apply_unchanged : (bus : Bus) (s : Core) → apply bus unchanged s ≡ s
apply_unchanged bus s = refl

-- offsets that fit
abbrev pub FitsIn : Option Access → Type 0
FitsIn None = Unit {0}
FitsIn (Some a) = IsSignedField 16 a.offset

pub fits_in : (i : Inst) → InstFits i → FitsIn (access i)
fits_in (Load base d offset) f = f
fits_in (Store base v offset) f = f
fits_in _ f = tt

-- different offsets that fit lead a register's value to different addresses
pub offset_apart : (r : ℕ) (o o' : ℤ) → IsSignedField 16 o → IsSignedField 16 o' → o ≢ o'
    → word_of (r + cast_unsigned w32 o) ≢ word_of (r + cast_unsigned w32 o')
offset_apart r (pos m) (pos n) f f' ne = λ e. let d : m ≢ n = λ q. ne (ap pos q) in absurd (omega arith)
offset_apart r (pos m) (negsuc n) f f' ne = λ e. absurd (omega arith)
offset_apart r (negsuc m) (pos n) f f' ne = λ e. absurd (omega arith)
offset_apart r (negsuc m) (negsuc n) f f' ne = λ e. let d : m ≢ n = λ q. ne (ap negsuc q) in absurd (omega arith)

pub apart_at : (a b : Access) (r : Words) → IsSignedField 16 a.offset → IsSignedField 16 b.offset → (a.base ≡ b.base) × (a.offset ≢ b.offset)
    → address a r ≢ address b r
apart_at a b r f g h = λ e. offset_apart (reg r a.base) a.offset b.offset f g h.1 (e ∙ ap (λ n. word_of (reg r n + cast_unsigned w32 b.offset)) (sym h.0))

-- an address is a word
pub address_small : (a : Access) (r : Words) → address a r < 2 ^ 32
address_small a r = omega arith

-- an address depends on its base alone
pub address_same : (a : Access) (r r' : Words) → reg r a.base ≡ reg r' a.base → address a r ≡ address a r'
address_same a r r' h = ap (λ n. word_of (n + cast_unsigned w32 a.offset)) h
