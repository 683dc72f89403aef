-- One statement of a body. The invariant is `core_of`: the words of what the meaning holds, places of code being their addresses.
-- A statement that is not stuck takes it to what its instruction does, with the same byte and a lawful access (`body_step`).
use Rattle.std.proofs.Common.{◌≡◌, ℕ, ℤ, suc, ◌+◌, ◌%◌, ◌^◌, ◌<◌, Bool, true, false, cond, eqb, ◌&&◌, ◌||◌, ◌⊎◌, Option, Some, None, refl, sym, ap, ◌∙◌, subst, arith, ⊎_elim, inl, inr}
use Rattle.std.specs.Prelude.{is_some}
use Rattle.std.proofs.lemmas.Bool.{eqb-true, or_parts, false≢true}
use Rattle.std.proofs.lemmas.Bool.Decides.{nat_tests}
use Rattle.mx_isa.specs.declared.inst.Op.{Op}
use Rattle.mx_isa.specs.declared.inst.Op.TheVariants.{Add}
use Rattle.mx_isa.specs.declared.inst.Inst.{Inst}
use Rattle.mx_isa.specs.declared.inst.Inst.TheVariants.{Load, Store, Compute, Addi, MoveFrom, MoveTo}
use Rattle.mx_isa.specs.Arithmetic.{word_of}
use Rattle.mx_isa.specs.Words.{Words, put, reg, write}
use Rattle.mx_isa.specs.Effect.{Sent, Found, Change, Core, Bus, change, offset_by, stored, sent, or_kept, act}
use Rattle.mx_isa.specs.Views.{sources, Access, access, address}
use Rattle.mx_isa.specs.UserBus.{is_user, user_bus, plain_word, from_input}
use Rattle.mx_isa.proofs.Frame.{same_words, SeesAlike, change_same, core_same}
use Rattle.mx_delay.specs.Delay.{user_byte}
use Rattle.mx_delay.specs.Clean.{is_lawful}
use Rattle.mx_source.specs.declared.statement.Value.{Value}
use Rattle.mx_source.specs.declared.statement.Value.TheVariants.{Int, Code}
use Rattle.mx_source.specs.declared.statement.Why.{Why}
use Rattle.mx_source.specs.declared.statement.Why.TheVariants.{CodeOperand, LoadOutside, StoreOutside, CodeToConsole}
use Rattle.mx_source.specs.Values.{Values, value_in, put_value, write_value, is_code, word_in, words_in, passed_on}
use Rattle.mx_source.specs.Statements.{IsPlain as IsPlainStatement}
use Rattle.mx_source.specs.Meaning.{Program, State, copies, operands, any_code, why_access, why_plain, passed, store_value, done}
use Rattle.mx_link.specs.Words.{value_word}

some_none : (w : Why) → Some w ≡ None → ⊥
some_none w e = cc

no_operand : (b : Bool) (o : Option Why) → cond b (Some CodeOperand) o ≡ None → (b ≡ false) × (o ≡ None)
no_operand true o h = absurd (some_none CodeOperand h)
no_operand false o h = (refl, h)

-- an instruction that is not stuck has words where it must, and a lawful access
pub record NotStuck (p : Program) (i : Inst) (r : Values) : Type 0 where
  pub words : any_code r (operands i) ≡ false
  pub lawful : why_access p (access i) (words_in r) (value_in r (sources i).1) ≡ None

pub not_stuck : (p : Program) (i : Inst) (r : Values) → why_plain p i r ≡ None → NotStuck p i r
not_stuck p i r h =
    let o = no_operand (any_code r (operands i)) (why_access p (access i) (words_in r) (value_in r (sources i).1)) h in
    record { words = o.0; lawful = o.1 }

lawful_bools :
    (stores console user input code : Bool) → cond stores (cond console (cond code (Some CodeToConsole) None) (cond user None (Some StoreOutside)))
    (cond (user || input) None (Some LoadOutside)) ≡ None → (user || cond stores console input) ≡ true
lawful_bools stores console true input code h = refl
lawful_bools true true false input code h = refl
lawful_bools true false false input code h = absurd (some_none StoreOutside h)
lawful_bools false console false true code h = refl
lawful_bools false console false false code h = absurd (some_none LoadOutside h)

lawful_access : (p : Program) (a : Option Access) (r : Words) (v : Value) → why_access p a r v ≡ None → is_lawful p.place p.input a r ≡ true
lawful_access p None r v h = refl
lawful_access p (Some a) r v h =
    lawful_bools a.stores (eqb (address a r) p.place.console) (is_user p.place (address a r)) (is_some p.input && eqb (address a r) p.place.input) (is_code v) h

-- a place of code is not sent to the console
no_code_sent :
    (console code user : Bool) → cond console (cond code (Some CodeToConsole) None) (cond user None (Some StoreOutside)) ≡ None → console ≡ true
    → code ≡ false
no_code_sent true true user h e = absurd (some_none CodeToConsole h)
no_code_sent true false user h e = refl
no_code_sent false code user h e = absurd (false≢true e)

module _ (link : ℕ → ℕ) where
  abbrev pub linked : Value → ℕ
  linked v = value_word link v

  abbrev pub linked_all : Values → Words
  linked_all f n = linked (f n)

  -- the words of a state, places of code being their addresses
  abbrev pub core_of : State → Core
  core_of s = record { regs = linked_all s.regs; md = s.md; mem = linked_all s.mem; taken = s.taken }

  pub linked_write : (f : Values) (d : ℕ) (v : Value) → linked_all (write_value f d v) ≡ write (linked_all f) d (linked v)
  linked_write f d v = same_words _ _ (λ n. grind (arith, nat_tests))

  linked_put : (f : Values) (d : ℕ) (v : Value) → linked_all (put_value f d v) ≡ put (linked_all f) d (linked v)
  linked_put f d v = same_words _ _ (λ n. grind (arith, nat_tests))

  linked_cond : (b : Bool) (f g : Values) → linked_all (cond b f g) ≡ cond b (linked_all f) (linked_all g)
  linked_cond true f g = refl
  linked_cond false f g = refl

  -- a word in a register is seen as it is
  pub word_linked : (v : Value) → is_code v ≡ false → word_in v ≡ linked v
  word_linked (Int w) h = refl
  word_linked (Code i) h = absurd (false≢true (sym h))

  linked_if : (b : Bool) (u v : Value) → linked (cond b u v) ≡ cond b (linked u) (linked v)
  linked_if true u v = refl
  linked_if false u v = refl

  pub linked_value : (r : Values) (n : ℕ) → linked (value_in r n) ≡ reg (linked_all r) n
  linked_value r n = linked_if (eqb n 0) (Int 0) (r n)

  word_if : (b : Bool) (u v : Value) → word_in (cond b u v) ≡ cond b (word_in u) (word_in v)
  word_if true u v = refl
  word_if false u v = refl

  pub word_value : (r : Values) (n : ℕ) → word_in (value_in r n) ≡ reg (words_in r) n
  word_value r n = word_if (eqb n 0) (Int 0) (r n)

  pub word_seen : (r : Values) (n : ℕ) → is_code (value_in r n) ≡ false → reg (words_in r) n ≡ reg (linked_all r) n
  word_seen r n h = sym (word_value r n) ∙ word_linked (value_in r n) h ∙ linked_value r n

  -- a value that is passed on with the word that is computed from it
  passed_word : (v : Value) → linked (passed_on v (word_in v)) ≡ linked v
  passed_word (Int w) = refl
  passed_word (Code i) = refl

  passed_reg : (r : Values) (n : ℕ) → linked (passed_on (value_in r n) (reg (words_in r) n)) ≡ reg (linked_all r) n
  passed_reg r n = ap (λ w. linked (passed_on (value_in r n) w)) (sym (word_value r n)) ∙ passed_word (value_in r n) ∙ linked_value r n

  -- what is stored, with the value that is passed on, is the word that is stored
  abbrev StoresAlike : Value → Option Sent → Option Sent → Type 0
  StoresAlike v None None = Unit {0}
  StoresAlike v (Some s) (Some t) = (s.address ≡ t.address) × (linked (passed_on v s.word) ≡ t.word)
  StoresAlike v _ _ = ⊥

  -- a change of values is a change of words
  pub record Alike (bus : Bus) (v : Value) (c d : Change) : Type 0 where
    pub dest : c.dest ≡ d.dest
    pub value : (c.dest ≡ 0) ⊎ (linked (passed_on v c.value) ≡ d.value)
    pub md : c.new_md ≡ d.new_md
    pub stores : StoresAlike v c.stores d.stores
    pub takes : c.takes ≡ d.takes
    pub byte : sent bus c.stores ≡ sent bus d.stores

  stores_self : (o : Option Sent) → StoresAlike (Int 0) o o
  stores_self None = tt
  stores_self (Some s) = (refl, refl)

  alike_same : (bus : Bus) (c d : Change) → c ≡ d → Alike bus (Int 0) c d
  alike_same bus c d e = record {
    dest = ap (λ (x : Change). x.dest) e;
    value = inr (ap (λ (x : Change). x.value) e);
    md = ap (λ (x : Change). x.new_md) e;
    stores = subst (λ (x : Change). StoresAlike (Int 0) c.stores x.stores) e (stores_self c.stores);
    takes = ap (λ (x : Change). x.takes) e;
    byte = ap (λ (x : Change). sent bus x.stores) e;
  }

  module _ (p : Program) (short : (i : ℕ) → link i < 2 ^ 32) where
    abbrev bus : Bus
    bus = user_bus p.place p.input

    -- what a statement's instruction does to the words of its values, and to their links
    abbrev by_words : Inst → State → Change
    by_words i s = change i 0 (words_in s.regs) s.md (bus.load (words_in s.mem) s.taken)

    abbrev by_links : Inst → State → Change
    by_links i s = change i 0 (linked_all s.regs) s.md (bus.load (linked_all s.mem) s.taken)

    abbrev AreAlike : Inst → State → Type 0
    AreAlike i s = Alike bus (passed p.place i s.regs s.mem) (by_words i s) (by_links i s)

    load_alike : (user : Bool) (v : Value) (input : Found)
        → (let c : Found = cond user (plain_word (word_in v)) input in let d : Found = cond user (plain_word (linked v)) input in
        (linked (passed_on (cond user v (Int 0)) c.word) ≡ d.word) × (c.takes ≡ d.takes))
    load_alike true v input = (passed_word v, refl)
    load_alike false v input = (refl, refl)

    load_is : (base d : ℕ) (offset : ℤ) (s : State) → is_code (value_in s.regs base) ≡ false → AreAlike (Load base d offset) s
    load_is base d offset s h =
        let a = offset_by (words_in s.regs) base offset in
        let same : a ≡ offset_by (linked_all s.regs) base offset = ap (λ n. offset_by (λ k. n) 1 offset) (word_seen s.regs base h) in
        let other = cond (eqb a p.place.input) (from_input p.input s.taken) (plain_word 0) in
        let both = load_alike (is_user p.place a) (s.mem a) other in
        let find = bus.load (linked_all s.mem) s.taken in
        record {
          dest = refl;
          value = inr (both.0 ∙ ap (λ n. (find n).word) same);
          md = refl;
          stores = tt;
          takes = both.1 ∙ ap (λ n. (find n).takes) same;
          byte = refl;
        }

    store_is :
        (base v : ℕ) (offset : ℤ) (s : State) → is_code (value_in s.regs base) ≡ false
        → why_access p (access (Store base v offset)) (words_in s.regs) (value_in s.regs v) ≡ None → AreAlike (Store base v offset) s
    store_is base v offset s h bad =
        let a = offset_by (words_in s.regs) base offset in
        let same : a ≡ offset_by (linked_all s.regs) base offset = ap (λ n. offset_by (λ k. n) 1 offset) (word_seen s.regs base h) in
        let console = eqb a p.place.console in
        record {
          dest = refl;
          value = inl refl;
          md = refl;
          stores = (same, passed_reg s.regs v);
          takes = refl;
          byte = by_test console refl (λ e. no_code_sent console (is_code (value_in s.regs v)) (is_user p.place a) bad e)
              ∙ ap (λ n. bus.byte n (reg (linked_all s.regs) v)) same;
        }
      where
        by_test :
            (t : Bool) → eqb (offset_by (words_in s.regs) base offset) p.place.console ≡ t → (t ≡ true → is_code (value_in s.regs v) ≡ false)
            → bus.byte (offset_by (words_in s.regs) base offset) (reg (words_in s.regs) v)
            ≡ bus.byte (offset_by (words_in s.regs) base offset) (reg (linked_all s.regs) v)
        by_test true e f = ap (λ w. bus.byte (offset_by (words_in s.regs) base offset) w) (word_seen s.regs v (f refl))
        by_test false e f =
            ap (λ t. cond t (Some (reg (words_in s.regs) v % 256)) None) e ∙ sym (ap (λ t. cond t (Some (reg (linked_all s.regs) v % 256)) None) e)

    -- with r0 as its second source, add passes a place of code on
    copied_word :
        (r : Values) (a b : ℕ) (v : Value) → value_in r a ≡ v → b ≡ 0
        → linked (passed_on v (word_of (reg (words_in r) a + reg (words_in r) b))) ≡ word_of (reg (linked_all r) a + reg (linked_all r) b)
    copied_word r a b (Int w) e z =
        let h : reg (words_in r) a ≡ reg (linked_all r) a = word_seen r a (ap is_code e) in
        let k : reg (words_in r) b ≡ reg (linked_all r) b = ap (reg (words_in r)) z ∙ sym (ap (reg (linked_all r)) z) in
        (λ t. word_of (h t + k t))
    copied_word r a b (Code i) e z =
        let s = short i in
        let h : link i ≡ reg (linked_all r) a = sym (ap linked e) ∙ linked_value r a in
        let k : reg (linked_all r) b ≡ 0 = ap (reg (linked_all r)) z in
        omega arith

    copied_is :
        (op : Op) (a d b : ℕ) (s : State) → copies op b ≡ true
        → Alike bus (value_in s.regs a) (by_words (Compute a d b op) s) (by_links (Compute a d b op) s)
    copied_is Add a d b s h = record {
      dest = refl;
      value = inr (copied_word s.regs a b (value_in s.regs a) refl (eqb-true b 0 h));
      md = refl;
      stores = tt;
      takes = refl;
      byte = refl;
    }
    copied_is _ a d b s h = absurd (false≢true h)

    abbrev Sees : Inst → State → Type 0
    Sees i s = SeesAlike i (words_in s.regs) (linked_all s.regs)

    compute_is :
        (op : Op) (a d b : ℕ) (s : State) (t : Bool) → copies op b ≡ t → any_code s.regs (cond t (0, 0) (a, b)) ≡ false
        → Alike bus (cond t (value_in s.regs a) (Int 0)) (by_words (Compute a d b op) s) (by_links (Compute a d b op) s)
    compute_is op a d b s true e h = copied_is op a d b s e
    compute_is op a d b s false e h =
        let o = or_parts _ _ h in
        let w : Sees (Compute a d b op) s = record { first = word_seen s.regs a o.0; second = word_seen s.regs b o.1 } in
        alike_same bus (by_words (Compute a d b op) s) (by_links (Compute a d b op) s)
        (change_same (Compute a d b op) 0 (words_in s.regs) (linked_all s.regs) s.md s.md (bus.load (words_in s.mem) s.taken)
        (bus.load (linked_all s.mem) s.taken) w (λ m. refl) tt)

    plain_is : (i : Inst) (s : State) → IsPlainStatement i → NotStuck p i s.regs → AreAlike i s
    plain_is (Load base d offset) s h n = load_is base d offset s (or_parts _ _ n.words).0
    plain_is (Store base v offset) s h n = store_is base v offset s (or_parts _ _ n.words).0 n.lawful
    plain_is (Compute a d b op) s h n = compute_is op a d b s (copies op b) refl n.words
    plain_is (Addi a d imm) s h n =
        let w : Sees (Addi a d imm) s = record { first = word_seen s.regs a (or_parts _ _ n.words).0; second = refl } in
        alike_same bus (by_words (Addi a d imm) s) (by_links (Addi a d imm) s)
        (change_same (Addi a d imm) 0 (words_in s.regs) (linked_all s.regs) s.md s.md (bus.load (words_in s.mem) s.taken)
        (bus.load (linked_all s.mem) s.taken) w (λ m. refl) tt)
    plain_is (MoveFrom d special) s h n =
        let w : Sees (MoveFrom d special) s = record { first = refl; second = refl } in
        alike_same bus (by_words (MoveFrom d special) s) (by_links (MoveFrom d special) s)
        (change_same (MoveFrom d special) 0 (words_in s.regs) (linked_all s.regs) s.md s.md (bus.load (words_in s.mem) s.taken)
        (bus.load (linked_all s.mem) s.taken) w (λ m. refl) tt)
    plain_is (MoveTo a special) s h n =
        let w : Sees (MoveTo a special) s = record { first = word_seen s.regs a (or_parts _ _ n.words).0; second = refl } in
        alike_same bus (by_words (MoveTo a special) s) (by_links (MoveTo a special) s)
        (change_same (MoveTo a special) 0 (words_in s.regs) (linked_all s.regs) s.md s.md (bus.load (words_in s.mem) s.taken)
        (bus.load (linked_all s.mem) s.taken) w (λ m. refl) tt)
    plain_is _ s h n = absurd h

    written_as :
        (f : Values) (d e x : ℕ) (v : Value) → d ≡ e → (d ≡ 0) ⊎ (linked v ≡ x) → linked_all (write_value f d v) ≡ write (linked_all f) e x
    written_as f d e x v h k = linked_write f d v ∙ ⊎_elim
        (λ z. ap (λ n. write (linked_all f) n (linked v)) z ∙ sym (ap (λ n. write (linked_all f) n x) (sym h ∙ z)))
        (λ w. (λ t. write (linked_all f) (h t) (w t)))
        k

    stored_as : (f : Values) (v : Value) (o q : Option Sent) → StoresAlike v o q → linked_all (store_value p.place o v f) ≡ stored bus q (linked_all f)
    stored_as f v None None h = refl
    stored_as f v (Some s) (Some t) h =
        linked_cond (is_user p.place s.address) (put_value f s.address (passed_on v s.word)) f
        ∙ ap (λ g. cond (is_user p.place s.address) g (linked_all f)) (linked_put f s.address (passed_on v s.word))
        ∙ (λ k. cond (is_user p.place (h.0 k)) (put (linked_all f) (h.0 k) (h.1 k)) (linked_all f))
    stored_as f v None (Some t) h = absurd h
    stored_as f v (Some s) None h = absurd h

    -- one statement of a body
    pub record BodyStep (i : Inst) (s : State) : Type 0 where
      pub core : core_of (done p i s).after ≡ act bus i 0 (linked_all s.regs) (core_of s)
      pub byte : (done p i s).byte ≡ user_byte p.place p.input i 0 (core_of s)
      pub lawful : is_lawful p.place p.input (access i) (linked_all s.regs) ≡ true

    lawful_seen :
        (i : Inst) (r : Values) → IsPlainStatement i → any_code r (operands i) ≡ false
        → is_lawful p.place p.input (access i) (words_in r) ≡ is_lawful p.place p.input (access i) (linked_all r)
    lawful_seen (Load base d offset) r h n =
        ap (λ m. is_user p.place m || (is_some p.input && eqb m p.place.input)) (ap (λ m. offset_by (λ k. m) 1 offset) (word_seen r base (or_parts _ _ n).0))
    lawful_seen (Store base v offset) r h n =
        ap (λ m. is_user p.place m || eqb m p.place.console) (ap (λ m. offset_by (λ k. m) 1 offset) (word_seen r base (or_parts _ _ n).0))
    lawful_seen _ r h n = refl

    pub body_step : (i : Inst) (s : State) → IsPlainStatement i → why_plain p i s.regs ≡ None → BodyStep i s
    body_step i s plain h =
        let n = not_stuck p i s.regs h in
        let a = plain_is i s plain n in
        let v = passed p.place i s.regs s.mem in
        let c = by_words i s in
        let d = by_links i s in
        record {
          core = core_same _ _ _ _ _ _ _ _
              (written_as s.regs c.dest d.dest d.value (passed_on v c.value) a.dest a.value)
              (ap (λ o. or_kept o s.md) a.md)
              (stored_as s.mem v c.stores d.stores a.stores)
              (ap (λ b. cond b (suc s.taken) s.taken) a.takes);
          byte = a.byte;
          lawful = sym (lawful_seen i s.regs plain n.words) ∙ lawful_access p (access i) (words_in s.regs) (value_in s.regs (sources i).1) n.lawful;
        }
