-- Each place of code that the meaning holds is a leader. The invariant is `Lead`, of registers and memory. It goes across every
-- statement (`execute_lead`), since labels are leaders, and what stands behind a call is one.
use Rattle.std.proofs.Common.{◌≡◌, ℕ, zero, suc, ◌-◌, ◌<◌, ◌≤◌, Bool, true, false, cond, eqb, leb, ◌||◌, List, [], length, Option, Some, None, refl, sym, ap, subst, arith, ⊎_elim}
use Rattle.std.specs.Prelude.{slice_get, slice_index_or}
use Rattle.std.proofs.lemmas.Bool.{cond-true, cases_lt}
use Rattle.std.proofs.lemmas.List.{get_or_past}
use Rattle.std.proofs.lemmas.Option.{slice_get_within, get_or_from_slice_get}
use Rattle.mx_isa.specs.declared.place.Place.{Place}
use Rattle.mx_isa.specs.declared.inst.Inst.{Inst}
use Rattle.mx_isa.specs.declared.inst.Inst.TheVariants.{Load, Store, Compute}
use Rattle.mx_isa.specs.Effect.{Sent, offset_by}
use Rattle.mx_isa.specs.UserBus.{is_user}
use Rattle.mx_source.specs.declared.statement.Statement.{Statement}
use Rattle.mx_source.specs.declared.statement.Statement.TheVariants.{Plain, LaCode, Branch, Call, CallReg, JumpReg, Halt}
use Rattle.mx_source.specs.declared.statement.Value.{Value}
use Rattle.mx_source.specs.declared.statement.Value.TheVariants.{Int, Code}
use Rattle.mx_source.specs.declared.statement.Why.{Why}
use Rattle.mx_source.specs.Values.{Values, value_in, put_value, write_value, is_code, words_in, passed_on}
use Rattle.mx_source.specs.Labels.{is_labelled, IsPlace}
use Rattle.mx_source.specs.Statements.{StatementFits, ValueFits}
use Rattle.mx_source.specs.SourceValue.{SourceValue, IsSource}
use Rattle.mx_source.specs.Meaning.{Program, program, Mark, Going, Halted, Stuck, State, start, Step, copies, any_code, why_plain, passed, store_value, done, unless_stuck, goes, jumps, execute, if_going, step, Run, run_step, run_for}
use Rattle.mx_blocks.specs.Leaders.{ends_there, gap, is_leader}

module _ (source : SourceValue) (is : IsSource source) where
  -- a labelled statement is a leader
  pub place_leads : (t : ℕ) → IsPlace source.labels (length source.statements) t → is_leader source t ≡ true
  place_leads zero h = refl
  place_leads (suc t) h =
      ap (λ n. eqb n 0) (cond-true _ _ _ (first (is_labelled source.labels (suc t)) (ends_there (slice_get source.statements t))
      (eqb (gap (is_labelled source.labels) source.statements t) 63) h.labelled))
    where
      first : (a b c : Bool) → a ≡ true → (a || (b || c)) ≡ true
      first a b c e = grind arith

  -- the statement after one that ends a block is a leader
  pub after_end : (i : ℕ) → ends_there (slice_get source.statements i) ≡ true → is_leader source (suc i) ≡ true
  after_end i e =
      ap (λ n. eqb n 0) (cond-true _ _ _ (any (is_labelled source.labels (suc i)) (ends_there (slice_get source.statements i))
      (eqb (gap (is_labelled source.labels) source.statements i) 63) e))
    where
      any : (a b c : Bool) → b ≡ true → (a || (b || c)) ≡ true
      any a b c h = grind arith

  abbrev pub Leads : Value → Type 0
  Leads v = (t : ℕ) → v ≡ Code t → is_leader source t ≡ true

  abbrev pub AllLead : Values → Type 0
  AllLead f = (n : ℕ) → Leads (f n)

  int_leads : (w : ℕ) → Leads (Int w)
  int_leads w t e = absurd (let q : false ≡ true = ap is_code e in grind arith)

  abbrev place_in : Value → ℕ
  place_in (Int w) = 0
  place_in (Code i) = i

  code_leads : (t : ℕ) → is_leader source t ≡ true → Leads (Code t)
  code_leads t h u e = subst (λ n. is_leader source n ≡ true) (ap place_in e) h

  cond_leads : (b : Bool) (u v : Value) → Leads u → Leads v → Leads (cond b u v)
  cond_leads true u v h k = h
  cond_leads false u v h k = k

  pub in_leads : (f : Values) → AllLead f → (n : ℕ) → Leads (value_in f n)
  in_leads f h n = cond_leads (eqb n 0) (Int 0) (f n) (int_leads 0) (h n)

  put_leads : (f : Values) (k : ℕ) (v : Value) → AllLead f → Leads v → AllLead (put_value f k v)
  put_leads f k v h g n = cond_leads (eqb n k) v (f n) g (h n)

  write_leads : (f : Values) (d : ℕ) (v : Value) → AllLead f → Leads v → AllLead (write_value f d v)
  write_leads f d v h g n = cond_leads (eqb d 0) (f n) (put_value f d v n) (h n) (put_leads f d v h g n)

  passed_leads : (v : Value) (w : ℕ) → Leads v → Leads (passed_on v w)
  passed_leads (Int u) w h = int_leads w
  passed_leads (Code i) w h = h

  value_leads : (place : Place) (i : Inst) (r m : Values) → AllLead r → AllLead m → Leads (passed place i r m)
  value_leads place (Compute a d b op) r m h k = cond_leads (copies op b) (value_in r a) (Int 0) (in_leads r h a) (int_leads 0)
  value_leads place (Load base d offset) r m h k =
      let a = offset_by (words_in r) base offset in
      cond_leads (is_user place a) (m a) (Int 0) (k a) (int_leads 0)
  value_leads place (Store base v offset) r m h k = in_leads r h v
  value_leads place _ r m h k = int_leads 0

  user_leads : (b : Bool) (m n : Values) → AllLead m → AllLead n → AllLead (cond b m n)
  user_leads true m n h k = h
  user_leads false m n h k = k

  store_leads : (place : Place) (o : Option Sent) (v : Value) (m : Values) → Leads v → AllLead m → AllLead (store_value place o v m)
  store_leads place None v m h k = k
  store_leads place (Some s) v m h k =
      user_leads (is_user place s.address) (put_value m s.address (passed_on v s.word)) m
      (put_leads m s.address (passed_on v s.word) k (passed_leads v s.word h)) k

  pub record Lead (s : State) : Type 0 where
    pub regs : AllLead s.regs
    pub mem : AllLead s.mem

  unless_lead : (o : Option Why) (t : Step) (s : State) → Lead s → Lead t.after → Lead (unless_stuck o t s).after
  unless_lead None t s h k = k
  unless_lead (Some why) t s h k = record { regs = h.regs; mem = h.mem }

  done_lead : (p : Program) (i : Inst) (s : State) → Lead s → Lead (done p i s).after
  done_lead p i s h =
      let v = value_leads p.place i s.regs s.mem h.regs h.mem in
      record {
        regs = write_leads s.regs _ _ h.regs (passed_leads (passed p.place i s.regs s.mem) _ v);
        mem = store_leads p.place _ (passed p.place i s.regs s.mem) s.mem v h.mem;
      }

  goes_lead : (j d : ℕ) (v : Value) (s : State) → Lead s → Leads v → Lead (goes j d v s).after
  goes_lead j d v s h k = record { regs = write_leads s.regs d v h.regs k; mem = h.mem }

  jumps_lead : (v : Value) (d : ℕ) (s : State) → is_leader source (suc s.index) ≡ true → Lead s → Lead (jumps v d s).after
  jumps_lead (Int w) d s l h = record { regs = h.regs; mem = h.mem }
  jumps_lead (Code t) d s l h = goes_lead t d (Code (suc s.index)) s h (code_leads (suc s.index) l)

  cond_lead : (b : Bool) (x y : Step) → Lead x.after → Lead y.after → Lead (cond b x y).after
  cond_lead true x y h k = h
  cond_lead false x y h k = k

  pub statement_fits :
      (i : ℕ) (s : Statement) → slice_get source.statements i ≡ Some s → StatementFits (IsPlace source.labels (length source.statements)) s
  statement_fits i s e =
      subst (StatementFits (IsPlace source.labels (length source.statements))) (get_or_from_slice_get source.statements i s s e)
      (is.statements_fit i s (slice_get_within source.statements i s e))

  execute_lead : (p : Program) (o : Option Statement) (s : State) → slice_get source.statements s.index ≡ o → Lead s → Lead (execute p o s).after
  execute_lead p None s e h = record { regs = h.regs; mem = h.mem }
  execute_lead p (Some (Plain i)) s e h = unless_lead (why_plain p i s.regs) (done p i s) s h (done_lead p i s h)
  execute_lead p (Some (LaCode d t)) s e h = goes_lead (suc s.index) d (Code t) s h (code_leads t (place_leads t (statement_fits s.index (LaCode d t) e)))
  execute_lead p (Some (Branch a b c t)) s e h =
      cond_lead (any_code s.regs (a, b)) _ _ (record { regs = h.regs; mem = h.mem }) (goes_lead _ 0 (Int 0) s h (int_leads 0))
  execute_lead p (Some (Call d t)) s e h = goes_lead t d (Code (suc s.index)) s h (code_leads (suc s.index) (after_end s.index (ap ends_there e)))
  execute_lead p (Some (CallReg a d)) s e h = jumps_lead (value_in s.regs a) d s (after_end s.index (ap ends_there e)) h
  execute_lead p (Some (JumpReg a)) s e h = jumps_lead (value_in s.regs a) 0 s (after_end s.index (ap ends_there e)) h
  execute_lead p (Some Halt) s e h = record { regs = h.regs; mem = h.mem }

  module _ (place : Place) (bytes : List ℕ) where
    abbrev p : Program
    p = program source place bytes

    step_lead : (s : State) → Lead s → Lead (step p s).after
    step_lead s h = by_mark s.mark
      where
        by_mark : (m : Mark) → Lead (if_going m (execute p (slice_get p.statements s.index) s) s).after
        by_mark Going = execute_lead p (slice_get source.statements s.index) s refl h
        by_mark Halted = h
        by_mark (Stuck why) = h

    run_lead : (n : ℕ) (r : Run) → Lead r.state → Lead (run_for p n r).state
    run_lead zero r h = h
    run_lead (suc n) r h = run_lead n (run_step p r) (step_lead r.state h)

    word_leads : (k : ℕ) → Leads (slice_index_or source.user_data k (Int 0))
    word_leads k = ⊎_elim
        (λ (l : k < length source.user_data). by_value (slice_index_or source.user_data k (Int 0)) (is.words_fit k (Int 0) l))
        (λ (l : length source.user_data ≤ k). subst Leads (sym (get_or_past source.user_data k (Int 0) l)) (int_leads 0))
        (cases_lt k (length source.user_data))
      where
        by_value : (v : Value) → ValueFits (IsPlace source.labels (length source.statements)) v → Leads v
        by_value (Int w) h = int_leads w
        by_value (Code t) h = code_leads t (place_leads t h)

    start_lead : Lead (start source place)
    start_lead = record {
      regs = λ n. int_leads 0;
      mem = λ a. cond_leads (leb place.user_data a) (slice_index_or source.user_data (a - place.user_data) (Int 0)) (Int 0) (word_leads (a - place.user_data))
          (int_leads 0);
    }

    -- so each place in a register is a leader
    pub registers_lead :
        (m n t : ℕ) → value_in (run_for p m (record { state = start source place; console = [] })).state.regs n ≡ Code t → is_leader source t ≡ true
    registers_lead m n t e =
        let h = run_lead m (record { state = start source place; console = [] }) start_lead in
        in_leads (run_for p m (record { state = start source place; console = [] })).state.regs h.regs n t e
