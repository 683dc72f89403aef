-- The statements of a body, one after another. The invariant is `ran_at`, the state and bytes of the meaning as words. It goes across
-- a statement and its instruction (`one_body`), and so across a body (`body_run`). Beside it, runs of the meaning alone: what is
-- stuck or has halted stays so, and bytes only grow.
use Rattle.std.proofs.Common.{◌≡◌, ℕ, pos, zero, suc, ◌+◌, ◌^◌, ◌<◌, Bool, true, false, cond, ◌&&◌, List, [], ◌∷◌, ◌++◌, length, Option, Some, None, option_to_list, append_assoc, refl, sym, ap, ◌∙◌, subst, arith, ⊎_elim}
use Rattle.std.specs.Prelude.{slice_get}
use Rattle.std.specs.Int.{w32, cast_unsigned}
use Rattle.std.proofs.lemmas.Bool.{cases_Bool, false≢true}
use Rattle.std.proofs.lemmas.List.{append-nil}
use Rattle.mx_isa.specs.declared.inst.Inst.{Inst}
use Rattle.mx_isa.specs.declared.inst.Inst.TheVariants.{Addi, Load, Store, Compute, MoveFrom, MoveTo}
use Rattle.mx_isa.specs.Arithmetic.{word_of}
use Rattle.mx_isa.specs.Words.{write}
use Rattle.mx_isa.specs.Effect.{Decision, decides}
use Rattle.mx_isa.specs.Views.{access, is_transfer}
use Rattle.mx_delay.specs.Clean.{is_lawful}
use Rattle.mx_source.specs.declared.statement.Statement.{Statement}
use Rattle.mx_source.specs.declared.statement.Statement.TheVariants.{Plain, LaCode}
use Rattle.mx_source.specs.declared.statement.Value.TheVariants.{Code}
use Rattle.mx_source.specs.declared.statement.Why.{Why}
use Rattle.mx_source.specs.Statements.{IsPlain as IsPlainStatement}
use Rattle.mx_source.specs.Meaning.{Program, Mark, Going, Halted, Stuck, State, Step, Run, why_plain, done, unless_stuck, execute, if_going, step, run_step, run_for, is_stuck}
use Rattle.law_order.specs.Running.{Ran, run_one, run_source}
use Rattle.law_order.proofs.Words.{run_anywhere}
use Rattle.law_link.proofs.Going.{IsPlain, ArePlain}
use Rattle.law_link.proofs.Matching.{core_of, linked_write, body_step}

abbrev pub Prefix : List ℕ → List ℕ → Type 0
Prefix xs ys = (s : List ℕ) × (ys ≡ xs ++ s)

pub prefix_then : (xs ys zs : List ℕ) → Prefix xs ys → Prefix ys zs → Prefix xs zs
prefix_then xs ys zs h k = (h.0 ++ k.0, k.1 ∙ ap (λ l. l ++ k.0) h.1 ∙ append_assoc xs h.0 k.0)

pub prefix_same : (xs ys : List ℕ) → xs ≡ ys → Prefix xs ys
prefix_same xs ys e = ([], sym e ∙ sym (append-nil xs))

abbrev pub is_going : Mark → Bool
is_going Going = true
is_going _ = false

module _ (p : Program) where
  -- a step, by the statement that stands there
  abbrev pub said : Option Statement → Run → Run
  said o r = record { state = (execute p o r.state).after; console = r.console ++ option_to_list (execute p o r.state).byte }

  pub step_is : (r : Run) (o : Option Statement) → r.state.mark ≡ Going → slice_get p.statements r.state.index ≡ o → run_step p r ≡ said o r
  step_is r o g e =
      (λ k. record {
        state = (if_going (g k) (execute p (e k) r.state) r.state).after;
        console = r.console ++ option_to_list (if_going (g k) (execute p (e k) r.state) r.state).byte;
      })

  -- a stuck run stays stuck
  stuck_stays : (r : Run) → is_stuck r.state.mark ≡ true → is_stuck (run_step p r).state.mark ≡ true
  stuck_stays r h = by_mark r.state.mark (execute p (slice_get p.statements r.state.index) r.state) h
    where
      by_mark : (m : Mark) (t : Step) → is_stuck m ≡ true → is_stuck (if_going m t r.state).after.mark ≡ true
      by_mark Going t e = absurd (false≢true e)
      by_mark Halted t e = absurd (false≢true e)
      by_mark (Stuck why) t e = h

  stuck_later : (n : ℕ) (r : Run) → is_stuck r.state.mark ≡ true → is_stuck (run_for p n r).state.mark ≡ true
  stuck_later zero r h = h
  stuck_later (suc n) r h = stuck_later n (run_step p r) (stuck_stays r h)

  pub not_stuck_before : (n : ℕ) (r : Run) → is_stuck (run_for p n r).state.mark ≡ false → is_stuck r.state.mark ≡ false
  not_stuck_before n r h = ⊎_elim (λ t. absurd (false≢true (sym h ∙ stuck_later n r t))) (λ f. f) (cases_Bool (is_stuck r.state.mark))

  pub run_same : (m n : ℕ) (r : Run) → m ≡ n → run_for p m r ≡ run_for p n r
  run_same m n r e = ap (λ k. run_for p k r) e

  pub run_add : (m n : ℕ) (r : Run) → run_for p (m + n) r ≡ run_for p n (run_for p m r)
  run_add zero n r = run_same (zero + n) n r (omega arith)
  run_add (suc m) n r = run_same (suc m + n) (suc (m + n)) r (omega arith) ∙ run_add m n (run_step p r)

  pub run_one_more : (n : ℕ) (r : Run) → run_for p (suc n) r ≡ run_step p (run_for p n r)
  run_one_more n r = run_same (suc n) (n + 1) r (omega arith) ∙ run_add n 1 r

  -- bytes only grow
  pub says_more : (n : ℕ) (r : Run) → Prefix r.console (run_for p n r).console
  says_more zero r = prefix_same r.console r.console refl
  says_more (suc n) r =
      prefix_then r.console (run_step p r).console (run_for p (suc n) r).console (option_to_list (step p r.state).byte, refl) (says_more n (run_step p r))

  -- what does not go stays
  stays : (r : Run) → is_going r.state.mark ≡ false → run_step p r ≡ r
  stays r h = by_mark r.state.mark (execute p (slice_get p.statements r.state.index) r.state) h
    where
      by_mark :
          (m : Mark) (t : Step) → is_going m ≡ false → (let u : Run =
          record { state = (if_going m t r.state).after; console = r.console ++ option_to_list (if_going m t r.state).byte } in u ≡ r)
      by_mark Going t e = absurd (false≢true (sym e))
      by_mark Halted t e = λ k. record { state = r.state; console = append-nil r.console k }
      by_mark (Stuck why) t e = λ k. record { state = r.state; console = append-nil r.console k }

  pub stays_for : (n : ℕ) (r : Run) → is_going r.state.mark ≡ false → run_for p n r ≡ r
  stays_for zero r h = refl
  stays_for (suc n) r h = ap (run_for p n) (stays r h) ∙ stays_for n r h

mark_none : (o : Option Why) (t : Step) (s : State) → is_stuck (unless_stuck o t s).after.mark ≡ false → o ≡ None
mark_none None t s h = refl
mark_none (Some why) t s h = absurd (false≢true (sym h))

-- a plain statement neither transfers nor halts
pub plain_stays : (i : Inst) → IsPlainStatement i → IsPlain i
plain_stays (Load base d offset) h = record { stays = refl; runs_on = refl }
plain_stays (Store base v offset) h = record { stays = refl; runs_on = refl }
plain_stays (Compute a d b op) h = record { stays = refl; runs_on = refl }
plain_stays (Addi a d imm) h = record { stays = refl; runs_on = refl }
plain_stays (MoveFrom d special) h = record { stays = refl; runs_on = refl }
plain_stays (MoveTo a special) h = record { stays = refl; runs_on = refl }
plain_stays _ h = absurd h

and_true : (b c : Bool) → c ≡ true → (b && c) ≡ b
and_true b c e = grind arith

module _ (link : ℕ → ℕ) where
  -- a statement of a body, and its instruction
  abbrev pub IsBodyOf : Option Statement → Inst → Type 0
  IsBodyOf (Some (Plain i)) x = IsPlainStatement i × (x ≡ i)
  IsBodyOf (Some (LaCode d t)) x = x ≡ Addi 0 d (pos (link t))
  IsBodyOf _ x = ⊥

  -- statements from i on, and their instructions
  abbrev pub AreBody : List Statement → ℕ → List Inst → Type 0
  AreBody statements i [] = Unit {0}
  AreBody statements i (x ∷ insts) = IsBodyOf (slice_get statements i) x × AreBody statements (suc i) insts

  pub body_plain : (o : Option Statement) (x : Inst) → IsBodyOf o x → IsPlain x
  body_plain (Some (Plain i)) x h = subst IsPlain (sym h.1) (plain_stays i h.0)
  body_plain (Some (LaCode d t)) x h = subst IsPlain (sym h) (record { stays = refl; runs_on = refl })
  body_plain _ x h = absurd h

  pub all_plain : (statements : List Statement) (i : ℕ) (insts : List Inst) → AreBody statements i insts → ArePlain insts
  all_plain statements i [] h = tt
  all_plain statements i (x ∷ insts) h = (body_plain (slice_get statements i) x h.0, all_plain statements (suc i) insts h.1)

  -- the state of a run as words
  abbrev pub ran_at : Run → Bool → Decision → Ran
  ran_at r b d = record { core = core_of link r.state; bytes = r.console; clean = b; leads = d }

  module _ (p : Program) where
    -- the step is what the instruction does, and goes on
    pub record Did1 (r t : Run) (i : Inst) (b : Bool) (at : ℕ) (d : Decision) : Type 0 where
      pub ran : run_one p.place p.input at i (ran_at r b d) ≡ ran_at t b d
      pub index : t.state.index ≡ suc r.state.index
      pub mark : t.state.mark ≡ Going

    -- statements of a body, one after another
    pub record BodyRun (i at : ℕ) (insts : List Inst) (r : Run) (b : Bool) (d : Decision) : Type 0 where
      pub ran : run_source p.place p.input at insts (ran_at r b d) ≡ ran_at (run_for p (length insts) r) b d
      pub index : (run_for p (length insts) r).state.index ≡ i + length insts
      pub mark : (run_for p (length insts) r).state.mark ≡ Going

    module _ (short : (i : ℕ) → link i < 2 ^ 32) where
      plain_did :
          (i : Inst) (r : Run) (b : Bool) (at : ℕ) (d : Decision) → IsPlainStatement i → why_plain p i r.state.regs ≡ None → r.state.mark ≡ Going
          → (let t : Run = record { state = (done p i r.state).after; console = r.console ++ option_to_list (done p i r.state).byte } in Did1 r t i b at d)
      plain_did i r b at d body h g =
          let one = body_step link p short i r.state body h in
          let plain = plain_stays i body in
          let here : run_one p.place p.input 0 i (ran_at r b d) ≡ (let t : Run =
          record { state = (done p i r.state).after; console = r.console ++ option_to_list (done p i r.state).byte } in ran_at t b d) =
          (λ k. record {
            core = sym one.core k;
            bytes = r.console ++ option_to_list (sym one.byte k);
            clean = and_true b (is_lawful p.place p.input (access i) (core_of link r.state).regs) one.lawful k;
            leads = stay (is_transfer i) plain.stays k;
          }) in
          record {
            ran = run_anywhere p.place p.input at 0 i (ran_at r b d) plain.stays ∙ here;
            index = refl;
            mark = g;
          }
        where
          stay : (t : Bool) → t ≡ false → cond t (decides i 0 (core_of link r.state).regs) d ≡ d
          stay true e = absurd (false≢true (sym e))
          stay false e = refl

      abbrev plain_said : Inst → Run → Option Why → Run
      plain_said i r o =
          record {
            state = (unless_stuck o (done p i r.state) r.state).after;
            console = r.console ++ option_to_list (unless_stuck o (done p i r.state) r.state).byte;
          }

      pub one_body :
          (r : Run) (o : Option Statement) (x : Inst) (b : Bool) (at : ℕ) (d : Decision) → r.state.mark ≡ Going
          → slice_get p.statements r.state.index ≡ o → IsBodyOf o x → is_stuck (run_step p r).state.mark ≡ false → Did1 r (run_step p r) x b at d
      one_body r (Some (Plain i)) x b at d g e body h =
          let is = step_is p r (Some (Plain i)) g e in
          let none = mark_none (why_plain p i r.state.regs) (done p i r.state) r.state (ap (λ (t : Run). is_stuck t.state.mark) (sym is) ∙ h) in
          subst (λ (y : Inst). Did1 r (run_step p r) y b at d) (sym body.1)
          (subst (λ (t : Run). Did1 r t i b at d) (ap (plain_said i r) (sym none) ∙ sym is) (plain_did i r b at d body.0 none g))
      one_body r (Some (LaCode t n)) x b at d g e body h =
          subst (λ (y : Inst). Did1 r (run_step p r) y b at d) (sym body)
          (subst (λ (u : Run). Did1 r u (Addi 0 t (pos (link n))) b at d) (sym (step_is p r (Some (LaCode t n)) g e)) la)
        where
          value : word_of (0 + cast_unsigned w32 (pos (link n))) ≡ link n
          value = let q = short n in omega arith

          la : Did1 r (said p (Some (LaCode t n)) r) (Addi 0 t (pos (link n))) b at d
          la = record {
            ran = (λ k. record {
              core = record {
                regs = ((λ j. write (core_of link r.state).regs t (value j)) ∙ sym (linked_write link r.state.regs t (Code n))) k;
                md = r.state.md;
                mem = (core_of link r.state).mem;
                taken = r.state.taken;
              };
              bytes = r.console ++ [];
              clean = and_true b true refl k;
              leads = d;
            });
            index = refl;
            mark = g;
          }
      one_body r _ x b at d g e body h = absurd body

      pub body_run :
          (i at : ℕ) (insts : List Inst) (r : Run) (b : Bool) (d : Decision) → r.state.mark ≡ Going → r.state.index ≡ i
          → AreBody p.statements i insts → is_stuck (run_for p (length insts) r).state.mark ≡ false → BodyRun i at insts r b d
      body_run i at [] r b d g e h k = record { ran = refl; index = e ∙ (let q : i ≡ i + 0 = omega arith in q); mark = g }
      body_run i at (x ∷ insts) r b d g e h k =
          let one = one_body r (slice_get p.statements i) x b at d g (ap (slice_get p.statements) e) h.0 (not_stuck_before p (length insts) (run_step p r) k) in
          let more = body_run (suc i) at insts (run_step p r) b d one.mark (one.index ∙ ap (λ m. suc m) e) h.1 k in
          record {
            ran = ap (run_source p.place p.input at insts) one.ran ∙ more.ran;
            index = more.index ∙ (let q : suc i + length insts ≡ i + suc (length insts) = omega arith in q);
            mark = more.mark;
          }
