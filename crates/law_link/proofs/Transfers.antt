-- One block by how it ends (`EndOf`): it falls through, halts, branches, calls, or jumps by a register. The invariant of OneBlock goes
-- across each of them (`one_block`), since the terminator decides on words what its statement decides on values.
use Rattle.std.proofs.Common.{◌≡◌, ℕ, ℤ, pos, suc, ◌+◌, ◌%◌, ◌^◌, ◌<◌, ◌≤◌, Bool, true, false, cond, List, [], ◌∷◌, ◌++◌, ◌⊎◌, length, Option, Some, None, option_to_list, refl, sym, ap, ◌∙◌, subst, arith, inl, inr}
use Rattle.std.specs.Prelude.{slice_get}
use Rattle.std.specs.Int.{w32, cast_unsigned}
use Rattle.std.proofs.lemmas.Bool.{or_parts, false≢true}
use Rattle.mx_isa.specs.declared.inst.Cond.{Cond}
use Rattle.mx_isa.specs.declared.inst.Inst.{Inst}
use Rattle.mx_isa.specs.declared.inst.Inst.TheVariants.{Jspci}
use Rattle.mx_isa.specs.declared.inst.Inst.TheVariants.{Branch as BranchInst, Halt as HaltInst}
use Rattle.mx_isa.specs.Words.{Words, reg, write}
use Rattle.mx_isa.specs.Arithmetic.{condition_holds}
use Rattle.mx_isa.specs.Effect.{Decision, Core, decides, offset_by}
use Rattle.mx_isa.specs.Views.{is_transfer, is_halt, is_load}
use Rattle.mx_source.specs.declared.statement.Statement.{Statement}
use Rattle.mx_source.specs.declared.statement.Statement.TheVariants.{Branch, Call, Halt}
use Rattle.mx_source.specs.declared.statement.Value.{Value}
use Rattle.mx_source.specs.declared.statement.Value.TheVariants.{Int, Code as CodeValue}
use Rattle.mx_source.specs.declared.statement.Why.TheVariants.{CodeOperand}
use Rattle.mx_source.specs.Values.{value_in, word_in, write_value}
use Rattle.mx_source.specs.Meaning.{Going, State, Step, Run, any_code, stuck, jumps, execute, run_for, is_stuck}
use Rattle.mx_blocks.specs.declared.block.Item.{Item}
use Rattle.mx_blocks.specs.declared.block.Item.TheVariants.{Op}
use Rattle.mx_validate.specs.Padded.{insts_of, items_of, falls, body_count}
use Rattle.law_order.specs.Running.{Ran, run_one}
use Rattle.law_order.proofs.Words.{item_inst, words}
use Rattle.std.proofs.lemmas.List.{map-append}
use Rattle.law_link.proofs.Going.{stands_left}
use Rattle.law_link.proofs.Matching.{linked, linked_write, linked_value, word_seen, word_value, core_of}
use Rattle.law_link.proofs.Saying.{said, step_is, ran_at}
use Rattle.law_link.proofs.Planned.{bodies, pre, last}
use Rattle.law_link.proofs.OneBlock.{Leads, Slots, Filled, Own, InSecond, InFirst, InBoth, StandsAt, GoesOn, StopsAt, Laid, Entered, MovesOn, nowhere, onward, away, falls_on, stops, run_b, to_end, behind_it, behind_slots, Landed, takes, passes}
use Rattle.law_link.proofs.OneBlock.{Transfers}
use Rattle.law_link.proofs.Setting.{StepSetting, Setting, machine_of, short}

no_place_of_code : (b : Bool) (s : State) (t : Step) → is_stuck (cond b (stuck CodeOperand s) t).after.mark ≡ false → b ≡ false
no_place_of_code true s t h = absurd (false≢true (sym h))
no_place_of_code false s t h = refl

module _ (setting : Setting) where
  open setting use {link, program as p, code, inside, leader, place_of, small, low}

  abbrev machine : StepSetting
  machine = machine_of setting

  abbrev pub Lay : ℕ → Type 0
  Lay i = Laid setting i

  abbrev pub core : State → Core
  core s = core_of link s

  abbrev pub Leading : ℕ → Type 0
  Leading j = Leads setting j

  abbrev pub Standing : ℕ → List Inst → Type 0
  Standing = StandsAt setting

  abbrev pub inner_of : (i : ℕ) → Lay i → List Inst
  inner_of i w = bodies p.input w.planned

  abbrev pub front_of : (i : ℕ) → Lay i → List Inst
  front_of i w = pre p.input w.planned

  abbrev pub ender_of : (i : ℕ) → Lay i → Inst
  ender_of i w = last p.input w.planned

  -- the statement behind the body
  abbrev pub end_statement : (i : ℕ) → Lay i → Option Statement
  end_statement i w = slice_get p.statements (i + length (inner_of i w))

  abbrev pub words_of : (i : ℕ) → Lay i → List Inst
  words_of i w = words w.insts (items_of w.plan)

  -- where the terminator stands
  abbrev pub at_of : (i : ℕ) → Lay i → ℕ
  at_of i w = link i + length (front_of i w)

  -- a branch: what it says, where it leads, and that it holds where it surely goes
  pub record IsBranch (i : ℕ) (w : Lay i) (slots : Slots setting) : Type 0 where
    pub a : ℕ
    pub c : ℕ
    pub condition : Cond
    pub by : ℤ
    pub statement : end_statement i w ≡ Some (Branch a c condition slots.target)
    pub is : ender_of i w ≡ BranchInst a c condition slots.squash by
    pub reach : (at_of i w + cast_unsigned w32 by) % 2 ^ 31 ≡ link slots.target + slots.count
    pub surely : slots.sure ≡ true → (f : Words) → condition_holds condition (reg f a) (reg f c) ≡ true

  pub record IsCall (i : ℕ) (w : Lay i) (slots : Slots setting) : Type 0 where
    pub d : ℕ
    pub statement : end_statement i w ≡ Some (Call d slots.target)
    pub is : ender_of i w ≡ Jspci 0 d (pos (link slots.target + slots.count))

  pub record IsJump (i : ℕ) (w : Lay i) : Type 0 where
    pub a : ℕ
    pub d : ℕ
    pub means : (s : State) → execute p (end_statement i w) s ≡ jumps (value_in s.regs a) d s
    pub is : ender_of i w ≡ Jspci a d (pos 0)

  -- a transfer to a statement that it names
  pub data Kind (i : ℕ) (w : Lay i) (slots : Slots setting) : Type 0 where
    Branches : IsBranch i w slots → Kind i w slots
    Calls : IsCall i w slots → Kind i w slots

  abbrev TransfersAt : (i : ℕ) → Lay i → Type 0
  TransfersAt i w = Transfers setting i w

  -- the terminator and two words stand behind the body
  abbrev pub StandBehind : (i : ℕ) → Lay i → Inst → Inst → Type 0
  StandBehind i w x y = Standing (link i) (front_of i w ++ ender_of i w ∷ x ∷ y ∷ [])

  pub data EndOf (i : ℕ) (w : Lay i) : Type 0 where
    Falls : (f : falls w.block.end ≡ true) → (none : w.parts.back ≡ []) → (st : Standing (link i) (words_of i w)) → EndOf i w
    Stops :
        (f : falls w.block.end ≡ false) → (one : w.parts.back ≡ Op (body_count w.block) ∷ [])
        → (stop : end_statement i w ≡ Some Halt) → (is : ender_of i w ≡ HaltInst) → (st : Standing (link i) (words_of i w))
        → EndOf i w
    Moves :
        (b : TransfersAt i w) → (slots : Slots setting) → (kind : Kind i w slots)
        → (filled : Filled setting w.insts b.f b.g slots) → (lead : Leading slots.target) → (st : StandBehind i w slots.first slots.second)
        → EndOf i w
    Jumps :
        (b : TransfersAt i w) → (jump : IsJump i w) → (st : StandBehind i w (item_inst w.insts b.f) (item_inst w.insts b.g)) → EndOf i w

  -- the words before the terminator's place stand
  pub front_stands : (i : ℕ) (w : Lay i) → EndOf i w → Standing (link i) (front_of i w)
  front_stands i w (Falls f none st) =
      stands_left code inside (link i) (front_of i w) (words w.insts w.parts.back)
      (subst (Standing (link i)) (ap (words w.insts) w.parts.whole ∙ map-append (item_inst w.insts) w.parts.front w.parts.back) st)
  front_stands i w (Stops f one stop is st) =
      stands_left code inside (link i) (front_of i w) (words w.insts w.parts.back)
      (subst (Standing (link i)) (ap (words w.insts) w.parts.whole ∙ map-append (item_inst w.insts) w.parts.front w.parts.back) st)
  front_stands i w (Moves b slots kind filled lead st) =
      stands_left code inside (link i) (front_of i w) (ender_of i w ∷ slots.first ∷ slots.second ∷ []) st
  front_stands i w (Jumps b jump st) =
      stands_left code inside (link i) (front_of i w) (ender_of i w ∷ item_inst w.insts b.f ∷ item_inst w.insts b.g ∷ []) st

  -- and at most three from there on
  pub back_short : (i : ℕ) (w : Lay i) → EndOf i w → length w.parts.back ≤ 3
  back_short i w (Falls f none st) = let e = ap length none in omega arith
  back_short i w (Stops f one stop is st) = let e = ap length one in omega arith
  back_short i w (Moves b slots kind filled lead st) = let e = ap length b.three in omega arith
  back_short i w (Jumps b jump st) = let e = ap length b.three in omega arith

  -- each place of code that a register holds is a leader, or the end
  abbrev pub CodesLead : Run → Type 0
  CodesLead r = (n t : ℕ) → value_in r.state.regs n ≡ CodeValue t → Leading t

  abbrev shorts : (i : ℕ) → link i < 2 ^ 32
  shorts = short setting

  module _ (entered : Entered setting) where
    open entered use {i, w, r, going, here, safe}

    abbrev n : ℕ
    n = length (insts_of w.block)

    abbrev Onward : Type 0
    Onward = GoesOn setting i n (length (items_of w.plan)) (length w.parts.front) r

    abbrev r1 : Run
    r1 = run_for p (length (inner_of i w)) r

    abbrev r2 : Run
    r2 = run_for p n r

    abbrev at : ℕ
    at = at_of i w

    abbrev ender : Inst
    ender = ender_of i w

    -- a block that ends with a transfer
    module _ (b : TransfersAt i w) (kind : MovesOn setting entered) where
      abbrev Lands : ℕ → Type 0
      Lands j = Landed setting entered b kind j

      abbrev Filling : Slots setting → Type 0
      Filling slots = Filled setting w.insts b.f b.g slots

      abbrev Behind : Slots setting → Type 0
      Behind slots = StandBehind i w slots.first slots.second

      abbrev taking :
          (slots : Slots setting) → decides ender at (core r1.state).regs ≡ away (link slots.target + slots.count) → Lands slots.target
          → Leading slots.target → Filling slots → Behind slots → Onward
      taking = takes setting entered b kind

      abbrev passing :
          (slots : Slots setting) → decides ender at (core r1.state).regs ≡ onward slots.squash → Lands (i + n) → slots.sure ≡ false
          → Filling slots → Behind slots → Onward
      passing = passes setting entered b kind

      pub run_is : (o : Option Statement) → end_statement i w ≡ o → r2 ≡ said p o r1
      run_is o e =
          let run = run_b setting entered b kind in
          to_end setting entered b kind
          ∙ step_is p r1 o run.mark (ap (slice_get p.statements) run.index ∙ e)

      going_there : r1.state.mark ≡ Going
      going_there = let run = run_b setting entered b kind in run.mark

      next_index : suc r1.state.index ≡ i + n
      next_index = behind_it setting entered b kind

      next_link : link (suc r1.state.index) ≡ at + 3
      next_link = behind_slots setting entered b kind

      -- on to statement j, with a value in a register
      abbrev landed : ℕ → ℕ → Value → Run
      landed j d v = record { state = record r1.state { index = j; regs = write_value r1.state.regs d v }; console = r1.console ++ [] }

      abbrev pub stepped_to : Step → Run
      stepped_to t = record { state = t.after; console = r1.console ++ option_to_list t.byte }

      abbrev by_inst : Inst → Ran
      by_inst j = run_one p.place p.input at j (ran_at link r1 true nowhere)

      lands :
          (T : Inst) (j d : ℕ) (v : Value) → ender ≡ T → r2 ≡ landed j d v → (by_inst T).core ≡ core (landed j d v).state
          → (by_inst T).bytes ≡ r1.console ++ [] → Lands j
      lands T j d v is e c s = record {
        index = ap (λ (u : Run). u.state.index) e;
        mark = ap (λ (u : Run). u.state.mark) e ∙ going_there;
        core = ap (λ k. (by_inst k).core) is ∙ c ∙ ap (λ (u : Run). core u.state) (sym e);
        bytes = ap (λ k. (by_inst k).bytes) is ∙ s ∙ ap (λ (u : Run). u.console) (sym e);
      }

      -- whether a branch goes
      abbrev pub holds : Cond → ℕ → ℕ → Bool
      holds condition a c = condition_holds condition (reg (core r1.state).regs a) (reg (core r1.state).regs c)

      -- what the meaning does at a branch whose operands are words
      pub branch_meant :
          (slots : Slots setting) (k : IsBranch i w slots) → r2 ≡ landed (cond (holds k.condition k.a k.c) slots.target (suc r1.state.index)) 0 (Int 0)
      branch_meant slots k =
          let go = λ (a c : ℕ). cond (condition_holds k.condition a c) slots.target (suc r1.state.index) in
          let va = value_in r1.state.regs k.a in
          let vc = value_in r1.state.regs k.c in
          let e = run_is (Some (Branch k.a k.c k.condition slots.target)) k.statement in
          let new : Step = record {
            after = record r1.state { index = go (word_in va) (word_in vc); regs = write_value r1.state.regs 0 (Int 0) };
            byte = None;
          } in
          let none = no_place_of_code (any_code r1.state.regs (k.a, k.c)) r1.state new (ap (λ (u : Run). is_stuck u.state.mark) (sym e) ∙ safe) in
          let o = or_parts _ _ none in
          let wa : word_in va ≡ reg (core r1.state).regs k.a = word_value link r1.state.regs k.a ∙ word_seen link r1.state.regs k.a o.0 in
          let wc : word_in vc ≡ reg (core r1.state).regs k.c = word_value link r1.state.regs k.c ∙ word_seen link r1.state.regs k.c o.1 in
          e
          ∙ ap (λ t. stepped_to (cond t (stuck CodeOperand r1.state) new)) none
          ∙ (λ j. landed (go (wa j) (wc j)) 0 (Int 0))

      abbrev branch_word : (slots : Slots setting) → IsBranch i w slots → Inst
      branch_word slots k = BranchInst k.a k.c k.condition slots.squash k.by

      -- what it decides, by whether its condition holds
      abbrev pub branch_decides : (slots : Slots setting) → IsBranch i w slots → Bool → Decision
      branch_decides slots k v = cond v (away ((at + cast_unsigned w32 k.by) % 2 ^ 31)) (onward slots.squash)

      pub branches : (slots : Slots setting) → IsBranch i w slots → Filling slots → Leading slots.target → Behind slots → Onward
      branches slots k filled lead st = by_test (holds k.condition k.a k.c) refl
        where
          decided : (v : Bool) → holds k.condition k.a k.c ≡ v → decides ender at (core r1.state).regs ≡ branch_decides slots k v
          decided v e = ap (λ j. decides j at (core r1.state).regs) k.is ∙ ap (branch_decides slots k) e

          meant : (v : Bool) → holds k.condition k.a k.c ≡ v → r2 ≡ landed (cond v slots.target (suc r1.state.index)) 0 (Int 0)
          meant v e = branch_meant slots k ∙ ap (λ u. landed (cond u slots.target (suc r1.state.index)) 0 (Int 0)) e

          by_test : (v : Bool) → holds k.condition k.a k.c ≡ v → Onward
          by_test true e =
              taking slots (decided true e ∙ ap away k.reach) (lands (branch_word slots k) slots.target 0 (Int 0) k.is
              (meant true e) refl refl) lead filled st
          by_test false e =
              passing slots (decided false e)
              (lands (branch_word slots k) (i + n) 0 (Int 0) k.is (meant false e ∙ ap (λ j. landed j 0 (Int 0)) next_index) refl refl)
              (unsure slots.sure refl) filled st
            where
              unsure : (v : Bool) → slots.sure ≡ v → v ≡ false
              unsure true q = absurd (false≢true (sym e ∙ k.surely q (core r1.state).regs))
              unsure false q = refl

      -- the link of a jump is the next place
      linked_jump : (a d : ℕ) (imm : ℤ) (j : ℕ) → (by_inst (Jspci a d imm)).core ≡ core (landed j d (CodeValue (suc r1.state.index))).state
      linked_jump a d imm j = λ k. record {
        regs = ((λ m. write (core r1.state).regs d (sym next_link m)) ∙ sym (linked_write link r1.state.regs d (CodeValue (suc r1.state.index)))) k;
        md = r1.state.md;
        mem = (core r1.state).mem;
        taken = r1.state.taken;
      }

      pub calls : (slots : Slots setting) → slots.count ≤ 2 → IsCall i w slots → Filling slots → Leading slots.target → Behind slots → Onward
      calls slots few k filled lead st =
          let to = link slots.target + slots.count in
          let e = run_is (Some (Call k.d slots.target)) k.statement in
          let sm = small slots.target in
          let there : offset_by (core r1.state).regs 0 (pos to) % 2 ^ 31 ≡ to = omega arith in
          taking slots (ap (λ j. decides j at (core r1.state).regs) k.is ∙ ap away there)
          (lands (Jspci 0 k.d (pos to)) slots.target k.d (CodeValue (suc r1.state.index)) k.is e (linked_jump 0 k.d (pos to) slots.target) refl)
          lead filled st

      -- by a register: both slots hold items of the block's own plan
      abbrev own_slots : ℕ → Slots setting
      own_slots t = record {
        target = t;
        count = 0;
        squash = false;
        sure = false;
        first = item_inst w.insts b.f;
        second = item_inst w.insts b.g;
      }

      pub jumps_by : (k : IsJump i w) → StandBehind i w (item_inst w.insts b.f) (item_inst w.insts b.g) → CodesLead r1 → Onward
      jumps_by k st codes = by_value (value_in r1.state.regs k.a) refl
        where
          run_to : (v : Value) → value_in r1.state.regs k.a ≡ v → r2 ≡ stepped_to (jumps v k.d r1.state)
          run_to v e =
              run_is (end_statement i w) refl
              ∙ ap stepped_to (k.means r1.state)
              ∙ ap (λ u. stepped_to (jumps u k.d r1.state)) e

          by_value : (v : Value) → value_in r1.state.regs k.a ≡ v → Onward
          by_value (Int word) e = absurd (false≢true (sym safe ∙ ap (λ (u : Run). is_stuck u.state.mark) (run_to (Int word) e)))
          by_value (CodeValue t) e =
              let sm = small t in
              let to : reg (core r1.state).regs k.a ≡ link t = sym (linked_value link r1.state.regs k.a) ∙ ap (linked link) e in
              let there : offset_by (core r1.state).regs k.a (pos 0) % 2 ^ 31 ≡ link t + 0 = omega arith in
              taking (own_slots t) (ap (λ j. decides j at (core r1.state).regs) k.is ∙ ap away there)
              (lands (Jspci k.a k.d (pos 0)) t k.d (CodeValue (suc r1.state.index)) k.is (run_to (CodeValue t) e) (linked_jump k.a k.d (pos 0) t) refl)
              (codes k.a t e) (Own refl refl refl refl) st

    pub moves_on : (T : Inst) → ender ≡ T → is_transfer T ≡ true → is_halt T ≡ false → is_load T ≡ false → MovesOn setting entered
    moves_on T is t h l = record { moves = ap is_transfer is ∙ t; on = ap is_halt is ∙ h; no_load = ap is_load is ∙ l }

    pub few_copies : (slots : Slots setting) (f g : Item) → Filled setting w.insts f g slots → slots.count ≤ 2
    few_copies slots f g (Own none clear first second) = omega arith
    few_copies slots f g (InSecond one surely ng first head free leads) = omega arith
    few_copies slots f g (InFirst one set nf ng head second leads) = omega arith
    few_copies slots f g (InBoth two set nf ng head other leads) = omega arith

    -- one block
    pub one_block : EndOf i w → CodesLead r1 → Onward ⊎ StopsAt setting i n (length (items_of w.plan)) (length w.parts.front) r
    one_block (Falls f none st) codes = inl (falls_on setting entered f none st)
    one_block (Stops f one stop is st) codes = inr (stops setting entered f one stop is st)
    one_block (Moves b slots (Branches k) filled lead st) codes =
        inl (branches b (moves_on (BranchInst k.a k.c k.condition slots.squash k.by) k.is refl refl refl) slots k filled lead st)
    one_block (Moves b slots (Calls k) filled lead st) codes =
        inl (calls b (moves_on (Jspci 0 k.d (pos (link slots.target + slots.count))) k.is refl refl refl) slots
        (few_copies slots b.f b.g filled) k filled lead st)
    one_block (Jumps b k st) codes = inl (jumps_by b (moves_on (Jspci k.a k.d (pos 0)) k.is refl refl refl) k st codes)
