-- One block. The invariant: the queue is at the block's first word, and registers, memory and console are the meaning's (`did_of`).
-- It goes across the block to the first word of the next one (`GoesOn`) or to a halt (`StopsAt`). Where slots hold the first words of
-- the target, the machine comes to where the target's own run is after those words (`reaches`), and shows the meaning's state
-- before it does them (`shown`).
use Rattle.std.proofs.Common.{◌≡◌, ℕ, suc, ◌+◌, ◌*◌, ◌-◌, ◌^◌, ◌<◌, ◌≤◌, Bool, true, false, ◌&&◌, List, [], ◌∷◌, ◌++◌, ◌⊎◌, length, length-append, Option, Some, None, refl, sym, ap, ◌∙◌, subst, arith, ⊎_elim, inl, inr}
use Rattle.std.specs.Prelude.{slice_get}
use Rattle.std.proofs.lemmas.Bool.{cond-true, cond-false, false≢true}
use Rattle.std.proofs.lemmas.Bool.Decides.{nat_tests}
use Rattle.std.proofs.lemmas.List.{append-nil, length-map}
use Rattle.mx_isa.specs.declared.inst.Inst.{Inst}
use Rattle.mx_isa.specs.declared.inst.Inst.TheVariants.{Load, Store}
use Rattle.mx_isa.specs.declared.inst.Inst.TheVariants.{Halt as HaltInst}
use Rattle.mx_isa.specs.Effect.{Decision, decides}
use Rattle.mx_isa.specs.Views.{Access, access, is_load, is_halt, is_transfer, dest, reads}
use Rattle.mx_delay.specs.Delay.{idle, queued, next_of}
use Rattle.mx_delay.specs.Clean.{is_lawful, Watched, loads_to}
use Rattle.mx_depend.specs.Graphs.{inst_at}
use Rattle.mx_source.specs.declared.statement.Statement.TheVariants.{Halt}
use Rattle.mx_source.specs.Meaning.{Going, Halted, Run, run_step, run_for, is_stuck}
use Rattle.mx_blocks.specs.declared.block.Item.{Item}
use Rattle.mx_blocks.specs.declared.block.Item.TheVariants.{Op, Nop}
use Rattle.mx_blocks.specs.Items.{ops}
use Rattle.mx_validate.specs.Padded.{insts_of, items_of, falls, body_count}
use Rattle.mx_validate.proofs.Listed.{ops_append}
use Rattle.law_order.specs.Running.{Ran, run_one}
use Rattle.law_order.specs.Parts.{AreBelow}
use Rattle.law_order.proofs.Reorder.{once_length}
use Rattle.law_order.proofs.Words.{item_inst, words, run_along}
use Rattle.law_link.proofs.Going.{Did, IsPlain, ArePlain, idle_plain, Stands, stands_left, did_same, did, did_all, did_anywhere, queue, starts, for, for_same, for_add, plain_word, goes, Keeps, keeps_self, keeps_then}
use Rattle.law_link.proofs.Ends.{Ended, append_did, past_transfer, slots_taken, slots_cancelled, one_taken, at_g, in_g, halts, undo, keeps_idle, keeps_head}
use Rattle.law_link.proofs.Matching.{core_of}
use Rattle.law_link.proofs.Saying.{said, step_is, not_stuck_before, run_same, run_add, run_one_more, AreBody, all_plain, ran_at, BodyRun, body_run}
use Rattle.law_link.proofs.Planned.{ran_of, all_ran, all_loaded, bodies, pre, last, bodies_length, pre_length, plain_body, plain_pre, size_ends, falls_run, words_are, ends_run, decides_there, apart_all, apart_pre, end_loaded}
use Rattle.law_link.proofs.Setting.{StepSetting, PlannedBlock, Setting, machine_of, short}
use Rattle.law_link.proofs.Going.{once}
use Rattle.law_order.proofs.Split.{below_left, below_right}

plain_item :
    (insts : List Inst) (n : ℕ) (x : Item) → AreBelow n (x ∷ []) → ((k : ℕ) → k < n → IsPlain (inst_at insts k)) → IsPlain (item_inst insts x)
plain_item insts n Nop b h = idle_plain
plain_item insts n (Op k) b h = h k b.0

ops_length : (xs : List Item) → length (ops xs) ≤ length xs
ops_length [] = omega arith
ops_length (Op k ∷ xs) = let h = ops_length xs in omega arith
ops_length (Nop ∷ xs) = let h = ops_length xs in omega arith

next_none : (n : ℕ) → n + 1 < 2 ^ 31 → next_of None n ≡ n + 1
next_none n h = omega arith

some_none : (a : Access) → Some a ≡ None → ⊥
some_none a e = cc

no_access_moves : (i : Inst) → is_transfer i ≡ true → access i ≡ None
no_access_moves (Load base d offset) h = absurd (false≢true h)
no_access_moves (Store base v offset) h = absurd (false≢true h)
no_access_moves _ h = refl

abbrev pub nowhere : Decision
nowhere = record { target = None; cancels = false }

abbrev pub onward : Bool → Decision
onward sq = record { target = None; cancels = sq }

abbrev pub away : ℕ → Decision
away z = record { target = Some z; cancels = false }

module _ (setting : Setting) where
  open setting use {link, program as p, code, inside, leader, place_of, small, low}

  abbrev machine : StepSetting
  machine = machine_of setting

  abbrev shorts : (i : ℕ) → link i < 2 ^ 32
  shorts = short setting

  -- a leader, or the end of the source
  abbrev pub Leads : ℕ → Type 0
  Leads j = (leader j ≡ true) ⊎ (j ≡ length p.statements)

  -- and so many words stand before the terminator's place
  abbrev pub LeadsAt : ℕ → ℕ → Type 0
  LeadsAt c j = ((leader j ≡ true) ⊎ (j ≡ length p.statements)) × (c ≤ place_of j)

  -- word k of the block that begins at a statement, before its terminator's place
  pub record Head (t k : ℕ) (x : Inst) : Type 0 where
    pub at : code (link t + k) ≡ x
    pub within : inside (link t + k) ≡ true
    pub plain : IsPlain x
    pub before : k < place_of t

  -- the two words behind a transfer
  pub record Slots : Type 0 where
    -- the statement that it goes to, and how many of its words it leaves out there
    pub target : ℕ
    pub count : ℕ
    -- whether it squashes the two where it does not go, and whether it surely goes
    pub squash : Bool
    pub sure : Bool
    pub first : Inst
    pub second : Inst

  -- They are the items of its own plan, f and g, or the first words of the target.
  pub data Filled (insts : List Inst) (f g : Item) (w : Slots) : Type 0 where
    Own :
        (none : w.count ≡ 0) → (clear : w.squash ≡ false) → (first : w.first ≡ item_inst insts f) → (second : w.second ≡ item_inst insts g)
        → Filled insts f g w
    InSecond :
        (one : w.count ≡ 1) → (surely : w.sure ≡ true) → (no_second : g ≡ Nop) → (first : w.first ≡ item_inst insts f)
        → (head : Head w.target 0 w.second) → (free : reads w.second (loads_to w.first) ≡ false) → (leads : leader w.target ≡ true)
        → Filled insts f g w
    InFirst :
        (one : w.count ≡ 1) → (set : w.sure ≡ false → w.squash ≡ true) → (no_first : f ≡ Nop) → (no_second : g ≡ Nop)
        → (head : Head w.target 0 w.first) → (second : w.second ≡ idle) → (leads : leader w.target ≡ true)
        → Filled insts f g w
    InBoth :
        (two : w.count ≡ 2) → (set : w.sure ≡ false → w.squash ≡ true) → (no_first : f ≡ Nop) → (no_second : g ≡ Nop)
        → (head : Head w.target 0 w.first) → (other : Head w.target 1 w.second) → (leads : leader w.target ≡ true)
        → Filled insts f g w

  abbrev pub did_of : Run → Did
  did_of r = record { core = core_of link r.state; console = r.console; clean = true; loaded = 0 }

  abbrev pub begins : ℕ → Did → Watched
  begins = starts machine

  abbrev pub steps : ℕ → Watched → Watched
  steps = for machine

  abbrev pub doing : ℕ → Inst → Did → Did
  doing = did machine

  abbrev pub doing_all : ℕ → List Inst → Did → Did
  doing_all = did_all machine

  abbrev pub StandsAt : ℕ → List Inst → Type 0
  StandsAt = Stands code inside

  abbrev pub Keeping : Watched → Watched → Type 0
  Keeping = Keeps machine

  -- the state shows what the meaning says
  pub record IsAt (x : Watched) (r : Run) : Type 0 where
    pub core : x.at.core ≡ core_of link r.state
    pub console : x.at.console ≡ r.console
    pub clean : x.clean ≡ true

  is_at_did : (d : Did) (r : Run) (z : ℕ) → d ≡ did_of r → IsAt (begins z d) r
  is_at_did d r z e = record { core = ap (λ (x : Did). x.core) e; console = ap (λ (x : Did). x.console) e; clean = ap (λ (x : Did). x.clean) e }

  -- from the first word of a block of n statements, len words and this place to where the next one goes on
  pub record GoesOn (i n len place : ℕ) (r : Run) : Type 0 where
    pub own : ℕ
    pub w : ℕ
    pub c : ℕ
    pub is_own : own + w ≡ len
    pub many : n ≤ own
    pub behind : place ≤ own
    pub short_len : len ≤ 3 * n
    pub count : c ≤ w
    -- where no word of the next block is done, no slot holds a word of another block
    pub bare : c ≡ 0 → w ≡ 0
    pub mark : (run_for p n r).state.mark ≡ Going
    pub lead : LeadsAt c (run_for p n r).state.index
    pub reaches : Keeping (steps len (begins (link i) (did_of r))) (steps c (begins (link (run_for p n r).state.index) (did_of (run_for p n r))))
    pub shown : IsAt (steps own (begins (link i) (did_of r))) (run_for p n r)
    pub runs_on : (steps own (begins (link i) (did_of r))).at.halted ≡ false

  pub record StopsAt (i n len place : ℕ) (r : Run) : Type 0 where
    pub within : place + 1 ≤ len
    pub before_n : ℕ
    pub is_n : n ≡ suc before_n
    pub many : n ≤ suc place
    pub short_len : suc place ≤ 3 * n
    pub before : (run_for p before_n r).state.mark ≡ Going
    pub mark : (run_for p n r).state.mark ≡ Halted
    pub runs_on : (steps place (begins (link i) (did_of r))).at.halted ≡ false
    pub halted : (steps (place + 1) (begins (link i) (did_of r))).at.halted ≡ true
    pub shown : IsAt (steps (place + 1) (begins (link i) (did_of r))) (run_for p n r)

  -- a block with a plan, and where it stands
  pub record Laid (i : ℕ) : Type 0 where
    pub planned : PlannedBlock p.input
    pub open planned use *
    pub few : length (insts_of block) ≤ 64
    pub body : AreBody link p.statements i (bodies p.input planned)
    pub next : link (i + length (insts_of block)) ≡ link i + length (items_of plan)
    pub lead : Leads (i + length (insts_of block))

  -- what stands from the terminator's place on, where a block ends with a transfer
  pub record Transfers (i : ℕ) (w : Laid i) : Type 0 where
    pub f_not : falls w.block.end ≡ false
    pub f : Item
    pub g : Item
    pub three : w.parts.back ≡ Op (body_count w.block) ∷ f ∷ g ∷ []
    pub below : AreBelow (body_count w.block) (f ∷ g ∷ [])

  -- a run of the meaning that comes to a block, and is not stuck in it
  pub record Entered : Type 0 where
    pub i : ℕ
    pub w : Laid i
    pub r : Run
    pub going : r.state.mark ≡ Going
    pub here : r.state.index ≡ i
    pub safe : is_stuck (run_for p (length (insts_of w.block)) r).state.mark ≡ false

  module _ (entered : Entered) where
    open entered use {i, w, r, going, here, safe}

    abbrev n : ℕ
    n = length (insts_of w.block)

    abbrev len : ℕ
    len = length (items_of w.plan)

    abbrev base : ℕ
    base = link i

    abbrev inner : List Inst
    inner = bodies p.input w.planned

    abbrev front : List Inst
    front = pre p.input w.planned

    abbrev ender : Inst
    ender = last p.input w.planned

    abbrev all : List Inst
    all = words w.insts (items_of w.plan)

    abbrev place : ℕ
    place = length w.parts.front

    abbrev at : ℕ
    at = base + length front

    abbrev d0 : Did
    d0 = did_of r

    abbrev R0 : Ran
    R0 = ran_at link r true nowhere

    -- behind the body
    abbrev r1 : Run
    r1 = run_for p (length inner) r

    abbrev r2 : Run
    r2 = run_for p n r

    front_is : length front ≡ place
    front_is = pre_length p.input w.planned

    inner_is : length inner ≡ body_count w.block
    inner_is = bodies_length p.input w.planned

    len_parts : len ≡ place + length w.parts.back
    len_parts = ap length w.parts.whole ∙ length-append w.parts.front w.parts.back

    size_ops : n ≤ length (ops (items_of w.plan))
    size_ops = once_length n 0 (ops (items_of w.plan)) (λ k. w.laid.valid.once k ∙ grind (arith, nat_tests))

    len_all : length all ≡ len
    len_all = length-map (items_of w.plan) (item_inst w.insts)

    pub body_done : (k : ℕ) → n ≡ length inner + k → BodyRun link p i at inner r true nowhere
    body_done k e = body_run link p shorts i at inner r true nowhere going here w.body
        (not_stuck_before p k r1 (ap (λ (u : Run). is_stuck u.state.mark) (sym (run_add p (length inner) k r) ∙ run_same p (length inner + k) n r (sym e))
        ∙ safe))

    inner_plain : ArePlain inner
    inner_plain = all_plain link p.statements i inner w.body

    pub front_plain : ArePlain front
    front_plain = plain_pre p.input w.planned inner_plain

    did_is :
        (d : Did) (u : Run) (x : Ran) (l : Decision) → ran_of d l ≡ x → x.core ≡ core_of link u.state → x.bytes ≡ u.console → x.clean ≡ true
        → d.loaded ≡ 0 → d ≡ did_of u
    did_is d u x l e c b k m =
        did_same d (did_of u) (ap (λ (y : Ran). y.core) e ∙ c) (ap (λ (y : Ran). y.bytes) e ∙ b) (ap (λ (y : Ran). y.clean) e ∙ k) m

    all_made : ran_of (doing_all base all d0) (run_along p.place p.input base all R0).leads ≡ run_along p.place p.input base all R0
    all_made = all_ran machine base all d0 nowhere (apart_all p.input w.planned)

    all_free : (doing_all base all d0).loaded ≡ 0
    all_free = all_loaded machine base all d0 ∙ end_loaded p.input w.planned

    -- a block that falls through
    pub falls_on : falls w.block.end ≡ true → w.parts.back ≡ [] → StandsAt base all → GoesOn i n len place r
    falls_on f none st =
        let size_is : n ≡ length inner = (let a = inner_is in let b =
        cond-true (falls w.block.end) (length (insts_of w.block)) (length (insts_of w.block) - 1) f in omega arith) in
        let run = body_done 0 (omega arith) in
        let to_size : r2 ≡ r1 = run_same p n (length inner) r size_is in
        let whole = all_made ∙ falls_run p.input w.planned p.place base at R0 f none ∙ run.ran in
        let d_is : doing_all base all d0 ≡ did_of r2 = did_is (doing_all base all d0) r1 (ran_at link r1 true nowhere)
        (run_along p.place p.input base all R0).leads whole refl refl refl all_free ∙ ap did_of (sym to_size) in
        let no_items : length w.parts.back ≡ 0 = ap length none in
        let lp = len_parts in
        let la = len_all in
        let wp : ArePlain all = subst ArePlain (sym (ap (words w.insts)
        (w.parts.whole ∙ ap (λ l. w.parts.front ++ l) none ∙ append-nil w.parts.front))) front_plain in
        let sm = small (i + n) in
        let nx = w.next in
        let go : steps len (begins base d0) ≡ begins (link (i + n)) (did_of r2) =
        for_same machine len (length all) (begins base d0) (sym la)
        ∙ goes machine all base d0 st wp (low i) (omega arith)
        ∙ (λ k. begins ((ap (λ m. base + m) la ∙ sym nx) k) (d_is k)) in
        let ix : r2.state.index ≡ i + n = ap (λ (u : Run). u.state.index) to_size ∙ run.index ∙ ap (λ m. i + m) (sym size_is) in
        let go2 : steps len (begins base d0) ≡ begins (link r2.state.index) (did_of r2) = go ∙ ap (λ m. begins (link m) (did_of r2)) (sym ix) in
        let room = w.parts.room in
        let in_is = inner_is in
        let sized = size_ops in
        let ol = ops_length (items_of w.plan) in
        record {
          own = len;
          w = 0;
          c = 0;
          is_own = omega arith;
          many = omega arith;
          behind = omega arith;
          short_len = omega arith;
          count = omega arith;
          bare = λ e. refl;
          mark = ap (λ (u : Run). u.state.mark) to_size ∙ run.mark;
          lead = (⊎_elim (λ l. inl (ap leader ix ∙ l)) (λ l. inr (ix ∙ l)) w.lead, (let q : 0 ≤ place_of r2.state.index = omega arith in q));
          reaches = keeps_self machine (steps len (begins base d0)) (begins (link r2.state.index) (did_of r2)) go2;
          shown = subst (λ (x : Watched). IsAt x r2) (sym go) (is_at_did (did_of r2) r2 (link (i + n)) refl);
          runs_on = ap (λ (x : Watched). x.at.halted) go;
        }

    -- a block that halts
    pub stops :
        falls w.block.end ≡ false → w.parts.back ≡ Op (body_count w.block) ∷ [] → slice_get p.statements (i + length inner) ≡ Some Halt
        → ender ≡ HaltInst → StandsAt base all → StopsAt i n len place r
    stops f one stop is_halt_there st =
        let in_is = inner_is in
        let size_is : n ≡ suc (length inner) = size_ends p.input w.planned f ∙ ap (λ m. suc m) (sym in_is) in
        let run = body_done 1 (omega arith) in
        let end_is : r2 ≡ said p (Some Halt) r1 = run_same p n (suc (length inner)) r size_is ∙ run_one_more p (length inner) r
        ∙ step_is p r1 (Some Halt) run.mark (ap (slice_get p.statements) run.index ∙ stop) in
        let words_is : all ≡ front ++ HaltInst ∷ [] = words_are p.input w.planned [] one ∙ ap (λ j. front ++ j ∷ []) is_halt_there in
        let st2 : StandsAt base (front ++ HaltInst ∷ []) = subst (StandsAt base) words_is st in
        let lp : len ≡ place + 1 = len_parts ∙ ap (λ l. place + length l) one in
        let fl = front_is in
        let sm = small (i + n) in
        let nx = w.next in
        let h = halts machine front base d0 st2 front_plain (low i) (omega arith) in
        let go = goes machine front base d0 (stands_left code inside base front (HaltInst ∷ []) st2) front_plain (low i) (omega arith) in
        let all_is : doing_all base all d0 ≡ doing at HaltInst (doing_all base front d0) = ap (λ l. doing_all base l d0) words_is
        ∙ append_did machine base front (HaltInst ∷ []) d0 in
        let whole : ran_of (doing_all base all d0) (run_along p.place p.input base all R0).leads
        ≡ run_one p.place p.input at HaltInst (ran_at link r1 true nowhere) =
        all_made
        ∙ ends_run p.input w.planned p.place base R0 [] f one tt
        ∙ ap (run_one p.place p.input at ender) run.ran
        ∙ ap (λ j. run_one p.place p.input at j (ran_at link r1 true nowhere)) is_halt_there in
        let to_place = for_same machine (length front + 1) (place + 1) (begins base d0) (ap (λ m. m + 1) fl) in
        let sized = size_ops in
        let ol = ops_length (items_of w.plan) in
        let room = w.parts.room in
        record {
          within = omega arith;
          before_n = length inner;
          is_n = size_is;
          many = omega arith;
          short_len = omega arith;
          before = run.mark;
          mark = ap (λ (u : Run). u.state.mark) end_is;
          runs_on = ap (λ (x : Watched). x.at.halted) (for_same machine place (length front) (begins base d0) (sym fl) ∙ go);
          halted = ap (λ (x : Watched). x.at.halted) (sym to_place) ∙ h.halted;
          shown = subst (λ (x : Watched). IsAt x r2) to_place (record {
            core = h.core ∙ ap (λ (d : Did). d.core) (sym all_is) ∙ ap (λ (y : Ran). y.core) whole
                ∙ ap (λ (u : Run). core_of link u.state) (sym end_is);
            console = h.console ∙ ap (λ (d : Did). d.console) (sym all_is) ∙ ap (λ (y : Ran). y.bytes) whole
                ∙ ap (λ (u : Run). u.console) (sym end_is);
            clean = h.clean ∙ ap (λ (d : Did). d.clean) (sym all_is) ∙ ap (λ (y : Ran). y.clean) whole;
          });
        }

    -- a block that ends with a transfer
    pub record MovesOn : Type 0 where
      pub moves : is_transfer ender ≡ true
      pub on : is_halt ender ≡ false
      pub no_load : is_load ender ≡ false

    module _ (b : Transfers i w) (kind : MovesOn) where
      open b use {f_not, f, g, three, below}
      open kind use {moves, on, no_load}

      abbrev fw : Inst
      fw = item_inst w.insts f

      abbrev gw : Inst
      gw = item_inst w.insts g

      -- these two words stand behind the transfer
      abbrev pub Behind : Inst → Inst → Type 0
      Behind x y = StandsAt base (front ++ ender ∷ x ∷ y ∷ [])

      abbrev pub Onward : Type 0
      Onward = GoesOn i n len place r

      abbrev D0 : Did
      D0 = doing_all base front d0

      abbrev D1 : Did
      D1 = doing at ender D0

      abbrev R1 : Ran
      R1 = run_one p.place p.input at ender (ran_at link r1 true nowhere)

      size_is : n ≡ suc (length inner)
      size_is = size_ends p.input w.planned f_not ∙ ap (λ m. suc m) (sym inner_is)

      pub run_b : BodyRun link p i at inner r true nowhere
      run_b = body_done 1 (let s = size_is in omega arith)

      pub to_end : r2 ≡ run_step p r1
      to_end = run_same p n (suc (length inner)) r size_is ∙ run_one_more p (length inner) r

      pub behind_it : suc r1.state.index ≡ i + n
      behind_it = let s = size_is in let e = run_b.index in omega arith

      all_are : all ≡ front ++ ender ∷ fw ∷ gw ∷ []
      all_are = words_are p.input w.planned (f ∷ g ∷ []) three

      did_are : doing_all base all d0 ≡ doing (at + 2) gw (doing (at + 1) fw D1)
      did_are =
          ap (λ l. doing_all base l d0) all_are
          ∙ append_did machine base front (ender ∷ fw ∷ gw ∷ []) d0
          ∙ ap (λ m. doing m gw (doing (at + 1) fw D1)) (let e : at + 1 + 1 ≡ at + 2 = omega arith in e)

      ran_end : run_along p.place p.input base all R0 ≡ R1
      ran_end = ends_run p.input w.planned p.place base R0 (f ∷ g ∷ []) f_not three below ∙ ap (run_one p.place p.input at ender) run_b.ran

      -- the transfer decides in its place as at the end of the block
      pub decision : decides ender at D0.core.regs ≡ decides ender at (core_of link r1.state).regs
      decision =
          ap (λ (y : Ran). decides ender at y.core.regs) (all_ran machine base front d0 nowhere (apart_pre p.input w.planned))
          ∙ decides_there p.input w.planned p.place base R0
          ∙ ap (λ (y : Ran). decides ender at y.core.regs) run_b.ran

      -- where the meaning lands after the block
      pub record Landed (j : ℕ) : Type 0 where
        pub index : r2.state.index ≡ j
        pub mark : r2.state.mark ≡ Going
        pub core : R1.core ≡ core_of link r2.state
        pub bytes : R1.bytes ≡ r2.console

      transfer_clean : R1.clean ≡ true
      transfer_clean = lawful_none (access ender) (no_access_moves ender moves)
        where
          lawful_none : (o : Option Access) → o ≡ None → (true && is_lawful p.place p.input o (core_of link r1.state).regs) ≡ true
          lawful_none None e = refl
          lawful_none (Some a) e = absurd (some_none a e)

      -- all items done
      ended : (j : ℕ) → Landed j → doing (at + 2) gw (doing (at + 1) fw D1) ≡ did_of r2
      ended j m =
          sym did_are ∙ did_is (doing_all base all d0) r2 R1 (run_along p.place p.input base all R0).leads
          (all_made ∙ ran_end) m.core m.bytes transfer_clean all_free

      len3 : len ≡ place + 3
      len3 = len_parts ∙ ap (λ l. place + length l) three

      many_by : (k : ℕ) → length (ops (f ∷ g ∷ [])) ≤ k → n ≤ place + 1 + k
      many_by k h =
          let e : length (ops (items_of w.plan)) ≡ length (ops w.parts.front) + suc (length (ops (f ∷ g ∷ []))) =
          ap (λ l. length (ops l)) (w.parts.whole ∙ ap (λ l. w.parts.front ++ l) three)
          ∙ ap length (ops_append w.parts.front (Op (body_count w.block) ∷ f ∷ g ∷ []))
          ∙ length-append (ops w.parts.front) (body_count w.block ∷ ops (f ∷ g ∷ [])) in
          let l = ops_length w.parts.front in
          let a = size_ops in
          omega arith

      item_plain : (x : Item) → AreBelow (body_count w.block) (x ∷ []) → IsPlain (item_inst w.insts x)
      item_plain x h = plain_item w.insts (body_count w.block) x h (plain_body p.input w.planned inner_plain)

      pub plain_f : IsPlain fw
      plain_f = item_plain f (below_left (body_count w.block) (f ∷ []) (g ∷ []) below)

      pub plain_g : IsPlain gw
      plain_g = item_plain g (below_right (body_count w.block) (f ∷ []) (g ∷ []) below)

      bound : at + 5 < 2 ^ 31
      bound = let fl = front_is in let l3 = len3 in let sm = small (i + n) in let nx = w.next in omega arith

      pub standing : {x y : Inst} → Behind x y → IsPlain x → IsPlain y → Ended machine front ender x y base
      standing st px py = record { at = st; plain = front_plain; plain_f = px; plain_g = py; on = on; low = low i; h = bound }

      own_standing : {x y : Inst} → x ≡ fw → y ≡ gw → Behind x y → Ended machine front ender fw gw base
      own_standing e h st = standing (subst (StandsAt base) (λ k. front ++ ender ∷ e k ∷ h k ∷ []) st) plain_f plain_g

      goes_on_at :
          (j : ℕ) → Landed j → (own k c : ℕ) → own + k ≡ len → n ≤ own → place ≤ own → c ≤ k → (c ≡ 0 → k ≡ 0) → LeadsAt c j
          → Keeping (steps len (begins base d0)) (steps c (begins (link j) (did_of r2))) → IsAt (steps own (begins base d0)) r2
          → (steps own (begins base d0)).at.halted ≡ false → GoesOn i n len place r
      goes_on_at j m own k c e many behind few bare lead reach shown runs =
          let ix = m.index in
          record {
            own = own;
            w = k;
            c = c;
            is_own = e;
            many = many;
            behind = behind;
            short_len = (let a = w.parts.room in let b = size_is in let x = inner_is in let d = len3 in omega arith);
            count = few;
            bare = bare;
            mark = m.mark;
            lead = subst (LeadsAt c) (sym ix) lead;
            reaches = subst (λ q. Keeping (steps len (begins base d0)) (steps c (begins (link q) (did_of r2)))) (sym ix) reach;
            shown = shown;
            runs_on = runs;
          }

      -- with all items done
      all_done :
          (j : ℕ) → Landed j → Leads j → steps (length front + 1 + 2) (begins base d0) ≡ begins (link j) (doing (at + 2) gw (doing (at + 1) fw D1))
          → GoesOn i n len place r
      all_done j m lead go =
          let fl = front_is in
          let l3 = len3 in
          let same : steps len (begins base d0) ≡ begins (link j) (did_of r2) =
          for_same machine len (length front + 1 + 2) (begins base d0) (omega arith) ∙ go ∙ ap (begins (link j)) (ended j m) in
          goes_on_at j m len 0 0 (let q : len + 0 ≡ len = omega arith in q)
          (let a = size_ops in let b = ops_length (items_of w.plan) in omega arith)
          (omega arith)
          (let q : 0 ≤ 0 = omega arith in q)
          (λ e. refl)
          (lead, (let q : 0 ≤ place_of j = omega arith in q))
          (keeps_self machine (steps len (begins base d0)) (begins (link j) (did_of r2)) same)
          (subst (λ (x : Watched). IsAt x r2) (sym same) (is_at_did (did_of r2) r2 (link j) refl))
          (ap (λ (x : Watched). x.at.halted) same)

      after_it : next_of None (at + 2) ≡ link (i + n)
      after_it =
          let fl = front_is in
          let l3 = len3 in
          let sm = small (i + n) in
          let nx = w.next in
          next_none (at + 2) (omega arith) ∙ (let q : at + 2 + 1 ≡ link (i + n) = omega arith in q)

      abbrev Decides : Decision → Type 0
      Decides d = decides ender at (core_of link r1.state).regs ≡ d

      -- not taken, the slots being its own
      passes_own : (sq : Bool) (x y : Inst) → Decides (onward sq) → Landed (i + n) → sq ≡ false → x ≡ fw → y ≡ gw → Behind x y → Onward
      passes_own sq x y e m clear x_is y_is st =
          all_done (i + n) m w.lead
          (slots_taken machine front ender fw gw base (own_standing x_is y_is st) d0 (link (i + n))
          (ap (λ (d : Decision). d.cancels) (decision ∙ e) ∙ clear)
          (ap (λ (d : Decision). next_of d.target (at + 2)) (decision ∙ e) ∙ after_it)
          (low (i + n))
          (let sm = small (i + n) in omega arith))

      -- not taken, both slots being squashed
      passes_squashed :
          (sq : Bool) (x y : Inst) → Decides (onward sq) → Landed (i + n) → sq ≡ true → IsPlain x → IsPlain y → f ≡ Nop → g ≡ Nop
          → Behind x y → Onward
      passes_squashed sq x y e m set px py nf ng st =
          all_done (i + n) m w.lead
          (slots_cancelled machine front ender x y base (standing st px py) d0 (link (i + n))
          (ap (λ (d : Decision). d.cancels) (decision ∙ e) ∙ set)
          (ap (λ (d : Decision). next_of d.target (at + 2)) (decision ∙ e) ∙ after_it)
          (low (i + n))
          (let sm = small (i + n) in omega arith)
          ∙ (λ k. begins (link (i + n)) (doing (at + 2) (item_inst w.insts (sym ng k)) (doing (at + 1) (item_inst w.insts (sym nf k)) D1))))

      -- the transfer goes to the block at statement t, behind so many of its words
      module _ (slots : Slots) (e : Decides (away (link slots.target + slots.count))) (m : Landed slots.target) where
        open slots use {target as t, count, first as x, second as y}

        to_target : next_of (decides ender at D0.core.regs).target (at + 2) ≡ link t + count
        to_target = ap (λ (d : Decision). next_of d.target (at + 2)) (decision ∙ e)

        not_cancelled : (decides ender at D0.core.regs).cancels ≡ false
        not_cancelled = ap (λ (d : Decision). d.cancels) (decision ∙ e)

        -- taken, the slots being its own
        takes_own : count ≡ 0 → Leads t → x ≡ fw → y ≡ gw → Behind x y → Onward
        takes_own none lead x_is y_is st =
            all_done t m lead
            (slots_taken machine front ender fw gw base (own_standing x_is y_is st) d0 (link t)
            not_cancelled
            (to_target ∙ (let q : link t + count ≡ link t = omega arith in q))
            (low t)
            (let sm = small t in omega arith))

        abbrev S : Did
        S = did_of r2

        one_head : (x : Inst) → Head t 0 x → steps 1 (begins (link t) S) ≡ begins (link t + 1) (doing (link t) x S)
        one_head x h =
            let sm = small t in
            goes machine (x ∷ []) (link t) S (subst (λ q. code q ≡ x) plus_zero h.at, subst (λ q. inside q ≡ true) plus_zero h.within, tt) (h.plain, tt)
            (low t) (omega arith)
          where
            plus_zero : link t + 0 ≡ link t
            plus_zero = omega arith

        two_heads :
            (x y : Inst) → Head t 0 x → Head t 1 y → steps 2 (begins (link t) S) ≡ begins (link t + 2) (doing (link t + 1) y (doing (link t) x S))
        two_heads x y h k =
            let sm = small t in
            goes machine (x ∷ y ∷ []) (link t) S (
              subst (λ q. code q ≡ x) plus_zero h.at,
              subst (λ q. inside q ≡ true) plus_zero h.within,
              (k.at, k.within, tt),
            ) (h.plain, (k.plain, tt)) (low t) (omega arith)
          where
            plus_zero : link t + 0 ≡ link t
            plus_zero = omega arith

        both_nops : f ≡ Nop → g ≡ Nop → D1 ≡ S
        both_nops nf ng =
            let two : doing (at + 2) idle (doing (at + 1) idle D1) ≡ S =
            (λ k. doing (at + 2) (item_inst w.insts (sym ng k)) (doing (at + 1) (item_inst w.insts (sym nf k)) D1)) ∙ ended t m in
            let a = undo machine (at + 2) (doing (at + 1) idle D1) S two refl in
            let b = undo machine (at + 1) D1 (doing (at + 1) idle D1) refl a.clean in
            did_same D1 S (b.core ∙ a.core) (b.console ∙ a.console) b.clean (cond-false (is_load ender) (dest ender) 0 no_load)

        no_ops : f ≡ Nop → g ≡ Nop → length (ops (f ∷ g ∷ [])) ≤ 0
        no_ops nf ng = let e : length (ops (f ∷ g ∷ [])) ≡ 0 = (λ k. length (ops (nf k ∷ ng k ∷ []))) in omega arith

        one_op : g ≡ Nop → length (ops (f ∷ g ∷ [])) ≤ 1
        one_op ng =
            let e : length (ops (f ∷ g ∷ [])) ≡ length (ops (f ∷ Nop ∷ [])) = (λ k. length (ops (f ∷ ng k ∷ []))) in
            let h = ops_length (f ∷ []) in let q : length (ops (f ∷ Nop ∷ [])) ≡ length (ops (f ∷ [])) = without f in omega arith
          where
            without : (x : Item) → length (ops (x ∷ Nop ∷ [])) ≡ length (ops (x ∷ []))
            without (Op k) = refl
            without Nop = refl

        pub record Shown (own : ℕ) : Type 0 where
          pub shown : IsAt (steps own (begins base d0)) r2
          pub runs_on : (steps own (begins base d0)).at.halted ≡ false

        low_on : (k : ℕ) → p.place.code ≤ link t + k
        low_on k = let l = low t in omega arith

        -- the transfer is done, and both slots hold what is not the block's
        after_transfer : (x y : Inst) → Behind x y → IsPlain x → IsPlain y → D1 ≡ S → Shown (place + 1)
        after_transfer x y st px py d_is =
            let fl = front_is in
            let run : steps (place + 1) (begins base d0) ≡ queue machine (queued (at + 1)) (queued (at + 2)) (link t + count) D1 =
            for_same machine (place + 1) (length front + 1) (begins base d0) (omega arith)
            ∙ past_transfer machine front ender x y base (standing st px py) d0 false (link t + count) not_cancelled to_target
            (low_on count) in
            record {
              shown = record {
                core = ap (λ (u : Watched). u.at.core) run ∙ ap (λ (d : Did). d.core) d_is;
                console = ap (λ (u : Watched). u.at.console) run ∙ ap (λ (d : Did). d.console) d_is;
                clean = ap (λ (u : Watched). u.clean) run ∙ ap (λ (d : Did). d.clean) d_is;
              };
              runs_on = ap (λ (u : Watched). u.at.halted) run;
            }

        -- both slots hold words of the target
        takes_both : count ≡ 2 → f ≡ Nop → g ≡ Nop → leader t ≡ true → Head t 0 x → Head t 1 y → Behind x y → Onward
        takes_both two nf ng lead hx hy st =
            let done = both_nops nf ng in
            let l3 = len3 in
            let fl = front_is in
            let sm = small t in
            let z_is : link t + count ≡ link t + 2 = omega arith in
            let own = after_transfer x y st hx.plain hy.plain done in
            let b = hy.before in
            goes_on_at t m (place + 1) 2 2 (omega arith) (let q = many_by 0 (no_ops nf ng) in omega arith) (omega arith) (let q : 2 ≤ 2 = omega arith in q)
            (λ e. e) (inl lead, (let q : 2 ≤ place_of t = omega arith in q))
            (keeps_self machine (steps len (begins base d0)) (steps 2 (begins (link t) S))
            (for_same machine len (length front + 1 + 2) (begins base d0) (omega arith)
            ∙ slots_taken machine front ender x y base (standing st hx.plain hy.plain) d0 (link t + 2) not_cancelled (to_target ∙ z_is)
            (low_on 2) (omega arith)
            ∙ ap (λ d. begins (link t + 2) (doing (at + 2) y (doing (at + 1) x d))) done
            ∙ ap (λ d. begins (link t + 2) (doing (at + 2) y d)) (did_anywhere machine (at + 1) (link t) x S hx.plain.stays)
            ∙ ap (begins (link t + 2)) (did_anywhere machine (at + 2) (link t + 1) y (doing (link t) x S) hy.plain.stays)
            ∙ sym (two_heads x y hx hy)))
            own.shown own.runs_on

        -- the first slot holds a word of the target
        takes_first : count ≡ 1 → f ≡ Nop → g ≡ Nop → leader t ≡ true → Head t 0 x → y ≡ idle → Behind x y → Onward
        takes_first one nf ng lead hx y_is st0 =
            let st : StandsAt base (front ++ ender ∷ x ∷ idle ∷ []) = subst (λ j. StandsAt base (front ++ ender ∷ x ∷ j ∷ [])) y_is st0 in
            let done = both_nops nf ng in
            let l3 = len3 in
            let fl = front_is in
            let sm = small t in
            let z_is : link t + count ≡ link t + 1 = omega arith in
            let own = after_transfer x idle st hx.plain idle_plain done in
            let b = hx.before in
            let last = doing (at + 2) idle (doing (link t) x S) in
            let go : steps len (begins base d0) ≡ begins (link t + 1) last =
            for_same machine len (length front + 1 + 2) (begins base d0) (omega arith)
            ∙ slots_taken machine front ender x idle base (standing st hx.plain idle_plain) d0 (link t + 1) not_cancelled
            (to_target ∙ z_is) (low_on 1) (omega arith)
            ∙ ap (λ d. begins (link t + 1) (doing (at + 2) idle (doing (at + 1) x d))) done
            ∙ ap (λ d. begins (link t + 1) (doing (at + 2) idle d)) (did_anywhere machine (at + 1) (link t) x S hx.plain.stays) in
            goes_on_at t m (place + 1) 2 1 (omega arith) (let q = many_by 0 (no_ops nf ng) in omega arith) (omega arith) (let q : 1 ≤ 2 = omega arith in q)
            (λ e. absurd (omega arith)) (inl lead, (let q : 1 ≤ place_of t = omega arith in q))
            (keeps_then machine (steps len (begins base d0)) (begins (link t + 1) last) (steps 1 (begins (link t) S))
            (keeps_self machine (steps len (begins base d0)) (begins (link t + 1) last) go)
            (subst (λ (u : Watched). Keeping (begins (link t + 1) last) u) (sym (one_head x hx))
            (keeps_idle machine (link t + 1) (at + 2) (doing (link t) x S))))
            own.shown own.runs_on

        -- the second slot holds a word of the target
        takes_second : count ≡ 1 → g ≡ Nop → leader t ≡ true → x ≡ fw → Head t 0 y → reads y (loads_to x) ≡ false → Behind x y → Onward
        takes_second one ng lead x_is hy free0 st0 =
            let st : StandsAt base (front ++ ender ∷ fw ∷ y ∷ []) = subst (λ j. StandsAt base (front ++ ender ∷ j ∷ y ∷ [])) x_is st0 in
            let free : reads y (loads_to fw) ≡ false = subst (λ j. reads y (loads_to j) ≡ false) x_is free0 in
            let D2 = doing (at + 1) fw D1 in
            let idle_is : doing (at + 2) idle D2 ≡ S = (λ k. doing (at + 2) (item_inst w.insts (sym ng k)) D2) ∙ ended t m in
            let done = undo machine (at + 2) D2 S idle_is refl in
            let l3 = len3 in
            let fl = front_is in
            let sm = small t in
            let b = hy.before in
            let z = link t + 1 in
            let z_is : link t + count ≡ link t + 1 = omega arith in
            let own_run : steps (place + 2) (begins base d0) ≡ queue machine (queued (at + 2)) (queued z) (z + 1) D2 =
            for_same machine (place + 2) (length front + 1 + 1) (begins base d0) (omega arith)
            ∙ one_taken machine front ender fw y base (standing st plain_f hy.plain) d0 z not_cancelled (to_target ∙ z_is) (low_on 1)
            (omega arith) in
            let last : queue machine (queued z) (queued (z + 1)) (z + 1 + 1) (doing (at + 2) y D2)
            ≡ once machine (queue machine (queued (at + 2)) (queued z) (z + 1) D2) =
            plain_word machine (at + 2) (queued z) (z + 1) D2 y (at_g machine front ender fw y base (standing st plain_f hy.plain) d0)
            (in_g machine front ender fw y base (standing st plain_f hy.plain) d0) hy.plain (let q = low_on 2 in omega arith) (omega arith) in
            let go : steps len (begins base d0) ≡ begins z (doing (at + 2) y D2) =
            for_same machine len (place + 2 + 1) (begins base d0) (omega arith)
            ∙ for_add machine (place + 2) 1 (begins base d0)
            ∙ ap (once machine) own_run
            ∙ sym last
            ∙ ap (λ q. queue machine (queued z) (queued (z + 1)) q (doing (at + 2) y D2)) (let q : z + 1 + 1 ≡ z + 2 = omega arith in q) in
            goes_on_at t m (place + 2) 1 1 (omega arith) (let q = many_by 1 (one_op ng) in omega arith) (omega arith) (let q : 1 ≤ 1 = omega arith in q)
            (λ e. e) (inl lead, (let q : 1 ≤ place_of t = omega arith in q))
            (keeps_then machine (steps len (begins base d0)) (begins z (doing (at + 2) y D2)) (steps 1 (begins (link t) S))
            (keeps_self machine (steps len (begins base d0)) (begins z (doing (at + 2) y D2)) go)
            (subst (λ (u : Watched). Keeping (begins z (doing (at + 2) y D2)) u) (sym (one_head y hy))
            (keeps_head machine y z (at + 2) (link t) D2 S hy.plain done free)))
            (record {
              core = ap (λ (u : Watched). u.at.core) own_run ∙ done.core;
              console = ap (λ (u : Watched). u.at.console) own_run ∙ done.console;
              clean = ap (λ (u : Watched). u.clean) own_run ∙ done.clean;
            })
            (ap (λ (u : Watched). u.at.halted) own_run)

        -- by what its slots hold
        pub takes : Leads t → Filled w.insts f g slots → Behind x y → Onward
        takes lead (Own none clear first second) st = takes_own none lead first second st
        takes lead (InSecond one surely ng first head free leads) st = takes_second one ng leads first head free st
        takes lead (InFirst one set nf ng head second leads) st = takes_first one nf ng leads head second st
        takes lead (InBoth two set nf ng head other leads) st = takes_both two nf ng leads head other st

      -- the transfer does not go
      pub passes :
          (slots : Slots) → Decides (onward slots.squash) → Landed (i + n) → slots.sure ≡ false → Filled w.insts f g slots
          → Behind slots.first slots.second → Onward
      passes slots e m unsure (Own none clear first second) st = passes_own slots.squash slots.first slots.second e m clear first second st
      passes slots e m unsure (InSecond one surely ng first head free leads) st = absurd (false≢true (sym unsure ∙ surely))
      passes slots e m unsure (InFirst one set nf ng head second leads) st =
          passes_squashed slots.squash slots.first slots.second e m (set unsure) head.plain (subst IsPlain (sym second) idle_plain) nf ng st
      passes slots e m unsure (InBoth two set nf ng head other leads) st =
          passes_squashed slots.squash slots.first slots.second e m (set unsure) head.plain other.plain nf ng st

      -- the address behind the slots is the next block's
      pub behind_slots : link (suc r1.state.index) ≡ at + 3
      behind_slots = let l3 = len3 in let fl = front_is in ap link behind_it ∙ w.next ∙ (let q : base + len ≡ at + 3 = omega arith in q)
