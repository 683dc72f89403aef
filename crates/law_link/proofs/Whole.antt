-- Whole runs, a step a block. The invariant is `At m v u`: after m statements a block starts, c words of which were done in the slots
-- before it; the machine comes to where its own run is after those by u + c ≤ 3 m words, and has shown the meaning's state after
-- v of them. It goes across one block (`advance`): the words and the statements of the block lead to the start of the next one, with
-- m, v and u grown by what was done (`Next`), or the run ends (`Final`). From it come clean runs, halts on both sides and what is sent.
use Rattle.std.proofs.Common.{◌≡◌, ℕ, zero, suc, ◌+◌, ◌*◌, ◌-◌, ◌<◌, ◌≤◌, Bool, true, false, cond, List, [], ◌∷◌, ◌⊎◌, length, take, None, refl, sym, ap, ◌∙◌, subst, arith, ⊎_elim, inl, inr}
use Rattle.std.proofs.lemmas.Option.{slice_get_past}
use Rattle.std.proofs.lemmas.Bool.{cases_lt, false≢true}
use Rattle.std.proofs.lemmas.List.{length-take-le}
use Rattle.mx_isa.specs.declared.inst.Inst.{Inst}
use Rattle.mx_delay.specs.Delay.{Delay}
use Rattle.mx_delay.specs.Clean.{Watched}
use Rattle.mx_source.specs.Meaning.{Going, Halted, Run, run_for, is_stuck}
use Rattle.mx_blocks.specs.declared.block.Block.{Block}
use Rattle.mx_validate.specs.Padded.{insts_of, items_of, falls, body_count}
use Rattle.law_link.proofs.Going.{for_same, for_add, keeps_self, keeps_then, keeps_for, Grows, grows_for, halted_for}
use Rattle.law_link.proofs.Saying.{Prefix, prefix_then, prefix_same, is_going, step_is, not_stuck_before, run_add, says_more, stays_for, AreBody, body_run}
use Rattle.law_link.proofs.OneBlock.{nowhere, LeadsAt, did_of, begins as beginning, steps, Keeping, IsAt, GoesOn, StopsAt}
use Rattle.law_link.proofs.Planned.{bodies_length}
use Rattle.law_link.proofs.Transfers.{Lay, EndOf, CodesLead, inner_of, one_block}
use Rattle.law_link.proofs.Setting.{StepSetting, Setting, machine_of, short}

pub body_most : (b : Block) → 1 ≤ length (insts_of b) → length (insts_of b) ≤ suc (body_count b)
body_most b some = by_end (falls b.end)
  where
    by_end : (f : Bool) → length (insts_of b) ≤ suc (cond f (length (insts_of b)) (length (insts_of b) - 1))
    by_end true = omega arith
    by_end false = omega arith

module _ (setting : Setting) where
  open setting use {program as p, link, leader, place_of, len_of}

  -- a block, what it ends with, and where its terminator stands
  pub record Placed (t : ℕ) : Type 0 where
    pub lay : Lay setting t
    pub end : EndOf setting t lay
    pub place : place_of t ≤ length lay.parts.front
    pub long : len_of t ≡ length (items_of lay.plan)
    pub inner : (k : ℕ) → 1 ≤ k → k < length (insts_of lay.block) → leader (t + k) ≡ false

  -- a run of the meaning that begins at a leader, where the block of each leader stands
  pub record Begun : Type 0 where
    pub placed : (t : ℕ) → leader t ≡ true → t < length p.statements → Placed t
    pub r0 : Run
    pub going : r0.state.mark ≡ Going
    pub leads : LeadsAt setting 0 r0.state.index
    pub codes : (m : ℕ) → CodesLead setting (run_for p m r0)

module _ (setting : Setting) (begun : Begun setting) where
  open setting use {program as p, code, inside, link, leader, place_of, len_of, small, low}
  open begun use {placed, r0, codes}

  abbrev pub machine : StepSetting
  machine = machine_of setting

  -- the meaning after m steps
  abbrev pub M : ℕ → Run
  M m = run_for p m r0

  abbrev pub from : Run → Watched
  from r = beginning setting (link r.state.index) (did_of setting r)

  abbrev pub for : ℕ → Watched → Watched
  for = steps setting

  -- the linked code after j steps
  abbrev pub D : ℕ → Watched
  D j = for j (from r0)

  abbrev pub Shows : Watched → Run → Type 0
  Shows x r = IsAt setting x r

  abbrev Keep : Watched → Watched → Type 0
  Keep = Keeping setting

  abbrev LeadingAt : ℕ → ℕ → Type 0
  LeadingAt = LeadsAt setting

  abbrev Grow : Watched → Watched → Type 0
  Grow = Grows machine

  abbrev pub Runs : ℕ → Type 0
  Runs m = is_stuck (M m).state.mark ≡ false

  pub runs_before : (m n : ℕ) → m ≤ n → Runs n → Runs m
  runs_before m n h k =
      not_stuck_before p (n - m) (M m) (ap (λ (s : Run). is_stuck s.state.mark)
      (sym (ap M (let e : n ≡ m + (n - m) = omega arith in e) ∙ run_add p m (n - m) r0)) ∙ k)

  D_add : (a b : ℕ) → D (a + b) ≡ for b (D a)
  D_add a b = for_add machine a b (from r0)

  pub grows : (a b : ℕ) → a ≤ b → Grow (D a) (D b)
  grows a b h =
      subst (λ (x : Watched). Grow (D a) x) (sym (ap D (let e : b ≡ a + (b - a) = omega arith in e) ∙ D_add a (b - a))) (grows_for machine (b - a) (D a))

  -- the words of the plans of the blocks that began within the first m statements
  abbrev pub sum_of_plans : ℕ → ℕ
  sum_of_plans zero = 0
  sum_of_plans (suc m) = sum_of_plans m + cond (leader (M m).state.index) (len_of (M m).state.index) 0

  body_prefix : (i k : ℕ) (insts : List Inst) → AreBody link p.statements i insts → AreBody link p.statements i (take k insts)
  body_prefix i zero insts h = tt
  body_prefix i (suc k) [] h = tt
  body_prefix i (suc k) (x ∷ insts) h = (h.0, body_prefix (suc i) k insts h.1)

  -- within a block the statements follow one another
  pub inner_index :
      (m : ℕ) (w : Placed setting (M m).state.index) (t : ℕ) → (M m).state.mark ≡ Going → t < length (insts_of w.lay.block) → Runs (m + t)
      → (M (m + t)).state.index ≡ (M m).state.index + t
  inner_index m w t g few r =
      let lay = w.lay in
      let i = (M m).state.index in
      let inner = inner_of setting i lay in
      let is_inner : length inner ≡ body_count lay.block = bodies_length p.input lay.planned in
      let most = body_most lay.block lay.some in
      let long : length (take t inner) ≡ t = length-take-le t inner (omega arith) in
      let run = body_run link p (short setting) i 0 (take t inner) (M m) true nowhere g refl (body_prefix i t inner lay.body)
      (ap (λ k. is_stuck (run_for p k (M m)).state.mark) long ∙ ap (λ (s : Run). is_stuck s.state.mark) (sym (run_add p m t r0)) ∙ r) in
      ap (λ (s : Run). s.state.index) (run_add p m t r0 ∙ ap (λ k. run_for p k (M m)) (sym long)) ∙ run.index ∙ ap (λ k. i + k) long

  sum_within :
      (m : ℕ) (w : Placed setting (M m).state.index) (t : ℕ) → leader (M m).state.index ≡ true → (M m).state.mark ≡ Going
      → t < length (insts_of w.lay.block) → Runs (m + t) → sum_of_plans (m + suc t) ≡ sum_of_plans m + length (items_of w.lay.plan)
  sum_within m w zero l g few r =
      ap sum_of_plans (let e : m + 1 ≡ suc m = omega arith in e) ∙ ap (λ (b : Bool). sum_of_plans m + cond b (len_of (M m).state.index) 0) l
      ∙ ap (λ k. sum_of_plans m + k) w.long
  sum_within m w (suc t) l g few r =
      let ix = inner_index m w (suc t) g few r in
      let none : leader (M (m + suc t)).state.index ≡ false = ap leader ix ∙ w.inner (suc t) (omega arith) few in
      ap sum_of_plans (let e : m + suc (suc t) ≡ suc (m + suc t) = omega arith in e)
      ∙ ap (λ (b : Bool). sum_of_plans (m + suc t) + cond b (len_of (M (m + suc t)).state.index) 0) none
      ∙ (let e : sum_of_plans (m + suc t) + 0 ≡ sum_of_plans (m + suc t) = omega arith in e)
      ∙ sum_within m w t l g (omega arith) (runs_before (m + t) (m + suc t) (omega arith) r)

  -- After m statements a block starts. Its start is reached after u + c words, c of which stood in slots before; v words are what came before those slots.
  pub record At (m v u : ℕ) : Type 0 where
    pub c : ℕ
    pub w : ℕ
    pub going : (M m).state.mark ≡ Going
    pub lead : LeadingAt c (M m).state.index
    pub low_v : m ≤ v
    pub v_u : v + w ≡ u + c
    pub c_w : c ≤ w
    pub high : u + c ≤ 3 * m
    pub meets : Keep (D (u + c)) (for c (from (M m)))
    pub shown : Shows (D v) (M m)
    pub runs_on : (D v).at.halted ≡ false
    -- without copies, all words so far are those of the plans
    pub plain : ((t : ℕ) → place_of t ≡ 0) → (w ≡ 0) × (u ≡ sum_of_plans m)

  -- the run ends
  pub record Over (n e : ℕ) : Type 0 where
    pub last : ℕ
    pub before : ℕ
    pub is_n : n ≡ suc last
    pub is_e : e ≡ suc before
    pub low_e : n ≤ e
    pub high : e ≤ 3 * n
    pub goes_before : (M last).state.mark ≡ Going
    pub halts : (M n).state.mark ≡ Halted
    pub runs_on : (D before).at.halted ≡ false
    pub halted : (D e).at.halted ≡ true
    pub shown : Shows (D e) (M n)

  pub begins : At 0 0 0
  begins = record {
    c = 0;
    w = 0;
    going = begun.going;
    lead = begun.leads;
    low_v = (let q : 0 ≤ 0 = omega arith in q);
    v_u = refl;
    c_w = (let q : 0 ≤ 0 = omega arith in q);
    high = (let q : 0 + 0 ≤ 3 * 0 = omega arith in q);
    meets = keeps_self machine (from r0) (from r0) refl;
    shown = record { core = refl; console = refl; clean = refl };
    runs_on = refl;
    plain = λ none. (refl, refl);
  }

  -- what is reached from the first word of a block is reached by the run
  pub reached : (m v u : ℕ) (a : At m v u) (x : ℕ) → a.c ≤ x → Keep (D (u + x)) (for x (from (M m)))
  reached m v u a x h =
      let y = x - a.c in
      let left : D (u + x) ≡ for y (D (u + a.c)) = ap D (let e : u + x ≡ u + a.c + y = omega arith in e) ∙ D_add (u + a.c) y in
      let right : for y (for a.c (from (M m))) ≡ for x (from (M m)) = sym (for_add machine a.c y (from (M m)))
      ∙ for_same machine (a.c + y) x (from (M m)) (omega arith) in
      subst (λ (z : Watched). Keep z (for x (from (M m)))) (sym left)
      (subst (λ (z : Watched). Keep (for y (D (u + a.c))) z) right (keeps_for machine y (D (u + a.c)) (for a.c (from (M m))) a.meets))

  shows_kept : (x y : Watched) (r : Run) → Keep x y → Shows y r → Shows x r
  shows_kept x y r k h = record {
    core = ap (λ (t : Delay). t.core) k.at ∙ h.core;
    console = ap (λ (t : Delay). t.console) k.at ∙ h.console;
    clean = k.clean h.clean;
  }

  pub record Next (m v n : ℕ) : Type 0 where
    pub v2 : ℕ
    pub u2 : ℕ
    pub at : At (m + n) v2 u2
    pub more : v < v2

  pub record Final (m u n len : ℕ) : Type 0 where
    pub e : ℕ
    pub over : Over (m + n) e
    pub within : e ≤ u + len

  goes_on :
      (m v u : ℕ) (a : At m v u) (n len place : ℕ) → 1 ≤ n → a.c ≤ place → sum_of_plans (m + n) ≡ sum_of_plans m + len
      → GoesOn setting (M m).state.index n len place (M m) → Next m v n
  goes_on m v u a n len place some l sum g =
      let low_v = a.low_v in
      let vu = a.v_u in
      let cw = a.c_w in
      let hi = a.high in
      let gm = g.many in
      let gb = g.behind in
      let gl = g.short_len in
      let go = g.is_own in
      let gc = g.count in
      let is_m : M (m + n) ≡ run_for p n (M m) = run_add p m n r0 in
      let u2 = u + (g.own + (g.w - g.c)) in
      let end = reached m v u a len (omega arith) in
      let own = reached m v u a g.own (omega arith) in
      let to_end : D (u + len) ≡ D (u2 + g.c) = ap D (let e : u + len ≡ u2 + g.c = omega arith in e) in
      record {
        v2 = u + g.own;
        u2 = u2;
        at = record {
          c = g.c;
          w = g.w;
          going = ap (λ (s : Run). s.state.mark) is_m ∙ g.mark;
          lead = subst (λ (s : Run). LeadingAt g.c s.state.index) (sym is_m) g.lead;
          low_v = omega arith;
          v_u = omega arith;
          c_w = gc;
          high = omega arith;
          meets = subst (λ (x : Watched). Keep x (for g.c (from (M (m + n))))) to_end
              (keeps_then machine (D (u + len)) (for len (from (M m))) (for g.c (from (M (m + n)))) end
              (subst (λ (s : Run). Keep (for len (from (M m))) (for g.c (from s))) (sym is_m) g.reaches));
          shown = subst (λ (s : Run). Shows (D (u + g.own)) s) (sym is_m)
              (shows_kept (D (u + g.own)) (for g.own (from (M m))) (run_for p n (M m)) own g.shown);
          runs_on = ap (λ (t : Delay). t.halted) own.at ∙ g.runs_on;
          plain = λ none.
              let old = a.plain none in
              let c0 : g.c ≡ 0 = (let q = g.lead.1 in let z = none (run_for p n (M m)).state.index in omega arith) in
              let w0 = g.bare c0 in
              let w1 = old.0 in
              let before = old.1 in
              (w0, let e : u2 ≡ sum_of_plans (m + n) = omega arith in e);
        };
        more = omega arith;
      }

  stops_at : (m v u : ℕ) (a : At m v u) (n len place : ℕ) → a.c ≤ place → StopsAt setting (M m).state.index n len place (M m) → Final m u n len
  stops_at m v u a n len place l g =
      let low_v = a.low_v in
      let vu = a.v_u in
      let cw = a.c_w in
      let hi = a.high in
      let gm = g.many in
      let gl = g.short_len in
      let is_n = g.is_n in
      let is_m : M (m + n) ≡ run_for p n (M m) = run_add p m n r0 in
      let before = reached m v u a place l in
      let end = reached m v u a (place + 1) (omega arith) in
      record {
        e = u + (place + 1);
        within = (let q = g.within in omega arith);
        over = record {
          last = m + g.before_n;
          before = u + place;
          is_n = omega arith;
          is_e = omega arith;
          low_e = omega arith;
          high = omega arith;
          goes_before = ap (λ (s : Run). s.state.mark) (run_add p m g.before_n r0) ∙ g.before;
          halts = ap (λ (s : Run). s.state.mark) is_m ∙ g.mark;
          runs_on = ap (λ (t : Delay). t.halted) before.at ∙ g.runs_on;
          halted = ap (λ (t : Delay). t.halted) end.at ∙ g.halted;
          shown = subst (λ (s : Run). Shows (D (u + (place + 1))) s) (sym is_m)
              (shows_kept (D (u + (place + 1))) (for (place + 1) (from (M m))) (run_for p n (M m)) end g.shown);
        };
      }

  pub past_end : (m : ℕ) → (M m).state.mark ≡ Going → length p.statements ≤ (M m).state.index → Runs (m + 1) → ⊥
  past_end m g h r =
      let is = step_is p (M m) None g (slice_get_past p.statements (M m).state.index h) in
      false≢true (sym r ∙ ap (λ (s : Run). is_stuck s.state.mark) (run_add p m 1 r0 ∙ is))

  pub lead_of :
      (m v u : ℕ) (a : At m v u) → (M m).state.index < length p.statements → (leader (M m).state.index ≡ true) × (a.c ≤ place_of (M m).state.index)
  lead_of m v u a h = (⊎_elim (λ l. l) (λ e. absurd (omega arith)) a.lead.0, a.lead.1)

  -- the block at which the meaning is
  abbrev pub block_at : (m v u : ℕ) (a : At m v u) → (M m).state.index < length p.statements → Placed setting (M m).state.index
  block_at m v u a h = placed (M m).state.index (lead_of m v u a h).0 h

  abbrev pub size_at : (m v u : ℕ) (a : At m v u) → (M m).state.index < length p.statements → ℕ
  size_at m v u a h = length (insts_of (block_at m v u a h).lay.block)

  abbrev pub long_at : (m v u : ℕ) (a : At m v u) → (M m).state.index < length p.statements → ℕ
  long_at m v u a h = length (items_of (block_at m v u a h).lay.plan)

  pub sum_at :
      (m v u : ℕ) (a : At m v u) (h : (M m).state.index < length p.statements) → Runs (m + size_at m v u a h)
      → sum_of_plans (m + size_at m v u a h) ≡ sum_of_plans m + long_at m v u a h
  sum_at m v u a h r =
      let w = block_at m v u a h in
      let some = w.lay.some in
      let n = size_at m v u a h in
      ap sum_of_plans (let e : m + n ≡ m + suc (n - 1) = omega arith in e)
      ∙ sum_within m w (n - 1) (lead_of m v u a h).0 a.going (omega arith) (runs_before (m + (n - 1)) (m + n) (omega arith) r)

  pub run_block :
      (m v u : ℕ) (a : At m v u) (h : (M m).state.index < length p.statements) → Runs (m + size_at m v u a h)
      → Next m v (size_at m v u a h) ⊎ Final m u (size_at m v u a h) (long_at m v u a h)
  run_block m v u a h r =
      let l = lead_of m v u a h in
      let i = (M m).state.index in
      let w = block_at m v u a h in
      let lay = w.lay in
      let n = size_at m v u a h in
      let room : a.c ≤ length lay.parts.front = (let q = w.place in let k = l.1 in omega arith) in
      let safe : is_stuck (run_for p n (M m)).state.mark ≡ false = ap (λ (s : Run). is_stuck s.state.mark) (sym (run_add p m n r0)) ∙ r in
      let k = length (inner_of setting i lay) in
      let lead : CodesLead setting (run_for p k (M m)) = subst (λ (s : Run). CodesLead setting s) (run_add p m k r0) (codes (m + k)) in
      ⊎_elim
      (λ g. inl (goes_on m v u a n (long_at m v u a h) (length lay.parts.front) lay.some room (sum_at m v u a h r) g))
      (λ g. inr (stops_at m v u a n (long_at m v u a h) (length lay.parts.front) room g))
      (one_block setting (record { i = i; w = lay; r = M m; going = a.going; here = refl; safe = safe }) w.end lead)

  pub record Advanced (m v u : ℕ) : Type 0 where
    pub n : ℕ
    pub len : ℕ
    pub some : 1 ≤ n
    pub few : n ≤ 64
    pub result : Next m v n ⊎ Final m u n len

  advance : (m v u : ℕ) (a : At m v u) → Runs (m + 64) → Advanced m v u
  advance m v u a r = ⊎_elim
      (λ h.
      let lay = (block_at m v u a h).lay in
      let few = lay.few in
      record {
        n = size_at m v u a h;
        len = long_at m v u a h;
        some = lay.some;
        few = few;
        result = run_block m v u a h (runs_before (m + size_at m v u a h) (m + 64) (omega arith) r);
      })
      (λ h. absurd (past_end m a.going h (runs_before (m + 1) (m + 64) (omega arith) r)))
      (cases_lt (M m).state.index (length p.statements))

  -- as far as j words
  pub record Far (j : ℕ) : Type 0 where
    pub m : ℕ
    pub v : ℕ
    pub u : ℕ
    pub at : At m v u
    pub far : j ≤ v
    pub near : m ≤ j + 63

  pub record Done (top : ℕ) : Type 0 where
    pub n : ℕ
    pub e : ℕ
    pub over : Over n e
    pub near : n ≤ top

  far_from : (fuel j m v u : ℕ) → At m v u → j ≤ v + fuel → m ≤ j + 63 → Runs (j + 64) → Far j ⊎ Done (j + 63)
  far_from zero j m v u a f n r = inl (record { m = m; v = v; u = u; at = a; far = omega arith; near = n })
  far_from (suc fuel) j m v u a f n r = ⊎_elim
      (λ (q : v < j).
      let b = advance m v u a (runs_before (m + 64) (j + 64) (let l = a.low_v in omega arith) r) in
      let few = b.few in
      let l = a.low_v in
      ⊎_elim
      (λ (x : Next m v b.n). let more = x.more in far_from fuel j (m + b.n) x.v2 x.u2 x.at (omega arith) (omega arith) r)
      (λ (x : Final m u b.n b.len). inr (record { n = m + b.n; e = x.e; over = x.over; near = omega arith }))
      b.result)
      (λ q. inl (record { m = m; v = v; u = u; at = a; far = q; near = n }))
      (cases_lt v j)

  pub far : (j : ℕ) → Runs (j + 64) → Far j ⊎ Done (j + 63)
  far j r = far_from j j 0 0 0 begins (omega arith) (omega arith) r

  M_more : (a b : ℕ) → a ≤ b → Prefix (M a).console (M b).console
  M_more a b h =
      subst (λ (s : Run). Prefix (M a).console s.console) (sym (ap M (let e : b ≡ a + (b - a) = omega arith in e) ∙ run_add p a (b - a) r0))
      (says_more p (b - a) (M a))

  D_more : (a b : ℕ) → a ≤ b → Prefix (D a).at.console (D b).at.console
  D_more a b h = (grows a b h).bytes

  D_stays : (a b : ℕ) → a ≤ b → (D a).at.halted ≡ true → D b ≡ D a
  D_stays a b h q = ap D (let e : b ≡ a + (b - a) = omega arith in e) ∙ D_add a (b - a) ∙ halted_for machine (b - a) (D a) q

  pub M_stays : (a b : ℕ) → a ≤ b → is_going (M a).state.mark ≡ false → M b ≡ M a
  M_stays a b h q = ap M (let e : b ≡ a + (b - a) = omega arith in e) ∙ run_add p a (b - a) r0 ∙ stays_for p (b - a) (M a) q

  -- The run of linked code is clean, and what it has sent is what the meaning says.
  pub record Clean (j : ℕ) : Type 0 where
    pub clean : (D j).clean ≡ true
    pub console : Prefix (D j).at.console (M (j + 64)).console

  pub runs_clean : (j : ℕ) → Runs (j + 64) → Clean j
  runs_clean j r = ⊎_elim
      (λ (f : Far j).
      let s = f.at.shown in
      let n = f.near in
      record {
        clean = (grows j f.v f.far).clean s.clean;
        console = prefix_then (D j).at.console (M f.m).console (M (j + 64)).console (subst (λ l. Prefix (D j).at.console l) s.console (D_more j f.v f.far))
            (M_more f.m (j + 64) (omega arith));
      })
      (λ (f : Done (j + 63)).
      let s = f.over.shown in
      let n = f.near in
      ⊎_elim
      (λ (q : f.e < j).
      let e = D_stays f.e j (omega arith) f.over.halted in
      record {
        clean = ap (λ (x : Watched). x.clean) e ∙ s.clean;
        console = prefix_then (D j).at.console (M f.n).console (M (j + 64)).console
            (prefix_same (D j).at.console (M f.n).console (ap (λ (x : Watched). x.at.console) e ∙ s.console)) (M_more f.n (j + 64) (omega arith));
      })
      (λ (q : j ≤ f.e).
      record {
        clean = (grows j f.e q).clean s.clean;
        console = prefix_then (D j).at.console (M f.n).console (M (j + 64)).console (subst (λ l. Prefix (D j).at.console l) s.console (D_more j f.e q))
            (M_more f.n (j + 64) (omega arith));
      })
      (cases_lt f.e j))
      (far j r)

  -- Where the linked code has halted, so has the meaning.
  pub record HaltedAt (j : ℕ) : Type 0 where
    pub n : ℕ
    pub few : n ≤ j
    pub last : ℕ
    pub is_n : n ≡ suc last
    pub goes_before : (M last).state.mark ≡ Going
    pub halted : (M n).state.mark ≡ Halted
    pub shown : Shows (D j) (M n)

  pub halted_back : (j : ℕ) → Runs (j + 64) → (D j).at.halted ≡ true → HaltedAt j
  halted_back j r h = ⊎_elim
      (λ (f : Far j). absurd (false≢true (sym f.at.runs_on ∙ (grows j f.v f.far).halted h)))
      (λ (f : Done (j + 63)). ⊎_elim
      (λ (q : j < f.e). absurd (false≢true (sym f.over.runs_on ∙ (grows j f.over.before (let e = f.over.is_e in omega arith)).halted h)))
      (λ (q : f.e ≤ j). record {
        n = f.n;
        few = (let l = f.over.low_e in omega arith);
        last = f.over.last;
        is_n = f.over.is_n;
        goes_before = f.over.goes_before;
        halted = f.over.halts;
        shown = subst (λ (x : Watched). Shows x (M f.n)) (sym (D_stays f.e j q f.over.halted)) f.over.shown;
      })
      (cases_lt j f.e))
      (far j r)

  -- Where the meaning halts, so has the linked code within three words for each statement.
  pub record HaltsSoon (n : ℕ) : Type 0 where
    pub e : ℕ
    pub soon : e ≤ 3 * n
    pub halted : (D e).at.halted ≡ true
    pub shown : Shows (D e) (M n)

  halted_runs : (n : ℕ) → (M n).state.mark ≡ Halted → (k : ℕ) → Runs k
  halted_runs n h k = ⊎_elim
      (λ (q : n < k). ap (λ (s : Run). is_stuck s.state.mark) (M_stays n k (omega arith) (ap is_going h)) ∙ ap is_stuck h)
      (λ (q : k ≤ n). runs_before k n q (ap is_stuck h))
      (cases_lt n k)

  pub going_before : (m n : ℕ) → (M n).state.mark ≡ Halted → (M m).state.mark ≡ Going → m < n
  going_before m n h g = ⊎_elim
      (λ (q : m < n). q)
      (λ (q : n ≤ m). absurd (false≢true (sym (ap is_going h) ∙ sym (ap (λ (s : Run). is_going s.state.mark) (M_stays n m q (ap is_going h)))
      ∙ ap is_going g)))
      (cases_lt m n)

  halts_from : (fuel n m v u : ℕ) → At m v u → n ≤ m + fuel → (M n).state.mark ≡ Halted → HaltsSoon n
  halts_from zero n m v u a f h = absurd (let q = going_before m n h a.going in omega arith)
  halts_from (suc fuel) n m v u a f h =
      let b = advance m v u a (halted_runs n h (m + 64)) in
      let some = b.some in
      ⊎_elim
      (λ (x : Next m v b.n). halts_from fuel n (m + b.n) x.v2 x.u2 x.at (omega arith) h)
      (λ (x : Final m u b.n b.len).
      let o = x.over in
      let l : m + b.n ≤ n = (let q = going_before o.last n h o.goes_before in let i = o.is_n in omega arith) in
      record {
        e = x.e;
        soon = (let t = o.high in omega arith);
        halted = o.halted;
        shown = subst (λ (s : Run). Shows (D x.e) s) (sym (M_stays (m + b.n) n l (ap is_going o.halts))) o.shown;
      })
      b.result

  pub halts_soon : (n : ℕ) → (M n).state.mark ≡ Halted → HaltsSoon n
  halts_soon n h = halts_from n n 0 0 0 begins (omega arith) h

  -- What the meaning has sent after m statements, the linked code has sent after 3 (m + 64) words.
  sent_at : (m k v u : ℕ) → At k v u → m ≤ k → k ≤ m + 63 → Prefix (M m).console (D (3 * (m + 64))).at.console
  sent_at m k v u a l n =
      prefix_then (M m).console (D v).at.console (D (3 * (m + 64))).at.console
      (subst (λ b. Prefix (M m).console b) (sym (let s = a.shown in s.console)) (M_more m k l))
      (D_more v (3 * (m + 64)) (let x = a.v_u in let y = a.c_w in let z = a.high in omega arith))

  sent_from : (fuel m k v u : ℕ) → At k v u → m ≤ k + fuel → k ≤ m + 63 → Runs (m + 64) → Prefix (M m).console (D (3 * (m + 64))).at.console
  sent_from zero m k v u a f n r = sent_at m k v u a (omega arith) n
  sent_from (suc fuel) m k v u a f n r = ⊎_elim
      (λ (q : k < m).
      let b = advance k v u a (runs_before (k + 64) (m + 64) (omega arith) r) in
      let some = b.some in
      let few = b.few in
      ⊎_elim
      (λ (x : Next k v b.n). sent_from fuel m (k + b.n) x.v2 x.u2 x.at (omega arith) (omega arith) r)
      (λ (x : Final k u b.n b.len).
      let o = x.over in
      let s = o.shown in
      let hi = o.high in
      prefix_then (M m).console (D x.e).at.console (D (3 * (m + 64))).at.console
      (subst (λ b. Prefix (M m).console b) (sym s.console) (⊎_elim
      (λ (y : m < k + b.n). M_more m (k + b.n) (omega arith))
      (λ (y : k + b.n ≤ m). prefix_same (M m).console (M (k + b.n)).console (ap (λ (t : Run). t.console) (M_stays (k + b.n) m y (ap is_going o.halts))))
      (cases_lt m (k + b.n))))
      (D_more x.e (3 * (m + 64)) (omega arith)))
      b.result)
      (λ (q : m ≤ k). sent_at m k v u a q n)
      (cases_lt k m)

  pub sent_soon : (m : ℕ) → Runs (m + 64) → Prefix (M m).console (D (3 * (m + 64))).at.console
  sent_soon m r = sent_from m m 0 0 0 begins (omega arith) (omega arith) r
