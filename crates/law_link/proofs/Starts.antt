-- Where blocks start. Each leader that the meaning comes to has the invariant `At` of whole runs (`starts_from`, across one block by
-- `run_block`). Without copies its u is the sum of the words of the plans before, so blocks start after just those (`block_starts`). The
-- other way the words of one block are taken each at its place (`first_at`), and of all of them only the first has the address of a
-- leader: so where that address is fetched, a block starts (`block_at_fetch`, again across one block by `run_block`).
use Rattle.std.proofs.Common.{◌≡◌, ℕ, zero, suc, ◌+◌, ◌*◌, ◌-◌, ◌<◌, ◌≤◌, Bool, true, false, cond, not, ◌&&◌, List, [], ◌∷◌, ◌⊎◌, length, length-append, take, drop, refl, sym, ap, ◌∙◌, subst, arith, ⊎_elim}
use Rattle.std.proofs.lemmas.Bool.{cases_lt, cases_Bool, cond-true, cond-false, false≢true}
use Rattle.std.proofs.lemmas.Bool.Decides.{nat_tests}
use Rattle.std.proofs.lemmas.List.{length-take-le, take-append-drop}
use Rattle.mx_isa.specs.declared.inst.Inst.{Inst}
use Rattle.mx_isa.specs.Effect.{decides}
use Rattle.mx_isa.specs.Views.{reads}
use Rattle.mx_delay.specs.Delay.{does, Delay, stepped, delay_step}
use Rattle.mx_delay.specs.Clean.{is_clean_step, loads_to, Watched}
use Rattle.mx_source.specs.Meaning.{Going, Run, is_stuck}
use Rattle.mx_blocks.specs.declared.block.Item.{Item}
use Rattle.mx_blocks.specs.declared.block.Item.TheVariants.{Op, Nop}
use Rattle.mx_blocks.specs.Items.{ops}
use Rattle.law_order.proofs.Reorder.{once_length}
use Rattle.mx_validate.specs.Padded.{insts_of, items_of}
use Rattle.law_link.proofs.Going.{Did, did_all, ArePlain, Stands, stands_left, goes, for_same, for_add, once}
use Rattle.law_link.proofs.Saying.{all_plain}
use Rattle.law_link.proofs.OneBlock.{did_of, begins as beginning}
use Rattle.law_link.proofs.Planned.{pre_length, plain_pre}
use Rattle.law_link.proofs.Transfers.{inner_of, front_of, front_stands, back_short}
use Rattle.law_link.proofs.Setting.{StepSetting, Setting}
use Rattle.law_link.proofs.Whole.{Placed, Begun}
use Rattle.law_link.proofs.Whole as whole

ops_length : (xs : List Item) → length (ops xs) ≤ length xs
ops_length [] = omega arith
ops_length (Op k ∷ xs) = let h = ops_length xs in omega arith
ops_length (Nop ∷ xs) = let h = ops_length xs in omega arith

module _ (setting : Setting) (begun : Begun setting) where
  open setting use {program as p, code, inside, link, leader, place_of, len_of, small, low}
  open begun use {placed}

  abbrev machine : StepSetting
  machine = whole.machine setting begun

  abbrev M : ℕ → Run
  M = whole.M setting begun

  abbrev from : Run → Watched
  from = whole.from setting begun

  abbrev for : ℕ → Watched → Watched
  for = whole.for setting begun

  abbrev D : ℕ → Watched
  D = whole.D setting begun

  abbrev Runs : ℕ → Type 0
  Runs = whole.Runs setting begun

  abbrev sum_of_plans : ℕ → ℕ
  sum_of_plans = whole.sum_of_plans setting begun

  abbrev At : ℕ → ℕ → ℕ → Type 0
  At = whole.At setting begun

  abbrev Next : ℕ → ℕ → ℕ → Type 0
  Next = whole.Next setting begun

  abbrev Final : ℕ → ℕ → ℕ → ℕ → Type 0
  Final = whole.Final setting begun

  abbrev block_at : (m v u : ℕ) (a : At m v u) → (M m).state.index < length p.statements → Placed setting (M m).state.index
  block_at = whole.block_at setting begun

  abbrev size_at : (m v u : ℕ) (a : At m v u) → (M m).state.index < length p.statements → ℕ
  size_at = whole.size_at setting begun

  abbrev long_at : (m v u : ℕ) (a : At m v u) → (M m).state.index < length p.statements → ℕ
  long_at = whole.long_at setting begun

  runs_before : (m n : ℕ) → m ≤ n → Runs n → Runs m
  runs_before = whole.runs_before setting begun

  -- each leader that the meaning comes to is a start
  pub record Starts (m : ℕ) : Type 0 where
    pub v : ℕ
    pub u : ℕ
    pub at : At m v u

  going_runs : (m : ℕ) → (M m).state.mark ≡ Going → Runs m
  going_runs m g = ap is_stuck g

  starts_from :
      (fuel m k v u : ℕ) → At k v u → k ≤ m → m ≤ k + fuel → (M m).state.mark ≡ Going → leader (M m).state.index ≡ true → Starts m
  starts_from zero m k v u a l f g lead = let e : k ≡ m = omega arith in subst Starts e (record { v = v; u = u; at = a })
  starts_from (suc fuel) m k v u a l f g lead = ⊎_elim
      (λ (q : k < m). ⊎_elim
      (λ (h : (M k).state.index < length p.statements).
      let w = block_at k v u a h in
      let some = w.lay.some in
      ⊎_elim
      (λ (x : m < k + size_at k v u a h).
      let is_m : m ≡ k + (m - k) = omega arith in
      let ix = ap (λ j. (M j).state.index) is_m ∙ whole.inner_index setting begun k w (m - k) a.going (omega arith) (subst Runs is_m (going_runs m g)) in
      absurd (false≢true (sym (w.inner (m - k) (omega arith) (omega arith)) ∙ sym (ap leader ix) ∙ lead)))
      (λ (x : k + size_at k v u a h ≤ m). ⊎_elim
      (λ (y : Next k v (size_at k v u a h)). starts_from fuel m (k + size_at k v u a h) y.v2 y.u2 y.at x (omega arith) g lead)
      (λ (y : Final k u (size_at k v u a h) (long_at k v u a h)).
      let o = y.over in
      let bad = whole.going_before setting begun m (k + size_at k v u a h) o.halts g in
      absurd (omega arith))
      (whole.run_block setting begun k v u a h (runs_before (k + size_at k v u a h) m x (going_runs m g))))
      (cases_lt m (k + size_at k v u a h)))
      (λ h. absurd (whole.past_end setting begun k a.going h (runs_before (k + 1) m (omega arith) (going_runs m g))))
      (cases_lt (M k).state.index (length p.statements)))
      (λ (q : m ≤ k). let e : k ≡ m = omega arith in subst Starts e (record { v = v; u = u; at = a }))
      (cases_lt k m)

  -- Without copies: after the words of the plans the queue is the leader's address and the two after it, and the state is the meaning's.
  pub record BlockStart (m : ℕ) : Type 0 where
    pub low_sum : m ≤ sum_of_plans m
    pub high_sum : sum_of_plans m ≤ 3 * m
    pub state : (D (sum_of_plans m)).at ≡ (from (M m)).at

  pub block_starts : ((t : ℕ) → place_of t ≡ 0) → (m : ℕ) → (M m).state.mark ≡ Going → leader (M m).state.index ≡ true → BlockStart m
  block_starts none m g lead =
      let s = starts_from m m 0 0 0 (whole.begins setting begun) (omega arith) (omega arith) g lead in
      let a = s.at in
      let plain = a.plain none in
      let w0 = plain.0 in
      let sum = plain.1 in
      let cw = a.c_w in
      let vu = a.v_u in
      let c0 : a.c ≡ 0 = omega arith in
      record {
        low_sum = (let q = a.low_v in omega arith);
        high_sum = (let q = a.high in omega arith);
        state = ap (λ n. (D n).at) (let e : sum_of_plans m ≡ s.u + a.c = omega arith in e) ∙ a.meets.at
            ∙ ap (λ (x : Watched). x.at) (for_same machine a.c 0 (from (M m)) c0);
      }

  plain_front : (k : ℕ) (insts : List Inst) → ArePlain insts → ArePlain (take k insts)
  plain_front zero insts h = tt
  plain_front (suc k) [] h = tt
  plain_front (suc k) (x ∷ insts) h = (h.0, plain_front k insts h.1)

  abbrev PlacedHere : ℕ → Type 0
  PlacedHere = Placed setting

  abbrev starting : ℕ → Did → Watched
  starting = beginning setting

  -- the words before the terminator's place are taken one after another
  heads :
      (t : ℕ) (w : PlacedHere t) (d : Did) (k : ℕ) → k ≤ length w.lay.parts.front
      → (e : Did) × (for k (starting (link t) d) ≡ starting (link t + k) e)
  heads t w d k h =
      let lay = w.lay in
      let front = front_of setting t lay in
      let long : length front ≡ length lay.parts.front = pre_length p.input lay.planned in
      let taken : length (take k front) ≡ k = length-take-le k front (omega arith) in
      let st = stands_left code inside (link t) (take k front) (drop k front)
      (subst (Stands code inside (link t)) (sym (take-append-drop k front)) (front_stands setting t lay w.end)) in
      let plain = plain_front k front (plain_pre p.input lay.planned (all_plain link p.statements t (inner_of setting t lay) lay.body)) in
      let whole : length (items_of lay.plan) ≡ length lay.parts.front + length lay.parts.back = ap length lay.parts.whole
      ∙ length-append lay.parts.front lay.parts.back in
      let sm = small (t + length (insts_of lay.block)) in
      let nx = lay.next in (
        did_all machine (link t) (take k front) d,
        for_same machine k (length (take k front)) (starting (link t) d) (sym taken)
            ∙ goes machine (take k front) (link t) d st plain (low t) (omega arith)
            ∙ ap (λ n. starting (link t + n) (did_all machine (link t) (take k front) d)) taken,
      )

  abbrev on_step : Watched → Watched
  on_step s = record {
    at = delay_step code p.place p.input s.at;
    clean = s.clean && (is_clean_step code inside p.place p.input s.at && not (reads (does code s.at.first) s.loaded));
    loaded = loads_to (does code s.at.first);
  }

  abbrev step_of : Watched → Watched
  step_of = once machine

  abbrev done_by : Watched → Delay
  done_by s = stepped p.place p.input (does code s.at.first) (decides (does code s.at.first) s.at.first.address s.at.core.regs) s.at

  first_next : (s : Watched) → s.at.halted ≡ false → (step_of s).at.first.address ≡ s.at.second.address
  first_next s h =
      ap (λ (x : Watched). x.at.first.address) (cond-false s.at.halted s (on_step s) h)
      ∙ ap (λ (x : Delay). x.first.address) (cond-false s.at.halted s.at (done_by s) h)

  second_next : (s : Watched) → s.at.halted ≡ false → (step_of s).at.second.address ≡ s.at.third.address
  second_next s h =
      ap (λ (x : Watched). x.at.second.address) (cond-false s.at.halted s (on_step s) h)
      ∙ ap (λ (x : Delay). x.second.address) (cond-false s.at.halted s.at (done_by s) h)

  not_yet : (s : Watched) → (step_of s).at.halted ≡ false → s.at.halted ≡ false
  not_yet s h = ⊎_elim
      (λ e. absurd (false≢true (sym h ∙ ap (λ (x : Watched). x.at.halted) (cond-true s.at.halted s (on_step s) e) ∙ e)))
      (λ e. e)
      (cases_Bool s.at.halted)

  -- each word of a block is taken at its place
  first_at :
      (t : ℕ) (w : PlacedHere t) (d : Did) (k : ℕ) → k < length (items_of w.lay.plan) → (for k (starting (link t) d)).at.halted ≡ false
      → (for k (starting (link t) d)).at.first.address ≡ link t + k
  first_at t w d k l on =
      let lay = w.lay in
      let place = length lay.parts.front in
      let whole : length (items_of lay.plan) ≡ length lay.parts.front + length lay.parts.back = ap length lay.parts.whole
      ∙ length-append lay.parts.front lay.parts.back in
      let three = back_short setting t lay w.end in
      ⊎_elim
      (λ (q : length lay.parts.front < k).
      let r = heads t w d (length lay.parts.front) (omega arith) in
      let b = link t + length lay.parts.front in
      let one : for (length lay.parts.front + 1) (starting (link t) d) ≡ step_of (starting b r.0) =
      for_add machine (length lay.parts.front) 1 (starting (link t) d) ∙ ap step_of r.1 in
      ⊎_elim
      (λ (x : length lay.parts.front + 1 < k).
      let k2 : k ≡ length lay.parts.front + 1 + 1 = omega arith in
      let two : for k (starting (link t) d) ≡ step_of (step_of (starting b r.0)) =
      for_same machine k (length lay.parts.front + 1 + 1) (starting (link t) d) k2 ∙ for_add machine (length lay.parts.front + 1) 1 (starting (link t) d)
      ∙ ap step_of one in
      let going : (step_of (starting b r.0)).at.halted ≡ false = not_yet (step_of (starting b r.0)) (ap (λ (x : Watched). x.at.halted) (sym two) ∙ on) in
      ap (λ (x : Watched). x.at.first.address) two ∙ first_next (step_of (starting b r.0)) going ∙ second_next (starting b r.0) refl
      ∙ (let e : b + 2 ≡ link t + k = omega arith in e))
      (λ (x : k ≤ length lay.parts.front + 1).
      let k1 : k ≡ length lay.parts.front + 1 = omega arith in
      ap (λ (x : Watched). x.at.first.address) (for_same machine k (length lay.parts.front + 1) (starting (link t) d) k1 ∙ one)
      ∙ first_next (starting b r.0) refl ∙ (let e : b + 1 ≡ link t + k = omega arith in e))
      (cases_lt (length lay.parts.front + 1) k))
      (λ (q : k ≤ length lay.parts.front). let r = heads t w d k q in ap (λ (x : Watched). x.at.first.address) r.1)
      (cases_lt (length lay.parts.front) k)

  pub some_words : (t : ℕ) (w : PlacedHere t) → 1 ≤ length (items_of w.lay.plan)
  some_words t w =
      let lay = w.lay in
      let once = once_length (length (insts_of lay.block)) 0 (ops (items_of lay.plan)) (λ k. lay.laid.valid.once k ∙ grind (arith, nat_tests)) in
      let some = lay.some in
      let l = ops_length (items_of lay.plan) in
      omega arith

  sum_more : (a k : ℕ) → sum_of_plans a ≤ sum_of_plans (a + k)
  sum_more a zero = let e : sum_of_plans a ≡ sum_of_plans (a + 0) = ap sum_of_plans (let q : a ≡ a + 0 = omega arith in q) in omega arith
  sum_more a (suc k) =
      let h = sum_more a k in
      let e : sum_of_plans (a + suc k) ≡ sum_of_plans (suc (a + k)) = ap sum_of_plans (let q : a + suc k ≡ suc (a + k) = omega arith in q) in
      omega arith

  -- a later start comes after more words
  pub sum_grows :
      (m m' : ℕ) → (M m).state.mark ≡ Going → leader (M m).state.index ≡ true → (M m').state.mark ≡ Going → m < m'
      → sum_of_plans m < sum_of_plans m'
  sum_grows m m' g lead g' l = ⊎_elim
      (λ (h : (M m).state.index < length p.statements).
      let w = placed (M m).state.index lead h in
      let some = some_words (M m).state.index w in
      let long = w.long in
      let one : sum_of_plans (suc m) ≡ sum_of_plans m + len_of (M m).state.index =
      ap (λ (b : Bool). sum_of_plans m + cond b (len_of (M m).state.index) 0) lead in
      let more = sum_more (suc m) (m' - suc m) in
      let e : sum_of_plans (suc m + (m' - suc m)) ≡ sum_of_plans m' = ap sum_of_plans (let q : suc m + (m' - suc m) ≡ m' = omega arith in q) in
      omega arith)
      (λ h. absurd (whole.past_end setting begun m g h (runs_before (m + 1) m' (omega arith) (going_runs m' g'))))
      (cases_lt (M m).state.index (length p.statements))

  -- Without copies: after d words the address of leader i is first, and no other word of a block has it.
  pub record FetchesLeader (d i : ℕ) : Type 0 where
    pub none : (t : ℕ) → place_of t ≡ 0
    pub only :
        (i j k : ℕ) → leader i ≡ true → i < length p.statements → (w : PlacedHere j) → leader j ≡ true → j < length p.statements
        → k < length (items_of w.lay.plan) → link i ≡ link j + k → i ≡ j
    pub safe : Runs (d + 64)
    pub on : (D d).at.halted ≡ false
    pub i_leads : leader i ≡ true
    pub i_in : i < length p.statements
    pub here : (D d).at.first.address ≡ link i

  -- So a block starts there.
  module _ (d i : ℕ) (fetches : FetchesLeader d i) where
    open fetches use {none, only, safe as r, on, i_leads, i_in, here}

    pub record BlockAt : Type 0 where
      pub m : ℕ
      pub going : (M m).state.mark ≡ Going
      pub index : (M m).state.index ≡ i
      pub is_d : d ≡ sum_of_plans m

    -- in a block that starts at u
    in_block : (m v u : ℕ) (a : At m v u) (h : (M m).state.index < length p.statements) → u ≤ d → d < u + long_at m v u a h → BlockAt
    in_block m v u a h under over =
        let j = (M m).state.index in
        let w = block_at m v u a h in
        let plain = a.plain none in
        let w0 = plain.0 in
        let cw = a.c_w in
        let k = d - u in
        let kept = whole.reached setting begun m v u a k (omega arith) in
        let same : (D d).at ≡ (for k (from (M m))).at = ap (λ n. (D n).at) (let e : d ≡ u + k = omega arith in e) ∙ kept.at in
        let there = first_at j w (did_of setting (M m)) k (omega arith) (sym (ap (λ (t : Delay). t.halted) same) ∙ on) in
        let link_is : link i ≡ link j + k = sym here ∙ ap (λ (t : Delay). t.first.address) same ∙ there in
        let i_is : i ≡ j = only i j k i_leads i_in w (whole.lead_of setting begun m v u a h).0 h (omega arith) link_is in
        let l_is : link i ≡ link j = ap link i_is in
        let u_is = plain.1 in
        record { m = m; going = a.going; index = sym i_is; is_d = omega arith }

    back_from : (fuel m v u : ℕ) → At m v u → u ≤ d → d < u + fuel → BlockAt
    back_from zero m v u a under f = absurd (omega arith)
    back_from (suc fuel) m v u a under f = ⊎_elim
        (λ (h : (M m).state.index < length p.statements).
        let w = block_at m v u a h in
        let n = size_at m v u a h in
        let some = some_words (M m).state.index w in
        let few = w.lay.few in
        let x = a.low_v in
        let y = a.v_u in
        let z = a.c_w in
        let plain = a.plain none in
        let w0 = plain.0 in
        let u_is = plain.1 in
        ⊎_elim
        (λ (q : d < u + long_at m v u a h). in_block m v u a h under q)
        (λ (q : u + long_at m v u a h ≤ d).
        let rr : Runs (m + n) = runs_before (m + n) (d + 64) (omega arith) r in
        let sums = whole.sum_at setting begun m v u a h rr in
        ⊎_elim
        (λ (nx : Next m v (size_at m v u a h)).
        let after = nx.at.plain none in
        let u2_is = after.1 in
        back_from fuel (m + n) nx.v2 nx.u2 nx.at (omega arith) (omega arith))
        (λ (fin : Final m u (size_at m v u a h) (long_at m v u a h)).
        let e_in = fin.within in
        let o = fin.over in
        absurd (false≢true (sym on ∙ (whole.grows setting begun fin.e d (omega arith)).halted o.halted)))
        (whole.run_block setting begun m v u a h rr))
        (cases_lt d (u + long_at m v u a h)))
        (λ h. absurd (whole.past_end setting begun m a.going h (runs_before (m + 1) (d + 64)
        (let x = a.low_v in let y = a.v_u in let z = a.c_w in let plain = a.plain none in let w0 = plain.0 in omega arith) r)))
        (cases_lt (M m).state.index (length p.statements))

    pub block_at_fetch : BlockAt
    block_at_fetch = back_from (suc d) 0 0 0 (whole.begins setting begun) (omega arith) (omega arith)
