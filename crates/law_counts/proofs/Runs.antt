-- Whole runs, a step a block. The invariant is `Came m e`: after m statements a block starts, after e words the machine is where the
-- block's own run is after those of its words that were done in slots before it, and the words of statement q among the e words
-- are the visits of the meaning so far and what those words weigh. A block takes it to the next one, or the run ends (`Over`).
use Rattle.std.proofs.Common.{◌≡◌, ℕ, zero, suc, ◌+◌, ◌-◌, ◌<◌, ◌≤◌, Bool, true, false, cond, eqb, List, [], ◌∷◌, ◌⊎◌, length, take, Some, None, refl, sym, ap, ◌∙◌, subst, arith, ⊎_elim, inl, inr}
use Rattle.std.proofs.lemmas.Option.{slice_get_past}
use Rattle.std.proofs.lemmas.Bool.{cases_lt, false≢true}
use Rattle.std.proofs.lemmas.List.{length-take-le}
use Rattle.mx_isa.specs.declared.inst.Inst.{Inst}
use Rattle.mx_delay.specs.Delay.{Delay}
use Rattle.mx_delay.specs.Clean.{Watched}
use Rattle.mx_source.specs.Meaning.{Going, Halted, Run, run_for, start, is_stuck, HaltsIn}
use Rattle.mx_blocks.specs.Leaders.{size}
use Rattle.mx_validate.specs.Padded.{items_of, body_count}
use Rattle.mx_squash.specs.Copies.{Site, site_of}
use Rattle.mx_layout.specs.Layout.{plan_size}
use Rattle.mx_layout.proofs.Links.{site_found}
use Rattle.law_link.specs.Laws.{plan_words, block_words, planned_words}
use Rattle.law_link.proofs.Going.{for_same, for_add, for, starts, Keeps, keeps_self, keeps_then, keeps_for, halted_for}
use Rattle.law_link.proofs.Saying.{is_going, step_is, not_stuck_before, run_add, stays_for, AreBody, body_run}
use Rattle.law_link.proofs.Planned.{bodies_length}
use Rattle.law_link.proofs.Codes.{registers_lead}
use Rattle.law_link.proofs.OneBlock.{nowhere, LeadsAt, did_of}
use Rattle.law_link.proofs.Transfers.{CodesLead, inner_of}
use Rattle.law_link.proofs.Layouts.{begins, place_in, setting}
use Rattle.law_link.proofs.Placing.{next_links, ended}
use Rattle.law_link.proofs.Setting.{StepSetting, Setting, machine_of, short}
use Rattle.law_counts.specs.Counts.{goes_on_with, visits}
use Rattle.law_counts.proofs.Tally.{one, span, tally, tally_same, tally_add, tally_kept, tally_halted}
use Rattle.law_counts.proofs.Weights.{weight, weight_once, passed, passed_is}
use Rattle.law_counts.proofs.Copies.{Counting, MarkedSite}
use Rattle.law_counts.proofs.Leads.{leads_tally}
use Rattle.law_counts.proofs.Block.{Block, Coming, CountedOn, CountedStop}
use Rattle.law_counts.proofs.Block.{first as first_of, w as lay_of, n as size_of, len as len_of, place as place_at, begun as begun_at}
use Rattle.law_counts.proofs.Ways.{counts_by}
use Rattle.law_link.proofs.Whole.{body_most}

module _ (counting : Counting) where
  open counting use {known, q, test as T, marks}
  open known use {linking as l, linking.{source, place, sites as all, bytes}, laid.{well_formed as is, layout as h}, bare}
  open setting known use {program as p, link, leader, place_of}

  abbrev pub here : Setting
  here = setting known

  abbrev pub machine : StepSetting
  machine = machine_of here

  abbrev pub r0 : Run
  r0 = record { state = start source place; console = [] }

  -- the meaning after m statements
  abbrev pub M : ℕ → Run
  M m = run_for p m r0

  -- the machine at the first word of the block at which a run is
  abbrev pub from : Run → Watched
  from r = starts machine (link r.state.index) (did_of here r)

  -- linked code after j steps
  abbrev pub D : ℕ → Watched
  D j = for machine j (from r0)

  -- how many of them execute a word of the statement
  abbrev pub count : ℕ → ℕ
  count j = tally T machine j (from r0)

  abbrev pub visited : ℕ → ℕ
  visited m = visits l q m

  abbrev pub index : ℕ → ℕ
  index m = (M m).state.index

  abbrev pub Keep : Watched → Watched → Type 0
  Keep = Keeps machine

  codes : (m : ℕ) → CodesLead here (M m)
  codes m n t e = inl (registers_lead source is place bytes m n t e)

  D_add : (a b : ℕ) → D (a + b) ≡ for machine b (D a)
  D_add a b = for_add machine a b (from r0)

  -- the block of a leader
  pub record At (t : ℕ) : Type 0 where
    pub block : Block counting
    pub is_first : first_of counting block ≡ t
    pub found : site_of (λ b. eqb b.first t) all ≡ Some block.site
    -- no more words may be done before it than it has
    pub room : place_of t ≤ place_at counting block

  pub block_at : (t : ℕ) → leader t ≡ true → t < length source.statements → At t
  block_at t e less =
      let b = begins known t e less in
      let mark = site_found (MarkedSite counting) (λ b. eqb b.first t) all b.site marks b.found in
      let next = site_found (λ (s : Site). link (s.block.first + size s.block) ≡ s.start + plan_size s.plan) (λ b. eqb b.first t) all b.site
      (next_links source 0 (length source.statements) place.code all h.blocks h.stand) b.found in
      let block : Block counting = record { site = b.site; standing = b.standing; mark = mark.0; next = next.0 } in
      record {
        block = block;
        is_first = b.first;
        found = b.found;
        room =
            let few = at_most bare (place_in (site_of (λ b. eqb b.first t) all)) in
            let there = ap place_in b.found in
            let place_is = (lay_of counting block).parts.place in
            omega arith;
      }
    where
      at_most : (b : Bool) (m : ℕ) → cond b 0 m ≤ m
      at_most true m = omega arith
      at_most false m = omega arith

  body_prefix : (i k : ℕ) (insts : List Inst) → AreBody link p.statements i insts → AreBody link p.statements i (take k insts)
  body_prefix i zero insts b = tt
  body_prefix i (suc k) [] b = tt
  body_prefix i (suc k) (x ∷ insts) b = (b.0, body_prefix (suc i) k insts b.1)

  -- within a block the statements follow one another, and the meaning goes on
  pub record Inner (r : Run) (i t : ℕ) : Type 0 where
    pub index : (run_for p t r).state.index ≡ i + t
    pub going : (run_for p t r).state.mark ≡ Going

  pub inner :
      (block : Block counting) (r : Run) → r.state.mark ≡ Going → r.state.index ≡ first_of counting block → (t : ℕ) → t < size_of counting block
      → is_stuck (run_for p t r).state.mark ≡ false → Inner r (first_of counting block) t
  inner block r going here_is t few safe =
      let i = first_of counting block in
      let lay = lay_of counting block in
      let insts = inner_of here i lay in
      let is_inner : length insts ≡ body_count lay.block = bodies_length p.input lay.planned in
      let most = body_most lay.block lay.some in
      let long : length (take t insts) ≡ t = length-take-le t insts (omega arith) in
      let run = body_run link p (short here) i 0 (take t insts) r true nowhere going here_is (body_prefix i t insts lay.body)
      (ap (λ k. is_stuck (run_for p k r).state.mark) long ∙ safe) in
      record {
        index = ap (λ k. (run_for p k r).state.index) (sym long) ∙ run.index ∙ ap (λ k. i + k) long;
        going = ap (λ k. (run_for p k r).state.mark) (sym long) ∙ run.mark;
      }

  inner_of_block : (block : Block counting) (c : Coming counting block) (t : ℕ) → t < size_of counting block → Inner c.r (first_of counting block) t
  inner_of_block block c t few =
      let n = size_of counting block in
      let on : n ≡ t + (n - t) = omega arith in
      inner block c.r c.going c.index t few
      (not_stuck_before p (n - t) (run_for p t c.r) (ap (λ (s : Run). is_stuck s.state.mark)
      (sym (ap (λ k. run_for p k c.r) on ∙ run_add p t (n - t) c.r)) ∙ c.safe))

  -- the visits in a block
  visits_within :
      (m : ℕ) (block : Block counting) (c : Coming counting block) → c.r ≡ M m → (k : ℕ) → k ≤ size_of counting block
      → visited (m + k) ≡ visited m + passed q (first_of counting block) k
  visits_within m block c is_m zero few = let e = ap visited (let o : m + zero ≡ m = omega arith in o) in omega arith
  visits_within m block c is_m (suc k) few =
      let rest = visits_within m block c is_m k (omega arith) in
      let on : m + suc k ≡ suc (m + k) = omega arith in
      let e = ap visited on in
      let i = inner_of_block block c k (omega arith) in
      let same : M (m + k) ≡ run_for p k c.r = run_add p m k r0 ∙ ap (run_for p k) (sym is_m) in
      let counts : one (goes_on_with q (M (m + k)).state.mark (M (m + k)).state.index) ≡ one (eqb (first_of counting block + k) q) =
      (λ j. one (goes_on_with q (same j).state.mark (same j).state.index)) ∙ (λ j. one (goes_on_with q (i.going j) (i.index j))) in
      omega arith

  -- what the plan's words weigh is how often the meaning comes to the statement
  weight_is :
      (block : Block counting) → weight q (first_of counting block) (items_of block.site.plan)
      ≡ passed q (first_of counting block) (size_of counting block)
  weight_is block =
      let i = first_of counting block in
      let n = size_of counting block in
      weight_once q i n (items_of block.site.plan) block.standing.of.valid.once ∙ sym (passed_is q i n)

  -- after m statements a block starts, and e words were done
  pub record Came (m e : ℕ) : Type 0 where
    pub c : ℕ
    pub going : (M m).state.mark ≡ Going
    pub lead : LeadsAt here c (index m)
    pub meets : Keep (D e) (for machine c (from (M m)))
    pub counts : count e ≡ visited m + span T c (link (index m))
    -- without copies, all words so far are those of the plans
    pub plain : ((t : ℕ) → place_of t ≡ 0) → e ≡ planned_words l m

  pub comes_first : Came 0 0
  comes_first = record {
    c = 0;
    going = refl;
    lead = (inl refl, (let e : 0 ≤ place_of 0 = omega arith in e));
    meets = keeps_self machine (from r0) (from r0) refl;
    counts = refl;
    plain = λ none. refl;
  }

  -- the run ends
  pub record Over (n : ℕ) : Type 0 where
    pub before : ℕ
    pub runs_on : (D before).at.halted ≡ false
    pub halted : (D (suc before)).at.halted ≡ true
    pub counts : count (suc before) ≡ visited n

  pub record Next (m n : ℕ) : Type 0 where
    pub e : ℕ
    pub came : Came (m + n) e

  pub record Final (m n : ℕ) : Type 0 where
    pub last : ℕ
    pub is_n : n ≡ suc last
    pub going : (M (m + last)).state.mark ≡ Going
    pub halts : (M (m + n)).state.mark ≡ Halted
    pub over : Over (m + n)

  -- the run from a block's first word, behind the words that were done
  module _ (m e : ℕ) (a : Came m e) (t : At (index m)) (safe : is_stuck (M (m + size_of counting t.block)).state.mark ≡ false) where
    abbrev block : Block counting
    block = t.block

    abbrev n : ℕ
    n = size_of counting block

    abbrev len : ℕ
    len = len_of counting block

    abbrev coming : Coming counting block
    coming = record {
      r = M m;
      going = a.going;
      index = sym t.is_first;
      safe = ap (λ (s : Run). is_stuck s.state.mark) (sym (run_add p m n r0)) ∙ safe;
    }

    abbrev begun : Watched
    begun = begun_at counting block coming

    begun_is : from (M m) ≡ begun
    begun_is = ap (λ i. starts machine (link i) (did_of here (M m))) (sym t.is_first)

    -- x words from its first word on
    reached : (x : ℕ) → a.c ≤ x → Keep (D (e + (x - a.c))) (for machine x begun)
    reached x more =
        let y = x - a.c in
        let right : for machine y (for machine a.c (from (M m))) ≡ for machine x begun =
        sym (for_add machine a.c y (from (M m))) ∙ for_same machine (a.c + y) x (from (M m)) (omega arith) ∙ ap (for machine x) begun_is in
        subst (λ (z : Watched). Keep z (for machine x begun)) (sym (D_add e y))
        (subst (λ (z : Watched). Keep (for machine y (D e)) z) right (keeps_for machine y (D e) (for machine a.c (from (M m))) a.meets))

    -- and what they count
    counted : (x : ℕ) → a.c ≤ x → count (e + (x - a.c)) ≡ visited m + tally T machine x begun
    counted x more =
        let y = x - a.c in
        let before = a.counts in
        let on = tally_add T machine e y (from r0) in
        let kept = tally_kept T machine y (D e) (for machine a.c (from (M m))) a.meets in
        let whole = tally_add T machine a.c y (from (M m)) in
        let done = leads_tally known T a.c (index m) (did_of here (M m)) a.lead in
        let all_of : tally T machine (a.c + y) (from (M m)) ≡ tally T machine x begun =
        tally_same T machine (a.c + y) x (from (M m)) (omega arith) ∙ ap (tally T machine x) begun_is in
        omega arith

    few_done : a.c ≤ place_at counting block
    few_done = let l = a.lead.1 in let r = t.room in omega arith

    is_m : M (m + n) ≡ run_for p n (M m)
    is_m = run_add p m n r0

    visits_on : visited (m + n) ≡ visited m + weight q (first_of counting block) (items_of block.site.plan)
    visits_on =
        let v = visits_within m block coming refl n (omega arith) in
        let w = weight_is block in
        omega arith

    -- the words of its plan
    plan_until : (k : ℕ) → k < n → planned_words l (m + suc k) ≡ planned_words l m + len
    plan_until zero few =
        let on : m + 1 ≡ suc m = omega arith in
        let lead = ap leader (sym t.is_first) ∙ block.standing.of.block.leader in
        let words : block_words l (index m) ≡ len = ap plan_words t.found in
        ap (planned_words l) on ∙ ap (λ b. planned_words l m + cond b (block_words l (index m)) 0) lead ∙ ap (λ k. planned_words l m + k) words
    plan_until (suc k) few =
        let on : m + suc (suc k) ≡ suc (m + suc k) = omega arith in
        let rest = plan_until k (omega arith) in
        let i = inner_of_block block coming (suc k) few in
        let ix : index (m + suc k) ≡ first_of counting block + suc k = ap (λ (s : Run). s.state.index) (run_add p m (suc k) r0) ∙ i.index in
        let none : leader (index (m + suc k)) ≡ false = ap leader ix ∙ block.standing.of.block.inner (suc k) (omega arith) few in
        let e = ap (planned_words l) on ∙ ap (λ b. planned_words l (m + suc k) + cond b (block_words l (index (m + suc k))) 0) none in
        omega arith

    plan_on : planned_words l (m + n) ≡ planned_words l m + len
    plan_on =
        let some = block.standing.of.block.some in
        let on : m + n ≡ m + suc (n - 1) = omega arith in
        ap (planned_words l) on ∙ plan_until (n - 1) (omega arith)

    goes_on : CountedOn counting block coming → Next m n
    goes_on o =
        let g = o.goes in
        let own = g.is_own in
        let behind = g.behind in
        let few = few_done in
        let sum = counted len (omega arith) in
        let on = visits_on in
        let more = o.counted in
        record {
          e = e + (len - a.c);
          came = record {
            c = g.c;
            going = ap (λ (s : Run). s.state.mark) is_m ∙ g.mark;
            lead = subst (λ (s : Run). LeadsAt here g.c s.state.index) (sym is_m) g.lead;
            meets = subst (λ (s : Run). Keep (D (e + (len - a.c))) (for machine g.c (from s))) (sym is_m)
                (keeps_then machine (D (e + (len - a.c))) (for machine len begun) (for machine g.c (from (run_for p n (M m)))) (reached len (omega arith))
                g.reaches);
            counts =
                (let there = ap (λ (s : Run). span T g.c (link s.state.index)) is_m in
                omega arith);
            plain = λ none.
                let old = a.plain none in
                let room = a.lead.1 in
                let no_place = none (index m) in
                let words = plan_on in
                omega arith;
          };
        }

    stops_at : CountedStop counting block coming → Final m n
    stops_at o =
        let g = o.stops in
        let few = few_done in
        let place = place_at counting block in
        let before = reached place few in
        let end = reached (place + 1) (omega arith) in
        let sum = counted (place + 1) (omega arith) in
        let on = visits_on in
        let more = o.counted in
        let step : e + (place + 1 - a.c) ≡ suc (e + (place - a.c)) = omega arith in
        record {
          last = g.before_n;
          is_n = g.is_n;
          going = ap (λ (s : Run). s.state.mark) (run_add p m g.before_n r0) ∙ g.before;
          halts = ap (λ (s : Run). s.state.mark) is_m ∙ g.mark;
          over = record {
            before = e + (place - a.c);
            runs_on = ap (λ (x : Delay). x.halted) before.at ∙ g.runs_on;
            halted = ap (λ k. (D k).at.halted) (sym step) ∙ ap (λ (x : Delay). x.halted) end.at ∙ g.halted;
            counts = ap count (sym step) ∙ omega arith;
          };
        }

    pub run_block : Next m n ⊎ Final m n
    run_block =
        let s = block.site in
        let end = ended known s block.standing block.next in
        let k = length (inner_of here (first_of counting block) (lay_of counting block)) in
        ⊎_elim (λ o. inl (goes_on o)) (λ o. inr (stops_at o))
        (counts_by counting block coming end.end end.copies (subst (λ (s : Run). CodesLead here s) (run_add p m k r0) (codes (m + k))))

  pub past_end : (m : ℕ) → (M m).state.mark ≡ Going → length p.statements ≤ index m → is_stuck (M (m + 1)).state.mark ≡ false → ⊥
  past_end m g far r =
      let stops = step_is p (M m) None g (slice_get_past p.statements (index m) far) in
      false≢true (sym r ∙ ap (λ (s : Run). is_stuck s.state.mark) (run_add p m 1 r0 ∙ stops))

  -- a run that halts
  module _ (n : ℕ) (halts : HaltsIn source place bytes n) where
    stays : (k : ℕ) → n ≤ k → M k ≡ M n
    stays k more =
        ap M (let e : k ≡ n + (k - n) = omega arith in e) ∙ run_add p n (k - n) r0 ∙ stays_for p (k - n) (M n) (ap is_going halts.halted)

    never_stuck : (k : ℕ) → is_stuck (M k).state.mark ≡ false
    never_stuck k = ⊎_elim
        (λ (less : k < n). ap is_stuck (halts.first k less))
        (λ (more : n ≤ k). ap (λ (s : Run). is_stuck s.state.mark) (stays k more) ∙ ap is_stuck halts.halted)
        (cases_lt k n)

    going_before : (k : ℕ) → (M k).state.mark ≡ Going → k < n
    going_before k g = ⊎_elim
        (λ (less : k < n). less)
        (λ (more : n ≤ k). absurd (false≢true (sym (ap is_going halts.halted) ∙ sym (ap (λ (s : Run). is_going s.state.mark) (stays k more)) ∙ ap is_going g)))
        (cases_lt k n)

    halted_from : (k : ℕ) → (M k).state.mark ≡ Halted → n ≤ k
    halted_from k e = ⊎_elim
        (λ (less : k < n). absurd (false≢true (sym (ap is_going e) ∙ ap is_going (halts.first k less))))
        (λ (more : n ≤ k). more)
        (cases_lt k n)

    over_from : (fuel m e : ℕ) → Came m e → n ≤ m + fuel → Over n
    over_from zero m e a f = absurd (let less = going_before m a.going in omega arith)
    over_from (suc fuel) m e a f = ⊎_elim
        (λ (within : index m < length source.statements).
        let lead : leader (index m) ≡ true = ⊎_elim (λ l. l) (λ e. absurd (omega arith)) a.lead.0 in
        let t = block_at (index m) lead within in
        let k = size_of counting t.block in
        let some = t.block.standing.of.block.some in
        ⊎_elim
        (λ (x : Next m (size_of counting t.block)). over_from fuel (m + k) x.e x.came (omega arith))
        (λ (x : Final m (size_of counting t.block)).
        let before = going_before (m + x.last) x.going in
        let after = halted_from (m + k) x.halts in
        let is_k = x.is_n in
        let same : m + k ≡ n = omega arith in
        subst Over same x.over)
        (run_block m e a t (never_stuck (m + k))))
        (λ far. absurd (past_end m a.going far (never_stuck (m + 1))))
        (cases_lt (index m) (length source.statements))

    pub over : Over n
    over = over_from n 0 0 comes_first (omega arith)

    -- where linked code has halted, it has counted all visits
    pub counts_all : (j : ℕ) → (D j).at.halted ≡ true → count j ≡ visited n
    counts_all j halted =
        let o = over in
        ⊎_elim
        (λ (early : j < suc o.before).
        let rest : D o.before ≡ D j = ap D (let e : o.before ≡ j + (o.before - j) = omega arith in e) ∙ D_add j (o.before - j)
        ∙ halted_for machine (o.before - j) (D j) halted in
        absurd (false≢true (sym o.runs_on ∙ ap (λ (x : Watched). x.at.halted) rest ∙ halted)))
        (λ (late : suc o.before ≤ j).
        let e : j ≡ suc o.before + (j - suc o.before) = omega arith in
        let split = ap count e ∙ tally_add T machine (suc o.before) (j - suc o.before) (from r0) in
        let none = tally_halted T machine (j - suc o.before) (D (suc o.before)) o.halted in
        let all_of = o.counts in
        omega arith)
        (cases_lt j (suc o.before))
