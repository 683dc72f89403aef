-- Words that come to MEM were fetched before, and each fetch takes a cycle.
use Rattle.std.proofs.Common.{◌≡◌, ℕ, zero, suc, ◌+◌, ◌-◌, ◌≤◌, Bool, true, false, cond, eqb, List, refl, sym, ap, ◌∙◌, subst, arith, ⊎_elim, Option, Some, None}
use Rattle.std.specs.Prelude.{ltb, ◌&&◌, not}
use Rattle.std.proofs.lemmas.Bool.{cases_Bool, cond-true, cond-false}
use Rattle.mx_delay.specs.Delay.{Code}
use Rattle.mx_icache.specs.Residency.{resident}
use Rattle.mx_pcchain.specs.Fetch.{Fetch}
use Rattle.mx_turn.specs.declared.latches.Latches.{Latches}
use Rattle.mx_turn.specs.declared.latches.Stage.TheVariants.{Live, Squashed}
use Rattle.mx_turn.specs.Counted.{one, after_stall}
use Rattle.mx_turn.specs.Stages.{squash, stage_of}
use Rattle.mx_turn.specs.Cycle.{MachineState, is_taken, entered, decision, decided, turned, ended, reached, latched, acted, cycled}
use Rattle.mx_turn.specs.Program.{Program, code_of, state_after}
use Rattle.mx_turn.specs.Run.{is_requested, bits}
use Rattle.mx_turn.proofs.Steps.{cycled_halted, cycled_acted, cycled_stalled}
use Rattle.mx_report.proofs.Runs.{next_state, ended_same}
use Rattle.lab_profile.specs.Charges.{place_of, place_in, is_squashed, before, counts_cycle, counts_fetch, waiting, fetches_at, cycles_at, cancelled_at, is_at}
use Rattle.lab_profile.proofs.Counted.{more, not_more, run_step}

-- sums of variables, by which the steps below are put together
none_added : (x y c d : ℕ) → x ≡ 0 → y ≡ 0 → d ≡ c → x + d ≤ c + y
none_added x y c d e f g = omega (arith, e, f, g)

moved_on : (x y s n f r a d : ℕ) → x ≡ s → s ≤ a → y ≡ n → d ≤ n + f + r → x + d ≤ f + r + a + y
moved_on x y s n f r a d e l g h = omega (arith, e, l, g, h)

one_more : (a b x y c d : ℕ) → a + c ≤ b → x + d ≤ c + y → a + x + d ≤ b + y
one_more a b x y c d h l = omega (arith, h, l)

both_more : (a b x y : ℕ) → a ≤ b → x ≤ y → a + x ≤ b + y
both_more a b x y h l = omega (arith, h, l)

fewer : (a b c d : ℕ) → a + b ≤ c → c ≤ d → a ≤ d
fewer a b c d h l = omega (arith, h, l)

module _ (words k : ℕ) where
  -- one where the stage has a word of place k
  abbrev held : Option Fetch → ℕ
  held None = 0
  held (Some f) = one (eqb (place_of words f.address) k)

  -- how many words of place k are on their way to MEM
  abbrev pub coming : MachineState → ℕ
  coming m = held m.fetch + held m.rf + held m.alu

  held_squashed : (b : Bool) (f : Option Fetch) → held (squash b f) ≡ held f
  held_squashed b None = refl
  held_squashed b (Some f) = refl

  marked_place : (a : ℕ) (b : Bool) → place_in words (cond b (Squashed a) (Live a)) ≡ place_of words a
  marked_place a true = refl
  marked_place a false = refl

  marked_arrives : (a : ℕ) (b : Bool)
      → one (is_squashed (cond b (Squashed a) (Live a)) && eqb (place_in words (cond b (Squashed a) (Live a))) k) ≤ one (eqb (place_of words a) k)
  marked_arrives a true = omega arith
  marked_arrives a false = omega arith

  -- what comes to MEM squashed was in ALU
  arrives : (f : Option Fetch) → one (is_squashed (stage_of f) && eqb (place_in words (stage_of f)) k) ≤ held f
  arrives None = omega arith
  arrives (Some f) = marked_arrives f.address f.squashed

  fetched : (f : Fetch) → one (eqb (place_in words (stage_of (Some f))) k) ≡ held (Some f)
  fetched f = ap (λ a. one (eqb a k)) (marked_place f.address f.squashed)

  -- the end of a turn lets no word of the place appear
  ended_coming : (code : Code) (c : MachineState) → coming (ended code c) ≤ coming c
  ended_coming code c = ⊎_elim
      (λ h. along (cond-true c.halted c (turned code c) h) (omega arith))
      (λ h. ⊎_elim
      (λ t. along (cond-false c.halted c (turned code c) h ∙ cond-true (is_taken c) (entered c) (decided code c) t) (omega arith))
      (λ t. along (cond-false c.halted c (turned code c) h ∙ cond-false (is_taken c) (entered c) (decided code c) t)
      (let f = held_squashed (decision code c).cancels c.fetch in
      let r = held_squashed (decision code c).cancels c.rf in
      omega (arith, f, r)))
      (cases_Bool (is_taken c)))
      (cases_Bool c.halted)
    where
      along : {n : MachineState} → ended code c ≡ n → coming n ≤ coming c → coming (ended code c) ≤ coming c
      along e h = subst (λ (x : MachineState). coming x ≤ coming c) (sym e) h

  -- a cycle from m to n brings as many words to MEM squashed, and leaves as many on their way, as were on their way or are fetched
  abbrev Keeps : MachineState → MachineState → Type 0
  Keeps m n =
      one ((ltb m.counts.fetches n.counts.fetches && is_squashed n.shown.mem) && eqb (place_in words n.shown.mem) k) + coming n
      ≤ coming m + one (ltb m.counts.fetches n.counts.fetches && eqb (place_in words n.shown.fetch) k)

  uncounted : (m n : MachineState) → n.counts.fetches ≡ m.counts.fetches → coming n ≡ coming m → Keeps m n
  uncounted m n e f =
      let off = ap (λ x. ltb m.counts.fetches x) e ∙ not_more m.counts.fetches in
      none_added _ _ (coming m) (coming n)
      (ap (λ b. one ((b && is_squashed n.shown.mem) && eqb (place_in words n.shown.mem) k)) off)
      (ap (λ b. one (b && eqb (place_in words n.shown.fetch) k)) off) f

  module _ (code : Code) (input : Option (List ℕ)) (m : MachineState) where
    abbrev then : MachineState
    then = acted resident code input m

    acted_keeps : Keeps m then
    acted_keeps =
        let c = reached code input m in
        let on = more m.counts.fetches in
        let shown = ended_same (λ (s : MachineState). s.shown) code c refl refl in
        let arrived : one ((ltb m.counts.fetches (m.counts.fetches + 1) && is_squashed then.shown.mem) && eqb (place_in words then.shown.mem) k)
        ≡ one (is_squashed (stage_of m.alu) && eqb (place_in words (stage_of m.alu)) k) =
        (λ i. one ((on i && is_squashed (shown i).mem) && eqb (place_in words (shown i).mem) k)) in
        let entering : one (ltb m.counts.fetches (m.counts.fetches + 1) && eqb (place_in words then.shown.fetch) k)
        ≡ one (eqb (place_in words (stage_of (Some m.next))) k) =
        (λ i. one (on i && eqb (place_in words (shown i).fetch) k)) in
        moved_on _ _ _ (held (Some m.next)) (held m.fetch) (held m.rf) (held m.alu) (coming then) arrived (arrives m.alu) (entering ∙ fetched m.next)
        (ended_coming code c)

  cycle_keeps : (code : Code) (input : Option (List ℕ)) (m : MachineState) (request : Bool) → Keeps m (cycled resident code input m request)
  cycle_keeps code input m request = ⊎_elim
      (λ h. along (cycled_halted resident code input m request h) (uncounted m m refl refl))
      (λ h. ⊎_elim
      (λ s. along (cycled_acted resident code input m request h s) (acted_keeps code input (latched request m)))
      (λ s.
      let l : MachineState = latched request m in
      let n : MachineState = record l { stall = m.stall - 1; counts = after_stall m.counts } in
      along (cycled_stalled resident code input m request h s) (uncounted m n refl refl))
      (cases_Bool (eqb m.stall 0)))
      (cases_Bool m.halted)
    where
      along : {n n' : MachineState} → n ≡ n' → Keeps m n → Keeps m n'
      along e h = subst (λ (x : MachineState). Keeps m x) e h

module _ (p : Program) (requests : List ℕ) (words k : ℕ) where
  arrived : (n : ℕ) → cancelled_at p requests words n k + coming words k (before p requests words n) ≤ fetches_at p requests words n k
  arrived zero = omega arith
  arrived (suc n) =
      let rest = arrived n in
      let step = subst (λ (m : MachineState). Keeps words k (before p requests words n) m) (sym (next_state p requests n))
      (cycle_keeps words k (code_of p) p.input (before p requests words n) (is_requested requests n)) in
      one_more _ _ _ _ _ _ rest step

  paid : (f b c : Bool) (w : ℕ) → one f ≤ one c → one (f && b) ≤ cond (f && b) (w + one c) 0
  paid true true c w h = omega (arith, h)
  paid true false c w h = omega arith
  paid false b c w h = omega arith

  cycles_many : (n : ℕ) → fetches_at p requests words n k ≤ cycles_at p requests words n k
  cycles_many zero = omega arith
  cycles_many (suc n) =
      let rest = cycles_many n in
      let step = paid (counts_fetch p requests words n) (is_at p requests words k (before p requests words (suc n)).shown.fetch)
      (counts_cycle p requests words n) (waiting p requests words n) (run_step p requests n).pays in
      both_more _ _ _ _ rest step

  -- no more words of a place come to MEM squashed than its fetches took cycles
  pub cancelled_few : (n : ℕ) → cancelled_at p requests words n k ≤ cycles_at p requests words n k
  cancelled_few n = fewer _ (coming words k (before p requests words n)) _ _ (arrived n) (cycles_many n)
