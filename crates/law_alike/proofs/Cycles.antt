-- A cycle of two states that go on alike.
use Rattle.std.proofs.Common.{◌≡◌, ℕ, ◌-◌, Bool, true, false, cond, eqb, not, List, [], ◌∷◌, ◌++◌, Option, option_to_list, refl, sym, ap, ◌∙◌, subst, arith}
use Rattle.mx_delay.specs.Delay.{Code}
use Rattle.mx_icache.specs.Residency.{resident}
use Rattle.mx_turn.specs.declared.latches.Latches.{Latches}
use Rattle.mx_turn.specs.Counted.{Counted, one, after_stall, after_turn}
use Rattle.mx_turn.specs.Cycle.{MachineState, squashes, takes, is_taken, entered, decided, latched, reached, counts_after, waited, acted, cycled, answer}
use Rattle.mx_turn.specs.Program.{Program, code_of}
use Rattle.mx_turn.specs.Run.{bytes_on}
use Rattle.law_alike.specs.Alike.{AnswerAlike, GoOnLike, CountAsMuch, later}

-- a state with another history
abbrev other : MachineState → List ℕ → Counted → Latches → MachineState
other m past counts shown = record m { past = past; counts = counts; shown = shown }

appended : (coming : List ℕ) (a : ℕ) (past : List ℕ) → (coming ++ a ∷ []) ++ past ≡ coming ++ a ∷ past
appended [] a past = refl
appended (x ∷ coming) a past = ap (λ l. x ∷ l) (appended coming a past)

-- one more fetch
pub alike_on : (past past' : List ℕ) (a : ℕ) → AnswerAlike past past' → AnswerAlike (a ∷ past) (a ∷ past')
alike_on past past' a h coming b =
    ap (λ l. resident l b) (sym (appended coming a past)) ∙ h (coming ++ a ∷ []) b ∙ ap (λ l. resident l b) (appended coming a past')

-- a turn has ended: the fetch after it is waited for alike
waits_alike : (m : MachineState) (past : List ℕ) (shown : Latches) (counts counts' : Counted) → AnswerAlike m.past past
    → GoOnLike (waited resident (record m { counts = counts })) (waited resident (other m past counts' shown))
waits_alike m past shown counts counts' h = record {
  same = λ k. record m { past = past; counts = counts'; shown = shown; stall = cond (h [] m.next.address k) 0 2 };
  coming = h [] m.next.address;
  behind = alike_on m.past past m.next.address h;
}

ended_alike : (m : MachineState) (past : List ℕ) (shown : Latches) (counts counts' old : Counted) (code : Code) (halted taken : Bool)
    → AnswerAlike m.past past
    → GoOnLike (waited resident (record (cond halted m (cond taken (entered m) (decided code m))) { counts = counts }))
    (waited resident (record (cond halted (other m past old shown)
    (cond taken (entered (other m past old shown)) (decided code (other m past old shown)))) { counts = counts' }))
ended_alike m past shown counts counts' old code true taken h = waits_alike m past shown counts counts' h
ended_alike m past shown counts counts' old code false true h = waits_alike (entered m) past shown counts counts' h
ended_alike m past shown counts counts' old code false false h = waits_alike (decided code m) past shown counts counts' h

-- what is counted one after the other
counts_more : (c d e c' d' e' : Counted) → CountAsMuch c d c' d' → CountAsMuch d e d' e' → CountAsMuch c e c' e'
counts_more c d e c' d' e' h k = record {
  cycles = let a = h.cycles in let b = k.cycles in omega (arith, a, b);
  fetches = let a = h.fetches in let b = k.fetches in omega (arith, a, b);
  misses = let a = h.misses in let b = k.misses in omega (arith, a, b);
  squashes = let a = h.squashes in let b = k.squashes in omega (arith, a, b);
  interrupts = let a = h.interrupts in let b = k.interrupts in omega (arith, a, b);
}

counts_none : (c c' : Counted) → CountAsMuch c c c' c'
counts_none c c' = record { cycles = omega arith; fetches = omega arith; misses = omega arith; squashes = omega arith; interrupts = omega arith }

counts_stall : (c c' : Counted) → CountAsMuch c (after_stall c) c' (after_stall c')
counts_stall c c' = record { cycles = omega arith; fetches = omega arith; misses = omega arith; squashes = omega arith; interrupts = omega arith }

counts_turn : (missed missed' squashed taken : Bool) (c c' : Counted) → missed ≡ missed'
    → CountAsMuch c (after_turn missed squashed taken c) c' (after_turn missed' squashed taken c')
counts_turn missed missed' squashed taken c c' e = record {
  cycles = omega arith;
  fetches = omega arith;
  misses = let same : one missed ≡ one missed' = ap one e in omega (arith, same);
  squashes = omega arith;
  interrupts = omega arith;
}

module _ (code : Code) (input : Option (List ℕ)) (m : MachineState) (past : List ℕ) (counts : Counted) (shown : Latches) (request : Bool)
    (coming : resident m.past m.next.address ≡ resident past m.next.address)
    (behind : AnswerAlike (m.next.address ∷ m.past) (m.next.address ∷ past)) where
  abbrev n : MachineState
  n = other m past counts shown

  abbrev turn : MachineState → MachineState
  turn x = acted resident code input (latched request x)

  abbrev stalled : MachineState → MachineState
  stalled x = record (latched request x) { stall = x.stall - 1; counts = after_stall x.counts }

  -- what holds of each kind of cycle
  each_kind : (P : MachineState → MachineState → Type 0) (halted acts : Bool) → P m n → P (turn m) (turn n) → P (stalled m) (stalled n)
      → P (cond halted m (cond acts (turn m) (stalled m))) (cond halted n (cond acts (turn n) (stalled n)))
  each_kind P true acts a b c = a
  each_kind P false true a b c = b
  each_kind P false false a b c = c

  turns_alike : GoOnLike (turn m) (turn n)
  turns_alike =
      let c = reached code input (latched request m) in
      ended_alike c (m.next.address ∷ past) c.shown (counts_after code input (not (resident m.past m.next.address)) (latched request m))
      (counts_after code input (not (resident past m.next.address)) (latched request n)) counts code c.halted (is_taken c) behind

  pub cycle_alike : GoOnLike (cycled resident code input m request) (cycled resident code input n request)
  cycle_alike = each_kind GoOnLike m.halted (eqb m.stall 0) (record { same = refl; coming = coming; behind = behind }) turns_alike
      (record { same = refl; coming = coming; behind = behind })

  pub cycle_counts : CountAsMuch m.counts (cycled resident code input m request).counts counts (cycled resident code input n request).counts
  cycle_counts =
      let c = reached code input (latched request m) in
      each_kind (λ (x y : MachineState). CountAsMuch m.counts x.counts counts y.counts) m.halted (eqb m.stall 0) (counts_none m.counts counts)
      (counts_turn (not (resident m.past m.next.address)) (not (resident past m.next.address)) (squashes code c) (takes c) m.counts counts (ap not coming))
      (counts_stall m.counts counts)

module _ (p : Program) where
  abbrev next : MachineState → Bool → MachineState
  next m request = cycled resident (code_of p) p.input m request

  next_alike : (m n : MachineState) (request : Bool) → GoOnLike m n → GoOnLike (next m request) (next n request)
  next_alike m n request h =
      subst (λ x. GoOnLike (next m request) (next x request)) h.same
      (cycle_alike (code_of p) p.input m n.past n.counts n.shown request h.coming h.behind)

  next_counts : (m n : MachineState) (request : Bool) → GoOnLike m n
      → CountAsMuch m.counts (next m request).counts n.counts (next n request).counts
  next_counts m n request h =
      subst (λ (x : MachineState). CountAsMuch m.counts (next m request).counts x.counts (next x request).counts) h.same
      (cycle_counts (code_of p) p.input m n.past n.counts n.shown request h.coming h.behind)

  answers_alike : (m n : MachineState) (request : Bool) → GoOnLike m n
      → answer (code_of p) p.input m request ≡ answer (code_of p) p.input n request
  answers_alike m n request h = ap (λ x. answer (code_of p) p.input x request) h.same

  pub states_alike : (m n : MachineState) (requests : List Bool) → GoOnLike m n → GoOnLike (later p m requests) (later p n requests)
  states_alike m n [] h = h
  states_alike m n (request ∷ requests) h = states_alike (next m request) (next n request) requests (next_alike m n request h)

  pub bytes_alike : (m n : MachineState) (requests : List Bool) → GoOnLike m n → bytes_on p m requests ≡ bytes_on p n requests
  bytes_alike m n [] h = refl
  bytes_alike m n (request ∷ requests) h =
      let rest = bytes_alike (next m request) (next n request) requests (next_alike m n request h) in
      λ k. option_to_list (answers_alike m n request h k).byte ++ rest k

  pub counts_alike : (m n : MachineState) (requests : List Bool) → GoOnLike m n
      → CountAsMuch m.counts (later p m requests).counts n.counts (later p n requests).counts
  counts_alike m n [] h = counts_none m.counts n.counts
  counts_alike m n (request ∷ requests) h =
      counts_more m.counts (next m request).counts (later p m (request ∷ requests)).counts n.counts (next n request).counts
      (later p n (request ∷ requests)).counts (next_counts m n request h)
      (counts_alike (next m request) (next n request) requests (next_alike m n request h))
