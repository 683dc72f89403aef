-- The machine with the stages of the last turn is the window onto that with all fetches.
use Rattle.std.proofs.Common.{◌≡◌, ℕ, zero, suc, ◌-◌, Bool, true, false, eqb, cond, ◌∷◌, List, [], Option, Some, None, refl, sym, ap, ◌∙◌, true≢false, arith, ⊎_elim}
use Rattle.std.specs.Prelude.{slice_get, drop, is_some, ◌&&◌}
use Rattle.std.proofs.lemmas.Bool.{cases_Bool, and_parts}
use Rattle.std.proofs.lemmas.Bool.Decides.{nat_tests}
use Rattle.mx_isa.specs.declared.board.TheConstants.{CODE_BASE}
use Rattle.mx_delay.specs.Delay.{Code}
use Rattle.mx_icache.specs.Residency.{resident}
use Rattle.mx_icache.proofs.Fetched.{resident_once_fetched}
use Rattle.mx_pcchain.specs.declared.chain.Chain.{Chain}
use Rattle.mx_pcchain.specs.Fetch.{Fetch}
use Rattle.mx_pcchain.specs.Chain.{chain_of}
use Rattle.mx_turn.specs.Counted.{Counted, after_stall}
use Rattle.mx_turn.specs.Stages.{fetch_of, live, squash, saved}
use Rattle.mx_turn.specs.System.{slot_of}
use Rattle.mx_turn.specs.Cycle.{MachineState, entered, decided, waited, acted, cycled, answer, after_bits}
use Rattle.mx_turn.specs.Program.{code_of, memory_of}
use Rattle.mx_turn.specs.Fetches.{Marked, FetchState, unkilled, addresses, mark_first, kill, squash_if, held, stage, newest, asked, begun, interrupted, decided_in, finish, turn_of, stalled, cycle_of, cycle_answer, fetches_start, fetches_from, fetches_after, window_at, window, WindowOnFetches}

-- places behind the marked ones stay
behind_one : (mark : Marked → Marked) (k : ℕ) (xs : List Marked) → slice_get (mark_first mark 1 xs) (suc k) ≡ slice_get xs (suc k)
behind_one mark k [] = refl
behind_one mark k (x ∷ xs) = refl

behind_two : (mark : Marked → Marked) (k : ℕ) (xs : List Marked) → slice_get (mark_first mark 2 xs) (suc (suc k)) ≡ slice_get xs (suc (suc k))
behind_two mark k [] = refl
behind_two mark k (x ∷ []) = refl
behind_two mark k (x ∷ y ∷ xs) = refl

-- no mark moves an address
same_addresses : (mark : Marked → Marked) → ((f : Marked) → (mark f).address ≡ f.address) → (n : ℕ) (xs : List Marked)
    → addresses (mark_first mark n xs) ≡ addresses xs
same_addresses mark same zero xs = refl
same_addresses mark same (suc n) [] = refl
same_addresses mark same (suc n) (x ∷ xs) = λ k. same x k ∷ same_addresses mark same n xs k

-- killed fetches leave their stages empty
killed_first : (xs : List Marked) → held (slice_get (mark_first kill 2 xs) 0) ≡ None
killed_first [] = refl
killed_first (x ∷ xs) = refl

killed_second : (xs : List Marked) → held (slice_get (mark_first kill 2 xs) 1) ≡ None
killed_second [] = refl
killed_second (x ∷ []) = refl
killed_second (x ∷ y ∷ xs) = refl

-- a squashed fetch in its stage
squashed_held : (cancels : Bool) (a : ℕ) (q k : Bool)
    → (let f : Marked = record { address = a; squashed = q; killed = k } in
    held (Some (squash_if cancels f)) ≡ squash cancels (held (Some f)))
squashed_held cancels a q true = refl
squashed_held cancels a q false = refl

squashed_first : (cancels : Bool) (xs : List Marked) → held (slice_get (mark_first (squash_if cancels) 1 xs) 0) ≡ squash cancels (held (slice_get xs 0))
squashed_first cancels [] = refl
squashed_first cancels (x ∷ xs) = squashed_held cancels x.address x.squashed x.killed

-- an interrupt that killed the first of these killed the second too
abbrev KilledAlike : List Marked → Type 0
KilledAlike [] = Unit {0}
KilledAlike (x ∷ []) = Unit {0}
KilledAlike (x ∷ y ∷ xs) = x.killed ≡ true → y.killed ≡ true

stays : (a : ℕ) (q k : Bool) → k ≡ false
    → (let f : Marked = record { address = a; squashed = q; killed = k } in
    let g : Fetch = record { address = a; squashed = q } in saved (held (Some f)) ≡ g)
stays a q true h = absurd (true≢false h)
stays a q false h = refl

is_held : (k : Bool) (f : Fetch) → is_some (cond k None (Some f)) ≡ true → k ≡ false
is_held true f h = absurd (true≢false (sym h))
is_held false f h = refl

-- where ALU holds a fetch, the chain keeps the fetches themselves
chain_keeps : (f : Fetch) (rest : List Marked) → KilledAlike rest → is_some (held (slice_get rest 1)) ≡ true
    → chain_of (saved (held (slice_get rest 1))) (saved (held (slice_get rest 0))) f ≡ chain_of (newest (drop 1 rest)) (newest rest) f
chain_keeps f [] alike h = absurd (true≢false (sym h))
chain_keeps f (x ∷ []) alike h = absurd (true≢false (sym h))
chain_keeps f (x ∷ y ∷ rest) alike h =
    let second = is_held y.killed (newest (y ∷ [])) h in
    let first = ⊎_elim (λ (k : x.killed ≡ true). absurd (true≢false (sym (alike k) ∙ second))) (λ (k : x.killed ≡ false). k) (cases_Bool x.killed) in
    λ i. chain_of (stays y.address y.squashed y.killed second i) (stays x.address x.squashed x.killed first i) f

all_killed : (f : Marked) (rest : List Marked) → KilledAlike (kill f ∷ mark_first kill 2 rest)
all_killed f [] = tt
all_killed f (x ∷ rest) = λ h. refl

none_killed : (f : Marked) (mark : Marked → Marked) (rest : List Marked) → f.killed ≡ false → KilledAlike (f ∷ mark_first mark 1 rest)
none_killed f mark [] e = tt
none_killed f mark (x ∷ rest) e = λ h. absurd (true≢false (sym h ∙ e))

-- F[t] is not killed, and where F[t-1] is, F[t-2] is
abbrev Begins : FetchState → Type 0
Begins s = (f : Fetch) × (rest : List Marked) × (s.fetches ≡ unkilled f ∷ rest) × KilledAlike rest

module _ (code : Code) (input : Option (List ℕ)) where
  module _ (c : FetchState) (f : Fetch) (rest : List Marked) (counts : Counted) where
    -- a turn that has committed, by whether the word was a halt
    abbrev after_commit : Bool → FetchState
    after_commit halted = record c { fetches = unkilled f ∷ rest; stall = 0; halted = halted }

    abbrev m : Bool → MachineState
    m halted = window_at 0 code (after_commit halted)

    -- the window in the turn after it, by the stages and the addresses that marks may change
    abbrev onto : FetchState → Chain → Option Fetch → Option Fetch → Option Fetch → Option Fetch → Option Fetch → List ℕ → MachineState
    onto s chain fetch rf alu mem wb past =
        let n = window_at 1 code s in
        record n {
          fetch = fetch;
          rf = rf;
          alu = alu;
          mem = mem;
          wb = wb;
          past = past;
          chain = chain;
          slot = slot_of (live code mem) s.before;
          stall = cond (resident past n.next.address) 0 2;
        }

    abbrev counted : MachineState → MachineState
    counted n = record n { counts = counts }

    -- the interrupt's chain
    abbrev Chained : Bool → Type 0
    Chained taken = taken ≡ true
        → chain_of (saved (held (slice_get rest 1))) (saved (held (slice_get rest 0))) f ≡ chain_of (newest (drop 1 rest)) (newest rest) f

    taken : Chained true → waited resident (counted (entered (m false))) ≡ window code (finish false true code counts (after_commit false))
    taken chained =
        let s = after_commit false in
        let e = finish false true code counts s in
        sym (λ k. onto e (sym (chained refl) k) None (killed_first rest k) (killed_second rest k) (held (behind_two kill 0 rest k))
        (held (behind_two kill 1 rest k)) (f.address ∷ same_addresses kill (λ x. refl) 2 rest k))

    goes : waited resident (counted (decided code (m false))) ≡ window code (finish false false code counts (after_commit false))
    goes =
        let s = after_commit false in
        let e = finish false false code counts s in
        let b = (decided_in code s).cancels in
        sym (λ k. onto e e.chain (squash b (stage 0 s)) (squashed_first b rest k) (held (behind_one (squash_if b) 0 rest k))
        (held (behind_one (squash_if b) 1 rest k)) (held (behind_one (squash_if b) 2 rest k))
        (f.address ∷ same_addresses (squash_if b) (λ x. refl) 1 rest k))

    over : waited resident (counted (m true)) ≡ window code (finish true false code counts (after_commit true))
    over = λ k. let n : MachineState = counted (m true) in record n { stall = cond (resident_once_fetched (addresses rest) f.address k) 0 2 }

    finished : (halted taken : Bool) → Chained taken
        → waited resident (counted (cond halted (m halted) (cond taken (entered (m halted)) (decided code (m halted)))))
        ≡ window code (finish halted taken code counts (after_commit halted))
    finished true true chained = over
    finished true false chained = over
    finished false true chained = taken chained
    finished false false chained = goes

    begins : (halted taken : Bool) → KilledAlike rest → Begins (finish halted taken code counts (after_commit halted))
    begins true t alike = (f, rest, refl, alike)
    begins false true alike = (_, _, refl, all_killed (unkilled f) rest)
    begins false false alike = (
      _,
      _,
      refl,
      none_killed (squash_if (decided_in code (after_commit false)).cancels (unkilled f))
          (squash_if (decided_in code (after_commit false)).cancels) rest refl,
    )

  module _ (s : FetchState) (f : Fetch) (rest : List Marked) (alike : KilledAlike rest) (request : Bool) where
    abbrev at : Bool → ℕ → FetchState
    at halted stall = record s { fetches = unkilled f ∷ rest; halted = halted; stall = stall }

    chained : (c : FetchState) → (c.psw.current.interrupts && (c.latch && is_some (held (slice_get rest 1)))) ≡ true
        → chain_of (saved (held (slice_get rest 1))) (saved (held (slice_get rest 0))) f ≡ chain_of (newest (drop 1 rest)) (newest rest) f
    chained c h = chain_keeps f rest alike (and_parts c.latch _ (and_parts c.psw.current.interrupts _ h).1).1

    more : (stall : ℕ) → eqb (suc stall) 0 ≡ false
    more stall = grind (arith, nat_tests)

    -- a stalled cycle is left
    waits : (stall : ℕ) (e : Bool) → e ≡ false
        → (let s : FetchState = asked request (at false stall) in let m : MachineState = window code s in
        cond e (acted resident code input m) (record m { stall = stall - 1; counts = after_stall m.counts })
        ≡ window code (cond e (turn_of code input s) (stalled s)))
    waits stall true h = absurd (true≢false h)
    waits stall false h = refl

    keeps : (stall : ℕ) (e : Bool) → e ≡ false
        → (let s : FetchState = asked request (at false stall) in (cond e (turn_of code input s) (stalled s)).fetches ≡ unkilled f ∷ rest)
    keeps stall true h = absurd (true≢false h)
    keeps stall false h = refl

    cycles : (halted : Bool) (stall : ℕ)
        → cycled resident code input (window code (at halted stall)) request ≡ window code (cycle_of code input (at halted stall) request)
    cycles true stall = refl
    cycles false zero = let c = begun code input (asked request (at false 0)) in finished c f rest _ c.halted (interrupted c) (chained c)
    cycles false (suc stall) = waits (suc stall) (eqb (suc stall) 0) (more stall)

    answers : (halted : Bool) (stall : ℕ) → answer code input (window code (at halted stall)) request ≡ cycle_answer code input (at halted stall) request
    answers true stall = refl
    answers false zero = refl
    answers false (suc stall) = refl

    begin : (halted : Bool) (stall : ℕ) → Begins (cycle_of code input (at halted stall) request)
    begin true stall = (f, rest, refl, alike)
    begin false zero = let c = begun code input (asked request (at false 0)) in begins c f rest _ c.halted (interrupted c) alike
    begin false (suc stall) = (f, rest, keeps (suc stall) (eqb (suc stall) 0) (more stall), alike)

  module _ (s : FetchState) (b : Begins s) (request : Bool) where
    abbrev is : ◌≡◌ {A = FetchState} s (record s { fetches = unkilled b.0 ∷ b.1 })
    is = λ k. record s { fetches = b.2 k }

    one_cycle : cycled resident code input (window code s) request ≡ window code (cycle_of code input s request)
    one_cycle =
        ap (λ x. cycled resident code input (window code x) request) is
        ∙ cycles s b.0 b.1 b.3 request s.halted s.stall
        ∙ sym (ap (λ x. window code (cycle_of code input x request)) is)

    one_answer : answer code input (window code s) request ≡ cycle_answer code input s request
    one_answer =
        ap (λ x. answer code input (window code x) request) is
        ∙ answers s b.0 b.1 b.3 request s.halted s.stall
        ∙ sym (ap (λ x. cycle_answer code input x request) is)

    begins_again : Begins (cycle_of code input s request)
    begins_again =
        let r = begin s b.0 b.1 b.3 request s.halted s.stall in
        (r.0, r.1, ap (λ x. (cycle_of code input x request).fetches) is ∙ r.2, r.3)

  all_cycles : (s : FetchState) → Begins s → (h : List Bool) → after_bits resident code input (window code s) h ≡ window code (fetches_from code input s h)
  all_cycles s b [] = refl
  all_cycles s b (request ∷ h) =
      ap (λ m. after_bits resident code input m h) (one_cycle s b request)
      ∙ all_cycles (cycle_of code input s request) (begins_again s b request) h

  all_begin : (s : FetchState) → Begins s → (h : List Bool) → Begins (fetches_from code input s h)
  all_begin s b [] = b
  all_begin s b (request ∷ h) = all_begin (cycle_of code input s request) (begins_again s b request) h

pub window_on_fetches : WindowOnFetches
window_on_fetches p h =
    let code = code_of p in
    let start = fetches_start (memory_of p) in
    let same = all_cycles code p.input start (fetch_of CODE_BASE, [], refl, tt) h in (
      same,
      λ request.
          ap (λ m. answer code p.input m request) same
          ∙ one_answer code p.input (fetches_after p h) (all_begin code p.input start (fetch_of CODE_BASE, [], refl, tt) h) request,
    )
