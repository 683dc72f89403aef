-- A turn without a request, from commit to commit.
use Rattle.std.proofs.Common.{◌≡◌, ℕ, zero, suc, ◌+◌, Bool, true, false, cond, not, ◌&&◌, ◌||◌, List, ◌∷◌, ◌++◌, Option, Some, None, option_to_list, append_assoc, append-nil, refl, sym, ap, ◌∙◌, subst, arith}
use Rattle.std.specs.Prelude.{slice_index, is_some}
use Rattle.std.proofs.lemmas.Bool.{eq-eqb}
use Rattle.mx_isa.specs.declared.inst.Inst.{Inst}
use Rattle.mx_isa.specs.Words.{Words, reg}
use Rattle.mx_isa.specs.Views.{dest}
use Rattle.mx_isa.specs.Effect.{Decision}
use Rattle.mx_delay.specs.Delay.{Code}
use Rattle.mx_icache.specs.Residency.{resident}
use Rattle.mx_board.specs.Contents.{Contents}
use Rattle.mx_pcchain.specs.Fetch.{Fetch}
use Rattle.mx_pcchain.specs.Chain.{pop}
use Rattle.mx_pcchain.specs.Modes.{psw_restored}
use Rattle.mx_turn.specs.declared.latches.Latches.{Latches}
use Rattle.mx_turn.specs.Counted.{Counted, after_turn}
use Rattle.mx_turn.specs.Stages.{live, squash}
use Rattle.mx_turn.specs.System.{pops, restores}
use Rattle.mx_turn.specs.Cycle.{MachineState, shifted, committed, commit_byte, showing, is_taken, decision, decided, decided_by, led, waited, latched, acted, cycled, answer}
use Rattle.mx_turn.proofs.Steps.{acted_is, ended_on, squashes_on, not_taken, cycled_acted}
use Rattle.mx_lane.specs.declared.lane.Lane.{Lane}
use Rattle.mx_lane.specs.Lanes.{lane_of, plain, back, turn_cycles, turn_counts, quietly, later_bytes, InTurn}

no_request : (on held : Bool) → (on && (false && held)) ≡ false
no_request true held = refl
no_request false held = refl

pub unsquashed : (f : Option Fetch) → f ≡ squash false f
unsquashed None = refl
unsquashed (Some f) = refl

and_false : (b : Bool) → (b && false) ≡ false
and_false true = refl
and_false false = refl

and_true : (b : Bool) → (b && true) ≡ b
and_true true = refl
and_true false = refl

-- where the word in ALU goes back to no saved fetch
pub decided_plain : (i : Inst) (d : Decision) (m : MachineState) → (pops i && not m.psw.current.user) ≡ false → decided_by i d m ≡ plain d m
decided_plain i d m stays =
    let kept : (restores i && (pops i && not m.psw.current.user)) ≡ false = ap (λ b. restores i && b) stays ∙ and_false (restores i) in
    λ k. record m {
      next = led (stays k) m.chain d m.next;
      fetch = squash d.cancels m.fetch;
      rf = squash d.cancels m.rf;
      chain = cond (stays k) (pop m.chain) m.chain;
      psw = cond (kept k) (psw_restored m.psw) m.psw;
    }

-- where it does
pub decided_back : (i : Inst) (d : Decision) (m : MachineState) → (pops i && not m.psw.current.user) ≡ true
    → decided_by i d m ≡ back (restores i) d m
decided_back i d m goes =
    let kept : (restores i && (pops i && not m.psw.current.user)) ≡ restores i = ap (λ b. restores i && b) goes ∙ and_true (restores i) in
    λ k. record m {
      next = led (goes k) m.chain d m.next;
      fetch = squash d.cancels m.fetch;
      rf = squash d.cancels m.rf;
      chain = cond (goes k) (pop m.chain) m.chain;
      psw = cond (kept k) (psw_restored m.psw) m.psw;
    }

module _ (code : Code) (input : Option (List ℕ)) where
  -- cycles in two parts
  pub quietly_more : (d n : ℕ) (m : MachineState) → quietly code input (d + n) m ≡ quietly code input n (quietly code input d m)
  quietly_more d zero m = let none : d + zero ≡ d = omega arith in ap (λ k. quietly code input k m) none
  quietly_more d (suc n) m =
      let more : d + suc n ≡ suc (d + n) = omega arith in
      ap (λ k. quietly code input k m) more ∙ ap (λ x. cycled resident code input x false) (quietly_more d n m)

  pub bytes_more : (d n : ℕ) (m : MachineState)
      → later_bytes code input (d + n) m ≡ later_bytes code input d m ++ later_bytes code input n (quietly code input d m)
  bytes_more d zero m =
      let none : d + zero ≡ d = omega arith in
      ap (λ k. later_bytes code input k m) none ∙ sym (append-nil (later_bytes code input d m))
  bytes_more d (suc n) m =
      let more : d + suc n ≡ suc (d + n) = omega arith in
      let x : MachineState = quietly code input d m in
      let byte : MachineState → List ℕ = λ y. option_to_list (answer code input y false).byte in
      ap (λ k. later_bytes code input k m) more
      ∙ (λ k. bytes_more d n m k ++ byte (cycled resident code input (quietly_more d n m k) false))
      ∙ append_assoc (later_bytes code input d m) (later_bytes code input n x) (byte (quietly code input (suc n) x))

  -- the lane in the turn that the machine m is before
  module _ (m : MachineState) (l : Lane) (b : Contents) (past : List ℕ) (before : Words)
      (state : committed code input (shifted m) ≡ lane_of l b past before m.shown m.counts) (on : m.halted ≡ false)
      (is_missed : l.missed ≡ not (resident m.past m.next.address)) where
    abbrev c : MachineState
    c = lane_of l b past before m.shown m.counts

    abbrev pub lead : Decision
    lead = decision code c

    abbrev pub following : MachineState
    following = decided code c

    abbrev pub counted : Counted
    counted = after_turn l.missed lead.cancels false m.counts

    abbrev pub shows : Latches
    shows = (showing code c).shown

    -- before the next turn, with so many stalled cycles
    abbrev pub turned : ℕ → Counted → MachineState
    turned stall counts = let n : MachineState = following in record n { shown = shows; stall = stall; counts = counts }

    once : quietly code input 1 m ≡ turned (cond (resident past following.next.address) 0 2) counted
    once =
        let r : MachineState = showing code c in
        let latch : m.latch ≡ false = ap (λ (x : MachineState). x.latch) state in
        let same : latched false m ≡ m = λ k. record m { latch = ((λ j. latch j || false) ∙ sym latch) k } in
        let none : is_taken r ≡ false = no_request r.psw.current.interrupts (is_some r.alu) in
        let e : MachineState = decided code r in
        let w : MachineState = waited resident (record e { counts = counted }) in
        let acts : w ≡ acted resident code input m =
        acted_is resident code input m r e w l.missed lead.cancels false
        (sym (ap (showing code) state)) (ended_on code r e refl none refl) is_missed
        (squashes_on code r lead.cancels refl none refl) (not_taken r refl none) refl in
        sym (cycled_acted resident code input m false on (eq-eqb m.stall 0 (ap (λ (x : MachineState). x.stall) state)))
        ∙ ap (acted resident code input) same
        ∙ sym acts

    pub whole : (r : Bool) → resident past following.next.address ≡ r → quietly code input (turn_cycles r) m ≡ turned 0 (turn_counts r counted)
    whole true e = once ∙ (λ k. turned (cond (e k) 0 2) counted)
    whole false e =
        ap (λ x. cycled resident code input (cycled resident code input x false) false) (once ∙ (λ k. turned (cond (e k) 0 2) counted))

    pub bytes : (r : Bool) → resident past following.next.address ≡ r
        → later_bytes code input (turn_cycles r) m ≡ option_to_list (commit_byte code input (shifted (turned 0 (turn_counts r counted))))
    bytes true e = ap (λ x. option_to_list (answer code input x false).byte) (whole true e)
    bytes false e =
        let first : quietly code input 1 m ≡ turned 2 counted = once ∙ (λ k. turned (cond (e k) 0 2) counted) in
        λ k.
        (option_to_list (answer code input (first k) false).byte ++ option_to_list (answer code input (cycled resident code input (first k) false) false).byte)
        ++ option_to_list (answer code input (cycled resident code input (cycled resident code input (first k) false) false) false).byte

-- a turn by its steps: where the word in ALU leads, the stages, the commit, the counts and the next fetch
module _ {C : Type 0} (holds : C → List ℕ → Type 0) (code : Code) (m : MachineState) (l l1 l2 l3 : Lane)
    (b b' : Contents) (cache cache' : C) (i : Inst) (d : Decision) (n : ℕ)
    (h : InTurn holds code m l b cache)
    (does : i ≡ live code l.alu)
    (leads : d ≡ lead code b.input m l b h.past h.before h.state h.on h.missed)
    (moves : (past : List ℕ) (before : Words) (shown : Latches) (counts : Counted)
    → lane_of l1 b (l1.next.address ∷ past) before shown counts ≡ shifted (decided_by i d (lane_of l b past before shown counts)))
    (commits : (past : List ℕ) (before : Words) (shown : Latches) (counts : Counted)
    → lane_of l2 b' past (slice_index l1.registers.file) shown counts ≡ committed code b.input (lane_of l1 b past before shown counts))
    (takes : n ≡ turn_cycles (resident h.past l2.next.address)) where
  abbrev from : MachineState
  from = lane_of l b h.past h.before m.shown m.counts

  same_next : l2.next.address ≡ l1.next.address
  same_next = ap (λ (x : MachineState). x.next.address) (commits h.past h.before m.shown m.counts)

  next_is : l2.next.address ≡ (following code b.input m l b h.past h.before h.state h.on h.missed).next.address
  next_is =
      same_next
      ∙ ap (λ (x : MachineState). x.next.address) (moves h.past h.before m.shown m.counts)
      ∙ (λ k. (decided_by (does k) (leads k) from).next.address)

  abbrev r : Bool
  r = resident h.past l2.next.address

  abbrev counts_are : Counted
  counts_are = turn_counts r (counted code b.input m l b h.past h.before h.state h.on h.missed)

  abbrev shown_is : Latches
  shown_is = shows code b.input m l b h.past h.before h.state h.on h.missed

  abbrev after : MachineState
  after = turned code b.input m l b h.past h.before h.state h.on h.missed 0 counts_are

  same_resident : resident h.past (following code b.input m l b h.past h.before h.state h.on h.missed).next.address ≡ r
  same_resident = ap (resident h.past) (sym next_is)

  goes_to : quietly code b.input n m ≡ after
  goes_to = (λ k. quietly code b.input (takes k) m) ∙ whole code b.input m l b h.past h.before h.state h.on h.missed r same_resident

  reaches : lane_of l1 b (l1.next.address ∷ h.past) h.before shown_is counts_are ≡ shifted after
  reaches =
      moves h.past h.before shown_is counts_are
      ∙ (λ k. shifted (decided_by (does k) (leads k) (lane_of l b h.past h.before shown_is counts_are)))

  pub sends : (byte : Option ℕ) → ((past : List ℕ) (before : Words) (shown : Latches) (counts : Counted)
      → byte ≡ commit_byte code b.input (lane_of l1 b past before shown counts)) → later_bytes code b.input n m ≡ option_to_list byte
  sends byte is =
      (λ k. later_bytes code b.input (takes k) m)
      ∙ bytes code b.input m l b h.past h.before h.state h.on h.missed r same_resident
      ∙ ap (λ x. option_to_list (commit_byte code b.input x)) (sym reaches)
      ∙ ap option_to_list (sym (is (l1.next.address ∷ h.past) h.before shown_is counts_are))

  pub goes_on : b'.input ≡ b.input → l2.counts ≡ l.counts → l2.missed ≡ l.missed
      → l3.counts ≡ turn_counts r (after_turn l2.missed d.cancels false l2.counts) → l3.missed ≡ not r → holds cache' (l2.next.address ∷ h.past)
      → l2.replaced ≡ reg (slice_index l1.registers.file) (dest (live code l1.mem))
      → l3 ≡ record l2 { counts = l3.counts; missed = l3.missed }
      → InTurn holds code (quietly code b.input n m) l3 b' cache'
  goes_on input counts missed counted_so missed_so cache_so replaced rest = record {
    past = l1.next.address ∷ h.past;
    before = slice_index l1.registers.file;
    state =
        (λ k. committed code (input k) (shifted (goes_to k)))
        ∙ ap (committed code b.input) (sym reaches)
        ∙ sym (commits (l1.next.address ∷ h.past) h.before shown_is counts_are)
        ∙ (λ k. lane_of (sym rest k) b' (l1.next.address ∷ h.past) (slice_index l1.registers.file) (sym goes_to k).shown (sym goes_to k).counts);
    on = ap (λ (x : MachineState). x.halted) goes_to;
    counts =
        counted_so
        ∙ (λ k. turn_counts r (after_turn (missed k) (leads k).cancels false ((counts ∙ h.counts) k)))
        ∙ sym (ap (λ (x : MachineState). x.counts) goes_to);
    missed =
        missed_so
        ∙ ap (λ a. not (resident h.past a)) next_is
        ∙ sym (ap (λ (x : MachineState). not (resident x.past x.next.address)) goes_to);
    replaced =
        (λ k. (rest k).replaced)
        ∙ replaced
        ∙ ap (λ s. reg (slice_index l1.registers.file) (dest (live code s)))
        (sym (ap (λ (x : MachineState). x.mem) (commits h.past h.before m.shown m.counts)) ∙ sym (λ k. (rest k).mem));
    held = subst (λ a. holds cache' (a ∷ h.past)) same_next cache_so;
  }
