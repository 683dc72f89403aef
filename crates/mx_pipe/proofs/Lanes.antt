-- From the latches into a lane, and back.
use Rattle.std.proofs.Common.{arith, ◌≡◌, ◌<◌, ◌≤◌, ◌+◌, ℕ, zero, suc, Bool, true, false, cond, ◌||◌, List, ◌++◌, Option, Some, length, option_to_list, append_assoc, append-nil, refl, sym, ap, ◌∙◌, subst}
use Rattle.std.specs.Prelude.{slice_index, nat_lt}
use Rattle.std.proofs.lemmas.Bool.Decides.{nat_tests}
use Rattle.std.proofs.lemmas.Bool.{eq-eqb}
use Rattle.mx_isa.specs.declared.board.TheConstants.{MAX_CODE_WORDS, CODE_BASE}
use Rattle.mx_isa.specs.Words.{Words, reg, write}
use Rattle.mx_isa.specs.Views.{sources, dest}
use Rattle.mx_code.specs.Decoding.{inst_of}
use Rattle.mx_delay.specs.Delay.{Code, code_from}
use Rattle.mx_icache.specs.Residency.{resident}
use Rattle.mx_board.specs.Contents.{Contents}
use Rattle.mx_board.specs.Data.{words_of}
use Rattle.mx_pcchain.specs.Fetch.{Fetch}
use Rattle.mx_turn.specs.declared.latches.Latches.{Latches}
use Rattle.mx_turn.specs.Counted.{Counted, after_turn}
use Rattle.mx_turn.specs.Decoded.{code_in}
use Rattle.mx_turn.specs.Stages.{stage_of, live}
use Rattle.mx_turn.specs.System.{slot_of}
use Rattle.mx_turn.specs.Cycle.{MachineState, shifted, committed, showing, reached, is_taken, entered, decided, turned, ended, squashes, takes, latched, acted, cycled, answer}
use Rattle.mx_turn.specs.Program.{Program, code_with, code_of, state_after, answer_after, quiet, quiet_bytes}
use Rattle.mx_turn.proofs.Steps.{after_one_more, cycled_acted}
use Rattle.mx_lane.specs.declared.lane.Lane.{Lane}
use Rattle.mx_lane.specs.Lanes.{lane_of, quietly, later_bytes, InTurn, IsLeft}
use Rattle.mx_pipe.specs.declared.pipe.Pipe.{Pipe}
use Rattle.mx_pipe.specs.declared.pipe.Wait.TheVariants.{NotAsked}
use Rattle.mx_pipe.specs.Latched.{Latched, does}
use Rattle.mx_pipe.specs.Kept.{code_of_pipe, IsRead, Holds, Commits, Shows, Waits, KeepsProgram, StandsFor}
use Rattle.mx_pipe.proofs.Shows.{shows_cycled}
use Rattle.mx_pipe.proofs.Stands.{waiting, past_ended, same_code, showing_alike}

-- a lane of these parts is where the pipeline is
pub lane_is : {C : Type 0} (code : Code) (p : Pipe C) (m : MachineState) (l : Lane) → Commits code p m → m.halted ≡ false → m.latch ≡ false → m.stall ≡ 0
    → l.next ≡ p.next → l.rf ≡ p.fetch.word → l.alu ≡ p.rf.word → l.mem ≡ p.mem.word → l.wb ≡ p.wb.word
    → slice_index l.registers.file ≡ write (slice_index p.file) p.mem.b p.mem.result
    → l.registers.slot ≡ slot_of (does p.mem) (slice_index p.file) → l.registers.md ≡ p.md → l.registers.chain ≡ p.chain → l.psw ≡ p.psw
    → lane_of l p.board m.past m.before m.shown m.counts ≡ m
lane_is code p m l h halted latch stall next rf alu mem wb file slot md chain psw = λ k. record {
  next = (next ∙ h.rest.next) k;
  fetch = (ap Some (next ∙ h.rest.next) ∙ sym h.fetch) k;
  rf = (rf ∙ h.rf) k;
  alu = (alu ∙ h.alu.word) k;
  mem = (mem ∙ h.behind.mem) k;
  wb = (wb ∙ h.behind.wb) k;
  past = m.past;
  stall = sym stall k;
  latch = sym latch k;
  core = record {
    regs = (file ∙ (λ j. write (slice_index p.file) (h.behind.to j) p.mem.result) ∙ h.behind.regs) k;
    md = (md ∙ h.rest.md) k;
    mem = h.rest.words k;
    taken = h.rest.taken k;
  };
  before = m.before;
  slot = (slot ∙ h.behind.slot) k;
  chain = (chain ∙ h.rest.chain) k;
  psw = (psw ∙ h.rest.psw) k;
  halted = sym halted k;
  shown = m.shown;
  counts = m.counts;
}

-- the first of some resident words
pub first_within : (past : List ℕ) (a next n : ℕ) → nat_lt 0 n ≡ true → a ≡ next → ((j : ℕ) → j < n → resident past (a + j) ≡ true)
    → resident past next ≡ true
first_within past a next n some same here =
    let none : a + 0 ≡ next = omega (arith, same) in
    let lt : 0 < n = grind (arith, nat_tests) in
    sym (ap (resident past) none) ∙ here 0 lt

pub read_same : {code code' : Code} {l l' : Latched} {regs regs' : Words} (stage : Option Fetch) → code ≡ code' → l ≡ l' → regs ≡ regs'
    → IsRead code l stage regs → IsRead code' l' stage regs'
read_same stage e f g h = record {
  word = sym (ap (λ x. x.word) f) ∙ h.word;
  inst = sym (ap does f) ∙ h.inst ∙ (λ k. live (e k) stage);
  a = sym (ap (λ x. x.a) f) ∙ h.a ∙ (λ k. reg (g k) (sources (live (e k) stage)).0);
  b = sym (ap (λ x. x.b) f) ∙ h.b ∙ (λ k. reg (g k) (sources (live (e k) stage)).1);
}

-- a pipeline of these parts is where the lane was left
pub commits_back : {C : Type 0} (code : Code) (p : Pipe C) (l : Lane) (b : Contents) (past : List ℕ) (before : Words) (shown : Latches) (counts : Counted)
    → IsLeft code l before → p.fetch.word ≡ l.rf → IsRead code p.rf l.alu (slice_index p.file)
    → p.mem.word ≡ l.mem → does p.mem ≡ live code l.mem → p.mem.b ≡ dest (does p.mem) → p.mem.b ≤ 31
    → p.mem.result ≡ reg (slice_index l.registers.file) (dest (does p.mem))
    → p.wb.word ≡ l.wb → slice_index p.file ≡ before → p.next ≡ l.next → p.md ≡ l.registers.md → p.board ≡ b → p.chain ≡ l.registers.chain
    → p.psw ≡ l.psw → p.asked ≡ false → p.halted ≡ false → p.shown ≡ shown → length p.code.items ≤ MAX_CODE_WORDS
    → Commits code p (lane_of l b past before shown counts)
commits_back code p l b past before shown counts left fetch rf mem inst to within result wb file next md board chain psw asked halted shows short = record {
  fetch = refl;
  rf = fetch;
  alu = rf;
  behind = record {
    mem = mem;
    wb = wb;
    to = to;
    within = within;
    file = file;
    regs =
        (λ k. write (file k) (dest (inst k)) ((result ∙ ap (λ i. reg (slice_index l.registers.file) (dest i)) inst) k))
        ∙ left.regs;
    slot = (λ k. slot_of (inst k) (file k)) ∙ left.slot;
  };
  rest = record {
    next = next;
    md = md;
    words = ap words_of board;
    taken = ap (λ (x : Contents). x.taken) board;
    chain = chain;
    psw = psw;
    asked = asked;
    halted = halted;
    shown = shows;
    short = short;
  };
}

-- what a turn shows is told by the latches
pub shown_anew : {C : Type 0} (code : Code) (p : Pipe C) (m : MachineState) → Holds code p m
    → (let shown : Latches = record {
      fetch = stage_of p.fetch.word;
      rf = stage_of p.rf.word;
      alu = stage_of p.alu.word;
      mem = stage_of p.mem.word;
      wb = stage_of p.wb.word;
      a = p.alu.a;
      b = p.alu.b;
      result = p.alu.result;
    } in let q : Pipe C = record p { shown = shown } in Holds code q (showing code m))
shown_anew code p m h = showing_alike code p m p.wait p.counts _ m.stall m.counts _ (λ k. record {
  fetch = stage_of (h.fetch k);
  rf = stage_of (h.rf.word k);
  alu = stage_of (h.alu.word k);
  mem = stage_of (h.behind.mem k);
  wb = stage_of (h.behind.wb k);
  a = h.alu.a k;
  b = h.alu.b k;
  result = h.alu.result k;
}) h

-- cycles without a request, by the program
pub quiet_state : (p : Program) (h : List Bool) (n : ℕ) → state_after p (quiet h n) ≡ quietly (code_of p) p.input n (state_after p h)
quiet_state p h zero = refl
quiet_state p h (suc n) =
    after_one_more resident (code_of p) p.input _ (quiet h n) false
    ∙ ap (λ (m : MachineState). cycled resident (code_of p) p.input m false) (quiet_state p h n)

-- their bytes: those of the first, and of the others
pub first_and_later : (p : Program) (h : List Bool) (n : ℕ)
    → quiet_bytes p h (suc n) ≡ option_to_list (answer_after p h false).byte ++ later_bytes (code_of p) p.input n (state_after p h)
first_and_later p h zero = sym (append-nil (option_to_list (answer_after p h false).byte))
first_and_later p h (suc n) =
    (λ k. first_and_later p h n k ++ option_to_list (answer (code_of p) p.input (quiet_state p h (suc n) k) false).byte)
    ∙ append_assoc (option_to_list (answer_after p h false).byte) (later_bytes (code_of p) p.input n (state_after p h)) _

-- what is shown stays told
pub shows_quietly : (code : Code) (input : Option (List ℕ)) (n : ℕ) (m : MachineState) → Shows m → Shows (quietly code input n m)
shows_quietly code input zero m s = s
shows_quietly code input (suc n) m s = shows_cycled resident code input (quietly code input n m) false (shows_quietly code input n m s)

halted_either : (b : Bool) (x y : MachineState) → x.halted ≡ false → y.halted ≡ false → (cond b x y).halted ≡ false
halted_either true x y e f = e
halted_either false x y e f = f

ended_off : (code : Code) (c : MachineState) → c.halted ≡ false → (ended code c).halted ≡ false
ended_off code c e = halted_either c.halted c (turned code c) e (halted_either (is_taken c) (entered c) (decided code c) e e)

-- what the pipeline stands for once the last turn of a lane has ended
module _ {C : Type 0} (holds : C → List ℕ → Type 0) (t t' : Pipe C) (p : Program) (h : List Bool) (n : ℕ) (s : StandsFor holds t p h)
    (l : Lane) (b : Contents) (cache : C) (left : InTurn holds (code_of p) (state_after p (quiet h n)) l b cache) (input : b.input ≡ p.input)
    (shown : Latches) where
  abbrev code : Code
  code = code_of p

  abbrev m : MachineState
  m = state_after p (quiet h n)

  -- where the lane was left
  abbrev pub cut : MachineState
  cut = lane_of l b left.past left.before shown m.counts

  reaches : showing code cut ≡ reached code p.input m
  reaches = ap (showing code) (sym left.state) ∙ (λ k. showing code (committed code (input k) (shifted m)))

  abbrev acts : MachineState
  acts = acted resident code p.input m

  one_more : state_after p (quiet h (suc n)) ≡ acts
  one_more =
      let latch : m.latch ≡ false = ap (λ (x : MachineState). x.latch) left.state in
      let same : latched false m ≡ m = λ k. record m { latch = ((λ j. latch j || false) ∙ sym latch) k } in
      after_one_more resident code p.input _ (quiet h n) false
      ∙ sym (cycled_acted resident code p.input m false left.on (eq-eqb m.stall 0 (ap (λ (x : MachineState). x.stall) left.state)))
      ∙ ap (acted resident code p.input) same

  pub stands_after : KeepsProgram t t' → Holds code t' (ended code (showing code cut))
      → t'.counts ≡ after_turn l.missed (squashes code (showing code cut)) (takes (showing code cut)) l.counts → t'.wait ≡ NotAsked → t'.cache ≡ cache
      → StandsFor holds t' p (quiet h (suc n))
  stands_after keeps tied counts wait same_cache =
      let end : MachineState = ended code (reached code p.input m) in
      let done : Holds code t' end = subst (λ x. Holds code t' (ended code x)) reaches tied in
      let past : end.past ≡ left.past = past_ended code (reached code p.input m) ∙ ap (λ (x : MachineState). x.past) left.state in
      let cache_so : holds t'.cache end.past = subst (λ x. holds t'.cache x) (sym past) (subst (λ x. holds x left.past) (sym same_cache) left.held) in
      let waits : Waits holds t'.cache acts NotAsked = (cache_so, refl) in
      let counts_so : t'.counts ≡ acts.counts = counts ∙ (λ k. after_turn (left.missed k) (squashes code (reaches k)) (takes (reaches k)) (left.counts k)) in
      let program : code_of_pipe t' ≡ code =
      same_code t t' keeps ∙ (λ k. code_with (code_from inst_of 0 (s.handler k)) (code_from inst_of CODE_BASE (s.code k))) in
      let tied_so : Holds code t' acts = waiting code t' end t'.wait t'.counts (cond (resident end.past end.next.address) 0 2) acts.counts done in
      record {
        code = ap (λ v. v.items) keeps.code ∙ s.code;
        handler = ap (λ v. v.items) keeps.handler ∙ s.handler;
        decoded = ap code_in keeps.decoded ∙ s.decoded;
        input = keeps.input ∙ s.input;
        waits = subst (λ x. Waits holds t'.cache x t'.wait) (sym one_more) (subst (λ w. Waits holds t'.cache acts w) (sym wait) waits);
        counts = counts_so ∙ ap (λ (x : MachineState). x.counts) (sym one_more);
        tied = subst (λ x. Holds (code_of_pipe t') t' x) (sym one_more) (subst (λ x. Holds x t' acts) (sym program) tied_so);
        shows = subst Shows (sym (quiet_state p h (suc n))) (shows_quietly code p.input (suc n) (state_after p h) s.shows);
      }

  pub goes_after : (state_after p (quiet h (suc n))).halted ≡ false
  goes_after =
      ap (λ (x : MachineState). x.halted) one_more
      ∙ ap (λ x. (ended code x).halted) (sym reaches)
      ∙ ended_off code (showing code cut) refl
