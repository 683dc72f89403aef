-- Cycles of user code without a request do not depend on the words of the system.
use Rattle.std.proofs.Common.{◌≡◌, ℕ, zero, suc, ◌-◌, Bool, true, false, cond, eqb, not, ◌&&◌, ◌||◌, List, [], ◌∷◌, ◌++◌, Option, Some, None, option_to_list}
use Rattle.std.proofs.Common.{refl, sym, ap, ◌∙◌, subst}
use Rattle.std.specs.Prelude.{replicate, is_some, ltb}
use Rattle.std.proofs.lemmas.Bool.{true≢false, false≢true}
use Rattle.mx_isa.specs.Words.{Words, put}
use Rattle.mx_isa.specs.Effect.{Change, Found, Sent, apply, stored, sent}
use Rattle.mx_isa.specs.Views.{is_halt}
use Rattle.mx_isa.specs.UserBus.{plain_word, from_input}
use Rattle.mx_isa.specs.declared.board.TheConstants.{CONSOLE, INPUT}
use Rattle.mx_board.specs.Data.{board, is_user_data}
use Rattle.mx_delay.specs.Delay.{Code}
use Rattle.mx_icache.specs.Residency.{resident}
use Rattle.mx_pcchain.specs.declared.psw.Psw.{Psw}
use Rattle.mx_turn.specs.declared.machine.Cycled.{Cycled}
use Rattle.mx_turn.specs.Counted.{Counted, after_stall, after_turn}
use Rattle.mx_turn.specs.Stages.{live, address_of}
use Rattle.mx_turn.specs.System.{system_change, moved, slot_of, seen}
use Rattle.mx_turn.specs.Cycle.{MachineState, shifted, showing, mem_change, squashes, takes, is_taken, entered, decided, latched, reached, waited, ended, acted, acted_answer, cycled, answer}
use Rattle.mx_turn.specs.Program.{Program, code_of}
use Rattle.mx_turn.specs.Run.{bytes_on}
use Rattle.law_alike.specs.Alike.{GoOnLike, CountAsMuch, later}
use Rattle.law_alike.specs.Users.{SameUserData, with_words, UsersGoOnLike}
use Rattle.law_alike.proofs.Cycles.{states_alike, bytes_alike, counts_alike}

-- user code runs, no request is latched, and two states differ in the system's words alone
pub record Apart (m n : MachineState) : Type 0 where
  pub same : with_words m n.core.mem ≡ n
  pub kept : SameUserData m.core.mem n.core.mem
  pub user : m.psw.current.user ≡ true
  pub quiet : m.latch ≡ false

-- what user code loads is the same
found_same : (kept user : Bool) (x y : ℕ) (rest z w : Found) → user ≡ true → (kept ≡ true → x ≡ y)
    → cond kept (plain_word x) (cond user rest z) ≡ cond kept (plain_word y) (cond user rest w)
found_same true user x y rest z w is same = ap plain_word (same refl)
found_same false true x y rest z w is same = refl
found_same false false x y rest z w is same = absurd (false≢true is)

loads_same : (user : Bool) (input : Option (List ℕ)) (mem words : Words) (taken : ℕ) → user ≡ true → SameUserData mem words
    → (board user input).load mem taken ≡ (board user input).load words taken
loads_same user input mem words taken is same = λ k a.
    found_same (is_user_data a) user (mem a) (words a) (cond (eqb a INPUT) (from_input input taken) (plain_word 0))
    (plain_word (cond (ltb a CONSOLE) (mem a) 0)) (plain_word (cond (ltb a CONSOLE) (words a) 0)) is (same a) k

-- a store keeps user data the same
put_same : (mem words : Words) (a v n : ℕ) → mem n ≡ words n → put mem a v n ≡ put words a v n
put_same mem words a v n same = ap (λ x. cond (eqb n a) v x) same

store_same : (kept system : Bool) (mem words : Words) (a v n : ℕ) → mem n ≡ words n
    → cond kept (put mem a v) (cond system (put mem a v) mem) n ≡ cond kept (put words a v) (cond system (put words a v) words) n
store_same true system mem words a v n same = put_same mem words a v n same
store_same false true mem words a v n same = put_same mem words a v n same
store_same false false mem words a v n same = same

stored_same : (user : Bool) (input : Option (List ℕ)) (s : Option Sent) (mem words : Words) → SameUserData mem words
    → SameUserData (stored (board user input) s mem) (stored (board user input) s words)
stored_same user input None mem words same = same
stored_same user input (Some s) mem words same = λ n is. store_same _ _ mem words s.address s.word n (same n is)

and_false : (b : Bool) → (b && false) ≡ false
and_false true = refl
and_false false = refl

not_taken : (interrupts latch full : Bool) → latch ≡ false → (interrupts && (latch && full)) ≡ false
not_taken interrupts latch full quiet = ap (λ l. interrupts && (l && full)) quiet ∙ and_false interrupts

-- user code does not leave its mode
stays : (restores pops user : Bool) (other psw : Psw) → user ≡ true → cond (restores && (pops && not user)) other psw ≡ psw
stays false pops user other psw is = refl
stays true false user other psw is = refl
stays true true true other psw is = refl
stays true true false other psw is = absurd (false≢true is)

module _ (code : Code) (c : MachineState) (words : Words) (counts : Counted) (kept : SameUserData c.core.mem words)
    (user : c.psw.current.user ≡ true) (quiet : c.latch ≡ false) where
  ended_apart : (halted taken : Bool) → taken ≡ false
      → Apart (waited resident (record (cond halted c (cond taken (entered c) (decided code c))) { counts = counts }))
      (waited resident (record (cond halted (with_words c words) (cond taken (entered (with_words c words)) (decided code (with_words c words))))
      { counts = counts }))
  ended_apart true taken none = record { same = refl; kept = kept; user = user; quiet = quiet }
  ended_apart false true none = absurd (true≢false none)
  ended_apart false false none = record {
    same = refl;
    kept = kept;
    user = ap (λ (p : Psw). p.current.user) (stays _ _ c.psw.current.user _ c.psw user) ∙ user;
    quiet = quiet;
  }

module _ (code : Code) (input : Option (List ℕ)) (m : MachineState) (words : Words) (kept : SameUserData m.core.mem words)
    (user : m.psw.current.user ≡ true) (quiet : m.latch ≡ false) where
  abbrev n : MachineState
  n = with_words m words

  abbrev on : MachineState → MachineState
  on x = latched false x

  find_same : (board m.psw.current.user input).load m.core.mem m.core.taken ≡ (board m.psw.current.user input).load words m.core.taken
  find_same = loads_same m.psw.current.user input m.core.mem words m.core.taken user kept

  change_same : mem_change code input (shifted (on m)) ≡ mem_change code input (shifted (on n))
  change_same = λ k. system_change m.psw.current.user m.chain (live code m.alu) (address_of m.alu) (seen m.slot m.core.regs) m.core.md (find_same k)

  -- the system's words behind the turn, and what user data is then
  abbrev left : Words
  left = (reached code input (on n)).core.mem

  reached_same : with_words (reached code input (on m)) left ≡ reached code input (on n)
  reached_same = λ k. showing code (record (shifted (on m)) {
    core = record (apply (board m.psw.current.user input) (change_same k) m.core) { mem = left };
    before = m.core.regs;
    slot = slot_of (live code m.alu) m.core.regs;
    chain = moved m.psw.current.user (live code m.alu) (seen m.slot m.core.regs) m.chain;
    halted = is_halt (live code m.alu);
  })

  data_left : SameUserData (reached code input (on m)).core.mem left
  data_left = subst (λ (c : Change). SameUserData (reached code input (on m)).core.mem (stored (board m.psw.current.user input) c.stores words))
      change_same (stored_same m.psw.current.user input (mem_change code input (shifted (on m))).stores m.core.mem words kept)

  turns_apart : Apart (acted resident code input (on m)) (acted resident code input (on n))
  turns_apart =
      let c = reached code input (on m) in
      let missed = not (resident m.past m.next.address) in
      subst (λ (z : MachineState). Apart (acted resident code input (on m))
      (waited resident (record (ended code z) { counts = after_turn missed (squashes code z) (takes z) m.counts }))) reached_same
      (ended_apart code c left (after_turn missed (squashes code c) (takes c) m.counts) data_left user (ap (λ l. l || false) quiet) c.halted (is_taken c)
      (not_taken c.psw.current.interrupts c.latch (is_some c.alu) (ap (λ l. l || false) quiet)))

  abbrev stalled : MachineState → MachineState
  stalled x = record (on x) { stall = x.stall - 1; counts = after_stall x.counts }

  -- what holds of each kind of cycle
  each_kind : (halted acts : Bool) → Apart (cond halted m (cond acts (acted resident code input (on m)) (stalled m)))
      (cond halted n (cond acts (acted resident code input (on n)) (stalled n)))
  each_kind true acts = record { same = refl; kept = kept; user = user; quiet = quiet }
  each_kind false true = turns_apart
  each_kind false false = record { same = refl; kept = kept; user = user; quiet = ap (λ l. l || false) quiet }

  pub cycle_apart : Apart (cycled resident code input m false) (cycled resident code input n false)
  cycle_apart = each_kind m.halted (eqb m.stall 0)

  turn_answers : acted_answer code input (on m) ≡ acted_answer code input (on n)
  turn_answers = λ k. record {
    byte = sent (board m.psw.current.user input) (change_same k).stores;
    taken = takes (reached_same k);
    halted = (reached_same k).halted;
    stalled = false;
  }

  pub answer_same : answer code input m false ≡ answer code input n false
  answer_same = λ k.
      cond m.halted (record { byte = None; taken = false; halted = true; stalled = false })
      (cond (eqb m.stall 0) (turn_answers k) (record { byte = None; taken = false; halted = false; stalled = true }))

module _ (p : Program) where
  abbrev next : MachineState → MachineState
  next m = cycled resident (code_of p) p.input m false

  next_apart : (m n : MachineState) → Apart m n → Apart (next m) (next n)
  next_apart m n h = subst (λ x. Apart (next m) (next x)) h.same (cycle_apart (code_of p) p.input m n.core.mem h.kept h.user h.quiet)

  same_answers : (m n : MachineState) → Apart m n → answer (code_of p) p.input m false ≡ answer (code_of p) p.input n false
  same_answers m n h = answer_same (code_of p) p.input m n.core.mem h.kept h.user h.quiet ∙ ap (λ x. answer (code_of p) p.input x false) h.same

  abbrev after : MachineState → ℕ → MachineState
  after m n = later p m (replicate n false)

  still_apart : (m n : MachineState) (k : ℕ) → Apart m n → Apart (after m k) (after n k)
  still_apart m n zero h = h
  still_apart m n (suc k) h = still_apart (next m) (next n) k (next_apart m n h)

  same_bytes : (m n : MachineState) (k : ℕ) → Apart m n → bytes_on p m (replicate k false) ≡ bytes_on p n (replicate k false)
  same_bytes m n zero h = refl
  same_bytes m n (suc k) h =
      let rest = same_bytes (next m) (next n) k (next_apart m n h) in
      λ i. option_to_list (same_answers m n h i).byte ++ rest i

  module _ (m n : MachineState) (k : ℕ) (h : UsersGoOnLike m n) where
    abbrev between : MachineState
    between = with_words m n.core.mem

    apart : Apart m between
    apart = record { same = refl; kept = h.kept; user = h.user; quiet = h.quiet }

    pub users_states : UsersGoOnLike (after m k) (after n k)
    users_states =
        let on = still_apart m between k apart in
        let rest = states_alike p between n (replicate k false) h.rest in
        let words : (after between k).core.mem ≡ (after n k).core.mem = ap (λ (x : MachineState). x.core.mem) rest.same in
        let is : with_words (after m k) (after n k).core.mem ≡ after between k = ap (with_words (after m k)) (sym words) ∙ on.same in
        record {
          user = on.user;
          quiet = on.quiet;
          kept = subst (SameUserData (after m k).core.mem) words on.kept;
          rest = subst (λ x. GoOnLike x (after n k)) (sym is) rest;
        }

    pub users_bytes : bytes_on p m (replicate k false) ≡ bytes_on p n (replicate k false)
    users_bytes = same_bytes m between k apart ∙ bytes_alike p between n (replicate k false) h.rest
