-- One user turn is one step of the machine with delay slots.
use Rattle.std.proofs.Common.{◌≡◌, ℕ, suc, Bool, true, false, cond, eqb, not, ◌&&◌, ◌||◌, List, Option, Some, None, refl, sym, ap, ◌∙◌, subst, arith, ⊎_elim}
use Rattle.std.specs.Prelude.{is_some}
use Rattle.std.proofs.lemmas.Bool.{cond-false, cases_Bool, false≢true}
use Rattle.std.proofs.lemmas.Bool.Decides.{nat_tests}
use Rattle.mx_isa.specs.declared.inst.Inst.{Inst}
use Rattle.mx_isa.specs.declared.inst.Inst.TheVariants.{MoveFrom}
use Rattle.mx_isa.specs.declared.place.Place.{Place}
use Rattle.mx_isa.specs.Words.{Words, write}
use Rattle.mx_isa.specs.Effect.{Sent, Found, Change, Decision, change, gives, decides, stored, sent, or_kept}
use Rattle.mx_isa.specs.Views.{Access, access, address, reads, is_halt, is_md}
use Rattle.mx_isa.specs.UserBus.{is_user, user_bus, from_input, plain_word}
use Rattle.mx_isa.proofs.Frame.{SeesAlike, FindsAlike, change_same, decides_same, sees_alike}
use Rattle.mx_delay.specs.Delay.{Code, Queued, queued, squash, next_of, idle, does, Delay, stepped, delay_step, delay_byte, user_byte}
use Rattle.mx_delay.specs.Clean.{is_lawful, is_clean_step}
use Rattle.mx_pcchain.specs.Fetch.{Fetch}
use Rattle.mx_pcchain.specs.declared.chain.Chain.{Chain}
use Rattle.mx_pcchain.specs.Chain.{special}
use Rattle.mx_pcchain.specs.Modes.{psw_restored}
use Rattle.mx_board.specs.Data.{board, is_user_data}
use Rattle.mx_turn.specs.Counted.{Counted}
use Rattle.mx_turn.specs.Stages.{fetch_of, live, address_of}
use Rattle.mx_turn.specs.Stages.{squash as squash_stage}
use Rattle.mx_turn.specs.System.{system_change, seen, pops, restores}
use Rattle.mx_turn.specs.Cycle.{MachineState, shifted, commit_byte, mem_change, is_taken, entered, decision, decided, led, turned, reached, ended}
use Rattle.mx_turn.specs.OneTurn.{as_fetch, UserSame, Follows, IsOnBoard, before_turn}

system_user : (user : Bool) (c : Chain) (i : Inst) (at : ℕ) (r : Words) (md : ℕ) (find : ℕ → Found) → user ≡ true
    → system_change user c i at r md find ≡ change i at r md find
system_user user c (MoveFrom d s) at r md find e = ap (λ b. cond (b || is_md s) (change (MoveFrom d s) at r md find) (gives d (special c s))) e
system_user user c _ at r md find e = refl

live_does : (code code' : Code) (q : Queued) → code q.address ≡ code' q.address → live code (Some (as_fetch q)) ≡ does code' q
live_does code code' q e = ap (cond q.squashed idle) e

-- user data of a place on the board are user data of the board
on_board : (p : Place) (a : ℕ) → IsOnBoard p → is_user p a ≡ true → is_user_data a ≡ true
on_board p a b u = let h = b.console in let k = p.console_below in let w = p.within in grind (arith, nat_tests)

-- a load of user data, or of the input, finds the same
found_same : (p : Place) (input : Option (List ℕ)) (x : ℕ) (m m' : Words) (taken : ℕ) → IsOnBoard p → UserSame p m m'
    → is_user p x || (is_some input && eqb x p.input) ≡ true → (user_bus p input).load m' taken x ≡ (board true input).load m taken x
found_same p input x m m' taken b u l =
    ⊎_elim
    (λ y. ap (λ t. cond t (plain_word (m' x)) (cond (eqb x p.input) (from_input input taken) (plain_word 0))) y
    ∙ ap plain_word (sym (u x y))
    ∙ sym (ap (λ t. cond t (plain_word (m x)) (cond (eqb x 254) (from_input input taken) (plain_word 0))) (on_board p x b y)))
    (λ n. let e : eqb x p.input ≡ true = is_input (is_user p x) (is_some input) (eqb x p.input) n l in
    let at : x ≡ 254 = equal x p.input e ∙ b.input in
    ap (λ t. cond t (plain_word (m' x)) (cond (eqb x p.input) (from_input input taken) (plain_word 0))) n
    ∙ ap (λ t. cond t (from_input input taken) (plain_word 0)) e
    ∙ sym (ap (λ z. cond (is_user_data z) (plain_word (m z)) (cond (eqb z 254) (from_input input taken) (plain_word 0))) at))
    (cases_Bool (is_user p x))
  where
    is_input : (a b c : Bool) → a ≡ false → a || (b && c) ≡ true → c ≡ true
    is_input a b c h k = grind arith

    equal : (x y : ℕ) → eqb x y ≡ true → x ≡ y
    equal x y h = grind (arith, nat_tests)

loads_same : (p : Place) (input : Option (List ℕ)) (a : Option Access) (r m m' : Words) (taken : ℕ) → IsOnBoard p → UserSame p m m'
    → is_lawful p input a r ≡ true → FindsAlike a r ((user_bus p input).load m' taken) ((board true input).load m taken)
loads_same p input None r m m' taken b u l = tt
loads_same p input (Some a) r m m' taken b u l = λ s.
    found_same p input (address a r) m m' taken b u
    (sym (ap (λ t. is_user p (address a r) || cond t (eqb (address a r) p.console) (is_some input && eqb (address a r) p.input)) s) ∙ l)

stores_same : (p : Place) (input : Option (List ℕ)) (o : Option Sent) (m m' : Words) → IsOnBoard p → UserSame p m m'
    → UserSame p (stored (board true input) o m) (stored (user_bus p input) o m')
stores_same p input None m m' b u = u
stores_same p input (Some o) m m' b u = λ a i. grind (arith, nat_tests, u a i, p.ordered, p.within, p.console_below, b.console)

sent_same : (p : Place) (input : Option (List ℕ)) (o : Option Sent) → IsOnBoard p → sent (board true input) o ≡ sent (user_bus p input) o
sent_same p input None b = refl
sent_same p input (Some o) b = grind (arith, nat_tests, b.console)

never_back : (a u : Bool) → u ≡ true → (a && not u) ≡ false
never_back a u e = grind arith

pub nor_restored : (a b u : Bool) → u ≡ true → (a && (b && not u)) ≡ false
nor_restored a b u e = grind arith

lawful : (x y z : Bool) → x && (y && z) ≡ true → y ≡ true
lawful x y z h = grind arith

-- the word in ALU does not see the slot, where it does not read it
apart_from : (i : Inst) (r : ℕ) → reads i r ≡ false → (n : ℕ) → reads i n ≡ true → n ≡ r → n ≡ 0
apart_from i r h n k e = absurd (false≢true (sym h ∙ ap (reads i) (sym e) ∙ k))

module _ (code code' : Code) (inside : ℕ → Bool) (p : Place) (input : Option (List ℕ))
    (m : MachineState) (d : Delay) (stall : ℕ) (latch : Bool) (counts : Counted) (at_board : IsOnBoard p)
    (f : Follows p m d) (goes : m.halted ≡ false) (quiet : is_taken m ≡ false) (apart : reads (does code' d.first) m.slot.register ≡ false)
    (clean : is_clean_step code' inside p input d ≡ true) (same_word : code d.first.address ≡ code' d.first.address) where
  -- the word that acts, and what it decides in the machine with delay slots
  abbrev i : Inst
  i = does code' d.first

  abbrev e : Decision
  e = decides i d.first.address d.core.regs

  -- what the word in ALU decides
  abbrev dd : Decision
  dd = decision code m

  -- the registers as it sees them
  abbrev r : Words
  r = seen m.slot m.core.regs

  -- the machine before the next turn acts, once its stages have moved on
  abbrev n : MachineState
  n = shifted (before_turn stall latch counts (decided code m))

  sees : SeesAlike i m.core.regs r
  sees = sees_alike i m.core.regs m.slot.register m.slot.value (apart_from i m.slot.register apart)

  alu : live code m.alu ≡ i
  alu = ap (live code) f.alu ∙ live_does code code' d.first same_word

  at : address_of m.alu ≡ d.first.address
  at = ap address_of f.alu

  decision_is : dd ≡ e
  decision_is =
      (λ k. decides (alu k) (at k) r)
      ∙ sym (decides_same i d.first.address m.core.regs r sees)
      ∙ ap (decides i d.first.address) f.regs

  stays : (pops (live code m.alu) && not m.psw.current.user) ≡ false
  stays = never_back (pops (live code m.alu)) m.psw.current.user f.user

  next : n.next ≡ as_fetch (queued (next_of e.target d.third.address))
  next =
      ap (λ b. led b m.chain dd m.next) stays
      ∙ (λ k. fetch_of (next_of (decision_is k).target (f.next k).address))

  marked : (a : Option Fetch) (q : Queued) → a ≡ Some (as_fetch q) → squash_stage dd.cancels a ≡ Some (as_fetch (squash e.cancels q))
  marked a q h = λ k. squash_stage (decision_is k).cancels (h k)

  still_user : n.psw.current.user ≡ true
  still_user = ap (λ b. (cond b (psw_restored m.psw) m.psw).current.user)
      (nor_restored (restores (live code m.alu)) (pops (live code m.alu)) m.psw.current.user f.user) ∙ f.user

  abbrev c : Change
  c = change i d.first.address d.core.regs d.core.md ((user_bus p input).load d.core.mem d.core.taken)

  same_change : mem_change code input n ≡ c
  same_change =
      system_user n.psw.current.user n.chain (live code m.alu) (address_of m.alu) r m.core.md
      ((board n.psw.current.user input).load m.core.mem m.core.taken) still_user
      ∙ (λ k. change (alu k) (at k) r (f.md k) ((board (still_user k) input).load m.core.mem (f.taken k)))
      ∙ sym (change_same i d.first.address d.core.regs r d.core.md d.core.md ((user_bus p input).load d.core.mem d.core.taken)
      ((board true input).load m.core.mem d.core.taken)
      (subst (λ x. SeesAlike i x r) f.regs sees) (λ t. refl)
      (loads_same p input (access i) d.core.regs m.core.mem d.core.mem d.core.taken at_board f.mem (lawful _ _ _ clean)))

  abbrev after : Delay
  after = stepped p input i e d

  steps : delay_step code' p input d ≡ after
  steps = ap (λ b. cond b d after) (sym f.halted ∙ goes)

  follows : Follows p (reached code input (before_turn stall latch counts (decided code m))) after
  follows = record {
    user = still_user;
    alu = marked m.rf d.second f.rf;
    rf = marked m.fetch d.third f.fetch;
    fetch = ap Some next;
    next = next;
    regs = λ k. write (f.regs k) (same_change k).dest (same_change k).value;
    md = λ k. or_kept (same_change k).new_md (f.md k);
    mem = λ a u.
        (λ k. stored (board (still_user k) input) (same_change k).stores m.core.mem a)
        ∙ stores_same p input c.stores m.core.mem d.core.mem at_board f.mem a u;
    taken = λ k. cond (same_change k).takes (suc (f.taken k)) (f.taken k);
    halted = ap is_halt alu;
  }

  byte : commit_byte code input n ≡ delay_byte code' p input d
  byte =
      (λ k. sent (board (still_user k) input) (same_change k).stores)
      ∙ sent_same p input c.stores at_board
      ∙ sym (ap (λ b. cond b None (user_byte p input i d.first.address d.core)) (sym f.halted ∙ goes))

  ends : ended code m ≡ decided code m
  ends = cond-false _ m (turned code m) goes ∙ cond-false _ (entered m) (decided code m) quiet

  pub one_turn : (let x = before_turn stall latch counts (ended code m) in
      Follows p (reached code input x) (delay_step code' p input d) × (commit_byte code input (shifted x) ≡ delay_byte code' p input d))
  one_turn = subst (λ x. Follows p (reached code input (before_turn stall latch counts x)) (delay_step code' p input d)
      × (commit_byte code input (shifted (before_turn stall latch counts x)) ≡ delay_byte code' p input d)) (sym ends)
      (subst (Follows p (reached code input (before_turn stall latch counts (decided code m)))) (sym steps) follows, byte)
