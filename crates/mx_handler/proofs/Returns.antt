-- The shipped handler's turns, computed.
use Rattle.std.proofs.Common.{◌≡◌, ◌≢◌, ℕ, ◌+◌, ◌%◌, ◌^◌, ◌<◌, ◌≤◌, Bool, true, false, cond, leb, List, Option, Some, None, refl, sym, ap, subst, ◌∙◌, arith, ⊎_elim}
use Rattle.std.proofs.lemmas.Bool.{cases_eq, le-leb, lt-leb}
use Rattle.std.proofs.lemmas.Bool.Decides.{nat_tests}
use Rattle.mx_isa.specs.Words.{Words, put, write}
use Rattle.mx_delay.specs.Delay.{Code}
use Rattle.mx_pcchain.specs.Fetch.{Fetch}
use Rattle.mx_pcchain.specs.Chain.{entry_of, fetch_from}
use Rattle.mx_pcchain.specs.Modes.{system_mode}
use Rattle.mx_pcchain.specs.declared.psw.Mode.{Mode}
use Rattle.mx_turn.specs.declared.latches.Latches.{Latches}
use Rattle.mx_turn.specs.Counted.{Counted}
use Rattle.mx_turn.specs.Stages.{fetch_of, saved}
use Rattle.mx_turn.specs.System.{Slot}
use Rattle.mx_turn.specs.Cycle.{MachineState, entered, reached}
use Rattle.mx_handler.specs.Returns.{with_shipped, turns, IsBack, HoldsFetch}

-- the registers after the handler's loads, which end with those of 2 and 1
abbrev loads_of : Words → ℕ → ℕ → ℕ → ℕ → ℕ → ℕ → ℕ → ℕ → Words
loads_of r a b c d e f g h =
    let early : Words = write (write (write (write (write r 1 a) 2 b) 1 c) 2 d) 1 e in
    write (write (write (write (write early 2 f) 2 g) 1 h) 2 (r 2)) 1 (r 1)

module _ (user : Code) (input : Option (List ℕ)) (latch : ℕ → Bool) (mem wb : Option Fetch) (past : List ℕ) (stall : ℕ) (r before m : Words)
    (md taken : ℕ) (slot : Slot) (p1 p2 p3 : ℕ) (other : Mode) (halted : Bool) (shown : Latches) (counts : Counted) where
  abbrev pub entry : MachineState
  entry = record {
    next = fetch_of 0;
    fetch = None;
    rf = None;
    alu = None;
    mem = mem;
    wb = wb;
    past = past;
    stall = stall;
    latch = false;
    core = record { regs = r; md = md; mem = m; taken = taken };
    before = before;
    slot = slot;
    chain = record { pc1 = p1; pc2 = p2; pc3 = p3 };
    psw = record { current = system_mode; other = other };
    halted = halted;
    shown = shown;
    counts = counts;
  }

  abbrev pub end : MachineState
  end = reached (with_shipped user) input (record (turns (with_shipped user) input latch 25 entry) { latch = latch 25 })

  end_current : end.psw.current ≡ other
  end_current = refl

  end_md : end.core.md ≡ md
  end_md = refl

  end_taken : end.core.taken ≡ taken
  end_taken = refl

  end_goes : end.halted ≡ false
  end_goes = refl

  end_alu : end.alu ≡ Some (fetch_from p1)
  end_alu = refl

  end_rf : end.rf ≡ Some (fetch_from p2)
  end_rf = refl

  end_fetch : end.fetch ≡ Some (fetch_from p3)
  end_fetch = refl

  end_0 : end.core.mem 0 ≡ (m 0 + 1) % 2 ^ 32
  end_0 = refl

  end_mem : end.core.mem ≡ put (put (put (put (put (put m 1 (r 1)) 2 (r 2)) 3 p1) 4 p2) 5 p3) 0 ((m 0 + 1) % 2 ^ 32)
  end_mem = refl

  end_regs : end.core.regs ≡ loads_of r p1 p2 p3 (m 0) p1 ((m 0 + 1) % 2 ^ 32) p2 p3
  end_regs = refl

  end_next : end.next ≡ fetch_from p3
  end_next = refl

  end_slot : end.slot.register ≡ 0
  end_slot = refl

other_write : (f : Words) (d v n : ℕ) → n ≢ d → write f d v n ≡ f n
other_write f d v n h = grind (arith, nat_tests)

other_put : (f : Words) (k v n : ℕ) → n ≢ k → put f k v n ≡ f n
other_put f k v n h = grind (arith, nat_tests)

-- only registers 1 and 2 differ
record Only12 (f r : Words) : Type 0 where
  same : (n : ℕ) → n ≢ 1 → n ≢ 2 → f n ≡ r n

on_1 : (f r : Words) (v : ℕ) → Only12 f r → Only12 (write f 1 v) r
on_1 f r v o = record { same = λ n h k. other_write f 1 v n h ∙ o.same n h k }

on_2 : (f r : Words) (v : ℕ) → Only12 f r → Only12 (write f 2 v) r
on_2 f r v o = record { same = λ n h k. other_write f 2 v n k ∙ o.same n h k }

pub regs_back : (r : Words) (a b c d e f g h : ℕ) (n : ℕ) → loads_of r a b c d e f g h n ≡ r n
regs_back r a b c d e f g h n =
    ⊎_elim
    (λ is_1. subst (λ k. write w 1 (r 1) k ≡ r k) (sym is_1) refl)
    (λ not_1. ⊎_elim
    (λ is_2. subst (λ k. write w 1 (r 1) k ≡ r k) (sym is_2) refl)
    (λ not_2. others.same n not_1 not_2)
    (cases_eq n 2))
    (cases_eq n 1)
  where
    first_4 : Only12 (write (write (write (write r 1 a) 2 b) 1 c) 2 d) r
    first_4 = on_2 _ _ _ (on_1 _ _ _ (on_2 _ _ _ (on_1 r r a (record { same = λ n h k. refl }))))

    others : Only12 (loads_of r a b c d e f g h) r
    others = on_1 _ _ _ (on_2 _ _ _ (on_1 _ _ _ (on_2 _ _ _ (on_2 _ _ _ (on_1 _ _ _ first_4)))))

    w : Words
    w = write (write (write (write (write (write (write (write (write r 1 a) 2 b) 1 c) 2 d) 1 e) 2 f) 2 g) 1 h) 2 (r 2)

-- nothing differs from address k on
pub record AboveSame (k : ℕ) (f m : Words) : Type 0 where
  pub same : (n : ℕ) → k ≤ n → f n ≡ m n

below : (k j : ℕ) (f m : Words) (v : ℕ) → j < k → AboveSame k f m → AboveSame k (put f j v) m
below k j f m v h o = record { same = λ n le. other_put f j v n (λ e. absurd (omega arith)) ∙ o.same n le }

pub mem_back : (m : Words) (a b c d e f : ℕ) → AboveSame 6 (put (put (put (put (put (put m 1 a) 2 b) 3 c) 4 d) 5 e) 0 f) m
mem_back m a b c d e f =
    below 6 0 _ _ _ (omega arith)
    (below 6 5 _ _ _ (omega arith)
    (below 6 4 _ _ _ (omega arith)
    (below 6 3 _ _ _ (omega arith)
    (below 6 2 _ _ _ (omega arith)
    (below 6 1 m m a (omega arith) (record { same = λ n le. refl }))))))

-- a saved fetch comes back as it was
pub from_entry : (f : Fetch) → f.address < 2 ^ 31 → fetch_from (entry_of f) ≡ f
from_entry f h = back f.squashed
  where
    back : (b : Bool) → fetch_from (cond b (f.address + 2 ^ 31) f.address) ≡ record { address = f.address; squashed = b }
    back true = (λ k. record { address = e k; squashed = b k })
      where
        e : (f.address + 2 ^ 31) % 2 ^ 31 ≡ f.address
        e = omega arith

        b : leb (2 ^ 31) (f.address + 2 ^ 31) ≡ true
        b = le-leb _ _ (omega arith)
    back false = (λ k. record { address = e k; squashed = b k })
      where
        e : f.address % 2 ^ 31 ≡ f.address
        e = omega arith

        b : leb (2 ^ 31) f.address ≡ false
        b = lt-leb _ _ (omega arith)

module _ (user : Code) (input : Option (List ℕ)) (latch : ℕ → Bool) (m : MachineState) (alu rf fetch : Fetch) (is_alu : HoldsFetch m.alu alu)
    (is_rf : HoldsFetch m.rf rf) (is_fetch : HoldsFetch m.fetch fetch) where
  -- the state in which the handler's first word is fetched, when the chain holds these words
  abbrev at : ℕ → ℕ → ℕ → MachineState
  at p1 p2 p3 = entry user input latch m.mem m.wb m.past m.stall m.core.regs m.before m.core.mem m.core.md m.core.taken m.slot
      p1 p2 p3 m.psw.current m.halted m.shown m.counts

  abbrev e : MachineState
  e = end user input latch m.mem m.wb m.past m.stall m.core.regs m.before m.core.mem m.core.md m.core.taken m.slot
      (entry_of alu) (entry_of rf) (entry_of fetch) m.psw.current m.halted m.shown m.counts

  enters : entered m ≡ at (entry_of alu) (entry_of rf) (entry_of fetch)
  enters = λ k. at (entry_of (saved (is_alu.0 k))) (entry_of (saved (is_rf.0 k))) (entry_of (saved (is_fetch.0 k)))

  back : IsBack m e
  back = record {
    alu = ap Some (from_entry alu is_alu.1) ∙ sym is_alu.0;
    rf = ap Some (from_entry rf is_rf.1) ∙ sym is_rf.0;
    fetch = ap Some (from_entry fetch is_fetch.1) ∙ sym is_fetch.0;
    next = ap Some (from_entry fetch is_fetch.1) ∙ sym is_fetch.0;
    regs = λ n. regs_back m.core.regs (entry_of alu) (entry_of rf) (entry_of fetch) (m.core.mem 0)
        (entry_of alu) ((m.core.mem 0 + 1) % 2 ^ 32) (entry_of rf) (entry_of fetch) n;
    md = refl;
    mem = λ a h. (mem_back m.core.mem (m.core.regs 1) (m.core.regs 2) (entry_of alu) (entry_of rf) (entry_of fetch) ((m.core.mem 0 + 1) % 2 ^ 32)).same a h;
    taken = refl;
    counted = refl;
    current = refl;
    slot = refl;
    goes = refl;
  }

  -- the machine before the 26th turn
  abbrev before_last : MachineState → MachineState
  before_last x = record (turns (with_shipped user) input latch 25 x) { latch = latch 25 }

  pub returns : IsBack m (reached (with_shipped user) input (before_last (entered m)))
  returns = subst (λ x. IsBack m (reached (with_shipped user) input (before_last x))) (sym enters) back
