-- Two pipelines whose parts are the same stand for states that go on alike.
use Rattle.std.proofs.Common.{◌≡◌, ℕ, Bool, true, false, cond, List, [], ◌∷◌, sym, ap, ◌∙◌, subst}
use Rattle.std.specs.Prelude.{slice_index}
use Rattle.mx_isa.specs.declared.inst.Inst.{Inst}
use Rattle.mx_isa.specs.Words.{Words, reg, write}
use Rattle.mx_isa.specs.Views.{dest, is_load}
use Rattle.mx_icache.specs.declared.line_cache.LineCache.{LineCache}
use Rattle.mx_icache.specs.Residency.{resident}
use Rattle.mx_icache.specs.LineSets.{CacheHolds}
use Rattle.mx_board.specs.Data.{is_user_data, words_of}
use Rattle.mx_pcchain.specs.declared.psw.Psw.{Psw}
use Rattle.mx_turn.specs.System.{slot_of, no_slot}
use Rattle.mx_turn.specs.Cycle.{MachineState}
use Rattle.mx_turn.specs.Program.{Program, state_after}
use Rattle.mx_pipe.specs.declared.pipe.Pipe.{Pipe}
use Rattle.mx_pipe.specs.declared.pipe.Wait.{Wait}
use Rattle.mx_pipe.specs.declared.pipe.Wait.TheVariants.{NotAsked, Missed}
use Rattle.mx_pipe.specs.Latched.{does}
use Rattle.mx_pipe.specs.Kept.{Waits, StandsFor}
use Rattle.law_alike.specs.Alike.{AnswerAlike}
use Rattle.law_alike.specs.Users.{UsersGoOnLike, with_words}
use Rattle.law_alike.proofs.Cycles.{alike_on}

-- what is compared
pub record SameParts (t u : Pipe LineCache) : Type 0 where
  pub next : t.next ≡ u.next
  pub fetch : t.fetch.word ≡ u.fetch.word
  pub rf : t.rf.word ≡ u.rf.word
  pub alu : t.alu.word ≡ u.alu.word
  pub mem : t.mem.word ≡ u.mem.word
  pub wb : t.wb.word ≡ u.wb.word
  pub wait : t.wait ≡ u.wait
  pub asked : t.asked ≡ u.asked
  pub halted : t.halted ≡ u.halted
  pub psw : t.psw ≡ u.psw
  pub chain : t.chain ≡ u.chain
  pub md : t.md ≡ u.md
  pub register : t.mem.b ≡ u.mem.b
  pub load : is_load (does t.mem) ≡ is_load (does u.mem)
  pub written : (n : ℕ → ℕ) → write n t.mem.b t.mem.result ≡ write n u.mem.b u.mem.result
  pub file : t.file ≡ u.file
  pub caches : (past past' : List ℕ) → CacheHolds t.cache past → CacheHolds u.cache past' → AnswerAlike past past'
  pub words : (a : ℕ) → is_user_data a ≡ true → words_of t.board a ≡ words_of u.board a
  pub user : t.psw.current.user ≡ true
  pub quiet : t.asked ≡ false
  pub taken : t.board.taken ≡ u.board.taken

-- the coming fetch is waited for alike
pub record WaitAlike (m m' : MachineState) : Type 0 where
  pub stall : m.stall ≡ m'.stall
  pub coming : resident m.past m.next.address ≡ resident m'.past m.next.address
  pub behind : AnswerAlike (m.next.address ∷ m.past) (m.next.address ∷ m'.past)

wait_alike : (c c' : LineCache) (m m' : MachineState) (w : Wait)
    → ((past past' : List ℕ) → CacheHolds c past → CacheHolds c' past' → AnswerAlike past past')
    → m.next ≡ m'.next → Waits CacheHolds c m w → Waits CacheHolds c' m' w → WaitAlike m m'
wait_alike c c' m m' NotAsked caches next h h' =
    let alike = caches m.past m'.past h.0 h'.0 in
    let same : resident m.past m.next.address ≡ resident m'.past m'.next.address =
    alike [] m.next.address ∙ ap (λ n. resident m'.past n.address) next in
    record {
      stall = h.1 ∙ ap (λ b. cond b 0 2) same ∙ sym h'.1;
      coming = alike [] m.next.address;
      behind = alike_on m.past m'.past m.next.address alike;
    }
wait_alike c c' m m' (Missed n) caches next h h' =
    let missed : resident m'.past m.next.address ≡ false = ap (λ n. resident m'.past n.address) next ∙ h'.2 in
    record {
      stall = h.1 ∙ sym h'.1;
      coming = h.2 ∙ sym missed;
      behind = caches (m.next.address ∷ m.past) (m.next.address ∷ m'.past) h.0
          (subst (λ n. CacheHolds c' (n.address ∷ m'.past)) (sym next) h'.0);
    }

slot_by : (i j : Inst) (f g : Words) → is_load i ≡ is_load j → dest i ≡ dest j → f ≡ g → slot_of i f ≡ slot_of j g
slot_by i j f g load to same = λ k. cond (load k) (record { register = to k; value = reg (same k) (to k) }) no_slot

module _ (t u : Pipe LineCache) (e : SameParts t u) (p : Program) (h k : List Bool) (s : StandsFor CacheHolds t p h)
    (r : StandsFor CacheHolds u p k) where
  abbrev m : MachineState
  m = state_after p h

  abbrev m' : MachineState
  m' = state_after p k

  next_same : m.next ≡ m'.next
  next_same = sym s.tied.rest.next ∙ e.next ∙ r.tied.rest.next

  waits_same : WaitAlike m m'
  waits_same = wait_alike t.cache u.cache m m' u.wait e.caches next_same (subst (λ w. Waits CacheHolds t.cache m w) e.wait s.waits) r.waits

  file_same : slice_index t.file ≡ slice_index u.file
  file_same = ap slice_index e.file

  to_same : dest (does t.mem) ≡ dest (does u.mem)
  to_same = sym s.tied.behind.to ∙ e.register ∙ r.tied.behind.to

  regs_same : m.core.regs ≡ m'.core.regs
  regs_same =
      sym s.tied.behind.regs ∙ ap (λ d. write (slice_index t.file) d t.mem.result) (sym s.tied.behind.to) ∙ e.written (slice_index t.file)
      ∙ (λ i. write (file_same i) (r.tied.behind.to i) u.mem.result) ∙ r.tied.behind.regs

  slot_same : m.slot ≡ m'.slot
  slot_same =
      sym s.tied.behind.slot ∙ slot_by (does t.mem) (does u.mem) (slice_index t.file) (slice_index u.file) e.load to_same file_same
      ∙ r.tied.behind.slot

  states_same : record (with_words m m'.core.mem) { past = m'.past; counts = m'.counts; shown = m'.shown } ≡ m'
  states_same = λ i. record {
    next = next_same i;
    fetch = (sym s.tied.fetch ∙ e.fetch ∙ r.tied.fetch) i;
    rf = (sym s.tied.rf.word ∙ e.rf ∙ r.tied.rf.word) i;
    alu = (sym s.tied.alu.word ∙ e.alu ∙ r.tied.alu.word) i;
    mem = (sym s.tied.behind.mem ∙ e.mem ∙ r.tied.behind.mem) i;
    wb = (sym s.tied.behind.wb ∙ e.wb ∙ r.tied.behind.wb) i;
    past = m'.past;
    stall = waits_same.stall i;
    latch = (sym s.tied.rest.asked ∙ e.asked ∙ r.tied.rest.asked) i;
    core = record {
      regs = regs_same i;
      md = (sym s.tied.rest.md ∙ e.md ∙ r.tied.rest.md) i;
      mem = m'.core.mem;
      taken = (sym s.tied.rest.taken ∙ e.taken ∙ r.tied.rest.taken) i;
    };
    before = (sym s.tied.behind.file ∙ file_same ∙ r.tied.behind.file) i;
    slot = slot_same i;
    chain = (sym s.tied.rest.chain ∙ e.chain ∙ r.tied.rest.chain) i;
    psw = (sym s.tied.rest.psw ∙ e.psw ∙ r.tied.rest.psw) i;
    halted = (sym s.tied.rest.halted ∙ e.halted ∙ r.tied.rest.halted) i;
    shown = m'.shown;
    counts = m'.counts;
  }

  pub parts_alike : UsersGoOnLike m m'
  parts_alike = record {
    user = sym (ap (λ (p : Psw). p.current.user) s.tied.rest.psw) ∙ e.user;
    quiet = sym s.tied.rest.asked ∙ e.quiet;
    kept = λ a is. sym (ap (λ (w : Words). w a) s.tied.rest.words) ∙ e.words a is ∙ ap (λ (w : Words). w a) r.tied.rest.words;
    rest = record { same = states_same; coming = waits_same.coming; behind = waits_same.behind };
  }
