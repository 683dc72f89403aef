use Rattle.std.proofs.Common.{◌≡◌, ℕ, Bool, cond, suc, refl, sym, ap, ◌∙◌, subst}
use Rattle.std.specs.Prelude.{slice_index}
use Rattle.mx_isa.specs.declared.inst.Inst.{Inst}
use Rattle.mx_isa.specs.Words.{Words, write}
use Rattle.mx_isa.specs.Effect.{Found, stored, sent}
use Rattle.mx_isa.specs.Views.{dest, is_halt}
use Rattle.mx_board.specs.Data.{board, words_of}
use Rattle.mx_pcchain.specs.declared.psw.Psw.{Psw}
use Rattle.mx_turn.specs.Stages.{live, address_of}
use Rattle.mx_turn.specs.System.{seen, slot_of}
use Rattle.mx_pipe.specs.Latched.{Latched, does}
use Rattle.mx_pipe.specs.Made.{reached, takes_byte, sends, chain_kept, md_kept}
use Rattle.mx_pipe.specs.Kept.{IsRead}
use Rattle.mx_pipe.proofs.Makes.{is_made, slot_is, halt_is}
use Rattle.mx_pipe.proofs.pipe.Pipe.commit.Goals as goal

pub returns-clause-state : goal.returns-clause-state
returns-clause-state g c = λ code m h.
    let self = c.args.self.now in
    let i : Inst = live code m.alu in
    let at : ℕ = address_of m.alu in
    let u : Bool = m.psw.current.user in
    let r : Words = seen m.slot m.core.regs in
    let find : ℕ → Found = (board u self.board.input).load m.core.mem m.core.taken in
    let is = is_made u m.chain i at r m.core.md find in
    let user : self.psw.current.user ≡ u = ap (λ (x : Psw). x.current.user) h.rest.psw in
    let finds : (board self.psw.current.user self.board.input).load (words_of self.board) self.board.taken ≡ find =
    (λ k. (board (user k) self.board.input).load (h.rest.words k) (h.rest.taken k)) in
    let file : slice_index c.write_back.new.file ≡ m.core.regs =
    c.write_back.ensures h.behind.within ∙ (λ k. write (slice_index self.file) (h.behind.to k) self.mem.result) ∙ h.behind.regs in
    record {
      fetch = refl;
      rf = h.fetch;
      alu = subst (IsRead code self.rf m.rf) (sym file) h.rf;
      behind = record {
        mem = ap (λ (l : Latched). l.word) c.reach.ensures.result ∙ h.alu.word;
        wb = ap (λ (l : Latched). l.word) c.follow.ensures ∙ h.behind.mem;
        to = ap (λ (l : Latched). l.b) c.reach.ensures.result ∙ sym (ap (λ (l : Latched). dest (does l)) c.reach.ensures.result);
        within = c.reach.ensures.within;
        file = file;
        regs =
            (λ k. write (file k) (dest (does (c.reach.ensures.result k))) (c.reach.ensures.result k).result)
            ∙ (λ k. write m.core.regs (dest (h.alu.inst k)) (reached (h.alu.inst k) (h.alu.result k) (finds k)))
            ∙ is.written m.core.regs;
        slot =
            (λ k. slot_of (does (c.reach.ensures.result k)) (file k))
            ∙ (λ k. slot_of (h.alu.inst k) m.core.regs)
            ∙ slot_is u i m.core.regs;
      };
      rest = record {
        next = h.rest.next;
        md =
            c.reach.ensures.md
            ∙ (λ k. md_kept self.alu.inst self.alu.result self.alu.md (h.rest.md k))
            ∙ h.alu.md
            ∙ is.leaves;
        words =
            c.reach.ensures.words
            ∙ (λ k. stored (board (user k) self.board.input) (sends (h.alu.inst k) (h.alu.result k) (h.alu.b k)) (h.rest.words k))
            ∙ ap (λ s. stored (board u self.board.input) s m.core.mem) is.stored;
        taken =
            c.reach.ensures.taken
            ∙ (λ k. cond (takes_byte (h.alu.inst k) (h.alu.result k) (finds k)) (suc (h.rest.taken k)) (h.rest.taken k))
            ∙ ap (λ b. cond b (suc m.core.taken) m.core.taken) is.takes;
        chain =
            c.reach.ensures.chain
            ∙ (λ k. chain_kept (user k) (h.alu.inst k) (h.alu.result k) (h.rest.chain k))
            ∙ is.chain;
        psw = h.rest.psw;
        asked = h.rest.asked;
        halted = c.reach.ensures.halted ∙ ap is_halt h.alu.inst ∙ halt_is u i;
        shown = h.rest.shown;
        short = h.rest.short;
      };
    }

pub returns-clause-byte : goal.returns-clause-byte
returns-clause-byte g c = λ code m h.
    let self = c.args.self.now in
    let i : Inst = live code m.alu in
    let u : Bool = m.psw.current.user in
    let find : ℕ → Found = (board u self.board.input).load m.core.mem m.core.taken in
    let user : self.psw.current.user ≡ u = ap (λ (x : Psw). x.current.user) h.rest.psw in
    c.reach.ensures.byte
    ∙ (λ k. sent (board (user k) self.board.input) (sends (h.alu.inst k) (h.alu.result k) (h.alu.b k)))
    ∙ ap (λ s. sent (board u self.board.input) s) (is_made u m.chain i (address_of m.alu) (seen m.slot m.core.regs) m.core.md find).stored
