use Rattle.std.proofs.Common.{◌≡◌, length, arith, true≢false, refl, sym, ap, ◌∙◌, cond}
use Rattle.mx_isa.specs.declared.board.TheConstants.{CODE_BASE, DATA_BASE}
use Rattle.mx_isa.specs.Words.{write}
use Rattle.mx_isa.specs.Views.{dest}
use Rattle.mx_code.specs.Decoding.{inst_of}
use Rattle.mx_delay.specs.Delay.{code_from, data_from}
use Rattle.mx_turn.specs.Program.{code_with}
use Rattle.mx_turn.specs.System.{slot_of}
use Rattle.mx_turn.proofs.Stands.{no_registers, none_resident}
use Rattle.mx_pipe.specs.Latched.{does}
use Rattle.mx_pipe.specs.Made.{md_kept}
use Rattle.mx_pipe.proofs.pipe.Pipe.with.Goals as goal

pub returns : goal.returns
returns g c = record {
  code = c.in_ok-code.ensures ∙ c.deref-2.ensures.value;
  handler = c.in_ok-handler.ensures;
  decoded = c.in_ok-decoded.ensures ∙ (λ k. code_with (code_from inst_of 0 c.args.handler.now) (code_from inst_of CODE_BASE (c.deref.ensures.value k)));
  input = c.in_ok-board.ensures.input;
  waits = (c.requires.empty, λ k. cond (sym (none_resident CODE_BASE) k) 0 2);
  counts = c.none.ensures;
  tied = record {
    fetch = λ k. (c.cleared.ensures k).word;
    rf = record {
      word = λ k. (c.cleared-2.ensures k).word;
      inst = λ k. does (c.cleared-2.ensures k);
      a = λ k. (c.cleared-2.ensures k).a;
      b = λ k. (c.cleared-2.ensures k).b;
    };
    alu = record {
      word = λ k. (c.cleared-3.ensures k).word;
      inst = λ k. does (c.cleared-3.ensures k);
      a = λ k. (c.cleared-3.ensures k).a;
      b = λ k. (c.cleared-3.ensures k).b;
      result = λ k. (c.cleared-3.ensures k).result;
      md = λ k. md_kept (c.cleared-3.ensures k).inst (c.cleared-3.ensures k).result (c.cleared-3.ensures k).md 0;
    };
    behind = record {
      mem = λ k. (c.cleared-4.ensures k).word;
      wb = λ k. (c.cleared-5.ensures k).word;
      to = (λ k. (c.cleared-4.ensures k).b) ∙ sym (λ k. dest (does (c.cleared-4.ensures k)));
      within = let none : c.cleared-4.result.b ≡ 0 = λ k. (c.cleared-4.ensures k).b in omega (arith, none);
      file = no_registers;
      regs = λ k. write (no_registers k) (dest (does (c.cleared-4.ensures k))) (c.cleared-4.ensures k).result;
      slot = λ k. slot_of (does (c.cleared-4.ensures k)) (no_registers k);
    };
    rest = record {
      next = c.fetch_of.ensures;
      md = refl;
      words = c.in_ok-board.ensures.words ∙ ap (data_from DATA_BASE) c.deref-3.ensures.value;
      taken = c.in_ok-board.ensures.taken;
      chain = c.new-3.ensures;
      psw = c.start.ensures;
      asked = refl;
      halted = refl;
      shown = c.before_turns.ensures;
      short =
          let same = ap length (c.in_ok-code.ensures ∙ c.deref-2.ensures.value) in
          let few = c.args.image.now.code_within in
          let long = c.args.image.now.code.ok in
          omega (arith, same, few, long);
    };
  };
  shows = record { older = refl; younger = λ e. absurd (true≢false (sym e)) };
}
