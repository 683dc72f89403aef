use Rattle.std.proofs.Common.{◌≡◌, Option, replicate, ◌∷◌, [], not, cond, false, sym, ap, ◌∙◌, subst}
use Rattle.std.specs.Prelude.{slice_index}
use Rattle.mx_isa.specs.declared.board.TheConstants.{CODE_BASE, DATA_BASE}
use Rattle.mx_isa.specs.Words.{reg}
use Rattle.mx_isa.specs.Views.{sources}
use Rattle.mx_code.specs.Decoding.{inst_of}
use Rattle.mx_delay.specs.Delay.{code_from, data_from}
use Rattle.mx_icache.specs.Residency.{resident}
use Rattle.mx_pcchain.specs.Fetch.{Fetch}
use Rattle.mx_turn.specs.declared.latches.Latches.{Latches}
use Rattle.mx_turn.specs.declared.latches.Stage.TheVariants.{Empty}
use Rattle.mx_turn.specs.Decoded.{code_in}
use Rattle.mx_turn.specs.Stages.{live, address_of, stage_of}
use Rattle.mx_turn.specs.System.{seen, number_of}
use Rattle.mx_turn.specs.Program.{code_with}
use Rattle.mx_turn.proofs.Stands.{no_registers, none_resident}
use Rattle.mx_turn.proofs.turns.Turns.with.Goals as goal
use Rattle.mx_turn.proofs.turns.Turns.with.Goals.{After-none}
use Rattle.mx_turn.proofs.turns.Turns.with.Given as given

-- the machine that is made shows nothing
module _ (g : given.Over) (c : After-none g) where
  abbrev showing : Option Fetch → Option Fetch → Option Fetch → Option Fetch → Option Fetch → Latches
  showing fetch rf alu mem wb =
      let i = live (code_in c.in_ok-code.code) alu in
      let sees = seen c.no_slot.result (slice_index (replicate 32 0)) in
      let a = reg sees (sources i).0 in
      let b = reg sees (sources i).1 in
      record {
        fetch = stage_of fetch;
        rf = stage_of rf;
        alu = stage_of alu;
        mem = stage_of mem;
        wb = stage_of wb;
        a = a;
        b = b;
        result = number_of c.start.result.current.user c.new-3.result i (address_of alu) a b 0;
      }

  abbrev nothing : Latches
  nothing = record { fetch = Empty; rf = Empty; alu = Empty; mem = Empty; wb = Empty; a = 0; b = 0; result = 0 }

  shown_at : showing c.empty.result c.empty-2.result c.empty-3.result c.empty-4.result c.empty-5.result ≡ nothing
  shown_at = λ k. showing (c.empty.ensures k) (c.empty-2.ensures k) (c.empty-3.ensures k) (c.empty-4.ensures k) (c.empty-5.ensures k)

pub returns : goal.returns
returns g c = record {
  past = [];
  before = λ n. 0;
  cache = subst (λ (f : Fetch). g.C.FetchCache.holds c.fetch-hit.new.self (f.address ∷ [])) (sym c.at-next.ensures)
      (c.fetch-hit.ensures.next [] c.requires.empty);
  missed = subst (λ (f : Fetch). not c.fetch-hit.result ≡ not (resident [] f.address)) (sym c.at-next.ensures)
      (ap not (c.fetch-hit.ensures.answer [] c.requires.empty));
  code = c.in_ok-code.ensures ∙ (λ k. code_with (code_from inst_of 0 c.args.handler.now) (code_from inst_of CODE_BASE (c.deref.ensures.value k)));
  input = c.in_ok-board.ensures.input;
  state = λ k. record {
    next = c.at-next.ensures k;
    fetch = c.empty.ensures k;
    rf = c.empty-2.ensures k;
    alu = c.empty-3.ensures k;
    mem = c.empty-4.ensures k;
    wb = c.empty-5.ensures k;
    past = [];
    stall = (c.stall_of.ensures ∙ ap (λ b. cond b 0 2) (c.fetch-hit.ensures.answer [] c.requires.empty ∙ none_resident CODE_BASE)) k;
    latch = false;
    core = record {
      regs = no_registers k;
      md = 0;
      mem = (c.in_ok-board.ensures.words ∙ ap (data_from DATA_BASE) c.deref-2.ensures.value) k;
      taken = c.in_ok-board.ensures.taken k;
    };
    before = λ n. 0;
    slot = c.no_slot.ensures k;
    chain = c.new-3.ensures k;
    psw = c.start.ensures k;
    halted = false;
    shown = shown_at g c k;
    counts = c.none.ensures k;
  };
}
