use Rattle.std.proofs.Common.{◌≡◌, sym, ap, ◌∙◌}
use Rattle.std.specs.Prelude.{slice_index}
use Rattle.mx_isa.specs.Views.{sources}
use Rattle.mx_isa.specs.Words.{reg}
use Rattle.mx_delay.specs.Delay.{Code}
use Rattle.mx_turn.specs.Stages.{live, address_of}
use Rattle.mx_turn.specs.System.{seen, number_of}
use Rattle.mx_turn.specs.Cycle.{MachineState, first, second}
use Rattle.mx_pipe.specs.Made.{allowed, passed, md_behind, md_kept}
use Rattle.mx_pipe.specs.Courses.{course_of, target_of}
use Rattle.mx_pipe.specs.Kept.{Commits}
use Rattle.mx_pipe.proofs.Makes.{newest_is}
use Rattle.mx_pipe.proofs.pipe.Pipe.compute.Goals as goal
use Rattle.mx_pipe.proofs.pipe.Pipe.compute.Goals.{After-make}
use Rattle.mx_pipe.proofs.pipe.Pipe.compute.Given as given

module _ (g : given.Over) (c : After-make g) (code : Code) (m : MachineState) (h : Commits code c.args.self.now m) where
  a_is : c.make.new.alu.a ≡ first code m
  a_is =
      c.make.ensures.a (slice_index c.args.self.now.file) (h.alu.a ∙ (λ k. reg (slice_index c.args.self.now.file) (sources (sym h.alu.inst k)).0))
      ∙ (λ k. passed c.args.mem.now.passes c.args.mem.now.word (sources (h.alu.inst k)).0 (h.alu.a k))
      ∙ newest_is code c.args.self.now m h c.args.mem.now c.requires (sources (live code m.alu)).0

  b_is : c.make.new.alu.b ≡ second code m
  b_is =
      c.make.ensures.b (slice_index c.args.self.now.file) (h.alu.b ∙ (λ k. reg (slice_index c.args.self.now.file) (sources (sym h.alu.inst k)).1))
      ∙ (λ k. passed c.args.mem.now.passes c.args.mem.now.word (sources (h.alu.inst k)).1 (h.alu.b k))
      ∙ newest_is code c.args.self.now m h c.args.mem.now c.requires (sources (live code m.alu)).1

pub returns-clause-made : goal.returns-clause-made
returns-clause-made g c = λ code m h.
    let a = a_is g c code m h in
    let b = b_is g c code m h in
    record {
      word = c.make.ensures.word ∙ h.alu.word;
      inst = c.make.ensures.inst ∙ (λ k. allowed (h.rest.psw k).current.user (h.alu.inst k));
      a = a;
      b = b;
      result =
          c.make.ensures.number
          ∙ (λ k. number_of (h.rest.psw k).current.user (h.rest.chain k) (h.alu.inst k) (address_of (h.alu.word k)) (a k) (b k) (h.rest.md k));
      md =
          ap (λ x. md_kept c.make.new.alu.inst c.make.new.alu.result c.make.new.alu.md x) (sym h.rest.md)
          ∙ c.make.ensures.md
          ∙ (λ k. md_behind (h.alu.inst k) (a k) (b k) (h.rest.md k));
    }

pub returns-clause-target : goal.returns-clause-target
returns-clause-target g c = λ code m h.
    let sees = seen m.slot m.core.regs in
    c.make.ensures.target sees
    (a_is g c code m h ∙ (λ k. reg sees (sources (sym h.alu.inst k)).0))
    (b_is g c code m h ∙ (λ k. reg sees (sources (sym h.alu.inst k)).1))
    ∙ (λ k. target_of (course_of (h.alu.inst k) (address_of (h.alu.word k)) (h.rest.next k).address sees))
