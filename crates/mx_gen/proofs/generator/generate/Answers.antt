use Rattle.std.proofs.Common.{◌≤◌, length, ◌≡◌, ℕ, List, sym, subst}
use Rattle.std.proofs.lemmas.Result.{IfOk-weaker}
use Rattle.mx_isa.specs.declared.place.Place.{Place}
use Rattle.mx_source.specs.SourceValue.{SourceValue}
use Rattle.mx_gen.specs.Generated.{generated}
use Rattle.mx_gen.specs.Board.{IsBoard, HaltsWithin, IsNeverStuck}
use Rattle.mx_gen.specs.Near.{AllNear}
use Rattle.mx_gen.proofs.Sounds.{generated_few}
use Rattle.mx_gen.proofs.Halting.{generated_halts, generated_runs}
use Rattle.mx_gen.proofs.Nears.{generated_near}
use Rattle.mx_gen.proofs.generator.generate.Goals as goal

pub returns-clause-halts : goal.returns-clause-halts
returns-clause-halts c =
    IfOk-weaker c.drafted.result (λ s. s ≡ generated c.args.seed c.args.count)
    (λ s. (place : Place) (input : List ℕ) → IsBoard place → HaltsWithin 40009 s place input)
    (λ s e. subst (λ (v : SourceValue). (place : Place) (input : List ℕ) → IsBoard place → HaltsWithin 40009 v place input) (sym e)
    (λ place input board. generated_halts c.args.seed c.args.count c.requires place input board)) c.drafted.ensures

pub returns-clause-near : goal.returns-clause-near
returns-clause-near c = IfOk-weaker c.drafted.result (λ s. s ≡ generated c.args.seed c.args.count) (λ s. AllNear s.statements)
    (λ s e. subst (λ (v : SourceValue). AllNear v.statements) (sym e) (generated_near c.args.seed c.args.count)) c.drafted.ensures

pub returns-clause-never_stuck : goal.returns-clause-never_stuck
returns-clause-never_stuck c =
    IfOk-weaker c.drafted.result (λ s. s ≡ generated c.args.seed c.args.count)
    (λ s. (place : Place) (input : List ℕ) → IsBoard place → IsNeverStuck s place input)
    (λ s e. subst (λ (v : SourceValue). (place : Place) (input : List ℕ) → IsBoard place → IsNeverStuck v place input) (sym e)
    (λ place input board. generated_runs c.args.seed c.args.count c.requires place input board)) c.drafted.ensures

pub returns-clause-few : goal.returns-clause-few
returns-clause-few c = IfOk-weaker c.drafted.result (λ s. s ≡ generated c.args.seed c.args.count) (λ s. length s.statements ≤ 16009)
    (λ s e. subst (λ (v : SourceValue). length v.statements ≤ 16009) (sym e) (generated_few c.args.seed c.args.count c.requires)) c.drafted.ensures
