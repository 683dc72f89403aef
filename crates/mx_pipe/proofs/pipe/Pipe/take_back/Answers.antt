use Rattle.std.proofs.Common.{◌≤◌, length, sym, ap, ◌∙◌, subst}
use Rattle.std.specs.Prelude.{slice_index}
use Rattle.mx_isa.specs.Words.{reg}
use Rattle.mx_isa.specs.Views.{dest}
use Rattle.mx_pipe.specs.Latched.{does}
use Rattle.mx_turn.specs.Decoded.{code_in}
use Rattle.mx_pipe.proofs.Lanes.{read_same, commits_back}
use Rattle.mx_pipe.proofs.pipe.Pipe.take_back.Goals as goal

pub returns-clause-state : goal.returns-clause-state
returns-clause-state g c = λ past before counts short left.
    let self = c.args.self.now in
    let l = c.args.lane.now in
    let code = code_in self.decoded in
    let first = c.take_mem.ensures in
    let second = c.take_rf.ensures in
    let third = c.take_rest.ensures in
    let p = c.take_rest.new.self in
    let mem = ap (λ x. x.mem) third.rest ∙ ap (λ x. x.mem) second.rest in
    let file = ap (λ x. x.file) third.rest ∙ ap (λ x. x.file) second.rest in
    let code_is = ap (λ x. code_in x.decoded) first.rest in
    commits_back code p l self.board past before self.shown counts left
    (ap (λ x. x.fetch.word) third.rest)
    (read_same l.alu code_is (sym (ap (λ x. x.rf) third.rest)) (sym (ap (λ x. slice_index x.file) third.rest ∙ ap (λ x. slice_index x.file) second.rest))
    second.read)
    (ap (λ x. x.word) mem ∙ first.word)
    (ap does mem ∙ first.inst)
    (ap (λ x. x.b) mem ∙ first.to ∙ sym (ap (λ x. dest (does x)) mem))
    (subst (λ n. n ≤ 31) (sym (ap (λ x. x.b) mem)) first.within)
    (ap (λ x. x.result) mem ∙ first.result ∙ sym (ap (λ x. reg (slice_index l.registers.file) (dest (does x))) mem))
    (ap (λ x. x.wb.word) third.rest)
    (ap slice_index file ∙ first.file before left)
    (ap (λ x. x.next) third.rest)
    (ap (λ x. x.md) third.rest)
    (ap (λ x. x.board) third.rest ∙ ap (λ x. x.board) second.rest ∙ ap (λ x. x.board) first.rest)
    (ap (λ x. x.chain) third.rest)
    (ap (λ x. x.psw) third.rest)
    (ap (λ x. x.asked) third.rest ∙ ap (λ x. x.asked) second.rest ∙ ap (λ x. x.asked) first.rest ∙ c.requires.asked)
    (ap (λ x. x.halted) third.rest ∙ ap (λ x. x.halted) second.rest ∙ ap (λ x. x.halted) first.rest ∙ c.requires.running)
    (ap (λ x. x.shown) third.rest ∙ ap (λ x. x.shown) second.rest ∙ ap (λ x. x.shown) first.rest)
    (subst (λ x. length x.items ≤ 60000) (sym (ap (λ x. x.code) third.rest ∙ ap (λ x. x.code) second.rest ∙ ap (λ x. x.code) first.rest)) short)
