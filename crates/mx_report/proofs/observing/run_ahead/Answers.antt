use Rattle.std.proofs.Common.{List, Bool, sym, ap, ◌∙◌, subst}
use Rattle.mx_turn.specs.Program.{state_after}
use Rattle.mx_turn.specs.Run.{bits}
use Rattle.mx_report.proofs.Rising.{passed}
use Rattle.mx_report.proofs.observing.run_ahead.Goals as goal

pub returns-clause-after : goal.returns-clause-after
returns-clause-after g c =
    (passed c.args.list.now c.requires.ascending c.args.cursor.now c.args.cycle c.requires.before c.in_ok-done.done c.cycles_until-quiet.result c.args.to
    c.cycles_until-quiet.ensures c.in_ok-done.ensures.most).1

pub returns-clause-stands : goal.returns-clause-stands
returns-clause-stands g c = λ p s.
    let bits_are = (passed c.args.list.now c.requires.ascending c.args.cursor.now c.args.cycle c.requires.before c.in_ok-done.done
    c.cycles_until-quiet.result c.args.to c.cycles_until-quiet.ensures c.in_ok-done.ensures.most).0 in
    subst (λ (h : List Bool). g.M.Machine.stands c.advance.new.machine p h) (sym bits_are)
    (c.in_ok-done.ensures.next p (bits c.args.list.now c.args.cycle) s)

pub returns-clause-going : goal.returns-clause-going
returns-clause-going g c = λ p s going.
    let bits_are = (passed c.args.list.now c.requires.ascending c.args.cursor.now c.args.cycle c.requires.before c.in_ok-done.done
    c.cycles_until-quiet.result c.args.to c.cycles_until-quiet.ensures c.in_ok-done.ensures.most).0 in
    ap (λ (h : List Bool). (state_after p h).halted) bits_are ∙ c.in_ok-done.ensures.going p (bits c.args.list.now c.args.cycle) s going

pub returns-clause-saw : goal.returns-clause-saw
returns-clause-saw g c = λ p s going saw.
    let bits_are = (passed c.args.list.now c.requires.ascending c.args.cursor.now c.args.cycle c.requires.before c.in_ok-done.done
    c.cycles_until-quiet.result c.args.to c.cycles_until-quiet.ensures c.in_ok-done.ensures.most).0 in
    c.in_ok-done.ensures.saw p c.args.list.now bits_are s going saw
