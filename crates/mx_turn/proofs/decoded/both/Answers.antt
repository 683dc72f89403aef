use Rattle.std.proofs.Common.{◌≡◌, ◌≤◌, ◌-◌, ◌++◌, length, map, replicate, take, sym, ap, ◌∙◌, subst}
use Rattle.std.proofs.lemmas.List.{length-map, take_all}
use Rattle.mx_isa.specs.declared.board.TheConstants.{CODE_BASE}
use Rattle.mx_delay.specs.Delay.{idle}
use Rattle.mx_turn.specs.Decoded.{what_of}
use Rattle.mx_turn.proofs.decoded.both.Goals as goal

pub returns-clause-what : goal.returns-clause-what
returns-clause-what c =
    let handler = c.args.handler.now in
    let short : length (map what_of handler) ≤ CODE_BASE = subst (λ n. n ≤ CODE_BASE) (sym (length-map handler what_of)) c.requires.handler in
    let insts = c.in_ok-insts.insts in
    let many : insts.len ≡ length handler = insts.ok.0 ∙ ap length c.in_ok-insts.ensures.what ∙ length-map handler what_of in
    c.in_ok-extend_from_slice.ensures.items
    ∙ (λ k. c.in_ok-resize.ensures.items k ++ c.deref.ensures.value k)
    ∙ (λ k. (take CODE_BASE (c.in_ok-insts.ensures.what k) ++ replicate (CODE_BASE - many k) idle) ++ c.in_ok-all_of.ensures.what k)
    ∙ (λ k. (take_all CODE_BASE (map what_of handler) short k ++ replicate (CODE_BASE - length handler) idle) ++ map what_of c.args.user.now)
