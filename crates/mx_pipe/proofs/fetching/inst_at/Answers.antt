use Rattle.std.proofs.Common.{◌≡◌, ◌-◌, ℕ, Bool, true, false, cond, leb, Option, refl, sym, ap, ◌∙◌, arith}
use Rattle.std.specs.Prelude.{unwrap_or, option_and_then, slice_get}
use Rattle.std.proofs.lemmas.Bool.{cond-true}
use Rattle.std.proofs.lemmas.Bool.Decides.{nat_tests}
use Rattle.mx_isa.specs.declared.board.TheConstants.{CODE_BASE}
use Rattle.mx_isa.specs.declared.inst.Inst.{Inst}
use Rattle.mx_code.specs.Decoding.{inst_of}
use Rattle.mx_delay.specs.Delay.{Code, code_from, idle}
use Rattle.mx_pipe.proofs.fetching.inst_at.Goals as goal

-- the user's code is asked for from 4096 on alone
chosen : (b : Bool) (x y : Option ℕ)
    → unwrap_or (option_and_then inst_of (cond b x y)) idle ≡ cond b (cond b (unwrap_or (option_and_then inst_of x) idle) idle)
    (unwrap_or (option_and_then inst_of y) idle)
chosen true x y = refl
chosen false x y = refl

pub returns-clause-what : goal.returns-clause-what
returns-clause-what c = λ short.
    let a : ℕ = c.args.address in
    let user : Code = code_from inst_of CODE_BASE c.args.code.now in
    let from : ℕ → Inst = λ k. unwrap_or (option_and_then inst_of (slice_get c.args.handler.now k)) idle in
    let any : leb 0 a ≡ true = grind (arith, nat_tests) in
    let same : a ≡ a - 0 = omega arith in
    ap (λ o. unwrap_or o idle) (c.decode.ensures.exact ∙ c.word_of.ensures short)
    ∙ chosen (leb CODE_BASE a) (slice_get c.args.code.now (a - CODE_BASE)) (slice_get c.args.handler.now a)
    ∙ ap (cond (leb CODE_BASE a) (user a)) (ap from same ∙ sym (cond-true (leb 0 a) (from (a - 0)) idle any))
