-- A list that grows twice begins with what it was.
use Rattle.std.proofs.Common.{ℕ, ◌≤◌, List, take, length, sym, ◌∙◌, ap, arith}
use Rattle.std.proofs.lemmas.List.{take-take, length-take, take_all}
use Rattle.cc_lines.specs.Bytes.{Extends}

pub extends_more : (a b c : List ℕ) → Extends a b → Extends b c → Extends a c
extends_more a b c first second =
    let shorter : length a ≤ length b = omega (arith, length-take (length a) b, ap length first) in
    sym (take-take (length a) (length b) c shorter) ∙ ap (take (length a)) second ∙ first

pub extends_same : (a : List ℕ) → Extends a a
extends_same a = take_all (length a) a (omega arith)
