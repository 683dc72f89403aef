use Rattle.std.proofs.Common.{ℕ, ◌+◌, ◌*◌, ◌++◌, ◌∷◌, [], List, length, sym, ap, ◌∙◌, subst, arith}
use Rattle.std.specs.List.Sorted.{IsStrictlyIncreasing}
use Rattle.cmd_soak.proofs.Multiples.{multiples-zero, multiples-more, length-multiples, multiples_ascend}
use Rattle.cmd_soak.proofs.soaking.requests_at.Goals as goal

pub loop-i-init : goal.loop-i-init
loop-i-init c = c.new-cycles.ensures.items ∙ sym (multiples-zero c.args.interval)

pub loop-i-preserved : goal.loop-i-preserved
loop-i-preserved c =
    c.in-Ok.ensures.items
    ∙ ap (λ xs. xs ++ (c.args.interval * (c.loop-i.i + 1)) ∷ []) c.loop-i.invariant
    ∙ sym (multiples-more c.args.interval c.loop-i.i)

pub of-requires-clause-count : goal.of-requires-clause-count
of-requires-clause-count c =
    let same = ap length (c.as_slice.ensures.value ∙ c.loop-i.invariant) in
    let count = length-multiples c.args.interval c.loop-i.i in
    omega arith

pub of-requires-clause-ascending : goal.of-requires-clause-ascending
of-requires-clause-ascending c =
    subst (λ (xs : List ℕ). IsStrictlyIncreasing xs) (sym (c.as_slice.ensures.value ∙ c.loop-i.invariant))
    (multiples_ascend c.args.interval c.loop-i.i c.requires.apart)
