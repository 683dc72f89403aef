use Rattle.std.proofs.Common.{◌≡◌, ◌+◌, ◌-◌, ◌++◌, length, ap, ◌∙◌}
use Rattle.std.proofs.Math.ListN.{get_or, replicate}
use Rattle.std.proofs.lemmas.Grind.{common_steps}
use Rattle.std.proofs.Common.{arith}
use Rattle.mx_source.specs.declared.statement.Value.TheVariants.{Int}
use Rattle.mx_seq.proofs.Zeros.{get_or-between}
use Rattle.mx_seq.proofs.user_data.filled.Goals as goal

pub returns-clause-words : goal.returns-clause-words
returns-clause-words c =
    let place = c.args.place in
    let words = c.args.words.now in
    let n = place.end - (place.user_data + length words) in
    let shape : c.resize-2.new.self.items ≡ (replicate place.user_data (Int 0) ++ words) ++ replicate n (Int 0) = grind (arith, common_steps) in
    λ i a. (ap (λ xs. get_or xs a (Int 0)) shape ∙ get_or-between place.user_data n words a (Int 0)) i
