use Rattle.std.proofs.Common.{◌≡◌, ℕ, false, Some, sym, subst}
use Rattle.std.specs.Prelude.{slice_get, MatchOption}
use Rattle.mx_blocks.specs.declared.block.Block.{Block}
use Rattle.mx_blocks.specs.declared.block.End.{End}
use Rattle.mx_squash.specs.Copies.{is_target}
use Rattle.mx_squash.specs.Ordered.{IsFound}
use Rattle.mx_squash.proofs.search.target_of.Goals as goal

pub returns-in-Branches-clause-found : goal.returns-in-Branches-clause-found
returns-in-Branches-clause-found c =
    subst
    (λ (e : End). MatchOption c.index_of.result ((i : ℕ) (b : Block) → slice_get c.args.blocks.now i ≡ Some b → is_target e b ≡ false)
    (IsFound (is_target e) c.args.blocks.now))
    (sym c.in-Branches.is)
    c.index_of.ensures.found

pub returns-in-Calls-clause-found : goal.returns-in-Calls-clause-found
returns-in-Calls-clause-found c =
    subst
    (λ (e : End). MatchOption c.index_of-in-Calls.result ((i : ℕ) (b : Block) → slice_get c.args.blocks.now i ≡ Some b → is_target e b ≡ false)
    (IsFound (is_target e) c.args.blocks.now))
    (sym c.in-Calls.is)
    c.index_of-in-Calls.ensures.found
