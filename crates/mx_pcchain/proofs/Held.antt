-- The word of a stage tells the stage, and is told by it.
use Rattle.std.proofs.Common.{◌≡◌, ℕ, ◌≤◌, ◌^◌, arith}
use Rattle.std.proofs.lemmas.Grind.{common_steps}
use Rattle.mx_pcchain.specs.Held.{stage_from, word_of_stage}

pub word_of-stage_from : (w : ℕ) → w ≤ 2 ^ 32 → word_of_stage (stage_from w) ≡ w
word_of-stage_from w h = grind (arith, common_steps)
