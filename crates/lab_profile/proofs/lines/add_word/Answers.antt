use Rattle.std.proofs.Common.{◌+◌, ◌∙◌, ap}
use Rattle.lab_profile.specs.Lines.{saturated}
use Rattle.lab_profile.proofs.lines.add_word.Goals as goal

pub returns-clause-executed : goal.returns-clause-executed
returns-clause-executed c i n l e = c.add.ensures.executed i n l e ∙ ap (λ k. saturated (n + k)) (c.word_cost-statement.ensures.executed i)

pub returns-clause-penalty : goal.returns-clause-penalty
returns-clause-penalty c i n l e = c.add.ensures.penalty i n l e ∙ ap (λ k. saturated (n + k)) (c.word_cost-statement.ensures.penalty i)
