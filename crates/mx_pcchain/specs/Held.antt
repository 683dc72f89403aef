-- How a stage and the next fetch are kept as words.
use Rattle.std.specs.Prelude.{ℕ, ◌^◌, cond, leb, Option, Some, None}
use Rattle.mx_pcchain.specs.Fetch.{Fetch}
use Rattle.mx_pcchain.specs.Chain.{entry_of, fetch_from}

-- the stage of a word: that of a fetch, or 2 ^ 32 for an empty one
abbrev pub stage_from : ℕ → Option Fetch
stage_from word = cond (leb (2 ^ 32) word) None (Some (fetch_from word))

abbrev pub word_of_stage : Option Fetch → ℕ
word_of_stage None = 2 ^ 32
word_of_stage (Some f) = entry_of f
