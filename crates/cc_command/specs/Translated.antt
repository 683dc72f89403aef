-- What is handed out once the translation is done.
use Rattle.std.specs.Prelude.{◌≡◌, ◌⊎◌, ℕ, List}
use Rattle.cmd_answer.specs.declared.status.Status.TheVariants.{Done}
use Rattle.cmd_answer.specs.Answer.{Answer, prints, writes}
use Rattle.cc_fits.specs.Translations.{IsTranslation}

-- the answer prints this text, or writes it to a file
abbrev pub HandsOut : List ℕ → Answer → Type 0
HandsOut text answer = (answer ≡ prints Done text) ⊎ ((name : List ℕ) × (answer ≡ writes name text))

-- an answer that is done hands out a translation
abbrev pub IsTranslated : Answer → Type 0
IsTranslated answer = answer.status ≡ Done → (text : List ℕ) × IsTranslation text × HandsOut text answer
