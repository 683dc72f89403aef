-- The files of modules, read one after the other.
use Rattle.std.proofs.Common.{◌≡◌, ℕ, ◌+◌, ◌++◌, ◌<◌, List, [], ◌∷◌, length, drop, get_or, refl, subst}
use Rattle.std.specs.Borrow.{Bor}
use Rattle.std.proofs.lemmas.List.{at_drop_more}
use Rattle.cmd_line.specs.Command.{texts}
use Rattle.cmd_answer.specs.declared.FileKind.TheVariants.{Module}
use Rattle.cmd_answer.specs.Answer.{Answer}
use Rattle.mx_io.specs.Shelves.{Told, Counts}
use Rattle.cmd_answer.specs.Protocol.{Protocol, Reads, Performed}
use Rattle.cmd_source.proofs.Readings.{FileGiven, FileRefused}
use Rattle.mx_command.specs.Protocols.{join_answer, modules_protocol}

-- what is performed by the names that are left, behind these texts, is performed by all names
abbrev pub Continues : Told → List (List ℕ) → List (List ℕ) → List (List ℕ) → Counts → Counts → Type 0
Continues told names left found before now =
    (after : Counts) (answer : Answer) → Performed told (modules_protocol left found) now after answer
    → Performed told (modules_protocol names []) before after answer

module _ (told : Told) (names rest found : List (List ℕ)) (name : List ℕ) (number : ℕ) (before now later : Counts) (e : number ≡ length found + 1)
    (goes : Continues told names (name ∷ rest) found before now) where
  -- behind the next file
  pub reads_next : (text : List ℕ) → FileGiven told (Module number) name now later text → Continues told names rest (found ++ text ∷ []) before later
  reads_next text given = λ after answer performed.
      let next : List ℕ → Protocol = λ t. modules_protocol rest (found ++ t ∷ []) in
      goes after answer (subst (λ n. Performed told (Reads (Module n) name next) now after answer) e (given next after answer performed))

  -- a fault of the next file is the answer
  pub read_fails : (answer : Answer) → FileRefused told (Module number) name now later answer → Performed told (modules_protocol names []) before later answer
  read_fails answer failed =
      let next : List ℕ → Protocol = λ t. modules_protocol rest (found ++ t ∷ []) in
      goes later answer (subst (λ n. Performed told (Reads (Module n) name next) now later answer) e (failed next))

-- behind the last file
pub all_read :
    (told : Told) (names found : List (List ℕ)) (before now : Counts) → Continues told names [] found before now
    → Performed told (modules_protocol names []) before now (join_answer found)
all_read told names found before now goes = goes now (join_answer found) (refl, refl)

-- the name at a place is the first of those from there on
left_more :
    (names : List (Bor (List ℕ))) (i : ℕ) (d : Bor (List ℕ)) → i < length names
    → texts (drop i names) ≡ (get_or names i d).now ∷ texts (drop (i + 1) names)
left_more names i d lt = at_drop_more texts names i d lt

module _ (told here : Told) (names : List (Bor (List ℕ))) (i : ℕ) (d : Bor (List ℕ)) (found : List (List ℕ)) (number : ℕ) (before now later : Counts)
    (lt : i < length names)
    (e : number ≡ length found + 1) (same : here ≡ told) (goes : Continues told (texts names) (texts (drop i names)) found before now) where
  abbrev name : List ℕ
  name = (get_or names i d).now

  goes_on : Continues told (texts names) (name ∷ texts (drop (i + 1) names)) found before now
  goes_on = subst (λ left. Continues told (texts names) left found before now) (left_more names i d lt) goes

  -- the file of the name at this place gives a text, and the next one is read
  pub next_is_read : (text : List ℕ) → FileGiven here (Module number) name now later text
      → Continues told (texts names) (texts (drop (i + 1) names)) (found ++ text ∷ []) before later
  next_is_read text given =
      reads_next told (texts names) (texts (drop (i + 1) names)) found name number before now later e goes_on text
      (subst (λ (t : Told). FileGiven t (Module number) name now later text) same given)

  -- or it has a fault, which is the answer
  pub next_fails : (answer : Answer) → FileRefused here (Module number) name now later answer
      → Performed told (modules_protocol (texts names) []) before later answer
  next_fails answer failed =
      read_fails told (texts names) (texts (drop (i + 1) names)) found name number before now later e goes_on answer
      (subst (λ (t : Told). FileRefused t (Module number) name now later answer) same failed)
