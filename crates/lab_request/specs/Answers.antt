-- What comes of a body.
use Rattle.std.specs.Prelude.{◌≡◌, ℕ, List, [], ◌++◌, take, codes, decimal, true, false, Option, Some, None, option_map}
use Rattle.std.specs.Option.{option_or}
use Rattle.std.specs.Str.{IsUtf8}
use Rattle.serde_json.specs.Data.{Data, Members}
use Rattle.serde_json.specs.Read.{read}
use Rattle.serde_json.specs.Find.{as_object}
use Rattle.lab_request.specs.declared.command.WorkbenchCommand.{WorkbenchCommand}
use Rattle.lab_request.specs.declared.fault.Fault.{Fault}
use Rattle.lab_request.specs.declared.fault.Fault.TheVariants.{LeftOut, NoString, NoName, NoCycles, NoBytes, TooLong, NoForm, NoScheduler, NoNumber}
use Rattle.lab_request.specs.declared.fault.Wrong.{Wrong}
use Rattle.lab_request.specs.declared.answer.Response.{Response}
use Rattle.lab_request.specs.Fields.{command_name, field_name, fields_of, keys_of, first_unknown, first_wrong}
use Rattle.lab_request.specs.Requests.{Held, words_of, held_of}
use Rattle.lab_request.specs.Documents.{document, refusal_document}

-- ---- refusals

-- what is wrong, and the field where it is, if it is one
pub record Refusal : Type 0 where
  pub error : List ℕ
  pub field : Option (List ℕ)

abbrev pub of_field : List ℕ → List ℕ → Refusal
of_field field why = record { error = field ++ codes ": " ++ why; field = Some field }

abbrev pub of_body : List ℕ → Refusal
of_body why = record { error = why; field = None }

abbrev pub plain_words : Fault → List ℕ
plain_words LeftOut = codes "left out"
plain_words NoString = codes "no string"
plain_words NoName = codes "no name of the form [A-Za-z0-9_][A-Za-z0-9_.-]{0,63}"
plain_words NoCycles = codes "no list of at most 65536 ascending numbers from 0 to 4294967295"
plain_words NoBytes = codes "no string, and no list of numbers from 0 to 255"
plain_words TooLong = codes "more than 1048576 bytes"
plain_words NoForm = codes "none of json, text, svg, html, kanata, vcd"
plain_words NoScheduler = codes "none of padded, list, copies, best"
plain_words (NoNumber least most) = codes "no number"

abbrev pub range_words : Fault → List ℕ
range_words (NoNumber least most) = codes " from " ++ decimal least ++ codes " to " ++ decimal most
range_words _ = []

abbrev pub wrong_refusal : Wrong → Refusal
wrong_refusal wrong = of_field (field_name wrong.field) (plain_words wrong.fault ++ range_words wrong.fault)

-- a key that is none of the command's fields, of which at most 80 bytes are told
abbrev pub unknown_refusal : WorkbenchCommand → List ℕ → Refusal
unknown_refusal command key = of_field (take 80 key) (codes "no field of " ++ command_name command)

abbrev pub members_refusal : WorkbenchCommand → Data → Option Members → Option Refusal
members_refusal command d None = Some (of_body (codes "no JSON object"))
members_refusal command d (Some ms) =
    option_or (option_map (unknown_refusal command) (first_unknown (fields_of command) (keys_of ms)))
    (option_map wrong_refusal (first_wrong (fields_of command) d))

-- why a value is refused, if it is: it is no object, a key of it is no field, or the first field that is wrong
abbrev pub refusal_of : WorkbenchCommand → Data → Option Refusal
refusal_of command d = members_refusal command d (as_object d)

-- of bytes that are no text of JSON
abbrev pub not_json : Refusal
not_json = of_body (codes "no JSON")

-- ---- answers

-- the bytes are a text of JSON, and this is its value
abbrev pub Reads : List ℕ → Data → Type 0
Reads body d = IsUtf8 body × (read body ≡ Some d)

abbrev pub Refuses : Refusal → Response → Type 0
Refuses refusal answer = (answer.is_refused ≡ true) × (answer.document.items ≡ refusal_document refusal.error refusal.field)

-- how a command ended whose words and files are those of the request, as its document
pub record Ran (ends : WorkbenchCommand → List (List ℕ) → Held → ℕ → List ℕ → List ℕ → Type 0)
    (command : WorkbenchCommand) (d : Data) (answer : Response) : Type 0 where
  pub answered : answer.is_refused ≡ false
  pub status : ℕ
  pub output : List ℕ
  pub errors : List ℕ
  pub ended : ends command (words_of command d) (held_of d) status output errors
  pub printed : answer.document.items ≡ document command status output errors

-- it is refused, if there is a refusal, and else the command ran
abbrev pub Comes : (WorkbenchCommand → List (List ℕ) → Held → ℕ → List ℕ → List ℕ → Type 0)
    → WorkbenchCommand → Data → Option Refusal → Response → Type 0
Comes ends command d (Some refusal) answer = Refuses refusal answer
Comes ends command d None answer = Ran ends command d answer
