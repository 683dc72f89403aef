-- What an image file keeps, as lists.
use Rattle.std.specs.Prelude.{ℕ, ◌+◌, ◌≤◌, ◌<◌, ◌^◌, Bool, false, List, [], length, All}
use Rattle.mx_isa.specs.declared.board.TheConstants.{CODE_BASE, MAX_CODE_WORDS, MAX_DATA_WORDS}
use Rattle.mx_image.specs.declared.file.ImageFile.{ImageFile}

-- code words, data words, whether the program asks for an input, and the link map
pub record Contents : Type 0 where
  pub code : List ℕ
  pub user_data : List ℕ
  pub input : Bool
  pub links : List ℕ

abbrev pub contents_of : ImageFile → Contents
contents_of f = record { code = f.image.code.items; user_data = f.image.user_data.items; input = f.input; links = f.links.items }

-- an image alone: no input, no links
abbrev pub plain : List ℕ → List ℕ → Contents
plain code user_data = record { code = code; user_data = user_data; input = false; links = [] }

-- a link is the address of a code word, or the one after the last
abbrev pub IsLink : ℕ → ℕ → Type 0
IsLink words link = (CODE_BASE ≤ link) × (link ≤ CODE_BASE + words)

-- at most 20,001 links
pub record LinksFit (words : ℕ) (links : List ℕ) : Type 0 where
  pub few : length links ≤ 20001
  pub within : All (IsLink words) links

-- words of 32 bits
abbrev pub AreWords : List ℕ → Type 0
AreWords ws = All (λ w. w < 2 ^ 32) ws

-- an image's words, within its limits
pub record IsImage (code user_data : List ℕ) : Type 0 where
  pub code_few : length code ≤ MAX_CODE_WORDS
  pub data_few : length user_data ≤ MAX_DATA_WORDS
  pub code_words : AreWords code
  pub data_words : AreWords user_data

-- an image with links that fit
pub record IsFile (f : Contents) : Type 0 where
  pub image : IsImage f.code f.user_data
  pub links : LinksFit (length f.code) f.links
