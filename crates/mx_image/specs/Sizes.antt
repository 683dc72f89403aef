-- The sizes that a file gives.
use Rattle.std.specs.Prelude.{◌≡◌, ℕ, ◌+◌, ◌*◌, ◌≤◌, List, length, None}
use Rattle.mx_isa.specs.declared.board.TheConstants.{MAX_CODE_WORDS, MAX_DATA_WORDS}
use Rattle.mx_image.specs.declared.fields.Sizes.{Sizes}
use Rattle.mx_image.specs.Bytes.{number_at}
use Rattle.mx_image.specs.Files.{refusal_1, refusal_2, links_refusal, long_refusal, or_next, links_offset}

-- the sizes of bytes of version 1 that are not refused
pub record SizesOf1 (bs : List ℕ) (s : Sizes) : Type 0 where
  pub code : s.code ≡ number_at 8 bs
  pub user_data : s.user_data ≡ number_at 12 bs
  pub code_within : s.code ≤ MAX_CODE_WORDS
  pub data_within : s.user_data ≤ MAX_DATA_WORDS
  pub whole : length bs ≡ 16 + 4 * (s.code + s.user_data)
  pub accepted : refusal_1 bs ≡ None

-- the sizes of bytes of version 2 whose words are there in full
pub record SizesOf2 (bs : List ℕ) (s : Sizes) : Type 0 where
  pub code : s.code ≡ number_at 12 bs
  pub user_data : s.user_data ≡ number_at 16 bs
  pub links : s.links ≡ number_at 20 bs
  pub code_within : s.code ≤ MAX_CODE_WORDS
  pub data_within : s.user_data ≤ MAX_DATA_WORDS
  pub links_within : s.links ≤ 20001
  pub room : (24 + 4 * (s.code + s.user_data)) + 4 * s.links ≤ length bs
  pub rest : refusal_2 bs ≡ or_next (links_refusal bs) (long_refusal (links_offset bs + 4 * number_at 20 bs) bs)
