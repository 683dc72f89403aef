-- The links of lines, one line after the other.
use Rattle.std.proofs.Common.{◌≡◌, ℕ, List, [], ◌++◌, Option, Some, None, refl}
use Rattle.mx_lines.specs.Words.{Word}
use Rattle.mx_module.specs.declared.link.LinkKind.{LinkKind}
use Rattle.mx_module.specs.Links.{Link, with_link}

pub link_before : (number : ℕ) (kind : Option LinkKind) (words : List Word) (later : List Link)
    → with_link number kind words [] ++ later ≡ with_link number kind words later
link_before number (Some kind) words later = refl
link_before number None words later = refl
