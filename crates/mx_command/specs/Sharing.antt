-- A source that may share the machine with another.
use Rattle.std.specs.Prelude.{◌≡◌, ℕ, List, None}
use Rattle.mx_isa.specs.declared.Place.{Place}
use Rattle.mx_source.specs.SourceValue.{SourceValue}
use Rattle.mx_asm.specs.Texts.{source_of}
use Rattle.mx_command.specs.Protocols.{wrong_with}

-- the source is that of a text with which nothing is wrong, assembled for its place
pub record IsFitting (place : Place) (text : List ℕ) (source : SourceValue) : Type 0 where
  pub right : wrong_with place text ≡ None
  pub is : source ≡ source_of place.user_data text
