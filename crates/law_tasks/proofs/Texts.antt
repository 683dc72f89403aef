-- Two texts that share the machine.
use Rattle.std.proofs.Common.{ℕ, ◌+◌, ◌≤◌, List, arith}
use Rattle.mx_isa.specs.declared.Place.{Place}
use Rattle.mx_source.specs.SourceValue.{SourceValue}
use Rattle.mx_squash.specs.Copies.{Site}
use Rattle.mx_asm.specs.Texts.{source_of}
use Rattle.mx_asm.proofs.Sourced.{faultless_words}
use Rattle.law_link.specs.Runs.{Linking, IsLaid}
use Rattle.law_end_to_end.proofs.Accepted.{text_laid}
use Rattle.mx_tasks.specs.Places.{lower, upper}
use Rattle.law_tasks.specs.Meant.{MeanTheirSources, shared_program}
use Rattle.law_tasks.specs.Sources.{IsUnstuckAt, IsSharingText, linked_text}
use Rattle.law_tasks.proofs.Meant.{means}
use Rattle.law_tasks.proofs.Sources.{are_shared}

laid : (place : Place) (text : List ℕ) (sites : List Site) → 256 ≤ place.user_data → place.code ≤ 34096 → IsSharingText place text sites
    → IsLaid (source_of place.user_data text) place sites
laid place text sites least short is =
    let few = is.few in
    text_laid place text sites least is.faultless (omega (arith, few, short)) is.layout is.reach

module _ (first second : List ℕ) (lower_sites upper_sites : List Site) (requests : List ℕ) (budget : ℕ) where
  abbrev one : Linking
  one = linked_text lower first lower_sites

  abbrev two : Linking
  two = linked_text upper second upper_sites

  abbrev source : SourceValue
  source = source_of lower.user_data first

  pub texts_mean : IsSharingText lower first lower_sites → IsSharingText upper second upper_sites
      → IsUnstuckAt lower source (budget + 64) → IsUnstuckAt upper (source_of upper.user_data second) (budget + 64)
      → MeanTheirSources (shared_program one two) one two requests budget
  texts_mean f g safe safe' = means one two requests budget
      (are_shared source (source_of upper.user_data second) lower_sites upper_sites (record {
        first_laid = laid lower first lower_sites (omega arith) (omega arith) f;
        second_laid = laid upper second upper_sites (omega arith) (omega arith) g;
        first_input = f.no_input;
        second_input = g.no_input;
        few = f.few;
        few_data = (let words = faultless_words lower.user_data lower.end first lower.ordered lower.within f.faultless in omega (arith, words));
      }))
      safe safe'
