-- The listing of all modules and their labels are the source of the program.
use Rattle.std.proofs.Common.{◌≡◌, List, None, sym, ap, ◌∙◌, subst}
use Rattle.mx_source.specs.SourceValue.{SourceValue, IsSource}
use Rattle.mx_source.specs.SourceValue.{plain_source as listed}
use Rattle.mx_asm.specs.declared.Listing.{Listing}
use Rattle.mx_lines.specs.Instructions.{Labels}
use Rattle.mx_asm.specs.Texts.{statements_in, lines_in, values_in}
use Rattle.mx_asm.proofs.Whole.{made}
use Rattle.mx_module.specs.Modules.{ModuleValue}
use Rattle.mx_module.specs.LinkFaults.{refusal_or, fault_in_modules}
use Rattle.mx_module.specs.Joined.{AreApart, JoinsModules, fault_in_lines, effects_in, labels_in, program}
use Rattle.mx_module.specs.ModuleView.{IsListingOfAll}

without_input : (s : SourceValue) → IsSource s → IsSource (record s { input = None })
without_input s h = record {
  few_statements = h.few_statements;
  few_words = h.few_words;
  a_line_each = h.a_line_each;
  labels_fit = h.labels_fit;
  statements_fit = h.statements_fit;
  words_fit = h.words_fit;
  distinct = h.distinct;
}

module _ (ms : List ModuleValue) (l : Listing) (named : Labels) (h : IsListingOfAll ms l) (same : named ≡ labels_in 0 ms) where
  whole : made l.statements.items l.lines.items l.user_data.items named l.input ≡ program ms
  whole =
      ap (λ x. made x l.lines.items l.user_data.items named l.input) h.statements
      ∙ ap (λ x. made (statements_in (effects_in ms 0 ms)) x l.user_data.items named l.input) h.lines
      ∙ ap (λ x. made (statements_in (effects_in ms 0 ms)) (lines_in (effects_in ms 0 ms)) x named l.input) h.user_data
      ∙ ap (λ x. made (statements_in (effects_in ms 0 ms)) (lines_in (effects_in ms 0 ms)) (values_in (effects_in ms 0 ms)) x l.input) same
      ∙ ap (λ x. made (statements_in (effects_in ms 0 ms)) (lines_in (effects_in ms 0 ms)) (values_in (effects_in ms 0 ms)) (labels_in 0 ms) x) h.input

  pub sound_lists : IsSource (program ms) → IsSource (listed l.statements.items l.lines.items l.user_data.items named)
  sound_lists sound = without_input (made l.statements.items l.lines.items l.user_data.items named l.input) (subst IsSource (sym whole) sound)

  pub joins_lists' : (s : SourceValue) → fault_in_modules ms 0 ms ≡ None → AreApart (labels_in 0 ms)
      → s ≡ made l.statements.items l.lines.items l.user_data.items named l.input → JoinsModules ms s
  joins_lists' s none apart e = record {
    faultless = ap (λ f. refusal_or f (fault_in_lines ms 0 ms)) none ∙ h.faultless;
    same = e ∙ whole;
    apart = subst (λ (x : SourceValue). AreApart x.labels) (sym (e ∙ whole)) apart;
  }

pub joins_lists : (ms : List ModuleValue) (l : Listing) (named : Labels) (s : SourceValue) → IsListingOfAll ms l → named ≡ labels_in 0 ms
    → fault_in_modules ms 0 ms ≡ None → AreApart (labels_in 0 ms)
    → s ≡ made l.statements.items l.lines.items l.user_data.items named l.input → JoinsModules ms s
joins_lists ms l named s h same = joins_lists' ms l named h same s
