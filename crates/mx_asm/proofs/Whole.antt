-- The listing of all lines is the source that the text reads as.
use Rattle.std.proofs.Common.{◌≡◌, ℕ, ◌≤◌, List, [], length, Option, ap, sym, ◌∙◌, subst, arith}
use Rattle.std.proofs.lemmas.List.Elements.{All-nil}
use Rattle.mx_lex.specs.Lines.{lines_of}
use Rattle.mx_source.specs.declared.statement.Statement.{Statement}
use Rattle.mx_source.specs.declared.statement.Value.{Value}
use Rattle.mx_source.specs.declared.statement.Label.{Label}
use Rattle.mx_source.specs.Labels.{LabelFits}
use Rattle.mx_source.specs.Names.{AreApart}
use Rattle.mx_source.specs.SourceValue.{SourceValue, IsSource}
use Rattle.mx_source.specs.SourceValue.{plain_source as listed}
use Rattle.mx_asm.specs.declared.listing.Listing.{Listing}
use Rattle.mx_lines.specs.Instructions.{Labels}
use Rattle.mx_lines.specs.Fitting.{LabelsFit}
use Rattle.mx_asm.specs.Positions.{labels_from, start, position_at_end}
use Rattle.mx_asm.specs.Faults.{first_fault}
use Rattle.mx_asm.specs.Listings.{IsListingOf}
use Rattle.mx_asm.specs.Texts.{text_labels, text_effects, text_fault, source_of, effects_from, statements_in, lines_in, values_in, input_in, ReadsAs}
use Rattle.mx_asm.proofs.LabelBounds.{labels_fit}

-- a source of these lists
abbrev pub made : List Statement → List ℕ → List Value → Labels → Option ℕ → SourceValue
made ss ns vs labels input = record { statements = ss; lines = ns; user_data = vs; labels = labels; input = input }

module _ (low end : ℕ) (text : List ℕ) (lines : List (List ℕ)) (labels named : Labels) (split : lines ≡ lines_of text)
    (defined : labels ≡ labels_from (start low) [] lines) (same : named ≡ labels) where
  all_labels : labels ≡ text_labels low text
  unfolding text_labels
  all_labels = defined ∙ ap (labels_from (start low) []) split

  pub whole_fault : first_fault labels end (start low) [] 1 lines ≡ text_fault low end text
  unfolding text_fault
  whole_fault = ap (λ k. first_fault k end (start low) [] 1 lines) all_labels ∙ ap (first_fault (text_labels low text) end (start low) [] 1) split

  all_effects : effects_from labels (start low) 1 lines ≡ text_effects low text
  unfolding text_effects
  all_effects = ap (λ k. effects_from k (start low) 1 lines) all_labels ∙ ap (effects_from (text_labels low text) (start low) 1) split

  pub whole_source : (l : Listing) → IsListingOf labels end (start low) lines l
      → made l.statements.items l.lines.items l.user_data.items named l.input ≡ source_of low text
  unfolding source_of
  whole_source l h =
      ap (λ x. made x l.lines.items l.user_data.items named l.input) (h.statements ∙ ap statements_in all_effects)
      ∙ ap (λ x. made (statements_in (text_effects low text)) x l.user_data.items named l.input) (h.lines ∙ ap lines_in all_effects)
      ∙ ap (λ x. made (statements_in (text_effects low text)) (lines_in (text_effects low text)) x named l.input) (h.user_data ∙ ap values_in all_effects)
      ∙ ap (λ x. made (statements_in (text_effects low text)) (lines_in (text_effects low text)) (values_in (text_effects low text)) x l.input)
      (same ∙ all_labels)
      ∙ ap (λ x. made (statements_in (text_effects low text)) (lines_in (text_effects low text)) (values_in (text_effects low text)) (text_labels low text) x)
      (h.input ∙ ap input_in all_effects)

  pub whole_reads : (l : Listing) (s : SourceValue) → IsListingOf labels end (start low) lines l
      → s ≡ made l.statements.items l.lines.items l.user_data.items named l.input → ReadsAs low end text s
  whole_reads l s h e = record { faultless = sym whole_fault ∙ h.faultless; same = e ∙ whole_source l h }

  pub whole_fits : (l : Listing) → 256 ≤ low → end ≤ 65536 → IsListingOf labels end (start low) lines l → AreApart named
      → IsSource (listed l.statements.items l.lines.items l.user_data.items named)
  whole_fits l least most h apart =
      let ended = labels_fit labels end lines (start low) [] 1 most least h.faultless
      (All-nil (λ (p : List ℕ × Label). LabelFits (position_at_end (start low) lines).index p.1)) in
      let count : length l.statements.items ≡ (position_at_end (start low) lines).index = (let k = h.count in omega (arith, k)) in
      let fit : LabelsFit (length l.statements.items) labels = subst (λ n. LabelsFit n labels) (sym count)
      (subst (LabelsFit (position_at_end (start low) lines).index) (sym defined) ended) in
      subst (λ k. IsSource (listed l.statements.items l.lines.items l.user_data.items k)) (sym same)
      (record {
        few_statements = (let k = h.few in omega (arith, k, count));
        few_words = (let k = h.words in let m = h.within in omega (arith, k, m));
        a_line_each = h.each;
        labels_fit = fit;
        statements_fit = h.statements_fit (length l.statements.items) fit;
        words_fit = h.values_fit (length l.statements.items) fit;
        distinct = subst AreApart same apart;
      })
