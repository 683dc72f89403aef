-- Linked code counts as its source means: the test of a statement marks the words of each site (`counting_of`), the steps that hit
-- are those that execute a word of the statement (`executed_is`), and these are its visits, where the run has halted.
use Rattle.std.proofs.Common.{◌≡◌, ℕ, zero, suc, ◌+◌, List, refl, sym, ap, ◌∙◌}
use Rattle.mx_delay.specs.Delay.{Delay}
use Rattle.mx_validate.specs.Padded.{items_of}
use Rattle.mx_link.proofs.Sizes.{length-origins_from}
use Rattle.mx_link.specs.declared.linked.Origin.{Origin}
use Rattle.mx_link.specs.Origins.{origins_at, origins_of}
use Rattle.law_link.proofs.Setting.{Known}
use Rattle.law_link.proofs.Shown.{known_of, runs_so, halts_only}
use Rattle.law_counts.specs.Counts.{statement_executed}
use Rattle.law_counts.specs.Laws.{LinkedCodeCounts}
use Rattle.law_counts.proofs.Tally.{one, hits}
use Rattle.law_counts.proofs.Marks.{is_word_of, sites_marked, words_marked}
use Rattle.law_counts.proofs.Copies.{Counting}
use Rattle.law_counts.proofs.Sums.{steps_hit, all_executed}
use Rattle.law_counts.proofs.Runs.{count, counts_all}

module _ (known : Known) (q : ℕ) where
  open known use {linking as l, linking.{filling, place, sites as all}, laid}

  abbrev origins : List Origin
  origins = origins_of filling all

  -- the test of a statement
  abbrev pub counting_of : Counting
  counting_of = record {
    known = known;
    q = q;
    test = is_word_of place.code origins q;
    marks = sites_marked (is_word_of place.code origins q) q (λ s. origins_at s (filling all s))
        (λ s. length-origins_from s (filling all s) 0 (items_of s.plan)) place.code all laid.layout.stand (words_marked place.code origins q);
  }

  steps_are : (j : ℕ) → steps_hit l q place.code origins j ≡ count counting_of j
  steps_are zero = refl
  steps_are (suc j) =
      let h = steps_are j in
      let e = runs_so known j in
      λ i. h i + one (hits (is_word_of place.code origins q) (sym e i))

  pub executed_is : (j : ℕ) → statement_executed l q j ≡ count counting_of j
  executed_is j = all_executed l q place.code origins j ∙ steps_are j

pub code_counts : LinkedCodeCounts
code_counts l j h safe halted =
    let b = halts_only l j h safe halted in
    let known = known_of l h in
    record {
      statements = b.statements;
      few = b.few;
      halts = b.halts;
      counts = λ i. executed_is known i j
          ∙ counts_all (counting_of known i) b.statements b.halts j (ap (λ (x : Delay). x.halted) (runs_so known j) ∙ halted);
    }
