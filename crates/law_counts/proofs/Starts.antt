-- Without copies each leader that the meaning comes to is a start (`starts_from`), and all words before it were counted.
use Rattle.std.proofs.Common.{◌≡◌, ℕ, zero, suc, ◌+◌, ◌-◌, ◌<◌, ◌≤◌, true, false, length, refl, sym, ap, ◌∙◌, subst, arith, ⊎_elim, inl}
use Rattle.std.proofs.lemmas.Bool.{cases_lt, false≢true}
use Rattle.mx_source.specs.Meaning.{Going, Run, run_for, is_stuck}
use Rattle.mx_link.specs.Origins.{Filling}
use Rattle.law_link.specs.Laws.{planned_words}
use Rattle.law_link.proofs.Saying.{is_going, not_stuck_before, run_add, stays_for}
use Rattle.law_link.proofs.Layouts.{setting}
use Rattle.law_link.proofs.Setting.{Known}
use Rattle.law_counts.specs.Laws.{LinkedBlocksCount}
use Rattle.law_counts.proofs.Tally.{span}
use Rattle.law_counts.proofs.Copies.{Counting}
use Rattle.law_counts.proofs.Block.{n as size_of}
use Rattle.law_counts.proofs.Runs.{M, index, count, visited, r0, Came, comes_first, block_at, inner, Next, Final, run_block, past_end}
use Rattle.law_counts.proofs.Counted.{counting_of, executed_is}

module _ (counting : Counting) where
  open counting use {known, q, test as T, known.{linking as l, linking.{source}}}
  open setting known use {program as p, link, leader, place_of}

  -- the meaning goes on at a leader after m statements
  module _ (m : ℕ) (going : (M counting m).state.mark ≡ Going) (leads : leader (index counting m) ≡ true) where
    not_stuck : (k : ℕ) → k ≤ m → is_stuck (M counting k).state.mark ≡ false
    not_stuck k less =
        not_stuck_before p (m - k) (M counting k) (ap (λ (s : Run). is_stuck s.state.mark)
        (sym (ap (M counting) (let e : m ≡ k + (m - k) = omega arith in e) ∙ run_add p k (m - k) (r0 counting))) ∙ ap is_stuck going)

    goes_yet : (k : ℕ) → k ≤ m → is_going (M counting k).state.mark ≡ false → ⊥
    goes_yet k less stopped =
        let same = ap (M counting) (let e : m ≡ k + (m - k) = omega arith in e) ∙ run_add p k (m - k) (r0 counting)
        ∙ stays_for p (m - k) (M counting k) stopped in
        false≢true (sym stopped ∙ sym (ap (λ (s : Run). is_going s.state.mark) same) ∙ ap is_going going)

    record Starts : Type 0 where
      e : ℕ
      came : Came counting m e

    starts_from : (fuel k e : ℕ) → Came counting k e → k ≤ m → m ≤ k + fuel → Starts
    starts_from zero k e a less f =
        let same : k ≡ m = omega arith in
        record { e = e; came = subst (λ n. Came counting n e) same a }
    starts_from (suc fuel) k e a less f = ⊎_elim
        (λ (before : k < m). ⊎_elim
        (λ (within : index counting k < length source.statements).
        let lead : leader (index counting k) ≡ true = ⊎_elim (λ l. l) (λ e. absurd (omega arith)) a.lead.0 in
        let t = block_at counting (index counting k) lead within in
        let n = size_of counting t.block in
        let some = t.block.standing.of.block.some in
        ⊎_elim
        (λ (inside : m < k + size_of counting t.block).
        let on : m ≡ k + (m - k) = omega arith in
        let same : M counting m ≡ run_for p (m - k) (M counting k) = ap (M counting) on ∙ run_add p k (m - k) (r0 counting) in
        let i = inner counting t.block (M counting k) a.going (sym t.is_first) (m - k) (omega arith)
        (ap (λ (s : Run). is_stuck s.state.mark) (sym same) ∙ ap is_stuck going) in
        absurd (false≢true (sym (t.block.standing.of.block.inner (m - k) (omega arith) (omega arith))
        ∙ ap leader (sym i.index ∙ ap (λ (s : Run). s.state.index) (sym same)) ∙ leads)))
        (λ (behind : k + size_of counting t.block ≤ m). ⊎_elim
        (λ (x : Next counting k (size_of counting t.block)). starts_from fuel (k + n) x.e x.came behind (omega arith))
        (λ (x : Final counting k (size_of counting t.block)). absurd (goes_yet (k + n) behind (ap is_going x.halts)))
        (run_block counting k e a t (not_stuck (k + n) behind)))
        (cases_lt m (k + size_of counting t.block)))
        (λ far. absurd (past_end counting k a.going far (not_stuck (k + 1) (omega arith))))
        (cases_lt (index counting k) (length source.statements)))
        (λ (late : m ≤ k). let same : k ≡ m = omega arith in record { e = e; came = subst (λ n. Came counting n e) same a })
        (cases_lt k m)

    -- without copies all words so far are those of the plans
    pub start_counts : ((t : ℕ) → place_of t ≡ 0) → count counting (planned_words l m) ≡ visited counting m
    start_counts none =
        let s = starts_from m 0 0 (comes_first counting) (omega arith) (omega arith) in
        let a = s.came in
        let room = a.lead.1 in
        let no_place = none (index counting m) in
        let c0 : a.c ≡ 0 = omega arith in
        let bare = ap (λ k. span T k (link (index counting m))) c0 in
        let sum = ap (count counting) (a.plain none) in
        let counts = a.counts in
        omega arith

pub blocks_count : LinkedBlocksCount
blocks_count l m h e start i =
    let known : Known = record { linking = l; laid = h.laid; bare = true; fills = λ s. inl (ap (λ (f : Filling). f l.sites s) e) } in
    executed_is known i (planned_words l m) ∙ start_counts (counting_of known i) m start.going start.leads (λ t. refl)
