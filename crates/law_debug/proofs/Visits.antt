-- The steps at which linked code comes to a leader's address are the visits of the meaning (`lands`, `visited`), one after the words of
-- the plans before it. So as many of the one as of the other come before (`visits_before`).
use Rattle.std.proofs.Common.{◌≡◌, ℕ, ◌+◌, ◌<◌, ◌≤◌, Bool, true, false, eqb, not, ◌&&◌, Some, length, refl, ap, ◌∙◌, arith, ⊎_elim}
use Rattle.std.proofs.lemmas.Bool.{cases_lt, and_parts, eqb-true}
use Rattle.std.proofs.lemmas.Bool.Decides.{nat_tests}
use Rattle.mx_source.specs.Meaning.{Mark, Going, Halted, Stuck}
use Rattle.mx_blocks.specs.Leaders.{is_leader}
use Rattle.mx_link.specs.Origins.{from_nowhere}
use Rattle.mx_link.specs.Linked.{link_map}
use Rattle.mx_turn.specs.OneTurn.{as_fetch}
use Rattle.mx_isa.specs.Board.{board}
use Rattle.law_link.specs.Runs.{IsLaid, Linking, IsLinking, linked_run}
use Rattle.law_link.specs.Laws.{IsSafe, IsBlockStart, StartsBlock, planned_words}
use Rattle.law_link.proofs.Lawful.{from_nowhere_lawful}
use Rattle.law_link.proofs.Shown.{blocks_start, later, fetches}
use Rattle.law_debug.specs.Visits.{count_below, comes_to, is_visit, IsVisit}
use Rattle.law_debug.specs.Laws.{Debugged, meant_in}
use Rattle.law_debug.proofs.Counting.{as_many}
use Rattle.law_debug.proofs.Arrivals.{at_fetch, arrives}

comes_going : (i : ℕ) (mark : Mark) (index : ℕ) → comes_to i mark index ≡ true → mark ≡ Going
comes_going i Going index e = refl
comes_going i Halted index e = absurd (cc)
comes_going i (Stuck why) index e = absurd (cc)

comes_there : (i : ℕ) (mark : Mark) (index : ℕ) → comes_to i mark index ≡ true → index ≡ i
comes_there i Going index e = eqb-true index i e
comes_there i Halted index e = absurd (cc)
comes_there i (Stuck why) index e = absurd (cc)

same_number : (n : ℕ) → eqb n n ≡ true
same_number n = grind (arith, nat_tests)

-- what is known of a session: its source is laid out, and it stops at a leader
pub record AtLeader (d : Debugged) : Type 0 where
  pub laid : IsLaid d.source board d.sites
  pub leads : is_leader d.source d.index ≡ true
  pub within : d.index < length d.source.statements

module _ (d : Debugged) (known : AtLeader d) where
  open known use {laid, leads, within}

  -- the source as it is linked without copies
  abbrev pub plain : Linking
  plain = record { filling = from_nowhere; source = d.source; place = board; sites = d.sites; bytes = d.bytes }

  pub is_plain : IsLinking plain
  is_plain = record { laid = laid; filled = from_nowhere_lawful }

  -- where it stops
  abbrev pub stop_address : ℕ
  stop_address = link_map board d.sites d.index

  abbrev visiting : ℕ → Bool
  visiting m = is_visit d.source d.bytes d.index m

  abbrev pub at_step : ℕ → Bool
  at_step w = arrives stop_address (linked_run plain w)

  pub visit_index : (m : ℕ) → visiting m ≡ true → (meant_in d m).state.index ≡ d.index
  visit_index m e = comes_there d.index (meant_in d m).state.mark (meant_in d m).state.index e

  pub visit_start : (m : ℕ) → visiting m ≡ true → IsBlockStart plain m
  visit_start m e = record {
    going = comes_going d.index (meant_in d m).state.mark (meant_in d m).state.index e;
    leads = ap (is_leader d.source) (visit_index m e) ∙ leads;
  }

  pub visit_of : (j m : ℕ) → IsVisit d.source d.bytes d.index j m → visiting m ≡ true
  visit_of j m v = (λ k. comes_to d.index (v.going k) (v.index k)) ∙ same_number d.index

  pub visit_starts : (m : ℕ) → visiting m ≡ true → StartsBlock plain m
  visit_starts m e = blocks_start plain m is_plain refl (visit_start m e)

  rises : (m n : ℕ) → visiting m ≡ true → visiting n ≡ true → m < n → planned_words plain m < planned_words plain n
  rises m n e f less = later plain m n is_plain (visit_start m e) (visit_start n f) less

  pub lands : (m : ℕ) → visiting m ≡ true → at_step (planned_words plain m) ≡ true
  lands m e =
      let s = visit_starts m e in
      (λ k. not (s.going k) && at_fetch stop_address (Some (as_fetch (s.first k))))
      ∙ ap (λ i. eqb (link_map board d.sites i) stop_address) (visit_index m e)
      ∙ same_number stop_address

  -- each step there comes from a visit
  pub visited : (w : ℕ) → IsSafe plain (w + 64) → (linked_run plain w).halted ≡ false → (linked_run plain w).first.address ≡ stop_address
      → (m : ℕ) × (visiting m ≡ true) × (w ≡ planned_words plain m)
  visited w safe on there =
      let x = fetches plain w d.index is_plain refl safe on leads within there in (
        x.statements,
        (λ k. comes_to d.index (x.start.going k) (x.index k)) ∙ same_number d.index,
        x.steps,
      )

  visited_at : (w : ℕ) → IsSafe plain (w + 64) → at_step w ≡ true → (m : ℕ) × (visiting m ≡ true) × (w ≡ planned_words plain m)
  visited_at w safe e =
      let parts = and_parts (not (linked_run plain w).halted) (at_fetch stop_address (Some (as_fetch (linked_run plain w).first))) e in
      visited w safe (off_of (linked_run plain w).halted parts.0)
      (eqb-true (linked_run plain w).first.address stop_address (and_parts (not (linked_run plain w).first.squashed)
      (eqb (linked_run plain w).first.address stop_address) parts.1).1)
    where
      off_of : (b : Bool) → not b ≡ true → b ≡ false
      off_of b h = grind arith

  -- there were as many such steps as visits before
  pub visits_before : (m : ℕ) → visiting m ≡ true → ((w : ℕ) → w < planned_words plain m → IsSafe plain (w + 64))
      → count_below visiting m ≡ count_below at_step (planned_words plain m)
  visits_before m e safe =
      as_many visiting at_step (planned_words plain) rises lands m (planned_words plain m)
      (record {
        to = λ n f less. rises n m f e less;
        from = λ w less q.
            let x = visited_at w (safe w less) q in
            let steps = x.2 in (
              x.0,
              x.1,
              ⊎_elim
                  (λ (h : x.0 < m). h)
                  (λ (h : m ≤ x.0). ⊎_elim
                  (λ (k : m < x.0). let r = rises m x.0 e x.1 k in absurd (omega (arith, r, steps, less)))
                  (λ (k : x.0 ≤ m). let same : x.0 ≡ m = omega (arith, h, k) in let r = ap (planned_words plain) same in
                  absurd (omega (arith, r, steps, less)))
                  (cases_lt m x.0))
                  (cases_lt x.0 m),
              x.2,
            );
      })
