-- A frame's cells are those of the definition.
use Rattle.std.proofs.Common.{◌≡◌, ℕ, zero, suc, ◌-◌, ◌<◌, Bool, true, false, cond, eqb, not, ◌&&◌, ◌||◌, refl, sym, ap, ◌∙◌, true≢false, arith, ⊎_elim}
use Rattle.std.specs.Prelude.{nat_lt, min, List}
use Rattle.std.proofs.lemmas.Bool.{cases_lt, cond-true, cond-false}
use Rattle.std.proofs.lemmas.Bool.Decides.{nat_tests}
use Rattle.mx_turn.specs.declared.latches.Stage.{Stage}
use Rattle.mx_turn.specs.declared.latches.Stage.TheVariants as shown
use Rattle.mx_turn.specs.declared.latches.Latches.{Latches}
use Rattle.mx_turn.specs.declared.machine.Cycled.{Cycled}
use Rattle.mx_turn.specs.Stages.{stage_of}
use Rattle.mx_turn.specs.Program.{Program}
use Rattle.mx_turn.specs.Fetches.{FetchState, stage}
use Rattle.lab_draw.specs.declared.cell.Cell.TheVariants.{Waits}
use Rattle.lab_draw.specs.declared.frame.Frame.{Frame}
use Rattle.lab_draw.specs.Cells.{turn_of, before, answer_at, stage_at, cell_of, cell_at}
use Rattle.lab_draw.specs.Frames.{IsFrame}
use Rattle.lab_draw.specs.Stages.{by_number, stage_in, cell_in}
use Rattle.lab_draw.proofs.Fetched.{Shows}
use Rattle.lab_draw.proofs.Shown.{Sees, frame_sees}

-- a number above another is not it
apart : (n k : ℕ) → k < n → eqb n k ≡ false
apart n k h = grind (arith, nat_tests)

-- nothing is behind WB
far : (l : Latches) (n : ℕ) → 4 < n → by_number n l ≡ shown.Empty
far l n h =
    cond-false (eqb n 0) _ _ (apart n 0 (omega (arith, h)))
    ∙ cond-false (eqb n 1) _ _ (apart n 1 (omega (arith, h)))
    ∙ cond-false (eqb n 2) _ _ (apart n 2 (omega (arith, h)))
    ∙ cond-false (eqb n 3) _ _ (apart n 3 (omega (arith, h)))
    ∙ cond-false (eqb n 4) _ _ (apart n 4 h)

behind : (n : ℕ) → 4 < n → nat_lt 4 n ≡ true
behind n h = grind (arith, nat_tests)

-- the five stages by their numbers
numbers : (s : FetchState) (l : Latches) → Shows s l → (n : ℕ) → by_number n l ≡ cond (nat_lt 4 n) shown.Empty (stage_of (stage n s))
numbers s l is zero = is.fetch
numbers s l is (suc zero) = is.rf
numbers s l is (suc (suc zero)) = is.alu
numbers s l is (suc (suc (suc zero))) = is.mem
numbers s l is (suc (suc (suc (suc zero)))) = is.wb
numbers s l is (suc (suc (suc (suc (suc n))))) =
    let m : ℕ = suc (suc (suc (suc (suc n)))) in
    let h : 4 < m = omega arith in
    far l m h ∙ sym (cond-true (nat_lt 4 m) shown.Empty (stage_of (stage m s)) (behind m h))

module _ (x y : Stage) where
  agree : (halted stalled early late : Bool) → halted ≡ false → (stalled ≡ false → x ≡ cond late shown.Empty y)
      → cond (stalled || early) shown.Empty x ≡ cond (halted || (stalled || (early || late))) shown.Empty y
  agree true stalled early late h e = absurd (true≢false h)
  agree false true early late h e = refl
  agree false false true late h e = refl
  agree false false false late h e = e refl

module _ (s : FetchState) (answer : Cycled) (f : Frame) (sees : Sees s answer f) (row : ℕ) where
  same_stage : stage_in f row
      ≡ cond (s.halted || (answer.stalled || (nat_lt (turn_of s) row || nat_lt 4 (turn_of s - row)))) shown.Empty (stage_of (stage (turn_of s - row) s))
  same_stage =
      (λ k. cond ((sees.cycled k).stalled || nat_lt (sees.turn k) row) shown.Empty (by_number (sees.turn k - row) f.shown))
      ∙ agree _ _ s.halted answer.stalled (nat_lt (turn_of s) row) (nat_lt 4 (turn_of s - row)) sees.going
      (λ acts. numbers s f.shown (sees.shown acts) (turn_of s - row))

-- a cell by the number of its stage, counted up to 5
module _ (f : Frame) (row : ℕ) where
  none : (b : Bool) → cond b shown.Empty shown.Empty ≡ shown.Empty
  none true = refl
  none false = refl

  pub cell_by_age : cell_of f.cycled.taken (min 5 (f.turn - row)) (stage_in f row) ≡ cell_of f.cycled.taken (f.turn - row) (stage_in f row)
  cell_by_age = ⊎_elim
      (λ h. let e : stage_in f row ≡ shown.Empty = ap (λ x. cond (f.cycled.stalled || nat_lt f.turn row) shown.Empty x) (far f.shown _ h) ∙ none _ in
      ap (cell_of f.cycled.taken (min 5 (f.turn - row))) e ∙ sym (ap (cell_of f.cycled.taken (f.turn - row)) e))
      (λ h. let e : min 5 (f.turn - row) ≡ f.turn - row = omega (arith, h) in ap (λ a. cell_of f.cycled.taken a (stage_in f row)) e)
      (cases_lt 4 (f.turn - row))

module _ (p : Program) (requests : List ℕ) (n : ℕ) (f : Frame) (is : IsFrame p requests n f) (row : ℕ) where
  abbrev sees : Sees (before p requests n) (answer_at p requests n) f
  sees = frame_sees p requests n f is

  pub stage_is_defined : stage_in f row ≡ stage_at p requests row n
  stage_is_defined = same_stage (before p requests n) (answer_at p requests n) f sees row

  pub cell_is_defined : cell_in f row ≡ cell_at p requests row n
  cell_is_defined = λ k.
      let a : Cycled = sees.cycled k in
      cond (not (sym sees.going k) && (a.stalled && eqb row (sees.turn k))) Waits (cell_of a.taken (sees.turn k - row) (stage_is_defined k))
