-- Frames one after the other, and the rows that are made of them.
use Rattle.std.proofs.Common.{◌≡◌, ◌⊎◌, ℕ, zero, suc, ◌+◌, ◌-◌, ◌<◌, ◌≤◌, Bool, true, false, Some, None, List, [], ◌∷◌, ◌++◌, length, sym, ap, ◌∙◌, subst, ⊎_elim, inl, inr, arith, refl}
use Rattle.std.specs.Prelude.{All, map, take, drop, min, slice_get, slice_index_or, leb, nat_lt, cond}
use Rattle.std.specs.List.{position_or_len}
use Rattle.std.proofs.lemmas.List.{map-append, length-append, take_min}
use Rattle.std.proofs.lemmas.List.Elements.{All-append}
use Rattle.std.proofs.lemmas.List.Sums.{passes_at_first, fails_before_first}
use Rattle.std.proofs.lemmas.Bool.{cases_lt}
use Rattle.std.proofs.lemmas.Bool.Decides.{nat_tests}
use Rattle.std.proofs.lemmas.Option.{slice_get_within, slice_get-get_or, slice_get_cases, get_or_from_slice_get}
use Rattle.mx_turn.specs.Program.{Program, state_after}
use Rattle.mx_turn.specs.Run.{is_requested, bits}
use Rattle.lab_draw.specs.declared.frame.Frame.{Frame}
use Rattle.lab_draw.specs.declared.cell.Cell.{Cell}
use Rattle.lab_draw.specs.declared.rows.Row.{Row}
use Rattle.lab_draw.specs.Cells.{cells_from}
use Rattle.lab_draw.specs.Frames.{IsFrameOf, IsFrame, AreFrames, IsEnd}
use Rattle.lab_draw.specs.Stages.{cell_in}
use Rattle.lab_draw.specs.Coming.{HaveCome}
use Rattle.lab_draw.specs.Rows.{span, first_come, IsRow, numbers_from, AreRows}
use Rattle.lab_draw.proofs.Cells.{cell_is_defined}

-- a cycle at which the test for the last one says so
pub past : (to n : ℕ) (b : Bool) → b ≡ leb to n → b ≡ true → to ≤ n
past to n b is on = let test = sym is ∙ on in grind (arith, nat_tests)

pub within : (to n : ℕ) (b : Bool) → b ≡ leb to n → b ≡ false → n < to
within to n b is off = let test = sym is ∙ off in grind (arith, nat_tests)

module _ (p : Program) (requests : List ℕ) where
  -- one more frame
  pub more_frames : (n : ℕ) (fs : List Frame) (f : Frame) → AreFrames p requests n fs → IsFrame p requests (n + length fs) f
      → AreFrames p requests n (fs ++ f ∷ [])
  more_frames n [] f are is = let e : n + 0 ≡ n = omega arith in (subst (λ k. IsFrame p requests k f) e is, tt)
  more_frames n (x ∷ fs) f are is =
      let e : n + suc (length fs) ≡ suc n + length fs = omega arith in
      (are.0, more_frames (suc n) fs f are.1 (subst (λ k. IsFrame p requests k f) e is))

  -- the frame of the next cycle
  pub next_frame : (n i : ℕ) (fs : List Frame) (f : Frame) → n ≤ i → length fs ≡ i - n → AreFrames p requests n fs
      → (state_after p (bits requests i)).halted ≡ false → IsFrameOf p (bits requests i) (is_requested requests i) f
      → AreFrames p requests n (fs ++ f ∷ [])
  next_frame n i fs f le many are going is =
      let e : i ≡ n + length fs = omega (arith, le, many) in
      more_frames n fs f are (subst (λ k. IsFrame p requests k f) e (record { going = going; frame = is }))

  -- where a run ended within its budget
  pub end_is : (n budget : ℕ) (halted : Bool) → halted ≡ (state_after p (bits requests n)).halted → n ≤ budget
      → ((k : ℕ) → k < n → (state_after p (bits requests k)).halted ≡ false) → (halted ≡ false → n ≡ budget)
      → IsEnd p requests budget (cond halted (Some n) None)
  end_is n budget true is within going whole =
      (within, record { before = λ k e. going k (let less : k < n = omega (arith, e) in less); halted = sym is })
  end_is n budget false is within going whole = subst (λ k. (state_after p (bits requests k)).halted ≡ false) (whole refl) (sym is)

  -- all frames that were asked for are there, or those up to the end
  pub whole_is : (from count budget n len : ℕ) (halted : Bool) → from + count ≤ budget → from ≤ n → len ≡ min n (from + count) - from
      → halted ≡ (state_after p (bits requests n)).halted → (halted ≡ false → n ≡ budget)
      → (len ≡ count) ⊎ ((state_after p (bits requests (from + len))).halted ≡ true)
  whole_is from count budget n len true room begun many is whole = ⊎_elim
      (λ less. let end : n ≡ from + len = omega (arith, less, begun, many) in
      inr (subst (λ k. (state_after p (bits requests k)).halted ≡ true) end (sym is)))
      (λ all. inl (omega (arith, all, many)))
      (cases_lt n (from + count))
  whole_is from count budget n len false room begun many is whole = let spent = whole refl in inl (omega (arith, room, many, spent))

  later_frames : (b n : ℕ) (fs : List Frame) → AreFrames p requests n fs → AreFrames p requests (n + b) (drop b fs)
  later_frames zero n fs are = let e : n ≡ n + 0 = omega arith in subst (λ k. AreFrames p requests k fs) e are
  later_frames (suc b) n [] are = tt
  later_frames (suc b) n (f ∷ fs) are =
      let e : suc n + b ≡ n + suc b = omega arith in
      subst (λ k. AreFrames p requests k (drop b fs)) e (later_frames b (suc n) fs are.1)

  first_frames : (k n : ℕ) (fs : List Frame) → AreFrames p requests n fs → AreFrames p requests n (take k fs)
  first_frames zero n fs are = tt
  first_frames (suc k) n [] are = tt
  first_frames (suc k) n (f ∷ fs) are = (are.0, first_frames k (suc n) fs are.1)

  cells_are_defined : (n row : ℕ) (fs : List Frame) → AreFrames p requests n fs
      → (let cells = map (λ f. cell_in f row) fs in cells ≡ cells_from p requests row n (length cells))
  cells_are_defined n row [] are = refl
  cells_are_defined n row (f ∷ fs) are = λ k. cell_is_defined p requests n f are.0 row k ∷ cells_are_defined (suc n) row fs are.1 k

  -- the cells of a row
  row_is_defined : (n : ℕ) (frames : List Frame) (row : Row) → AreFrames p requests n frames → IsRow frames row
      → row.cells.items ≡ cells_from p requests row.fetch (n + row.begins) (length row.cells.items)
  row_is_defined n frames row are is =
      let seen : List Frame = take span (drop row.begins frames) in
      is.cells
      ∙ cells_are_defined (n + row.begins) row.fetch seen (first_frames span _ _ (later_frames row.begins n frames are))
      ∙ ap (λ (cells : List Cell). cells_from p requests row.fetch (n + row.begins) (length cells)) (sym is.cells)

  pub rows_are_defined : (n : ℕ) (frames : List Frame) (rows : List Row) → AreFrames p requests n frames → All (IsRow frames) rows
      → All (λ row. row.cells.items ≡ cells_from p requests row.fetch (n + row.begins) (length row.cells.items)) rows
  rows_are_defined n frames rows are each = λ k d lt. row_is_defined n frames (slice_index_or rows k d) are (each k d lt)

-- one more number
numbers_more : (n count : ℕ) → numbers_from n count ++ (n + count) ∷ [] ≡ numbers_from n (suc count)
numbers_more n zero = let e : n + 0 ≡ n = omega arith in ap (λ k. k ∷ []) e
numbers_more n (suc count) = let e : n + suc count ≡ suc n + count = omega arith in
    ap (λ k. n ∷ numbers_from (suc n) count ++ k ∷ []) e ∙ ap (λ l. n ∷ l) (numbers_more (suc n) count)

only : (frames : List Frame) (row : Row) → IsRow frames row → All (IsRow frames) (row ∷ [])
only frames row is zero d lt = is
only frames row is (suc k) d lt = absurd (omega (arith, lt))

one_more : (n : ℕ) → n + 1 ≡ suc n
one_more n = omega arith

-- one more row
pub more_rows : (frames : List Frame) (first passed : ℕ) (rows others : List Row) (row : Row) → HaveCome frames first passed rows → IsRow frames row
    → row.fetch ≡ first + length rows → others ≡ rows ++ row ∷ [] → HaveCome frames first passed others
more_rows frames first passed rows others row are is fetch e = subst (HaveCome frames first passed) (sym e) (record {
  numbers =
      map-append (λ (r : Row). r.fetch) rows (row ∷ [])
      ∙ (λ k. are.numbers k ++ fetch k ∷ [])
      ∙ numbers_more first (length rows)
      ∙ sym (ap (numbers_from first) (length-append rows (row ∷ []) ∙ one_more (length rows)));
  each = All-append (IsRow frames) rows (row ∷ []) are.each (only frames row is);
  all = λ k f l s.
      let less = are.all k f l s in
      let longer : length (rows ++ row ∷ []) ≡ length rows + 1 = length-append rows (row ∷ []) in
      omega (arith, less, longer);
})

-- the place of a frame that has come to a fetch, where none before it has
module _ (fetch i : ℕ) (frames : List Frame) (f : Frame) (is : slice_get frames i ≡ Some f) (come : fetch ≤ f.turn)
    (before : (k : ℕ) (g : Frame) → k < i → slice_get frames k ≡ Some g → g.turn < fetch) where
  abbrev has_come : Frame → Bool
  has_come g = leb fetch g.turn

  abbrev found : ℕ
  found = position_or_len has_come frames

  is_inside : i < length frames
  is_inside = slice_get_within frames i f is

  not_early : found < i → ⊥
  not_early less =
      let inside : found < length frames = omega (arith, less, is_inside) in
      let passes : leb fetch (slice_index_or frames found f).turn ≡ true = passes_at_first has_come frames f inside in
      let behind = before found (slice_index_or frames found f) less (slice_get-get_or frames found f inside) in
      grind (arith, nat_tests)

  not_late : i < found → ⊥
  not_late later =
      let fails : has_come f ≡ false = ap has_come (sym (get_or_from_slice_get frames i f f is)) ∙ fails_before_first has_come frames i f later in
      grind (arith, nat_tests)

  come_at : first_come fetch frames ≡ Some i
  come_at =
      let same : found ≡ i = ⊎_elim
      (λ less. absurd (not_early less))
      (λ more. ⊎_elim (λ later. absurd (not_late later)) (λ no_later. omega (arith, more, no_later)) (cases_lt i found))
      (cases_lt found i) in
      let inside : found < length frames = omega (arith, same, is_inside) in
      let test : nat_lt found (length frames) ≡ true = grind (arith, nat_tests) in
      ap (λ b. cond b (Some found) None) test ∙ ap (λ k. Some k) same

-- the first frame that has come to the next fetch
pub comes_first : (frames : List Frame) (first passed fetch : ℕ) (rows : List Row) → HaveCome frames first passed rows → passed < length frames
    → fetch ≡ first + length rows → ((f : Frame) → slice_get frames passed ≡ Some f → fetch ≤ f.turn) → first_come fetch frames ≡ Some passed
comes_first frames first passed fetch rows so_far within next come = elim (slice_get_cases frames passed).1 [
  | inl h ↦ come_at fetch passed frames h.0 h.2 (come h.0 h.2) (λ k g l s. let less = so_far.all k g l s in omega (arith, less, next))
  | inr h ↦ absurd (let beyond = h.0 in omega (arith, beyond, within))
]

-- a frame is passed, where no fetch is left to whose turn it has come
pub one_passed : (frames : List Frame) (first passed : ℕ) (rows : List Row) → HaveCome frames first passed rows
    → ((f : Frame) → slice_get frames passed ≡ Some f → f.turn < first + length rows) → HaveCome frames first (suc passed) rows
one_passed frames first passed rows so_far here = record {
  numbers = so_far.numbers;
  each = so_far.each;
  all = λ k f l s. ⊎_elim
      (λ less. so_far.all k f less s)
      (λ last. let same : k ≡ passed = omega (arith, l, last) in here f (subst (λ j. slice_get frames j ≡ Some f) same s))
      (cases_lt k passed);
}

-- all frames are passed
pub have_come : (frames : List Frame) (first : ℕ) (rows : List Row) → HaveCome frames first (length frames) rows → AreRows frames first rows
have_come frames first rows h =
    record { numbers = h.numbers; each = h.each; all = λ k d l. h.all k (slice_index_or frames k d) l (slice_get-get_or frames k d l) }

pub no_rows : (frames : List Frame) (first : ℕ) → HaveCome frames first 0 []
no_rows frames first = record { numbers = refl; each = λ k d lt. absurd (omega (arith, lt)); all = λ k f lt s. absurd (omega (arith, lt)) }

-- a part of the frames, as a slice gives it
pub first_ones : (n m : ℕ) (frames : List Frame) → m ≡ min n (length frames) → take (m - 0) frames ≡ take n frames
first_ones n m frames e = let f : m - 0 ≡ min n (length frames) = omega (arith, e) in ap (λ k. take k frames) f ∙ take_min n frames

-- how many frames there are once one more was pushed
pub length_after : (n i : ℕ) (fs gs : List Frame) (f : Frame) → n ≤ i → length fs ≡ i - n → gs ≡ fs ++ f ∷ [] → n + length gs ≡ suc i
length_after n i fs gs f le many e =
    let longer : length gs ≡ length fs + 1 = ap length e ∙ length-append fs (f ∷ []) in
    omega (arith, le, many, longer)
