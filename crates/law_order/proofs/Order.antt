-- The items of a valid plan do what the block does in source order.
use Rattle.std.proofs.Common.{◌≡◌, ℕ, ℤ, pos, suc, ◌+◌, ◌<◌, Bool, true, false, List, [], ◌∷◌, ◌++◌, length, map, take, drop, Option, refl, sym, ap, ◌∙◌, subst, arith, inl}
use Rattle.std.proofs.Math.ListN.{get_or-map}
use Rattle.std.proofs.lemmas.Bool.{and_parts, or_parts}
use Rattle.std.proofs.lemmas.Bool.Decides.{nat_tests}
use Rattle.std.proofs.lemmas.List.{append-nil, append_assoc, length-map, take-append-drop}
use Rattle.std.proofs.lemmas.Option.{slice_get-get_or}
use Rattle.mx_isa.specs.declared.inst.Cond.{Cond}
use Rattle.mx_isa.specs.declared.inst.Inst.{Inst}
use Rattle.mx_isa.specs.declared.inst.Inst.TheVariants.{Branch, Addi, Jspci, Halt}
use Rattle.mx_isa.specs.declared.place.Place.{Place}
use Rattle.mx_isa.specs.Fields.{InstFits}
use Rattle.mx_isa.specs.Views.{reads, writes, access, dest, is_load, is_transfer, is_halt}
use Rattle.mx_depend.specs.Independence.{OtherWord, Independent}
use Rattle.mx_depend.specs.Graphs.{inst_at}
use Rattle.mx_blocks.specs.declared.block.Block.{Block}
use Rattle.mx_blocks.specs.declared.block.Plan.{Plan}
use Rattle.mx_blocks.specs.declared.block.Item.{Item}
use Rattle.mx_blocks.specs.declared.block.Item.TheVariants.{Op, Nop}
use Rattle.mx_blocks.specs.Ends.{is_last, is_some_and, GoesOn}
use Rattle.mx_blocks.specs.Items.{StandsAt, ops}
use Rattle.mx_validate.specs.Padded.{insts_of, items_of}
use Rattle.mx_validate.proofs.Listed.{once_below}
use Rattle.law_order.specs.Running.{Ran, run_one, run_source, run_items}
use Rattle.law_order.specs.Laws.{unplaced, IsPlanned, ValidOrderKeepsEffect, ValidOrderStaysClean}
use Rattle.mx_delay.specs.Prefixes.{IsPrefix}
use Rattle.law_order.proofs.Reorder.{FreeOf, FreeInversions, from_to, run, run_in_order}
use Rattle.law_order.proofs.Swap.{MaySwap, swap}

-- pairs of places out of order, as a recursion
free_of :
    (Free : ℕ → ℕ → Type 0) (k : ℕ) (items : List Item) → ((q j : ℕ) → StandsAt items q j → j < k → Free j k) → FreeOf Free k (ops items)
free_of Free k [] h = tt
free_of Free k (Op j ∷ items) h = (h 0 j refl, free_of Free k items (λ q i. h (suc q) i))
free_of Free k (Nop ∷ items) h = free_of Free k items (λ q i. h (suc q) i)

pub free_inversions :
    (Free : ℕ → ℕ → Type 0) (items : List Item) → ((p q k j : ℕ) → StandsAt items p k → StandsAt items q j → p < q → j < k → Free j k)
    → FreeInversions Free (ops items)
free_inversions Free [] h = tt
free_inversions Free (Op k ∷ items) h = (
  free_of Free k items (λ q j s l. h 0 (suc q) k j refl s (omega arith) l),
  free_inversions Free items
      (λ p q i j s t l m. h (suc p) (suc q) i j s t (omega arith) m),
)
free_inversions Free (Nop ∷ items) h = free_inversions Free items (λ p q i j s t l m. h (suc p) (suc q) i j s t (omega arith) m)

-- a view that sees neither displacements nor squash bits nor immediates
record IsBlind {A : Type 0} (view : Inst → A) : Type 0 where
  branch : (a b : ℕ) (condition : Cond) (squash : Bool) (by : ℤ) → view (Branch a b condition false (pos 0)) ≡ view (Branch a b condition squash by)
  addi : (a d : ℕ) (imm : ℤ) → view (Addi a d (pos 0)) ≡ view (Addi a d imm)
  jspci : (a d : ℕ) (imm : ℤ) → view (Jspci a d (pos 0)) ≡ view (Jspci a d imm)

view_unplaced : {A : Type 0} (view : Inst → A) → IsBlind view → (i : Inst) → view (unplaced i) ≡ view i
view_unplaced view blind (Branch a b condition squash by) = blind.branch a b condition squash by
view_unplaced view blind (Addi a d imm) = blind.addi a d imm
view_unplaced view blind (Jspci a d imm) = blind.jspci a d imm
view_unplaced view blind _ = refl

same_view : {A : Type 0} (view : Inst → A) → IsBlind view → (i i' : Inst) → unplaced i ≡ unplaced i' → view i ≡ view i'
same_view view blind i i' e = sym (view_unplaced view blind i) ∙ ap view e ∙ view_unplaced view blind i'

-- two instructions with the same views
pub record SameViews (i i' : Inst) : Type 0 where
  pub reads : reads i ≡ reads i'
  pub writes : writes i ≡ writes i'
  pub access : access i ≡ access i'
  pub dest : dest i ≡ dest i'
  pub load : is_load i ≡ is_load i'
  pub transfer : is_transfer i ≡ is_transfer i'
  pub halt : is_halt i ≡ is_halt i'

pub same_views : (i i' : Inst) → unplaced i ≡ unplaced i' → SameViews i i'
same_views i i' e = record {
  reads = same_view reads (record { branch = λ a b c s n. refl; addi = λ a d n. refl; jspci = λ a d n. refl }) i i' e;
  writes = same_view writes (record { branch = λ a b c s n. refl; addi = λ a d n. refl; jspci = λ a d n. refl }) i i' e;
  access = same_view access (record { branch = λ a b c s n. refl; addi = λ a d n. refl; jspci = λ a d n. refl }) i i' e;
  dest = same_view dest (record { branch = λ a b c s n. refl; addi = λ a d n. refl; jspci = λ a d n. refl }) i i' e;
  load = same_view is_load (record { branch = λ a b c s n. refl; addi = λ a d n. refl; jspci = λ a d n. refl }) i i' e;
  transfer = same_view is_transfer (record { branch = λ a b c s n. refl; addi = λ a d n. refl; jspci = λ a d n. refl }) i i' e;
  halt = same_view is_halt (record { branch = λ a b c s n. refl; addi = λ a d n. refl; jspci = λ a d n. refl }) i i' e;
}

-- independence is a matter of the views
pub independent_along : (x x' y y' : Inst) (ordered : Bool) → SameViews x x' → SameViews y y' → Independent x y ordered → Independent x' y' ordered
independent_along x x' y y' ordered v w h = record {
  writes_reads = λ n e. ap (λ (f : ℕ → Bool). f n) (sym w.reads) ∙ h.writes_reads n (ap (λ (f : ℕ → Bool). f n) v.writes ∙ e);
  reads_writes = λ n e. ap (λ (f : ℕ → Bool). f n) (sym v.reads) ∙ h.reads_writes n (ap (λ (f : ℕ → Bool). f n) w.writes ∙ e);
  writes_writes = λ n e. ap (λ (f : ℕ → Bool). f n) (sym w.writes) ∙ h.writes_writes n (ap (λ (f : ℕ → Bool). f n) v.writes ∙ e);
  memory = subst (λ o. OtherWord ordered o (access y')) v.access (subst (λ o. OtherWord ordered (access x) o) w.access h.memory);
}

-- the instructions of a block as they are laid out have the block's views
pub laid_out_views : (insts insts' : List Inst) (k : ℕ) → map unplaced insts ≡ map unplaced insts' → SameViews (inst_at insts k) (inst_at insts' k)
laid_out_views insts insts' k e =
    same_views (inst_at insts k) (inst_at insts' k) (sym (get_or-map unplaced insts k Halt) ∙ ap (λ l. inst_at l k) e ∙ get_or-map unplaced insts' k Halt)

pub same_length : (insts insts' : List Inst) → map unplaced insts ≡ map unplaced insts' → length insts ≡ length insts'
same_length insts insts' e = sym (length-map insts unplaced) ∙ ap length e ∙ length-map insts' unplaced

-- of a block's instructions only the last transfers or halts
pub not_last : (insts : List Inst) (k : ℕ) → GoesOn insts → suc k < length insts → is_last (inst_at insts k) ≡ false
not_last insts k goes l =
    let within : k < length insts = omega arith in
    sym (ap (λ o. is_some_and o is_last) (slice_get-get_or insts k Halt within)) ∙ goes k l

module _ (block : Block) (plan : Plan) (insts : List Inst) (input : Option (List ℕ)) (laid : IsPlanned block plan insts input) where
  views_at : (k : ℕ) → SameViews (inst_at (insts_of block) k) (inst_at insts k)
  views_at k = laid_out_views (insts_of block) insts k (sym laid.filled)

  count : length insts ≡ length (insts_of block)
  count = same_length insts (insts_of block) laid.filled

  stands_below : (p k : ℕ) → StandsAt (items_of plan) p k → k < length (insts_of block)
  stands_below p k s = once_below (length (insts_of block)) (items_of plan) laid.valid.once p k s

  fits_at : (k : ℕ) → k < length (insts_of block) → InstFits (inst_at insts k)
  fits_at k l = laid.fits k Halt (let n = count in omega arith)

  -- two that stand out of order may change places
  may_swap :
      (p q k j : ℕ) → StandsAt (items_of plan) p k → StandsAt (items_of plan) q j → p < q → j < k
      → MaySwap block.input (inst_at insts j) (inst_at insts k)
  may_swap p q k j s t l m =
      let low = stands_below p k s in record {
        independent = independent_along (inst_at (insts_of block) j) (inst_at insts j) (inst_at (insts_of block) k) (inst_at insts k) block.input (views_at j)
            (views_at k) (laid.valid.order p q k j s t l m);
        first = fits_at j (omega arith);
        second = fits_at k low;
        one = inl (sym (views_at j).transfer ∙ (or_parts _ _ (not_last (insts_of block) j block.body (omega arith))).0);
      }

module _ (p : Place) (input : Option (List ℕ)) (at : ℕ) where
  -- one instruction by its number
  abbrev pub step : List Inst → ℕ → Ran → Ran
  step insts k s = run_one p input at (inst_at insts k) s

  pub run_ops : (insts : List Inst) (items : List Item) (s : Ran) → run_items p input at insts items s ≡ run (step insts) (ops items) s
  run_ops insts [] s = refl
  run_ops insts (Op k ∷ items) s = run_ops insts items (run_one p input at (inst_at insts k) s)
  run_ops insts (Nop ∷ items) s = run_ops insts items s

  -- numbers in order are the instructions in source order
  run_from : (all : List Inst) (low : ℕ) (insts : List Inst) (s : Ran) → ((k : ℕ) → inst_at insts k ≡ inst_at all (low + k))
      → run (step all) (from_to low (length insts)) s ≡ run_source p input at insts s
  run_from all low [] s h = refl
  run_from all low (i ∷ insts) s h =
      let here : low ≡ low + 0 = omega arith in
      ap (λ j. run (step all) (from_to (suc low) (length insts)) (run_one p input at j s)) (ap (inst_at all) here ∙ sym (h 0))
      ∙ run_from all (suc low) insts (run_one p input at i s) (λ k. let on : low + suc k ≡ suc low + k = omega arith in h (suc k) ∙ ap (inst_at all) on)

  pub run_numbers : (insts : List Inst) (s : Ran) → run (step insts) (from_to 0 (length insts)) s ≡ run_source p input at insts s
  run_numbers insts s = run_from insts 0 insts s (λ k. let on : k ≡ 0 + k = omega arith in ap (inst_at insts) on)

  pub run_items_append :
      (insts : List Inst) (xs ys : List Item) (s : Ran) → run_items p input at insts (xs ++ ys) s
      ≡ run_items p input at insts ys (run_items p input at insts xs s)
  run_items_append insts [] ys s = refl
  run_items_append insts (Op k ∷ xs) ys s = run_items_append insts xs ys (run_one p input at (inst_at insts k) s)
  run_items_append insts (Nop ∷ xs) ys s = run_items_append insts xs ys s

  -- a run once unclean stays so
  pub clean_before : (insts : List Inst) (items : List Item) (s : Ran) → (run_items p input at insts items s).clean ≡ true → s.clean ≡ true
  clean_before insts [] s h = h
  clean_before insts (Op k ∷ items) s h = (and_parts _ _ (clean_before insts items (run_one p input at (inst_at insts k) s) h)).0
  clean_before insts (Nop ∷ items) s h = clean_before insts items s h

  -- bytes only grow
  pub bytes_grow : (insts : List Inst) (items : List Item) (s : Ran) → IsPrefix s.bytes (run_items p input at insts items s).bytes
  bytes_grow insts [] s = record { rest = []; whole = sym (append-nil s.bytes) }
  bytes_grow insts (Op k ∷ items) s =
      let more = bytes_grow insts items (run_one p input at (inst_at insts k) s) in
      record { rest = _; whole = more.whole ∙ append_assoc s.bytes _ more.rest }
  bytes_grow insts (Nop ∷ items) s = bytes_grow insts items s

pub keeps_effect : ValidOrderKeepsEffect
keeps_effect block plan insts p input at s laid =
    let n = length (insts_of block) in
    run_ops p input at insts (items_of plan) s
    ∙ run_in_order (step p input at insts) Free (λ j k t h. swap p input block.input laid.ordered (inst_at insts j) (inst_at insts k) at at t h) n 0
    (ops (items_of plan)) s
    (λ k. laid.valid.once k ∙ grind (arith, nat_tests))
    (free_inversions Free (items_of plan) (may_swap block plan insts input laid))
    ∙ ap (λ m. run (step p input at insts) (from_to 0 m) s) (sym (count block plan insts input laid))
    ∙ run_numbers p input at insts s
  where
    Free : ℕ → ℕ → Type 0
    Free j k = MaySwap block.input (inst_at insts j) (inst_at insts k)

pub stays_clean : ValidOrderStaysClean
stays_clean block plan insts p input at s n laid clean =
    let front = take n (items_of plan) in
    let back = drop n (items_of plan) in
    let whole : run_items p input at insts back (run_items p input at insts front s) ≡ run_source p input at insts s =
    sym (run_items_append p input at insts front back s) ∙ ap (λ l. run_items p input at insts l s) (take-append-drop n (items_of plan))
    ∙ keeps_effect block plan insts p input at s laid in
    let grown = bytes_grow p input at insts back (run_items p input at insts front s) in (
      clean_before p input at insts back (run_items p input at insts front s) (ap (λ (r : Ran). r.clean) whole ∙ clean),
      record { rest = grown.rest; whole = sym (ap (λ (r : Ran). r.bytes) whole) ∙ grown.whole },
    )
