-- A function that gives the layout of each source by greedy plans. It is total since it is decided whether a source value has blocks,
-- also of a value that is no source.
use Rattle.std.proofs.Common.{◌≡◌, ℕ, zero, suc, ◌+◌, ◌-◌, ◌<◌, ◌≤◌, true, false, ◌⊎◌, List, [], ◌∷◌, length, map, Some, refl, sym, ap, ◌∙◌, subst, ⊎_elim, inl, inr, arith}
use Rattle.std.specs.Prelude.{slice_get, slice_range, slice_index_or, is_some}
use Rattle.std.specs.Option.{option_map}
use Rattle.std.proofs.lemmas.Bool.{cases_lt, cases_eq}
use Rattle.std.proofs.lemmas.Option.{same_Some, slice_get-get_or}
use Rattle.mx_isa.specs.declared.inst.Inst.{Inst}
use Rattle.mx_source.specs.declared.statement.Statement.{Statement}
use Rattle.mx_source.specs.declared.statement.Statement.TheVariants.{Halt}
use Rattle.mx_source.specs.SourceValue.{SourceValue}
use Rattle.mx_blocks.specs.declared.block.Block.{Block}
use Rattle.mx_blocks.specs.Ends.{is_last, is_some_and, ends_as, GoesOn}
use Rattle.mx_blocks.specs.Leaders.{is_leader, inst_of, end_of, size, IsBlockOf, BlocksFrom}
use Rattle.mx_blocks.proofs.Splits.{count_in}
use Rattle.mx_depend.proofs.Decided.{Decided, both, implied, all_below, bool_decided}
use Rattle.mx_squash.specs.Copies.{Site}
use Rattle.mx_layout.specs.Layout.{IsLayout, blocks_in}
use Rattle.mx_reorg.specs.Greedy.{IsGreedy}
use Rattle.mx_isa.specs.Board.{board}
use Rattle.law_schedule.specs.Schedule.{IsScheduler}
use Rattle.law_schedule.proofs.Layouts.{laid_out, layout_unique}

either : (P Q : Type 0) → Decided P → Decided Q → Decided (P ⊎ Q)
either P Q p q = ⊎_elim
    (λ yes. inl (inl yes))
    (λ none. ⊎_elim (λ also. inl (inr also)) (λ nor. inr (λ h. ⊎_elim none nor h)) q)
    p

-- a number below a bound of which something holds
record Found (P : ℕ → Type 0) (n : ℕ) : Type 0 where
  at : ℕ
  low : at < n
  holds : P at

found_below : (P : ℕ → Type 0) (n : ℕ) → ((k : ℕ) → Decided (P k)) → Decided (Found P n)
found_below P zero each = inr (λ f. (let low = f.low in absurd (omega arith)))
found_below P (suc n) each = ⊎_elim
    (λ last. inl (record { at = n; low = omega arith; holds = last }))
    (λ none. ⊎_elim
    (λ f. (let low = f.low in inl (record { at = f.at; low = omega arith; holds = f.holds })))
    (λ nor. inr (λ f. ⊎_elim
    (λ below. nor (record { at = f.at; low = below; holds = f.holds }))
    (λ above. (let low = f.low in let at : f.at ≡ n = omega arith in none (subst P at f.holds)))
    (cases_lt f.at n)))
    (found_below P n each))
    (each n)

-- index i is a leader or the end of the source
abbrev LeadsOrEnds : SourceValue → ℕ → Type 0
LeadsOrEnds source i = (is_leader source i ≡ true) ⊎ (i ≡ length source.statements)

-- the instructions of n statements from i on
abbrev insts_from : SourceValue → ℕ → ℕ → List Inst
insts_from source i n = map inst_of (slice_range source.statements i (i + n))

-- the last of n statements from i on
abbrev last_from : SourceValue → ℕ → ℕ → Statement
last_from source i n = slice_index_or source.statements (i + n - 1) Halt

-- the n statements from i on are a block
record Fits (source : SourceValue) (i n : ℕ) : Type 0 where
  leader : is_leader source i ≡ true
  within : i + n ≤ length source.statements
  inner : (t : ℕ) → t < n → 1 ≤ t → is_leader source (i + t) ≡ false
  next : LeadsOrEnds source (i + n)
  last : ends_as (end_of (last_from source i n)) (insts_from source i n) ≡ true
  body : GoesOn (insts_from source i n)

at_most : (m n : ℕ) → Decided (m ≤ n)
at_most m n = ⊎_elim (λ more. inr (λ h. absurd (omega arith))) (λ h. inl h) (cases_lt n m)

goes_on_decided : (insts : List Inst) → Decided (GoesOn insts)
goes_on_decided insts = ⊎_elim
    (λ yes. inl (λ k l. yes k (omega arith)))
    (λ none. inr (λ h. none (λ k l. h k (omega arith))))
    (all_below (λ k. is_some_and (slice_get insts k) is_last ≡ false) (length insts - 1) (λ k. bool_decided (is_some_and (slice_get insts k) is_last) false))

fits_decided : (source : SourceValue) (i n : ℕ) → Decided (Fits source i n)
fits_decided source i n = ⊎_elim
    (λ h. inl (record { leader = h.0; within = h.1.0; inner = h.1.1.0; next = h.1.1.1.0; last = h.1.1.1.1.0; body = h.1.1.1.1.1 }))
    (λ none. inr (λ f. none (f.leader, (f.within, (f.inner, (f.next, (f.last, f.body)))))))
    (both _ _ (bool_decided (is_leader source i) true)
    (both _ _ (at_most (i + n) (length source.statements))
    (both _ _ (all_below (λ t. 1 ≤ t → is_leader source (i + t) ≡ false) n (λ t. implied _ _ (at_most 1 t) (bool_decided (is_leader source (i + t)) false)))
    (both _ _ (either _ _ (bool_decided (is_leader source (i + n)) true) (cases_eq (i + n) (length source.statements)))
    (both _ _ (bool_decided (ends_as (end_of (last_from source i n)) (insts_from source i n)) true) (goes_on_decided (insts_from source i n)))))))

-- the block of n statements from i on
record BlockAt (source : SourceValue) (i n : ℕ) : Type 0 where
  block : Block
  begins : block.first ≡ i
  count : size block ≡ n
  is : IsBlockOf source block

block_at : (source : SourceValue) (i m : ℕ) → Fits source i (suc m) → BlockAt source i (suc m)
block_at source i m f =
    let within = f.within in
    let insts = insts_from source i (suc m) in
    let s = last_from source i (suc m) in
    let difference = count_in source.statements insts i (i + suc m) refl (omega arith) within in
    let whole : suc m ≡ length insts = omega arith in
    let last : slice_get source.statements (i + suc m - 1) ≡ Some s = slice_get-get_or source.statements (i + suc m - 1) Halt (omega arith) in
    let block : Block = record { first = i; insts = record { items = insts }; end = end_of s; input = is_some source.input; last = f.last; body = f.body } in
    record {
      block = block;
      begins = refl;
      count = sym whole;
      is = record {
        leader = f.leader;
        some = omega arith;
        within = omega arith;
        inner = λ t low high. f.inner t (omega arith) low;
        next = subst (λ (n : ℕ). LeadsOrEnds source (i + n)) whole f.next;
        insts = ap (λ n. insts_from source i n) whole;
        end = ap (λ n. option_map end_of (slice_get source.statements (i + n - 1))) (sym whole) ∙ ap (option_map end_of) last;
        input = refl;
      };
    }

fits_of : (source : SourceValue) (b : Block) → IsBlockOf source b → Fits source b.first (size b)
fits_of source b h =
    let some = h.some in
    let within = h.within in
    let last = slice_get-get_or source.statements (b.first + size b - 1) Halt (omega arith) in
    let end : b.end ≡ end_of (last_from source b.first (size b)) = same_Some _ _ (sym h.end ∙ ap (option_map end_of) last) in
    let same : ends_as b.end b.insts.items ≡ ends_as (end_of (last_from source b.first (size b))) (insts_from source b.first (size b)) =
    λ i. ends_as (end i) (h.insts i) in
    record {
      leader = h.leader;
      within = within;
      inner = λ t high low. h.inner t low high;
      next = h.next;
      last = sym same ∙ b.last;
      body = subst (λ (xs : List Inst). GoesOn xs) h.insts b.body;
    }

-- the blocks of the statements from i on
abbrev Blocks : SourceValue → ℕ → Type 0
Blocks source i = (blocks : List Block) × BlocksFrom source i (length source.statements) blocks

-- a block of m + 1 statements from i on, and the blocks behind it
record Begins (source : SourceValue) (i m : ℕ) : Type 0 where
  fits : Fits source i (suc m)
  rest : Blocks source (i + suc m)

begins_decided : (source : SourceValue) (i m : ℕ) → Decided (Blocks source (i + suc m)) → Decided (Begins source i m)
begins_decided source i m rest = ⊎_elim
    (λ h. inl (record { fits = h.0; rest = h.1 }))
    (λ none. inr (λ b. none (b.fits, b.rest)))
    (both (Fits source i (suc m)) (Blocks source (i + suc m)) (fits_decided source i (suc m)) rest)

with_first : (source : SourceValue) (i m : ℕ) → Begins source i m → Blocks source i
with_first source i m h =
    let b = block_at source i m h.fits in
    let blocks = h.rest.0 in
    (b.block ∷ blocks, (b.begins, b.is, subst (λ (n : ℕ). BlocksFrom source (i + n) (length source.statements) blocks) (sym b.count) h.rest.1))

first_of_blocks : (source : SourceValue) (i : ℕ) → (¬ (i ≡ length source.statements)) → (blocks : List Block)
    → BlocksFrom source i (length source.statements) blocks → Found (Begins source i) (length source.statements)
first_of_blocks source i apart [] h = absurd (apart h)
first_of_blocks source i apart (b ∷ blocks) h =
    let some = h.1.some in
    let within = h.1.within in
    let whole : size b ≡ suc (size b - 1) = omega arith in
    let here : Fits source i (size b) = subst (λ (k : ℕ). Fits source k (size b)) h.0 (fits_of source b h.1) in
    record {
      at = size b - 1;
      low = omega arith;
      holds = record {
        fits = subst (λ (n : ℕ). Fits source i n) whole here;
        rest = (blocks, subst (λ (n : ℕ). BlocksFrom source (i + n) (length source.statements) blocks) whole h.2);
      };
    }

-- n bounds how many statements are left from i on
blocks_decided : (source : SourceValue) (n i : ℕ) → length source.statements ≤ i + n → Decided (Blocks source i)
blocks_decided source zero i few = ⊎_elim
    (λ at. inl ([], at))
    (λ apart. inr (λ h. (let within = (first_of_blocks source i apart h.0 h.1).holds.fits.within in absurd (omega arith))))
    (cases_eq i (length source.statements))
blocks_decided source (suc n) i few = ⊎_elim
    (λ at. inl ([], at))
    (λ apart. ⊎_elim
    (λ found. inl (with_first source i found.at found.holds))
    (λ none. inr (λ h. none (first_of_blocks source i apart h.0 h.1)))
    (found_below (Begins source i) (length source.statements) (λ m. begins_decided source i m (blocks_decided source n (i + suc m) (omega arith)))))
    (cases_eq i (length source.statements))

decided : (source : SourceValue) → Decided (Blocks source 0)
decided source = blocks_decided source (length source.statements) 0 (omega arith)

-- the blocks with their greedy plans, or nothing where there are no blocks
abbrev sites_of : (source : SourceValue) → Decided (Blocks source 0) → List Site
sites_of source (inl found) = (laid_out source board found.0 found.1).0
sites_of source (inr none) = []

sites_are : (source : SourceValue) (d : Decided (Blocks source 0)) (sites : List Site) → IsLayout IsGreedy source board sites → sites_of source d ≡ sites
sites_are source (inl found) sites l =
    let laid = laid_out source board found.0 found.1 in
    layout_unique source board laid.0 sites laid.1 l
sites_are source (inr none) sites l = absurd (none (blocks_in sites, l.blocks))

pub scheduler : (layout_of : SourceValue → List Site) × IsScheduler layout_of
scheduler = (λ source. sites_of source (decided source), λ source sites l. sites_are source (decided source) sites l)
