-- Gaps between leaders, and the statements of a block.
use Rattle.std.proofs.Common.{◌≡◌, ◌≢◌, ℕ, zero, suc, ◌+◌, ◌-◌, ◌<◌, ◌≤◌, Bool, true, false, cond, eqb, ◌||◌, not, ◌⊎◌, List, [], ◌∷◌, ◌++◌, length, map, All, Option, Some, None, refl, sym, ap, ◌∙◌, subst, ⊎_elim, arith, get_or}
use Rattle.std.specs.Prelude.{slice_get, slice_range, is_some}
use Rattle.std.specs.List.{list_any}
use Rattle.std.specs.Option.{option_map}
use Rattle.std.proofs.lemmas.Bool.{false≢true, cases_Bool}
use Rattle.std.proofs.lemmas.Bool.Decides.{nat_tests}
use Rattle.std.proofs.lemmas.Grind.{common_steps}
use Rattle.std.proofs.lemmas.List.{length-map}
use Rattle.std.proofs.lemmas.Option.{slice_get_within, slice_get-map, get_or_from_slice_get, gets, slice_get_read}
use Rattle.mx_isa.specs.declared.inst.Inst.{Inst}
use Rattle.mx_isa.specs.declared.inst.Inst.TheVariants.{Jspci, Jpc, Jpcrs}
use Rattle.mx_isa.specs.declared.inst.Inst.TheVariants.{Branch as BranchInst, Halt as HaltInst}
use Rattle.mx_source.specs.declared.name.Name.{Name}
use Rattle.mx_source.specs.declared.statement.Label.{Label}
use Rattle.mx_source.specs.declared.statement.Statement.{Statement}
use Rattle.mx_source.specs.declared.statement.Statement.TheVariants.{Plain, LaCode}
use Rattle.mx_source.specs.Names.{named_labels}
use Rattle.mx_source.specs.Labels.{is_labelled, names_index}
use Rattle.mx_source.specs.Statements.{IsPlain, StatementFits}
use Rattle.mx_source.specs.SourceValue.{SourceValue, IsSource}
use Rattle.mx_blocks.specs.declared.block.Block.{Block}
use Rattle.mx_blocks.specs.Ends.{is_last, end_is, is_some_and, ends_as, GoesOn}
use Rattle.mx_blocks.specs.Leaders.{ends_block, ends_there, gap, is_leader, inst_of, end_of, size, IsBlockOf, BlocksFrom}

pub any_named : (i : ℕ) (entries : List (Name × Label))
    → list_any (names_index i) (map (λ e. e.1) entries) ≡ list_any (λ p. names_index i p.1) (named_labels entries)
any_named i [] = refl
any_named i (e ∷ entries) = ap (λ b. names_index i e.1 || b) (any_named i entries)

pub gap_small : (labelled : ℕ → Bool) (statements : List Statement) (i : ℕ) → gap labelled statements i ≤ 63
gap_small labelled statements zero = omega arith
gap_small labelled statements (suc i) =
    let small = gap_small labelled statements i in
    one_gap (labelled (suc i)) (ends_there (slice_get statements i)) (gap labelled statements i) small
  where
    one_gap : (a b : Bool) (g : ℕ) → g ≤ 63 → cond (a || (b || eqb g 63)) 0 (suc g) ≤ 63
    one_gap a b g h = grind (arith, nat_tests)

-- a statement that is no leader is one further from it
pub gap_grows : (labelled : ℕ → Bool) (statements : List Statement) (i : ℕ) → gap labelled statements (suc i) ≢ 0
    → gap labelled statements (suc i) ≡ suc (gap labelled statements i)
gap_grows labelled statements i =
    one_more (labelled (suc i) || (ends_there (slice_get statements i) || eqb (gap labelled statements i) 63)) (gap labelled statements i)
  where
    one_more : (b : Bool) (n : ℕ) → cond b 0 (suc n) ≢ 0 → cond b 0 (suc n) ≡ suc n
    one_more true n h = absurd (h refl)
    one_more false n h = refl

-- a statement after one that ends a block is a leader
pub gap_goes : (labelled : ℕ → Bool) (statements : List Statement) (i : ℕ) → gap labelled statements (suc i) ≢ 0 → ends_there (slice_get statements i) ≡ false
gap_goes labelled statements i h = ⊎_elim
    (λ e. absurd (h (ended (labelled (suc i)) (eqb (gap labelled statements i) 63) (suc (gap labelled statements i)) (ends_there (slice_get statements i)) e)))
    (λ e. e)
    (cases_Bool (ends_there (slice_get statements i)))
  where
    ended : (a c : Bool) (n : ℕ) (b : Bool) → b ≡ true → cond (a || (b || c)) 0 n ≡ 0
    ended a c n b e = grind (arith, nat_tests)

plain_goes_on : (i : Inst) → IsPlain i → is_last i ≡ false
plain_goes_on (BranchInst a b c s by) h = absurd h
plain_goes_on (Jspci a d imm) h = absurd h
plain_goes_on Jpc h = absurd h
plain_goes_on Jpcrs h = absurd h
plain_goes_on HaltInst h = absurd h
plain_goes_on _ h = refl

goes_on : (P : ℕ → Type 0) (s : Statement) → StatementFits P s → ends_block s ≡ false → is_last (inst_of s) ≡ false
goes_on P (Plain i) h e = plain_goes_on i h.0
goes_on P (LaCode d t) h e = refl
goes_on P _ h e = absurd (false≢true (sym e))

ends_so : (P : ℕ → Type 0) (s : Statement) → StatementFits P s → end_is (end_of s) (inst_of s) ≡ true
ends_so P (Plain i) h = ap not (plain_goes_on i h.0)
ends_so P _ h = refl

fits_at : (P : ℕ → Type 0) (statements : List Statement) (i : ℕ) (s : Statement) → All (StatementFits P) statements → slice_get statements i ≡ Some s
    → StatementFits P s
fits_at P statements i s h e =
    subst (λ (x : Statement). StatementFits P x) (get_or_from_slice_get statements i s s e) (h i s (slice_get_within statements i s e))

pub get_range : (xs : List Statement) (a b k : ℕ) → a + k < b → b ≤ length xs → slice_get (slice_range xs a b) k ≡ slice_get xs (a + k)
get_range xs a b k l m = grind (arith, common_steps, gets)

pub range_length : (xs : List Statement) (a b : ℕ) → a ≤ b → b ≤ length xs → length (slice_range xs a b) ≡ b - a
range_length xs a b l m = grind (arith, common_steps)

-- one block more
pub one_more_block : (source : SourceValue) (i j : ℕ) (blocks : List Block) (block : Block) → BlocksFrom source i j blocks → block.first ≡ j
    → IsBlockOf source block → BlocksFrom source i (j + size block) (blocks ++ block ∷ [])
one_more_block source i j [] block h f b = (f ∙ sym h, b, ap (λ n. n + size block) h)
one_more_block source i j (c ∷ blocks) block h f b = (h.0, h.1, one_more_block source (i + size c) j blocks block h.2 f b)

-- the gaps of the statements of a block, from its leader on
abbrev pub Gaps : SourceValue → ℕ → ℕ → Type 0
Gaps source first end = (i : ℕ) → first ≤ i → i < end → gap (is_labelled source.labels) source.statements i + first ≡ i

inst_in : (statements : List Statement) (insts : List Inst) (first end k : ℕ) → insts ≡ map inst_of (slice_range statements first end) → first + k < end
    → end ≤ length statements → slice_get insts k ≡ option_map inst_of (slice_get statements (first + k))
inst_in statements insts first end k e l m =
    ap (λ xs. slice_get xs k) e
    ∙ slice_get-map inst_of (slice_range statements first end) k
    ∙ ap (option_map inst_of) (get_range statements first end k l m)

pub count_in : (statements : List Statement) (insts : List Inst) (first end : ℕ) → insts ≡ map inst_of (slice_range statements first end) → first ≤ end
    → end ≤ length statements → length insts ≡ end - first
count_in statements insts first end e l m = ap length e ∙ length-map (slice_range statements first end) inst_of ∙ range_length statements first end l m

pub block_ends : (source : SourceValue) (first end : ℕ) (insts : List Inst) (s : Statement) → IsSource source → first < end → end ≤ length source.statements
    → insts ≡ map inst_of (slice_range source.statements first end) → slice_get source.statements (end - 1) ≡ Some s → ends_as (end_of s) insts ≡ true
block_ends source first end insts s h l m e g =
    let count = count_in source.statements insts first end e (omega arith) m in
    let k = length insts - 1 in
    let place : first + k ≡ end - 1 = omega arith in
    let last : slice_get insts k ≡ Some (inst_of s) =
    inst_in source.statements insts first end k e (omega arith) m ∙ ap (λ i. option_map inst_of (slice_get source.statements i)) place
    ∙ ap (option_map inst_of) g in
    ap (λ o. is_some_and o (end_is (end_of s))) last ∙ ends_so _ s (fits_at _ source.statements (end - 1) s h.statements_fit g)

pub block_goes_on : (source : SourceValue) (first end : ℕ) (insts : List Inst) → IsSource source → first < end → end ≤ length source.statements
    → Gaps source first end → insts ≡ map inst_of (slice_range source.statements first end) → GoesOn insts
block_goes_on source first end insts h l m gaps e k below =
    let count = count_in source.statements insts first end e (omega arith) m in
    let next = gaps (suc (first + k)) (omega arith) (omega arith) in
    let apart : gap (is_labelled source.labels) source.statements (suc (first + k)) ≢ 0 = λ z. (absurd (omega arith)) in
    let quiet = gap_goes (is_labelled source.labels) source.statements (first + k) apart in
    ap (λ o. is_some_and o is_last) (inst_in source.statements insts first end k e (omega arith) m)
    ∙ at_statement (slice_get source.statements (first + k)) refl quiet
  where
    at_statement : (o : Option Statement) → slice_get source.statements (first + k) ≡ o → ends_there (slice_get source.statements (first + k)) ≡ false
        → is_some_and (option_map inst_of (slice_get source.statements (first + k))) is_last ≡ false
    at_statement None g q = ap (λ x. is_some_and (option_map inst_of x) is_last) g
    at_statement (Some s) g q =
        ap (λ x. is_some_and (option_map inst_of x) is_last) g
        ∙ goes_on _ s (fits_at _ source.statements (first + k) s h.statements_fit g) (sym (ap ends_there g) ∙ q)

pub is_block : (source : SourceValue) (block : Block) (end : ℕ) → is_leader source block.first ≡ true → block.first < end → end ≤ length source.statements
    → Gaps source block.first end → (is_leader source end ≡ true) ⊎ (end ≡ length source.statements)
    → block.insts.items ≡ map inst_of (slice_range source.statements block.first end)
    → option_map end_of (slice_get source.statements (end - 1)) ≡ Some block.end → block.input ≡ is_some source.input → IsBlockOf source block
is_block source block end leader l m gaps next e g i =
    let count : size block ≡ end - block.first = count_in source.statements block.insts.items block.first end e (omega arith) m in
    let whole : end ≡ block.first + size block = omega arith in
    record {
      leader = leader;
      some = omega arith;
      within = omega arith;
      inner = λ t low high. (let at = gaps (block.first + t) (omega arith) (omega arith) in grind (arith, nat_tests));
      next = subst (λ (n : ℕ). (is_leader source n ≡ true) ⊎ (n ≡ length source.statements)) whole next;
      insts = e ∙ ap (λ n. map inst_of (slice_range source.statements block.first n)) whole;
      end = ap (λ n. option_map end_of (slice_get source.statements (n - 1))) (sym whole) ∙ g;
      input = i;
    }

-- what is read of the statements of a block: their instructions, and the last of them
pub record HasRead (source : SourceValue) (first end : ℕ) (insts : List Inst) (s : Statement) : Type 0 where
  pub insts_are : insts ≡ map inst_of (slice_range source.statements first end)
  pub last_is : slice_get source.statements (end - 1) ≡ Some s

pub has_read :
    (source : SourceValue) (first end : ℕ) (list : List Statement) (insts : List Inst) (s : Statement) → list ≡ source.statements → first < end
    → end ≤ length source.statements → insts ≡ map inst_of (slice_range list first end) → s ≡ get_or list (end - 1) s
    → HasRead source first end insts s
has_read source first end list insts s e later within is last =
    let same = ap length e in
    record {
      insts_are = is ∙ ap (λ l. map inst_of (slice_range l first end)) e;
      last_is = ap (λ l. slice_get l (end - 1)) (sym e) ∙ slice_get_read list _ (end - 1) s refl (omega arith) last;
    }
