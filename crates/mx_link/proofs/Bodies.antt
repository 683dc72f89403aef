-- The statements of a block, and where the items of a valid plan stand.
use Rattle.std.proofs.Common.{◌≡◌, ℕ, zero, suc, ◌+◌, ◌-◌, ◌<◌, ◌≤◌, Bool, true, false, ltb, not, List, [], ◌∷◌, Option, Some, None, refl, sym, ap, ◌∙◌, subst, ⊎_elim, arith}
use Rattle.std.specs.Prelude.{slice_get, slice_range, ◌&&◌}
use Rattle.std.specs.Option.{option_map}
use Rattle.std.proofs.lemmas.Bool.{cases_Bool, cases_lt, false≢true}
use Rattle.std.proofs.lemmas.Bool.Decides.{nat_tests}
use Rattle.std.proofs.lemmas.Option.{none-some, same_Some, slice_get-map, get_or_from_slice_get}
use Rattle.mx_source.specs.declared.Statement.{Statement}
use Rattle.mx_source.specs.SourceValue.{SourceValue}
use Rattle.mx_blocks.specs.declared.Block.{Block}
use Rattle.mx_blocks.specs.declared.Plan.{Plan}
use Rattle.mx_blocks.specs.declared.Item.{Item}
use Rattle.mx_blocks.specs.declared.Item.TheVariants.{Op, Nop}
use Rattle.mx_blocks.specs.declared.End.{End}
use Rattle.mx_blocks.specs.declared.End.TheVariants.{Falls}
use Rattle.mx_blocks.specs.Ends.{is_last, end_is, is_some_and, ends_as}
use Rattle.mx_blocks.specs.Items.{StandsAt, ops, times}
use Rattle.mx_blocks.specs.Leaders.{IsBlockOf, size, inst_of, end_of}
use Rattle.mx_blocks.proofs.Splits.{get_range}
use Rattle.mx_validate.specs.Padded.{falls, items_of, insts_of}
use Rattle.mx_validate.specs.Validity.{EachOnce, Valid}
use Rattle.mx_validate.proofs.Listed.{stands_counts, once_below}
use Rattle.mx_squash.specs.Copies.{is_op, may_copy, item_at}

-- a number that stands at two places counts twice
stands_twice : (k : ℕ) (items : List Item) (p q : ℕ) → StandsAt items p k → StandsAt items q k → p < q → 2 ≤ times k (ops items)
stands_twice k [] p q s t l = absurd (none-some (Op k) s)
stands_twice k (item ∷ items) p zero s t l = absurd (omega arith)
stands_twice k (Op j ∷ items) zero (suc q) s t l = let same : j ≡ k = cc in let more = stands_counts k items q t in grind (arith, nat_tests)
stands_twice k (Nop ∷ items) zero (suc q) s t l = absurd (cc)
stands_twice k (Op j ∷ items) (suc p) (suc q) s t l = let rest = stands_twice k items p q s t (omega arith) in grind (arith, nat_tests)
stands_twice k (Nop ∷ items) (suc p) (suc q) s t l = stands_twice k items p q s t (omega arith)

once_small : (n : ℕ) (items : List Item) → EachOnce n items → (k : ℕ) → times k (ops items) ≤ 1
once_small n items once k = let o = once k in grind (arith, nat_tests)

pub same_place : (n : ℕ) (items : List Item) → EachOnce n items → (k p q : ℕ) → StandsAt items p k → StandsAt items q k → p ≡ q
same_place n items once k p q s t = ⊎_elim
    (λ l. let two = stands_twice k items p q s t l in let one = once_small n items once k in absurd (omega arith))
    (λ g. ⊎_elim
    (λ l. let two = stands_twice k items q p t s l in let one = once_small n items once k in absurd (omega arith))
    (λ h. omega arith)
    (cases_lt q p))
    (cases_lt p q)

-- the instruction of a block is that of its statement
pub inst_is :
    (source : SourceValue) (block : Block) → IsBlockOf source block → (k : ℕ) (s : Statement) → k < size block
    → slice_get source.statements (block.first + k) ≡ Some s → slice_get (insts_of block) k ≡ Some (inst_of s)
inst_is source block h k s l e =
    let first = block.first in
    let end = block.first + size block in
    ap (λ xs. slice_get xs k) h.insts
    ∙ slice_get-map inst_of (slice_range source.statements first end) k
    ∙ ap (option_map inst_of) (get_range source.statements first end k (omega arith) h.within ∙ e)

-- each instruction of a block is that of a statement
pub record Stated (source : SourceValue) (block : Block) (k : ℕ) : Type 0 where
  pub statement : Statement
  pub is : slice_get source.statements (block.first + k) ≡ Some statement

-- before its last instruction a block goes on
body_goes_on :
    (source : SourceValue) (block : Block) → IsBlockOf source block → (k : ℕ) (s : Statement) → suc k < size block
    → slice_get source.statements (block.first + k) ≡ Some s → is_last (inst_of s) ≡ false
body_goes_on source block h k s l e =
    sym (ap (λ o. is_some_and o is_last) (inst_is source block h k s (omega arith) e)) ∙ block.body k l

falls_is : (e : End) → falls e ≡ true → e ≡ Falls
falls_is Falls h = refl
falls_is _ h = absurd (false≢true h)

not_false : (b : Bool) → not b ≡ true → b ≡ false
not_false b h = grind arith

-- the last instruction of a block that falls through goes on
fall_goes_on :
    (source : SourceValue) (block : Block) → IsBlockOf source block → falls block.end ≡ true → (s : Statement)
    → slice_get source.statements (block.first + (size block - 1)) ≡ Some s → is_last (inst_of s) ≡ false
fall_goes_on source block h f s e =
    let some = h.some in
    let at = inst_is source block h (size block - 1) s (omega arith) e in
    not_false (is_last (inst_of s))
    (sym (ap (λ o. is_some_and o (end_is Falls)) at) ∙ sym (ap (λ x. ends_as x (insts_of block)) (falls_is block.end f)) ∙ block.last)

-- a transfer or halt is the last statement of its block, which does not fall through
pub record IsLast (block : Block) (s : Statement) (k : ℕ) : Type 0 where
  pub place : k ≡ size block - 1
  pub ends : falls block.end ≡ false
  pub end : block.end ≡ end_of s

pub is_last_of :
    (source : SourceValue) (block : Block) → IsBlockOf source block → (k : ℕ) (s : Statement) → k < size block
    → slice_get source.statements (block.first + k) ≡ Some s → is_last (inst_of s) ≡ true → IsLast block s k
is_last_of source block h k s l e t = ⊎_elim
    (λ low. absurd (false≢true (sym (body_goes_on source block h k s low e) ∙ t)))
    (λ high. let at : k ≡ size block - 1 = omega arith in
    let here : slice_get source.statements (block.first + (size block - 1)) ≡ Some s = ap (λ n. slice_get source.statements (block.first + n)) (sym at)
    ∙ e in
    record {
      place = at;
      ends = ⊎_elim
          (λ f. absurd (false≢true (sym (fall_goes_on source block h f s here) ∙ t)))
          (λ f. f)
          (cases_Bool (falls block.end));
      end = same_Some block.end (end_of s) (sym h.end ∙ ap (λ n. option_map end_of (slice_get source.statements n)) (last_place h.some)
          ∙ ap (option_map end_of) here);
    })
    (cases_lt (suc k) (size block))
  where
    last_place : 1 ≤ size block → block.first + size block - 1 ≡ block.first + (size block - 1)
    last_place some = omega arith

-- in a valid plan it stands at the place
pub last_stands :
    (source : SourceValue) (block : Block) (plan : Plan) → Valid block plan → (k : ℕ) (s : Statement) → IsLast block s k → (p : ℕ)
    → StandsAt (items_of plan) p k → p ≡ plan.place
last_stands source block plan v k s last p stands =
    same_place (size block) (items_of plan) v.once k p plan.place stands
    (subst (λ (n : ℕ). StandsAt (items_of plan) plan.place n) (sym last.place) (v.terminator last.ends))

pub both : (a b : Bool) → (a && b) ≡ true → (a ≡ true) × (b ≡ true)
both true b h = (refl, h)
both false b h = absurd (false≢true h)

-- an item that may be copied is an instruction before the terminator's place
pub record MayCopy (plan : Plan) (p k : ℕ) : Type 0 where
  pub before : p < plan.place
  pub stands : StandsAt (items_of plan) p k

pub may_copy_op : (plan : Plan) (p k : ℕ) → may_copy plan p ≡ true → item_at plan p ≡ Op k → MayCopy plan p k
may_copy_op plan p k h e =
    let parts = both (ltb p plan.place) (is_op (slice_get (items_of plan) p)) h in record {
      before = below p plan.place parts.0;
      stands = by_item (slice_get (items_of plan) p) refl parts.1;
    }
  where
    below : (m n : ℕ) → ltb m n ≡ true → m < n
    below m n t = grind (arith, nat_tests)

    by_item :
        (o : Option Item) → slice_get (items_of plan) p ≡ o → is_op (slice_get (items_of plan) p) ≡ true → slice_get (items_of plan) p ≡ Some (Op k)
    by_item None f t = absurd (false≢true (sym (ap is_op f) ∙ t))
    by_item (Some x) f t = f ∙ ap (λ y. Some y) (sym (get_or_from_slice_get (items_of plan) p x Nop f) ∙ e)

-- and neither a transfer nor a halt
pub copy_goes_on :
    (source : SourceValue) (block : Block) (plan : Plan) → IsBlockOf source block → Valid block plan → (p k : ℕ) (s : Statement) → MayCopy plan p k
    → slice_get source.statements (block.first + k) ≡ Some s → is_last (inst_of s) ≡ false
copy_goes_on source block plan h v p k s copy e =
    let low = once_below (size block) (items_of plan) v.once p k copy.stands in
    ⊎_elim
    (λ t. let at = last_stands source block plan v k s (is_last_of source block h k s low e t) p copy.stands in let before = copy.before in
    absurd (omega arith))
    (λ f. f)
    (cases_Bool (is_last (inst_of s)))
