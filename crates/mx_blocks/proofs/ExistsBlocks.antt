-- Each source has blocks.
use Rattle.std.proofs.Common.{◌≡◌, ◌≢◌, ℕ, zero, suc, ◌+◌, ◌-◌, ◌<◌, ◌≤◌, true, false, ◌⊎◌, List, [], ◌∷◌, length, map, Some, refl, sym, ap, ◌∙◌, subst, ⊎_elim, inl, inr, arith}
use Rattle.std.specs.Prelude.{slice_get, slice_range, slice_index_or, is_some}
use Rattle.std.specs.Option.{option_map}
use Rattle.std.proofs.lemmas.Bool.{false≢true, cases_Bool, cases_eq, eq-eqb}
use Rattle.std.proofs.lemmas.Bool.Decides.{nat_tests}
use Rattle.std.proofs.lemmas.Option.{slice_get-get_or}
use Rattle.mx_source.specs.declared.statement.Statement.{Statement}
use Rattle.mx_source.specs.declared.statement.Statement.TheVariants.{Halt}
use Rattle.mx_source.specs.Labels.{is_labelled}
use Rattle.mx_source.specs.SourceValue.{SourceValue, IsSource}
use Rattle.mx_blocks.specs.declared.block.Block.{Block}
use Rattle.mx_blocks.specs.Leaders.{gap, is_leader, inst_of, end_of, size, IsBlockOf, BlocksFrom}
use Rattle.mx_blocks.specs.Splitting.{BlocksExist}
use Rattle.mx_blocks.proofs.Splits.{Gaps, gap_grows, count_in, block_ends, block_goes_on, is_block}

-- index i is a leader or the end of the source
abbrev LeadsOrEnds : SourceValue → ℕ → Type 0
LeadsOrEnds source i = (is_leader source i ≡ true) ⊎ (i ≡ length source.statements)

-- the next leader behind one, or the end
record Next (source : SourceValue) (first : ℕ) : Type 0 where
  end : ℕ
  later : first < end
  within : end ≤ length source.statements
  gaps : Gaps source first end
  leads : LeadsOrEnds source end

leader_zero : (source : SourceValue) (first : ℕ) → is_leader source first ≡ true → gap (is_labelled source.labels) source.statements first ≡ 0
leader_zero source first h = grind (arith, nat_tests)

-- one index more that is no leader
gaps_more : (source : SourceValue) (first i : ℕ) → first < i → Gaps source first i → is_leader source i ≡ false → Gaps source first (suc i)
gaps_more source first zero later gaps quiet k low high = absurd (omega arith)
gaps_more source first (suc i) later gaps quiet k low high = ⊎_elim
    (λ at. subst (λ (n : ℕ). gap (is_labelled source.labels) source.statements n + first ≡ n) (sym at) here)
    (λ apart. gaps k low (omega arith))
    (cases_eq k (suc i))
  where
    apart : gap (is_labelled source.labels) source.statements (suc i) ≢ 0
    apart e = false≢true (sym quiet ∙ eq-eqb (gap (is_labelled source.labels) source.statements (suc i)) 0 e)

    here : gap (is_labelled source.labels) source.statements (suc i) + first ≡ suc i
    here =
        let grows = gap_grows (is_labelled source.labels) source.statements i apart in
        let before = gaps i (omega arith) (omega arith) in
        omega arith

next_from : (source : SourceValue) (first : ℕ) (n i : ℕ) → first < i → i + n ≡ length source.statements → Gaps source first i → Next source first
next_from source first zero i later whole gaps = record { end = i; later = later; within = omega arith; gaps = gaps; leads = inr (omega arith) }
next_from source first (suc n) i later whole gaps = ⊎_elim
    (λ leads. record { end = i; later = later; within = omega arith; gaps = gaps; leads = inl leads })
    (λ quiet. next_from source first n (suc i) (omega arith) (omega arith) (gaps_more source first i later gaps quiet))
    (cases_Bool (is_leader source i))

next_leader : (source : SourceValue) (first : ℕ) → is_leader source first ≡ true → first < length source.statements → Next source first
next_leader source first leader within =
    next_from source first (length source.statements - suc first) (suc first) (omega arith) (omega arith) (λ k low high.
    (let at : k ≡ first = omega arith in
    let none = leader_zero source first leader in
    subst (λ (n : ℕ). gap (is_labelled source.labels) source.statements n + first ≡ n) (sym at) (omega arith)))

-- a block, with where it begins and ends
record BlockAt (source : SourceValue) (first end : ℕ) : Type 0 where
  block : Block
  begins : block.first ≡ first
  ends : first + size block ≡ end
  is : IsBlockOf source block

block_at : (source : SourceValue) (first : ℕ) → IsSource source → is_leader source first ≡ true → (n : Next source first) → BlockAt source first n.end
block_at source first kept leader n =
    let later = n.later in
    let within = n.within in
    let insts = map inst_of (slice_range source.statements first n.end) in
    let s : Statement = slice_index_or source.statements (n.end - 1) Halt in
    let last : slice_get source.statements (n.end - 1) ≡ Some s = slice_get-get_or source.statements (n.end - 1) Halt (omega arith) in
    let count = count_in source.statements insts first n.end refl (omega arith) within in
    let block : Block = record {
      first = first;
      insts = record { items = insts };
      end = end_of s;
      input = is_some source.input;
      last = block_ends source first n.end insts s kept later within refl last;
      body = block_goes_on source first n.end insts kept later within n.gaps refl;
    } in
    record {
      block = block;
      begins = refl;
      ends = omega arith;
      is = is_block source block n.end leader later within n.gaps n.leads refl (ap (option_map end_of) last) refl;
    }

blocks_from : (source : SourceValue) → IsSource source → (n first : ℕ) → first ≤ length source.statements → length source.statements ≤ first + n
    → LeadsOrEnds source first → (blocks : List Block) × BlocksFrom source first (length source.statements) blocks
blocks_from source kept zero first within few leads = ([], omega arith)
blocks_from source kept (suc n) first within few leads = ⊎_elim
    (λ leader. ⊎_elim
    (λ at. ([], at))
    (λ apart.
    let next = next_leader source first leader (omega arith) in
    let later = next.later in
    let b = block_at source first kept leader next in
    let rest = blocks_from source kept n next.end next.within (omega arith) next.leads in
    (b.block ∷ rest.0, (b.begins, b.is, subst (λ (k : ℕ). BlocksFrom source k (length source.statements) rest.0) (sym b.ends) rest.1)))
    (cases_eq first (length source.statements)))
    (λ at. ([], at))
    leads

pub blocks_exist : BlocksExist
blocks_exist source kept = blocks_from source kept (length source.statements) 0 (omega arith) (omega arith) (inl refl)
