-- Why a front ends: it has at most one item for each body instruction, and one more for each load.
use Rattle.std.proofs.Common.{◌≡◌, ◌≢◌, ℕ, zero, suc, ◌+◌, ◌-◌, ◌*◌, ◌<◌, ◌≤◌, Bool, true, false, cond, leb, ◌&&◌, ◌⊎◌, List, [], ◌∷◌, ◌++◌, length, length-append, Option, Some, None, refl, sym, ap, ◌∙◌, subst, ⊎_elim, inl, inr, arith}
use Rattle.std.specs.Prelude.{slice_get}
use Rattle.std.proofs.lemmas.Bool.{cases_lt, cases_eq, cases_Bool}
use Rattle.std.proofs.lemmas.Bool.Decides.{nat_tests}
use Rattle.std.proofs.lemmas.Grind.{common_steps}
use Rattle.std.proofs.lemmas.Option.{slice_get_within, same_Some, none-some}
use Rattle.mx_isa.specs.declared.inst.Inst.{Inst}
use Rattle.mx_isa.specs.Views.{is_load, reads, dest}
use Rattle.mx_depend.specs.Graphs.{inst_at}
use Rattle.mx_blocks.specs.declared.block.Block.{Block}
use Rattle.mx_blocks.specs.declared.block.End.{End}
use Rattle.mx_blocks.specs.declared.block.End.TheVariants.{Falls, Halts, Branches, Calls, Jumps}
use Rattle.mx_blocks.specs.declared.block.Item.{Item}
use Rattle.mx_blocks.specs.declared.block.Item.TheVariants.{Op, Nop}
use Rattle.mx_blocks.specs.Items.{StandsAt, ops, times}
use Rattle.mx_validate.specs.Padded.{insts_of, falls, body_count}
use Rattle.mx_validate.specs.Validity.{EndsWithoutLoad}
use Rattle.mx_validate.proofs.Listed.{ops_append, times_append, stands_counts, counted_stands}
use Rattle.mx_reorg.specs.Greedy.{Stands, LeavesApart, IsReady, Fills, AllStand, RestFits, MayEnd, terminator}

-- an instruction's place in the padded plan: two items for a load
abbrev pub cost : List Inst → ℕ → ℕ
cost insts k = cond (is_load (inst_at insts k)) 2 1

-- of the instructions below m, those that stand
abbrev pub spent : List Inst → List Item → ℕ → ℕ
spent insts items zero = 0
spent insts items (suc m) = spent insts items m + cond (leb 1 (times m (ops items))) (cost insts m) 0

abbrev pub total : List Inst → ℕ → ℕ
total insts zero = 0
total insts (suc m) = total insts m + cost insts m

cost_low : (b : Bool) → 1 ≤ cond b 2 1
cost_low true = omega arith
cost_low false = omega arith

cost_high : (b : Bool) → cond b 2 1 ≤ 2
cost_high true = omega arith
cost_high false = omega arith

part : (b : Bool) (n : ℕ) → cond b n 0 ≤ n
part true n = omega arith
part false n = omega arith

spent_small : (insts : List Inst) (items : List Item) (m : ℕ) → spent insts items m ≤ total insts m
spent_small insts items zero = omega arith
spent_small insts items (suc m) =
    let rest = spent_small insts items m in
    let one = part (leb 1 (times m (ops items))) (cost insts m) in
    omega arith

pub total_small : (insts : List Inst) (m : ℕ) → total insts m ≤ 2 * m
total_small insts zero = omega arith
total_small insts (suc m) =
    let rest = total_small insts m in
    let one = cost_high (is_load (inst_at insts m)) in
    omega arith

times_push : (j k : ℕ) (items : List Item) → times j (ops (items ++ Op k ∷ [])) ≡ times j (ops items) + times j (k ∷ [])
times_push j k items = ap (times j) (ops_append items (Op k ∷ [])) ∙ times_append j (ops items) (k ∷ [])

times_one : (j k : ℕ) → j ≢ k → times j (k ∷ []) ≡ 0
times_one j k ne = grind (arith, nat_tests)

times_self : (k : ℕ) → times k (k ∷ []) ≡ 1
times_self k = grind (arith, nat_tests)

apart_kept : (j k : ℕ) (items : List Item) → j ≢ k → times j (ops (items ++ Op k ∷ [])) ≡ times j (ops items)
apart_kept j k items ne = let e = times_push j k items in let z = times_one j k ne in omega arith

spent_below : (insts : List Inst) (items : List Item) (k m : ℕ) → m ≤ k → spent insts (items ++ Op k ∷ []) m ≡ spent insts items m
spent_below insts items k zero l = refl
spent_below insts items k (suc m) l =
    let ne : m ≢ k = omega arith in
    let rest = spent_below insts items k m (omega arith) in
    ap (λ n. n + cond (leb 1 (times m (ops (items ++ Op k ∷ [])))) (cost insts m) 0) rest
    ∙ ap (λ t. spent insts items m + cond (leb 1 t) (cost insts m) 0) (apart_kept m k items ne)

spent_push : (insts : List Inst) (items : List Item) (k m : ℕ) → k < m → times k (ops items) ≡ 0
    → spent insts (items ++ Op k ∷ []) m ≡ spent insts items m + cost insts k
spent_push insts items k zero l z = absurd (omega arith)
spent_push insts items k (suc m) l z = ⊎_elim
    (λ e. at m e)
    (λ ne.
    let rest = spent_push insts items k m (omega arith) z in
    let same = ap (λ t. cond (leb 1 t) (cost insts m) 0) (apart_kept m k items (λ e. ne (sym e))) in
    omega arith)
    (cases_eq k m)
  where
    one : (c : ℕ) → cond (leb 1 1) c 0 ≡ c
    one c = refl

    none : (c : ℕ) → cond (leb 1 0) c 0 ≡ 0
    none c = refl

    at : (m : ℕ) → k ≡ m → spent insts (items ++ Op k ∷ []) (suc m) ≡ spent insts items (suc m) + cost insts k
    at m e =
        let below = spent_below insts items k m (omega arith) in
        let before : times m (ops items) ≡ 0 = ap (λ j. times j (ops items)) (sym e) ∙ z in
        let now : times m (ops (items ++ Op k ∷ [])) ≡ 1 =
        ap (λ j. times j (ops (items ++ Op k ∷ []))) (sym e) ∙ times_push k k items ∙ ap (λ n. n + times k (k ∷ [])) z ∙ ap (λ n. 0 + n) (times_self k) in
        let a : cond (leb 1 (times m (ops (items ++ Op k ∷ [])))) (cost insts m) 0 ≡ cost insts m =
        ap (λ t. cond (leb 1 t) (cost insts m) 0) now ∙ one (cost insts m) in
        let b : cond (leb 1 (times m (ops items))) (cost insts m) 0 ≡ 0 = ap (λ t. cond (leb 1 t) (cost insts m) 0) before ∙ none (cost insts m) in
        let c : cost insts m ≡ cost insts k = ap (cost insts) (sym e) in
        omega arith

no_more : (xs : List ℕ) → xs ++ [] ≡ xs
no_more xs = grind (arith, common_steps)

ops_nop : (items : List Item) → ops (items ++ Nop ∷ []) ≡ ops items
ops_nop items = ops_append items (Nop ∷ []) ∙ no_more (ops items)

spent_nop : (insts : List Inst) (items : List Item) (m : ℕ) → spent insts (items ++ Nop ∷ []) m ≡ spent insts items m
spent_nop insts items zero = refl
spent_nop insts items (suc m) =
    ap (λ n. n + cond (leb 1 (times m (ops (items ++ Nop ∷ [])))) (cost insts m) 0) (spent_nop insts items m)
    ∙ ap (λ l. spent insts items m + cond (leb 1 (times m l)) (cost insts m) 0) (ops_nop items)

-- the last item is a load
pub record LastLoads (block : Block) (items : List Item) : Type 0 where
  place : ℕ
  inst : ℕ
  stands : StandsAt items place inst
  last : suc place ≡ length items
  load : is_load (inst_at (insts_of block) inst) ≡ true

-- a list is no longer than what it has spent, and shorter where its last item is a load
pub record Cost (block : Block) (items : List Item) : Type 0 where
  pub all : length items ≤ spent (insts_of block) items (body_count block)
  pub loaded : (p k : ℕ) → StandsAt items p k → suc p ≡ length items → is_load (inst_at (insts_of block) k) ≡ true
      → length items + 1 ≤ spent (insts_of block) items (body_count block)

pub cost_none : (block : Block) (items : List Item) → items ≡ [] → Cost block items
cost_none block items e = record {
  all = let n = ap length e in omega arith;
  loaded = λ p k s l m. (let n = ap length e in absurd (omega arith));
}

pub last_item : (items : List Item) (item : Item) (p k : ℕ) → StandsAt (items ++ item ∷ []) p k → suc p ≡ length (items ++ item ∷ []) → item ≡ Op k
last_item [] item zero k s e = same_Some item (Op k) s
last_item [] item (suc p) k s e = absurd (none-some (Op k) s)
last_item (x ∷ items) item zero k s e = absurd (let n = length-append items (item ∷ []) in omega arith)
last_item (x ∷ items) item (suc p) k s e = last_item items item p k s (omega arith)

stands_more : (items rest : List Item) (p k : ℕ) → StandsAt items p k → StandsAt (items ++ rest) p k
stands_more [] rest p k s = absurd (none-some (Op k) s)
stands_more (x ∷ items) rest zero k s = s
stands_more (x ∷ items) rest (suc p) k s = stands_more items rest p k s

more : (items rest : List Item) (k : ℕ) → Stands items k → Stands (items ++ rest) k
more items rest k s = record { at = s.at; stands = stands_more items rest s.at k s.stands }

pub fresh_zero : (items : List Item) (k : ℕ) → (¬ Stands items k) → times k (ops items) ≡ 0
fresh_zero items k none = ⊎_elim
    (λ l. let s = counted_stands k items l in absurd (none (record { at = s.at; stands = s.stands })))
    (λ z. omega arith)
    (cases_lt 0 (times k (ops items)))

-- the least of the numbers below m that does not stand
record Missing (items : List Item) (m : ℕ) : Type 0 where
  number : ℕ
  low : number < m
  missing : ¬ Stands items number
  below : (j : ℕ) → j < number → Stands items j

all_or_missing : (items : List Item) (m : ℕ) → ((k : ℕ) → k < m → Stands items k) ⊎ Missing items m
all_or_missing items zero = inl (λ k l. absurd (omega arith))
all_or_missing items (suc m) = ⊎_elim
    (λ all. ⊎_elim
    (λ l. let s = counted_stands m items l in
    inl (λ k b. ⊎_elim (λ c. all k c) (λ g. (let e : m ≡ k = omega arith in subst (λ (n : ℕ). Stands items n) e (record { at = s.at; stands = s.stands })))
    (cases_lt k m)))
    (λ z. inr (record { number = m; low = omega arith; missing = λ s. (let c = stands_counts m items s.at s.stands in absurd (omega arith)); below = all }))
    (cases_lt 0 (times m (ops items))))
    (λ h. inr (record { number = h.number; low = (let l = h.low in omega arith); missing = h.missing; below = h.below }))
    (all_or_missing items m)

last_or_not : (block : Block) (items : List Item) → LastLoads block items ⊎ EndsWithoutLoad (insts_of block) items
last_or_not block items = at_last (slice_get items (length items - 1)) refl
  where
    place_of : (p k : ℕ) → StandsAt items p k → suc p ≡ length items → StandsAt items (length items - 1) k
    place_of p k s e = let same : p ≡ length items - 1 = omega arith in subst (λ (n : ℕ). StandsAt items n k) same s

    at_last : (o : Option Item) → slice_get items (length items - 1) ≡ o → LastLoads block items ⊎ EndsWithoutLoad (insts_of block) items
    at_last None e = inr (λ p k s l. absurd (none-some (Op k) (sym e ∙ place_of p k s l)))
    at_last (Some Nop) e = inr (λ p k s l. absurd (let f : Some Nop ≡ Some (Op k) = sym e ∙ place_of p k s l in cc))
    at_last (Some (Op j)) e = ⊎_elim
        (λ t. inl (record {
          place = length items - 1;
          inst = j;
          stands = e;
          last = (let w = slice_get_within items (length items - 1) (Op j) e in omega arith);
          load = t;
        }))
        (λ f. inr (λ p k s l.
        (let g : Some (Op j) ≡ Some (Op k) = sym e ∙ place_of p k s l in let same : j ≡ k = cc in
        ap (λ n. is_load (inst_at (insts_of block) n)) (sym same) ∙ f)))
        (cases_Bool (is_load (inst_at (insts_of block) j)))

quiet : (block : Block) (items : List Item) (x : ℕ) → EndsWithoutLoad (insts_of block) items → LeavesApart block items x
quiet block items x h p k s l = ap (λ b. b && reads (inst_at (insts_of block) x) (dest (inst_at (insts_of block) k))) (h p k s l)

two : (insts : List Inst) (k : ℕ) → is_load (inst_at insts k) ≡ true → cost insts k ≡ 2
two insts k e = let at : Bool → ℕ = λ t. cond t 2 1 in ap at e

-- one item more
pub cost_push : (block : Block) (items : List Item) (item : Item) → Fills block items item → (item ≡ Nop → LastLoads block items) → Cost block items
    → Cost block (items ++ item ∷ [])
cost_push block items (Op k) f h c =
    let insts = insts_of block in
    let m = body_count block in
    let size = length-append items (Op k ∷ []) in
    let sum = spent_push insts items k m f.candidate.body (fresh_zero items k f.candidate.fresh) in
    let low = cost_low (is_load (inst_at insts k)) in
    let all = c.all in
    record {
      all = omega arith;
      loaded = λ p j s l load.
          (let g : Op k ≡ Op j = last_item items (Op k) p j s l in
          let same : k ≡ j = cc in
          let both = two insts k (ap (λ n. is_load (inst_at insts n)) same ∙ load) in
          omega arith);
    }
cost_push block items Nop f h c =
    let size = length-append items (Nop ∷ []) in
    let sum = spent_nop (insts_of block) items (body_count block) in
    let last = h refl in
    let room = c.loaded last.place last.inst last.stands last.last last.load in
    record {
      all = omega arith;
      loaded = λ p j s l load. absurd (let g : Nop ≡ Op j = last_item items Nop p j s l in cc);
    }

leaves : (block : Block) (items : List Item) → falls block.end ≡ false → AllStand block items → EndsWithoutLoad (insts_of block) items
    → IsReady block items (terminator block) × RestFits block items
leaves block items e all q = (
  record {
    follows = λ y d.
        (let body : body_count block ≡ length (insts_of block) - 1 = ap (λ b. cond b (length (insts_of block)) (length (insts_of block) - 1)) e in
        let later = d.later in
        all y (omega arith));
    apart = quiet block items (terminator block) q;
  },
  record {
    first = Nop;
    second = Nop;
    first_fills = λ k d. d.fresh (one k (all k d.body));
    second_fills = λ k d. d.fresh (more (items ++ Op (terminator block) ∷ []) (Nop ∷ []) k (one k (all k d.body)));
    all = λ k l. more (items ++ Op (terminator block) ∷ [] ++ Nop ∷ []) (Nop ∷ []) k
        (more (items ++ Op (terminator block) ∷ []) (Nop ∷ []) k (one k (all k l)));
    no_load = refl;
  },
)
  where
    one : (k : ℕ) → Stands items k → Stands (items ++ Op (terminator block) ∷ []) k
    one k s = more items (Op (terminator block) ∷ []) k s

-- where all stand and the last item is not a load the front ends
ends_all : (block : Block) (items : List Item) (end : End) → block.end ≡ end → AllStand block items → EndsWithoutLoad (insts_of block) items
    → MayEnd end block items
ends_all block items Falls e all q = (all, q)
ends_all block items Halts e all q = all
ends_all block items (Branches target) e all q = leaves block items (ap falls e) all q
ends_all block items (Calls target) e all q = leaves block items (ap falls e) all q
ends_all block items Jumps e all q = leaves block items (ap falls e) all q

-- a front without a candidate, that does not end, has a load as its last item
pub load_last : (block : Block) (items : List Item) → Fills block items Nop → (¬ MayEnd block.end block items) → LastLoads block items
load_last block items f going = ⊎_elim
    (λ l. l)
    (λ q. ⊎_elim
    (λ all. absurd (going (ends_all block items block.end refl all q)))
    (λ h. absurd (f h.number (record {
      body = h.low;
      fresh = h.missing;
      ready = record { follows = λ y d. h.below y d.later; apart = quiet block items h.number q };
    })))
    (all_or_missing items (body_count block)))
    (last_or_not block items)

pub cost_grows : (block : Block) (items : List Item) (item : Item) → Fills block items item → (¬ MayEnd block.end block items) → Cost block items
    → Cost block (items ++ item ∷ [])
cost_grows block items item f going c =
    cost_push block items item f (λ e. load_last block items (subst (λ (x : Item). Fills block items x) e f) going) c

pub short : (block : Block) (items : List Item) → Cost block items → length items ≤ total (insts_of block) (body_count block)
short block items c =
    let all = c.all in
    let most = spent_small (insts_of block) items (body_count block) in
    omega arith

pub body_low : (b : Bool) (n : ℕ) → cond b n (n - 1) ≤ n
body_low true n = omega arith
body_low false n = omega arith

pub few : (block : Block) → length (insts_of block) ≤ 64 → total (insts_of block) (body_count block) ≤ 128
few block l =
    let small = total_small (insts_of block) (body_count block) in
    let low = body_low (falls block.end) (length (insts_of block)) in
    omega arith
