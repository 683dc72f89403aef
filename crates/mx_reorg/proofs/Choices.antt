-- The order of candidates, and the best so far.
use Rattle.std.proofs.Common.{◌≡◌, ℕ, zero, suc, ◌+◌, ◌<◌, ◌≤◌, Bool, false, cond, ◌-◌, ◌⊎◌, List, [], ◌∷◌, ◌++◌, length, refl, sym, ap, ◌∙◌, subst, ⊎_elim, inl, inr, arith}
use Rattle.std.specs.Prelude.{slice_index}
use Rattle.std.proofs.lemmas.Option.{same_Some, none-some}
use Rattle.std.proofs.lemmas.Bool.{cases_lt}
use Rattle.mx_isa.specs.declared.inst.Inst.{Inst}
use Rattle.mx_depend.specs.Graphs.{IsHeight, GraphValue, IsGraph}
use Rattle.mx_blocks.specs.declared.block.Block.{Block}
use Rattle.mx_blocks.specs.declared.block.End.{End}
use Rattle.mx_blocks.specs.declared.block.Item.{Item}
use Rattle.mx_blocks.specs.declared.block.Item.TheVariants.{Op, Nop}
use Rattle.mx_blocks.specs.Items.{StandsAt}
use Rattle.mx_validate.specs.Padded.{insts_of, body_count, falls}
use Rattle.mx_reorg.specs.Greedy.{IsCandidate, Precedes, Fills, AllStand, RestFits, terminator, loads}
use Rattle.mx_reorg.specs.Making.{IsBetter}

pub height_unique : (insts : List Inst) (input : Bool) (x h g : ℕ) → IsHeight insts input x h → IsHeight insts input x g → h ≡ g
height_unique insts input x h g a b =
    let low = b.greatest a.path a.leads in
    let high = a.greatest b.path b.leads in
    let e = a.weighs in
    let f = b.weighs in
    omega arith

pub precedes_self : (block : Block) (x : ℕ) → Precedes block x x
precedes_self block x h g a b = inr (height_unique (insts_of block) block.input x g h b a, omega arith)

in_turn : (h m g x y z : ℕ) → (m < h) ⊎ ((m ≡ h) × (x ≤ y)) → (g < m) ⊎ ((g ≡ m) × (y ≤ z)) → (g < h) ⊎ ((g ≡ h) × (x ≤ z))
in_turn h m g x y z p q = ⊎_elim
    (λ less. inl (⊎_elim (λ l. omega arith) (λ e. omega arith) q))
    (λ same. ⊎_elim (λ l. inl (omega arith)) (λ e. inr (omega arith, omega arith)) q)
    p

pub precedes_in_turn : (block : Block) (x y z m : ℕ) → IsHeight (insts_of block) block.input y m → Precedes block x y → Precedes block y z → Precedes block x z
precedes_in_turn block x y z m q p r h g a b = in_turn h m g x y z (p h m a q) (r m g q b)

pub precedes_higher : (block : Block) (x y k m : ℕ) → IsHeight (insts_of block) block.input x k → IsHeight (insts_of block) block.input y m → m < k
    → Precedes block x y
precedes_higher block x y k m p q l h g a b =
    let e = height_unique (insts_of block) block.input x h k a p in
    let f = height_unique (insts_of block) block.input y g m b q in
    inl (omega arith)

pub precedes_as_high : (block : Block) (x y k m : ℕ) → IsHeight (insts_of block) block.input x k → IsHeight (insts_of block) block.input y m → m ≤ k → x ≤ y
    → Precedes block x y
precedes_as_high block x y k m p q l o h g a b =
    let e = height_unique (insts_of block) block.input x h k a p in
    let f = height_unique (insts_of block) block.input y g m b q in
    ⊎_elim (λ less. inl less) (λ more. inr (omega arith, o)) (cases_lt g h)

-- the best candidate below x, or a no-op where there is none
pub record BestBelow (block : Block) (before : List Item) (x : ℕ) (best : Item) : Type 0 where
  pub none : best ≡ Nop → (y : ℕ) → y < x → ¬ IsCandidate block before y
  pub low : (b : ℕ) → best ≡ Op b → b < x
  pub candidate : (b : ℕ) → best ≡ Op b → IsCandidate block before b
  pub greatest : (b : ℕ) → best ≡ Op b → (y : ℕ) → y < x → IsCandidate block before y → Precedes block b y

pub none_below : (block : Block) (before : List Item) → BestBelow block before 0 Nop
none_below block before = record {
  none = λ e y l. absurd (omega arith);
  low = λ b e. absurd (cc);
  candidate = λ b e. absurd (cc);
  greatest = λ b e. absurd (cc);
}

pub no_candidate : (block : Block) (before : List Item) (x : ℕ) (best : Item) → BestBelow block before x best → (¬ IsCandidate block before x)
    → BestBelow block before (x + 1) best
no_candidate block before x best h none = record {
  none = λ e y l. ⊎_elim (λ b. h.none e y b) (λ g. at y (omega arith)) (cases_lt y x);
  low = λ b e. (let l = h.low b e in omega arith);
  candidate = h.candidate;
  greatest = λ b e y l c. ⊎_elim (λ s. h.greatest b e y s c) (λ g. absurd (at y (omega arith) c)) (cases_lt y x);
}
  where
    at : (y : ℕ) → y ≡ x → ¬ IsCandidate block before y
    at y e c = none (subst (λ (n : ℕ). IsCandidate block before n) e c)

pub op_same : (a b : ℕ) (item : Item) → item ≡ Op a → item ≡ Op b → a ≡ b
op_same a b item e f = let g : Op a ≡ Op b = sym e ∙ f in cc

pub op_not_nop : (a : ℕ) (item : Item) → item ≡ Op a → item ≡ Nop → ⊥
op_not_nop a item e f = let g : Op a ≡ Nop = sym e ∙ f in absurd (cc)

-- each instruction has a height
pub record HasHeight (block : Block) (x : ℕ) : Type 0 where
  pub height : ℕ
  pub is : IsHeight (insts_of block) block.input x height

pub one_candidate : (block : Block) (before : List Item) (x : ℕ) (best next : Item) → ((b : ℕ) → b < length (insts_of block) → HasHeight block b)
    → x < length (insts_of block) → BestBelow block before x best → IsCandidate block before x → (best ≡ Nop → next ≡ Op x)
    → ((b : ℕ) → best ≡ Op b → b ≤ x → IsBetter block b x next) → BestBelow block before (x + 1) next
one_candidate block before x best next known within h c n o = by_best best refl
  where
    here : (b : ℕ) → b ≡ x → IsCandidate block before b
    here b e = subst (λ (k : ℕ). IsCandidate block before k) (sym e) c

    by_best : (i : Item) → best ≡ i → BestBelow block before (x + 1) next
    by_best Nop e = record {
      none = λ f. absurd (op_not_nop x next (n e) f);
      low = λ b f. (let s = op_same b x next f (n e) in omega arith);
      candidate = λ b f. here b (op_same b x next f (n e));
      greatest = λ b f y l d. ⊎_elim
          (λ below. absurd (h.none e y below d))
          (λ above.
          let s : x ≡ b = sym (op_same b x next f (n e)) in
          let t : x ≡ y = omega arith in
          subst (λ (k : ℕ). Precedes block b k) t (subst (λ (k : ℕ). Precedes block k x) s (precedes_self block x)))
          (cases_lt y x);
    }
    by_best (Op a) e =
        let low = h.low a e in
        let better = o a e (omega arith) in
        record {
          none = λ f. ⊎_elim (λ u. absurd (op_not_nop a next u f)) (λ u. absurd (op_not_nop x next u f)) better.is;
          low = λ b f. ⊎_elim (λ u. (let s = op_same b a next f u in omega arith)) (λ u. (let s = op_same b x next f u in omega arith)) better.is;
          candidate = λ b f. ⊎_elim
              (λ u. subst (λ (k : ℕ). IsCandidate block before k) (op_same a b next u f) (h.candidate a e))
              (λ u. here b (op_same b x next f u))
              better.is;
          greatest = λ b f y l d. ⊎_elim
              (λ below.
              let m = known a (omega arith) in
              precedes_in_turn block b a y m.height m.is (better.precedes b f).0 (h.greatest a e y below d))
              (λ above. let t : x ≡ y = omega arith in subst (λ (k : ℕ). Precedes block b k) t (better.precedes b f).1)
              (cases_lt y x);
        }

pub best_fills : (block : Block) (before : List Item) (best : Item) → BestBelow block before (body_count block) best → Fills block before best
best_fills block before (Op b) h = record {
  candidate = h.candidate b refl;
  greatest = λ y d. h.greatest b refl y d.body d;
}
best_fills block before Nop h = λ k d. h.none refl k d.body d

-- k stands at a place below i
pub record StandsBelow (items : List Item) (i k : ℕ) : Type 0 where
  pub at : ℕ
  pub below : at < i
  pub stands : StandsAt items at k

pub better_later : (block : Block) (b x m k : ℕ) → IsHeight (insts_of block) block.input b m → IsHeight (insts_of block) block.input x k → m < k
    → IsBetter block b x (Op x)
better_later block b x m k p q l = record {
  is = inr refl;
  precedes = λ j e. (let s : x ≡ j = op_same x j (Op x) refl e in
      (subst (λ (i : ℕ). Precedes block i b) s (precedes_higher block x b k m q p l), subst (λ (i : ℕ). Precedes block i x) s (precedes_self block x)));
}

pub better_earlier : (block : Block) (b x m k : ℕ) → IsHeight (insts_of block) block.input b m → IsHeight (insts_of block) block.input x k → k ≤ m → b ≤ x
    → IsBetter block b x (Op b)
better_earlier block b x m k p q l o = record {
  is = inl refl;
  precedes = λ j e. (let s : b ≡ j = op_same b j (Op b) refl e in
      (subst (λ (i : ℕ). Precedes block i b) s (precedes_self block b), subst (λ (i : ℕ). Precedes block i x) s (precedes_as_high block b x m k p q l o)));
}

body_small : (end : End) (n : ℕ) → cond (falls end) n (n - 1) ≤ n
body_small end n = grind arith

pub fills_low : (block : Block) (before : List Item) (item : Item) → Fills block before item → (k : ℕ) → item ≡ Op k → k < length (insts_of block)
fills_low block before (Op j) f k e =
    let s = op_same j k (Op j) refl e in
    let l = f.candidate.body in
    let small = body_small block.end (length (insts_of block)) in
    omega arith
fills_low block before Nop f k e = absurd (op_not_nop k Nop e refl)

both_first : (h g x y : ℕ) → (g < h) ⊎ ((g ≡ h) × (x ≤ y)) → (h < g) ⊎ ((h ≡ g) × (y ≤ x)) → x ≡ y
both_first h g x y p q =
    ⊎_elim (λ l. ⊎_elim (λ m. absurd (omega arith)) (λ m. absurd (omega arith)) q) (λ l. ⊎_elim (λ m. absurd (omega arith)) (λ m. omega arith) q) p

-- at most one item fills a place
pub fills_unique : (block : Block) (before : List Item) (a b : Item) → ((x : ℕ) → x < length (insts_of block) → HasHeight block x) → Fills block before a
    → Fills block before b → a ≡ b
fills_unique block before (Op k) (Op j) known f g =
    let h = known k (fills_low block before (Op k) f k refl) in
    let m = known j (fills_low block before (Op j) g j refl) in
    ap Op (both_first h.height m.height k j (f.greatest j g.candidate h.height m.height h.is m.is) (g.greatest k f.candidate m.height h.height m.is h.is))
fills_unique block before (Op k) Nop known f g = absurd (g k f.candidate)
fills_unique block before Nop (Op j) known f g = absurd (f j g.candidate)
fills_unique block before Nop Nop known f g = refl

-- what stands in a list with one item more
pub low_push : (n : ℕ) (items : List Item) (item : Item) → ((p k : ℕ) → StandsAt items p k → k < n) → ((k : ℕ) → item ≡ Op k → k < n) → (p k : ℕ)
    → StandsAt (items ++ item ∷ []) p k → k < n
low_push n [] item h l zero k s = l k (same_Some item (Op k) s)
low_push n [] item h l (suc p) k s = absurd (none-some (Op k) s)
low_push n (x ∷ items) item h l zero k s = h 0 k s
low_push n (x ∷ items) item h l (suc p) k s = low_push n items item (λ q j t. h (suc q) j t) l p k s

pub rest_same : (block : Block) (before : List Item) (first second : Item) → ((x : ℕ) → x < length (insts_of block) → HasHeight block x)
    → Fills block (before ++ Op (terminator block) ∷ []) first → Fills block (before ++ Op (terminator block) ∷ [] ++ first ∷ []) second → RestFits block before
    → AllStand block (before ++ Op (terminator block) ∷ [] ++ first ∷ [] ++ second ∷ []) × (loads block second ≡ false)
rest_same block before first second known f g r =
    let behind = before ++ Op (terminator block) ∷ [] in
    let e : r.first ≡ first = fills_unique block behind r.first first known r.first_fills f in
    let moved : Fills block (behind ++ first ∷ []) r.second = subst (λ (x : Item). Fills block (behind ++ x ∷ []) r.second) e r.second_fills in
    let d : r.second ≡ second = fills_unique block (behind ++ first ∷ []) r.second second known moved g in (
      subst (λ (y : Item). AllStand block (behind ++ first ∷ [] ++ y ∷ [])) d
          (subst (λ (x : Item). AllStand block (behind ++ x ∷ [] ++ r.second ∷ [])) e r.all),
      ap (loads block) (sym d) ∙ r.no_load,
    )

pub heights_known : (block : Block) (g : GraphValue) → IsGraph (insts_of block) block.input g → (x : ℕ) → x < length (insts_of block) → HasHeight block x
heights_known block g h x l = record { height = slice_index g.heights x; is = h.heights x l }
