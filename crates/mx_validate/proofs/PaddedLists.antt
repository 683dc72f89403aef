-- The padded list of a block is a valid plan of it.
use Rattle.std.proofs.Common.{◌≡◌, ℕ, zero, suc, ◌+◌, ◌-◌, ◌*◌, ◌<◌, ◌≤◌, Bool, true, false, cond, eqb, leb, ltb, ◌&&◌, ◌||◌, List, [], ◌∷◌, ◌++◌, length, length-append, append_assoc, Option, Some, None, slice_index_or, take, refl, sym, ap, ◌∙◌, ⊎_elim, arith}
use Rattle.std.specs.Prelude.{slice_get}
use Rattle.std.proofs.lemmas.Bool.{false≢true, cases_Bool}
use Rattle.std.proofs.lemmas.Bool.Decides.{nat_tests}
use Rattle.std.proofs.lemmas.Grind.{common_steps}
use Rattle.std.proofs.lemmas.List.{take_more}
use Rattle.std.proofs.lemmas.Option.{slice_get_within, slice_get-get_or, get_or_from_slice_get}
use Rattle.mx_isa.specs.declared.inst.Inst.{Inst}
use Rattle.mx_isa.specs.declared.inst.Inst.TheVariants.{Branch, Jspci, Halt}
use Rattle.mx_isa.specs.Views.{is_load, is_transfer, is_halt, reads, dest}
use Rattle.mx_depend.specs.Independence.{feeds}
use Rattle.mx_depend.specs.Graphs.{inst_at}
use Rattle.mx_blocks.specs.declared.block.Block.{Block}
use Rattle.mx_blocks.specs.declared.block.Plan.{Plan}
use Rattle.mx_blocks.specs.declared.block.Item.{Item}
use Rattle.mx_blocks.specs.declared.block.Item.TheVariants.{Op, Nop}
use Rattle.mx_blocks.specs.declared.block.End.{End}
use Rattle.mx_blocks.specs.declared.block.End.TheVariants.{Falls, Halts, Branches, Calls, Jumps}
use Rattle.mx_blocks.specs.Ends.{is_branch, is_jump, is_last, end_is, is_some_and, ends_as, GoesOn}
use Rattle.mx_blocks.specs.Items.{StandsAt, ops, times}
use Rattle.mx_validate.specs.Padded.{insts_of, items_of, falls, no_ops_after, padded_from, IsPadded}
use Rattle.mx_validate.specs.Validity.{end_count, Valid}

abbrev nops : Bool → Bool → List Item
nops l t = cond l (Nop ∷ []) (cond t (Nop ∷ Nop ∷ []) [])

-- what stands behind no-ops
record Behind (rest : List Item) (p j n : ℕ) : Type 0 where
  at : ℕ
  stands : StandsAt rest at j
  is : p ≡ at + n

behind : (l t : Bool) (rest : List Item) (p j : ℕ) → StandsAt (nops l t ++ rest) p j → Behind rest p j (length (nops l t))
behind true t rest zero j s = absurd (cc)
behind true t rest (suc p) j s = record { at = p; stands = s; is = omega arith }
behind false true rest zero j s = absurd (cc)
behind false true rest (suc zero) j s = absurd (cc)
behind false true rest (suc (suc p)) j s = record { at = p; stands = s; is = omega arith }
behind false false rest p j s = record { at = p; stands = s; is = omega arith }

shift : (l t : Bool) (rest : List Item) (p q : ℕ) → p ≡ q + length (nops l t) → slice_get (nops l t ++ rest) p ≡ slice_get rest q
shift true t rest zero q e = absurd (omega arith)
shift true t rest (suc p) q e = let same : p ≡ q = omega arith in ap (slice_get rest) same
shift false true rest zero q e = absurd (omega arith)
shift false true rest (suc zero) q e = absurd (omega arith)
shift false true rest (suc (suc p)) q e = let same : p ≡ q = omega arith in ap (slice_get rest) same
shift false false rest p q e = let same : p ≡ q = omega arith in ap (slice_get rest) same

times_nops : (k : ℕ) (l t : Bool) (rest : List Item) → times k (ops (nops l t ++ rest)) ≡ times k (ops rest)
times_nops k true t rest = refl
times_nops k false true rest = refl
times_nops k false false rest = refl

nop_first : (l t : Bool) (rest : List Item) → l ≡ true → slice_get (nops l t ++ rest) 0 ≡ Some Nop
nop_first true t rest e = refl
nop_first false t rest e = absurd (false≢true e)

nops_few : (l t : Bool) → t ≡ false → length (nops l t) ≤ 1
nops_few true t e = omega arith
nops_few false true e = absurd (cc)
nops_few false false e = omega arith

padded_low : (k : ℕ) (xs : List Inst) (p j : ℕ) → StandsAt (padded_from k xs) p j → k ≤ j
padded_low k [] p j s = absurd (cc)
padded_low k (x ∷ xs) zero j s = let same : k ≡ j = cc in omega arith
padded_low k (x ∷ xs) (suc p) j s =
    let b = behind (is_load x) (is_transfer x) (padded_from (suc k) xs) p j s in
    let r = padded_low (suc k) xs b.at j b.stands in
    omega arith

padded_order : (k : ℕ) (xs : List Inst) (p q a b : ℕ) → StandsAt (padded_from k xs) p a → StandsAt (padded_from k xs) q b → p < q → a < b
padded_order k [] p q a b s t l = absurd (cc)
padded_order k (x ∷ xs) p zero a b s t l = absurd (omega arith)
padded_order k (x ∷ xs) zero (suc q) a b s t l =
    let same : k ≡ a = cc in
    let d = behind (is_load x) (is_transfer x) (padded_from (suc k) xs) q b t in
    let r = padded_low (suc k) xs d.at b d.stands in
    omega arith
padded_order k (x ∷ xs) (suc p) (suc q) a b s t l =
    let c = behind (is_load x) (is_transfer x) (padded_from (suc k) xs) p a s in
    let d = behind (is_load x) (is_transfer x) (padded_from (suc k) xs) q b t in
    let e = c.is in
    let f = d.is in
    padded_order (suc k) xs c.at d.at a b c.stands d.stands (omega arith)

one_more : (j k n t : ℕ) → t ≡ cond (leb (suc k) j && ltb j (suc k + n)) 1 0 → cond (eqb j k) (suc t) t ≡ cond (leb k j && ltb j (k + suc n)) 1 0
one_more j k n t e = grind (arith, nat_tests)

padded_times : (j k : ℕ) (xs : List Inst) → times j (ops (padded_from k xs)) ≡ cond (leb k j && ltb j (k + length xs)) 1 0
padded_times j k [] = grind (arith, nat_tests)
padded_times j k (x ∷ xs) =
    let rest : times j (ops (nops (is_load x) (is_transfer x) ++ padded_from (suc k) xs)) ≡ cond (leb (suc k) j && ltb j (suc k + length xs)) 1 0 =
    times_nops j (is_load x) (is_transfer x) (padded_from (suc k) xs) ∙ padded_times j (suc k) xs in
    one_more j k (length xs) (times j (ops (nops (is_load x) (is_transfer x) ++ padded_from (suc k) xs))) rest

-- a load is followed by a no-op
load_padded : (inst : ℕ → Inst) (k : ℕ) (xs : List Inst) (p j : ℕ) → ((i : ℕ) → i < length xs → inst_at xs i ≡ inst (k + i)) → StandsAt (padded_from k xs) p j
    → is_load (inst j) ≡ true → slice_get (padded_from k xs) (suc p) ≡ Some Nop
load_padded inst k [] p j h s l = absurd (cc)
load_padded inst k (x ∷ xs) zero j h s l =
    let plain : j ≡ k = cc in
    let same : j ≡ k + 0 = omega arith in
    let first : x ≡ inst (k + 0) = h 0 (omega arith) in
    let loads : is_load x ≡ true = ap is_load first ∙ ap (λ n. is_load (inst n)) (sym same) ∙ l in
    nop_first (is_load x) (is_transfer x) (padded_from (suc k) xs) loads
load_padded inst k (x ∷ xs) (suc p) j h s l =
    let b = behind (is_load x) (is_transfer x) (padded_from (suc k) xs) p j s in
    let further : (i : ℕ) → i < length xs
    → inst_at xs i ≡ inst (suc k + i) = λ i m. (let same : k + suc i ≡ suc k + i = omega arith in h (suc i) (omega arith) ∙ ap inst same) in
    let is = b.is in
    let place : suc p ≡ suc b.at + length (nops (is_load x) (is_transfer x)) = omega arith in
    shift (is_load x) (is_transfer x) (padded_from (suc k) xs) (suc p) (suc b.at) place
    ∙ load_padded inst (suc k) xs b.at j further b.stands l

pub padded_append : (k : ℕ) (xs ys : List Inst) → padded_from k (xs ++ ys) ≡ padded_from k xs ++ padded_from (k + length xs) ys
padded_append k [] ys = let same : k ≡ k + 0 = omega arith in ap (λ n. padded_from n ys) same
padded_append k (x ∷ xs) ys =
    let same : suc k + length xs ≡ k + length (x ∷ xs) = omega arith in
    ap (λ l. Op k ∷ (nops (is_load x) (is_transfer x) ++ l)) (padded_append (suc k) xs ys)
    ∙ ap (λ l. Op k ∷ l) (sym (append_assoc (nops (is_load x) (is_transfer x)) (padded_from (suc k) xs) (padded_from (suc k + length xs) ys)))
    ∙ ap (λ n. Op k ∷ ((nops (is_load x) (is_transfer x) ++ padded_from (suc k) xs) ++ padded_from n ys)) same

pub padded_length : (k : ℕ) (xs : List Inst) → ((i : ℕ) → i < length xs → is_transfer (inst_at xs i) ≡ false) → length (padded_from k xs) ≤ 2 * length xs
padded_length k [] h = omega arith
padded_length k (x ∷ xs) h =
    let few = nops_few (is_load x) (is_transfer x) (h 0 (omega arith)) in
    let rest = padded_length (suc k) xs (λ i l. h (suc i) (omega arith)) in
    let both = length-append (nops (is_load x) (is_transfer x)) (padded_from (suc k) xs) in
    omega arith

no_more : (xs : List Item) → xs ++ [] ≡ xs
no_more xs = grind (arith, common_steps)

-- one instruction more
pub padded_more : (insts : List Inst) (k : ℕ) (d : Inst) → k < length insts
    → padded_from 0 (take (k + 1) insts) ≡ padded_from 0 (take k insts) ++ Op k ∷ no_ops_after (slice_index_or insts k d)
padded_more insts k d l =
    let n : 0 + length (take k insts) ≡ k = grind (arith, common_steps) in
    let x = slice_index_or insts k d in
    ap (padded_from 0) (take_more insts k d l)
    ∙ padded_append 0 (take k insts) (x ∷ [])
    ∙ ap (λ m. padded_from 0 (take k insts) ++ Op m ∷ (no_ops_after x ++ [])) n
    ∙ ap (λ xs. padded_from 0 (take k insts) ++ Op k ∷ xs) (no_more (no_ops_after x))

pub all_taken : (insts : List Inst) → take (length insts) insts ≡ insts
all_taken insts = grind (arith, common_steps)

-- the last instruction, which goes with the end
pub record Last (end : End) (insts : List Inst) : Type 0 where
  inst : Inst
  some : 1 ≤ length insts
  is : slice_index_or insts (length insts - 1) Halt ≡ inst
  ends : end_is end inst ≡ true

last_of : (end : End) (insts : List Inst) → ends_as end insts ≡ true → Last end insts
last_of end insts h = at_last (slice_get insts (length insts - 1)) refl
  where
    at_last : (o : Option Inst) → slice_get insts (length insts - 1) ≡ o → Last end insts
    at_last None e = absurd (false≢true (sym (ap (λ x. is_some_and x (end_is end)) e) ∙ h))
    at_last (Some x) e = record {
      inst = x;
      some = let l = slice_get_within insts (length insts - 1) x e in omega arith;
      is = get_or_from_slice_get insts (length insts - 1) x Halt e;
      ends = sym (ap (λ y. is_some_and y (end_is end)) e) ∙ h;
    }

halt_quiet : (i : Inst) → is_halt i ≡ true → no_ops_after i ≡ []
halt_quiet Halt h = refl
halt_quiet _ h = absurd (false≢true h)

branch_two : (i : Inst) → is_branch i ≡ true → no_ops_after i ≡ Nop ∷ Nop ∷ []
branch_two (Branch a b condition squash by) h = refl
branch_two _ h = absurd (false≢true h)

jump_two : (i : Inst) → is_jump i ≡ true → no_ops_after i ≡ Nop ∷ Nop ∷ []
jump_two (Jspci a d imm) h = refl
jump_two _ h = absurd (false≢true h)

-- how many items a terminator and its no-ops are
ended : (end : End) (i : Inst) → falls end ≡ false → end_is end i ≡ true → suc (length (no_ops_after i)) ≡ end_count end
ended Falls i f e = absurd (false≢true (sym f))
ended Halts i f e = ap (λ l. suc (length l)) (halt_quiet i e)
ended (Branches target) i f e = ap (λ l. suc (length l)) (branch_two i e)
ended (Calls target) i f e = ap (λ l. suc (length l)) (jump_two i e)
ended Jumps i f e = ap (λ l. suc (length l)) (jump_two i e)

-- the padded list of the body, and what stands from the terminator on
split_last : (end : End) (insts : List Inst) (l : Last end insts)
    → padded_from 0 insts ≡ padded_from 0 (take (length insts - 1) insts) ++ Op (length insts - 1) ∷ no_ops_after l.inst
split_last end insts l =
    let n = length insts in
    let some = l.some in
    let same : n ≡ n - 1 + 1 = omega arith in
    ap (padded_from 0) (sym (all_taken insts) ∙ ap (λ k. take k insts) same)
    ∙ padded_more insts (n - 1) Halt (omega arith)
    ∙ ap (λ x. padded_from 0 (take (n - 1) insts) ++ Op (n - 1) ∷ no_ops_after x) l.is

body_place : End → List Inst → ℕ
body_place end insts = length (padded_from 0 (take (cond (falls end) (length insts) (length insts - 1)) insts))

pub tail_of : (end : End) (insts : List Inst) → ends_as end insts ≡ true
    → length (padded_from 0 insts) ≡ length (padded_from 0 (take (cond (falls end) (length insts) (length insts - 1)) insts)) + end_count end
tail_of end insts h = by_kind (falls end) refl
  where
    by_kind : (f : Bool) → falls end ≡ f
        → length (padded_from 0 insts) ≡ length (padded_from 0 (take (cond (falls end) (length insts) (length insts - 1)) insts)) + end_count end
    by_kind true e = ap (λ l. length (padded_from 0 l)) (sym (all_taken insts)) ∙ falling end e
      where
        falling : (d : End) → falls d ≡ true
            → length (padded_from 0 (take (length insts) insts))
            ≡ length (padded_from 0 (take (cond (falls d) (length insts) (length insts - 1)) insts)) + end_count d
        falling Falls t = omega arith
        falling _ t = absurd (false≢true t)
    by_kind false e =
        let l = last_of end insts h in
        let count = ended end l.inst e l.ends in
        let body = padded_from 0 (take (length insts - 1) insts) in
        let both : length (padded_from 0 insts) ≡ length body + suc (length (no_ops_after l.inst)) =
        ap length (split_last end insts l) ∙ length-append body (Op (length insts - 1) ∷ no_ops_after l.inst) in
        both ∙ ap (λ n. length body + n) count
        ∙ ap (λ b. length (padded_from 0 (take (cond b (length insts) (length insts - 1)) insts)) + end_count end) (sym e)

at_middle : (xs ys : List Item) (x : Item) → slice_get (xs ++ x ∷ ys) (length xs) ≡ Some x
at_middle [] ys x = refl
at_middle (y ∷ xs) ys x = at_middle xs ys x

terminator_of : (end : End) (insts : List Inst) → ends_as end insts ≡ true → falls end ≡ false
    → StandsAt (padded_from 0 insts) (length (padded_from 0 (take (cond (falls end) (length insts) (length insts - 1)) insts))) (length insts - 1)
terminator_of end insts h e =
    let l = last_of end insts h in
    let body = padded_from 0 (take (length insts - 1) insts) in
    ap (λ b. slice_get (padded_from 0 insts) (length (padded_from 0 (take (cond b (length insts) (length insts - 1)) insts)))) e
    ∙ ap (λ items. slice_get items (length body)) (split_last end insts l)
    ∙ at_middle body (no_ops_after l.inst) (Op (length insts - 1))

padded_apart : (insts : List Inst) (p k j : ℕ) → StandsAt (padded_from 0 insts) p k → StandsAt (padded_from 0 insts) (suc p) j
    → feeds (inst_at insts k) (inst_at insts j) ≡ false
padded_apart insts p k j s t = ⊎_elim
    (λ l. let nop = load_padded (inst_at insts) 0 insts p k (λ i m. ap (inst_at insts) (zero_more i)) s l in absurd (cc))
    (λ l. ap (λ b. b && reads (inst_at insts j) (dest (inst_at insts k))) l)
    (cases_Bool (is_load (inst_at insts k)))
  where
    zero_more : (i : ℕ) → i ≡ 0 + i
    zero_more i = omega arith

padded_last : (insts : List Inst) (p k : ℕ) → StandsAt (padded_from 0 insts) p k → suc p ≡ length (padded_from 0 insts) → is_load (inst_at insts k) ≡ false
padded_last insts p k s e = ⊎_elim
    (λ l.
    let nop = load_padded (inst_at insts) 0 insts p k (λ i m. ap (inst_at insts) (zero_more i)) s l in
    let within = slice_get_within (padded_from 0 insts) (suc p) Nop nop in
    absurd (omega arith))
    (λ l. l)
    (cases_Bool (is_load (inst_at insts k)))
  where
    zero_more : (i : ℕ) → i ≡ 0 + i
    zero_more i = omega arith

pub valid_padded : (block : Block) (plan : Plan) → IsPadded block plan → Valid block plan
valid_padded block plan h =
    let insts = insts_of block in
    let list = padded_from 0 insts in
    let same : list ≡ items_of plan = sym h.items in
    record {
      once = λ k. ap (λ l. times k (ops l)) h.items ∙ padded_times k 0 insts ∙ grind (arith, nat_tests);
      terminator = λ f. ap (λ l. slice_get l plan.place) h.items ∙ ap (slice_get list) h.place ∙ terminator_of block.end insts block.last f;
      tail = ap length h.items ∙ tail_of block.end insts block.last ∙ ap (λ n. n + end_count block.end) (sym h.place);
      order = λ p q k j s t l m.
          (let high = padded_order 0 insts p q k j (at_padded insts p k (items_of plan) h.items s) (at_padded insts q j (items_of plan) h.items t) l in
          absurd (omega arith));
      apart = λ p k j s t. padded_apart insts p k j (at_padded insts p k (items_of plan) h.items s) (at_padded insts (suc p) j (items_of plan) h.items t);
      last = λ p k s e. padded_last insts p k (at_padded insts p k (items_of plan) h.items s) (e ∙ ap length h.items);
      room = let e = h.place in omega arith;
    }
  where
    at_padded : (insts : List Inst) (p k : ℕ) (items : List Item) → items ≡ padded_from 0 insts → StandsAt items p k → StandsAt (padded_from 0 insts) p k
    at_padded insts p k items e s = sym (ap (λ l. slice_get l p) e) ∙ s

-- no instruction of the body is a transfer
pub quiet_body : (insts : List Inst) (k : ℕ) → GoesOn insts → k < length insts → (i : ℕ) → i < length (take k insts)
    → is_transfer (inst_at (take k insts) i) ≡ false
quiet_body insts k g l i m =
    let short : length (take k insts) ≡ k = grind (arith, common_steps) in
    let below : suc i < length insts = omega arith in
    let at : slice_get insts i ≡ Some (inst_at insts i) = slice_get-get_or insts i Halt (omega arith) in
    let quiet : is_last (inst_at insts i) ≡ false = sym (ap (λ o. is_some_and o is_last) at) ∙ g i below in
    let taken : inst_at (take k insts) i ≡ inst_at insts i = grind (arith, common_steps) in
    ap is_transfer taken ∙ first_false (is_transfer (inst_at insts i)) (is_halt (inst_at insts i)) quiet
  where
    first_false : (a b : Bool) → (a || b) ≡ false → a ≡ false
    first_false true b e = e
    first_false false b e = refl
