-- A generated source halts.
use Rattle.std.proofs.Common.{◌≡◌, ◌≢◌, ℕ, zero, suc, ◌+◌, ◌*◌, ◌/◌, ◌%◌, ◌^◌, ◌≤◌, ◌<◌, Bool, true, false, cond, ◌&&◌, not, eqb, leb, ltb, ◌==◌, List, [], ◌∷◌, ◌++◌, length, Some, None, inl, inr, ⊎_elim, refl, sym, ap, ◌∙◌, arith, subst, pos, negsuc, decimal, lit<}
use Rattle.std.specs.Prelude.{if◌then◌else◌}
use Rattle.std.specs.List.{slice_get}
use Rattle.std.proofs.lemmas.Bool.{cases_Bool, cond-true, cond-false, le-leb}
use Rattle.std.proofs.lemmas.Bool.Decides.{nat_tests, leb_tells}
use Rattle.mx_isa.specs.declared.inst.Inst.{Inst}
use Rattle.mx_isa.specs.declared.inst.Inst.TheVariants.{Load, Store, Compute, Addi}
use Rattle.mx_isa.specs.declared.inst.Op.TheVariants.{Add, Sub, Xor}
use Rattle.mx_isa.specs.declared.inst.Cond.TheVariants.{Ne, Lt}
use Rattle.mx_isa.specs.declared.place.Place.{Place}
use Rattle.mx_isa.specs.Arithmetic.{condition_holds}
use Rattle.mx_isa.specs.UserBus.{is_user}
use Rattle.mx_source.specs.declared.statement.Value.TheVariants.{Int}
use Rattle.mx_source.specs.declared.statement.Statement.{Statement}
use Rattle.mx_source.specs.declared.statement.Statement.TheVariants.{Plain, Branch, Halt}
use Rattle.mx_source.specs.Values.{value_in, is_code, word_in}
use Rattle.mx_source.specs.Meaning.{Program, program, State, Step, done, goes, start, why_plain, Run, run_for, start_words, is_stuck}
use Rattle.mx_source.specs.SourceValue.{SourceValue}
use Rattle.mx_gen.specs.Drafts.{Draft, empty, put, name}
use Rattle.mx_gen.specs.Generated.{draw, kind, first, second, third, address, set, opening, round, skip, item, items, generated}
use Rattle.mx_gen.specs.Board.{IsBoard, HaltsWithin, IsNeverStuck}
use Rattle.mx_gen.proofs.Sounds.{length-push}
use Rattle.mx_gen.proofs.Running.{Ints, done_ints, goes_ints, written_other, plain_is, branch_is, steps, HaltsSoon, stays_halted, one_before, sooner, halt_here, compute_runs, addi_runs, load_runs, store_runs}

get-push_front : {A : Type 0} (xs : List A) (y : A) (i : ℕ) (x : A) → slice_get xs i ≡ Some x → slice_get (xs ++ y ∷ []) i ≡ Some x
get-push_front [] y i x e = absurd (none_some e)
  where
    none_some : None ≡ Some x → ⊥
    none_some t = cc
get-push_front (z ∷ xs) y zero x e = e
get-push_front (z ∷ xs) y (suc i) x e = get-push_front xs y i x e

get-push_last : {A : Type 0} (xs : List A) (y : A) → slice_get (xs ++ y ∷ []) (length xs) ≡ Some y
get-push_last [] y = refl
get-push_last (x ∷ xs) y = get-push_last xs y

module _ (p : Program) (board : IsBoard p.place) where
  -- the statements of a draft stand at the front of what runs
  abbrev pub Front : Draft → Type 0
  Front d = (i : ℕ) (st : Statement) → slice_get d.statements i ≡ Some st → slice_get p.statements i ≡ Some st

  front_put : (s : Statement) (d : Draft) → Front (put s d) → Front d
  front_put s d f i st e = f i st (get-push_front d.statements s i st e)

  front_last : (s : Statement) (d : Draft) → Front (put s d) → slice_get p.statements (length d.statements) ≡ Some s
  front_last s d f = f (length d.statements) s (get-push_last d.statements s)

  -- from behind a draft it halts soon
  abbrev pub Soon : ℕ → Draft → Type 0
  Soon b d = (s : State) → Ints s → s.index ≡ length d.statements → HaltsSoon p b s

  runs_on : (i : Inst) (b : ℕ) (s : State) → Ints s → slice_get p.statements s.index ≡ Some (Plain i) → why_plain p i s.regs ≡ None →
      HaltsSoon p b (done p i s).after → HaltsSoon p (suc b) s
  runs_on i b s h here runs next = one_before p b s h (subst (λ (x : Step). HaltsSoon p b x.after) (sym (plain_is p s i h here runs)) next)

  plain_soon : (i : Inst) (b : ℕ) (d : Draft) → ((s : State) → Ints s → why_plain p i s.regs ≡ None) → Front (put (Plain i) d) → Soon b (put (Plain i) d)
      → Soon (suc b) d
  plain_soon i b d runs front next s h at =
      runs_on i b s h (ap (slice_get p.statements) at ∙ front_last (Plain i) d front) (runs s h)
      (next (done p i s).after (done_ints p i s h) (ap suc at ∙ sym (length-push d.statements (Plain i))))

  -- once around: the addition, the count, and the branch back
  turn : (n a b c w bound : ℕ) (s : State) → 9 ≢ c →
      slice_get p.statements (suc n) ≡ Some (Plain (Compute a c b Add)) → slice_get p.statements (suc (suc n)) ≡ Some (Plain (Addi 9 9 (negsuc 0))) →
      slice_get p.statements (suc (suc (suc n))) ≡ Some (Branch 9 0 Ne (suc n)) →
      Ints s → s.index ≡ suc n → value_in s.regs 9 ≡ Int w →
      ((t : State) → Ints t → t.index ≡ cond (not ((w + 4294967295) % 2 ^ 32 == 0)) (suc n) (suc (suc (suc (suc n))))
      → value_in t.regs 9 ≡ Int ((w + 4294967295) % 2 ^ 32) → HaltsSoon p bound t) →
      HaltsSoon p (suc (suc (suc bound))) s
  turn n a b c w bound s apart e1 e2 e3 h at nine next =
      let i1 = Compute a c b Add in let i2 = Addi 9 9 (negsuc 0) in
      let s2 = (done p i1 s).after in let h2 = done_ints p i1 s h in
      let s3 = (done p i2 s2).after in let h3 = done_ints p i2 s2 h2 in
      let w' = (w + 4294967295) % 2 ^ 32 in
      let nine2 : value_in s2.regs 9 ≡ Int w = written_other s.regs c 9 _ apart ∙ nine in
      let nine3 : value_in s3.regs 9 ≡ Int w' = ap (λ v. Int ((word_in v + 4294967295) % 2 ^ 32)) nine2 in
      let at3 : s3.index ≡ suc (suc (suc n)) = ap (λ k. suc (suc k)) at in
      let target = cond (condition_holds Ne (word_in (value_in s3.regs 9)) (word_in (value_in s3.regs 0))) (suc n) (suc s3.index) in
      let is = branch_is p s3 9 0 Ne (suc n) h3 (ap (slice_get p.statements) at3 ∙ e3) in
      let goes_there : target ≡ cond (not (w' == 0)) (suc n) (suc (suc (suc (suc n)))) =
      ap (λ v. cond (not (word_in v == 0)) (suc n) (suc s3.index)) nine3 ∙ ap (λ k. cond (not (w' == 0)) (suc n) (suc k)) at3 in
      runs_on i1 (suc (suc bound)) s h (ap (slice_get p.statements) at ∙ e1) (compute_runs p s a c b Add h)
      (runs_on i2 (suc bound) s2 h2 (ap (λ k. slice_get p.statements (suc k)) at ∙ e2) (addi_runs p s2 9 9 (negsuc 0) h2)
      (one_before p bound s3 h3 (subst (λ (x : Step). HaltsSoon p bound x.after) (sym is)
      (next (goes target 0 (Int 0) s3).after (goes_ints s3 target h3) goes_there nine3))))

  round_soon : (j a b c bound : ℕ) (d : Draft) → 9 ≢ c → Front (round j a b c d) → Soon bound (round j a b c d) → Soon (10 + bound) d
  round_soon j a b c bound d apart front next s h at =
      let n = length d.statements in
      let s0 = Plain (Addi 0 9 (pos 3)) in let s1 = Plain (Compute a c b Add) in let s2 = Plain (Addi 9 9 (negsuc 0)) in let s3 = Branch 9 0 Ne (suc n) in
      let d1 = name (76 ∷ decimal j) (put s0 d) in let d2 = put s1 d1 in let d3 = put s2 d2 in
      let l1 = length-push d.statements s0 in let l2 = length-push d1.statements s1 in let l3 = length-push d2.statements s2 in let l4 =
      length-push d3.statements s3 in
      let f3 = front_put s3 d3 front in let f2 = front_put s2 d2 f3 in let f1 = front_put s1 d1 f2 in
      let m2 : length d2.statements ≡ suc (suc n) = l2 ∙ ap suc l1 in let m3 : length d3.statements ≡ suc (suc (suc n)) = l3 ∙ ap suc m2 in
      let e0 = front_last s0 d f1 in
      let e1 = ap (slice_get p.statements) (sym l1) ∙ front_last s1 d1 f2 in
      let e2 = ap (slice_get p.statements) (sym m2) ∙ front_last s2 d2 f3 in
      let e3 = ap (slice_get p.statements) (sym m3) ∙ front_last s3 d3 front in
      let m4 : length (round j a b c d).statements ≡ suc (suc (suc (suc n))) = l4 ∙ ap suc m3 in
      let t1 = (done p (Addi 0 9 (pos 3)) s).after in
      let turns = turn n a b c in
      sooner p _ (10 + bound) s (omega arith)
      (runs_on (Addi 0 9 (pos 3)) (suc (suc (suc (suc (suc (suc (suc (suc (suc bound))))))))) s h (ap (slice_get p.statements) at ∙ e0)
      (addi_runs p s 0 9 (pos 3) h)
      (turns 3 (suc (suc (suc (suc (suc (suc bound)))))) t1 apart e1 e2 e3 (done_ints p (Addi 0 9 (pos 3)) s h) (ap suc at) refl
      (λ u hu au nu. turns 2 (suc (suc (suc bound))) u apart e1 e2 e3 hu au nu
      (λ v hv av nv. turns 1 bound v apart e1 e2 e3 hv av nv
      (λ w hw aw nw. next w hw (aw ∙ sym m4))))))

  skip_soon : (j a b c bound : ℕ) (d : Draft) → Front (skip j a b c d) → Soon bound (skip j a b c d) → Soon (suc (suc bound)) d
  skip_soon j a b c bound d front next s h at =
      let n = length d.statements in
      let s0 = Branch a b Lt (suc (suc n)) in let s1 = Plain (Compute c a b Add) in
      let d1 = put s0 d in
      let l1 = length-push d.statements s0 in let l2 = length-push d1.statements s1 in
      let e0 = front_last s0 d (front_put s1 d1 front) in
      let m2 : length (skip j a b c d).statements ≡ suc (suc n) = l2 ∙ ap suc l1 in
      let holds = condition_holds Lt (word_in (value_in s.regs a)) (word_in (value_in s.regs b)) in
      let target = cond holds (suc (suc n)) (suc s.index) in
      let t = (goes target 0 (Int 0) s).after in let ht = goes_ints s target h in
      let is = branch_is p s a b Lt (suc (suc n)) h (ap (slice_get p.statements) at ∙ e0) in
      let taken : holds ≡ true
      → HaltsSoon p (suc bound) t =
      λ e. sooner p bound (suc bound) t (omega arith) (next t ht (cond-true holds (suc (suc n)) (suc s.index) e ∙ sym m2)) in
      let falls : holds ≡ false → HaltsSoon p (suc bound) t = λ e.
      let there : t.index ≡ length d1.statements = cond-false holds (suc (suc n)) (suc s.index) e ∙ (ap suc at ∙ sym l1) in
      plain_soon (Compute c a b Add) bound d1 (λ u hu. compute_runs p u c a b Add hu) front next t ht there in
      one_before p (suc bound) s h (subst (λ (x : Step). HaltsSoon p (suc bound) x.after) (sym is) (⊎_elim taken falls (cases_Bool holds)))

  -- what holds of both holds of the one that is chosen
  one_soon : (bound : ℕ) (d : Draft) (b : Bool) (x y : Draft) → (Front x → Soon bound x → Soon (10 + bound) d)
      → (Front y → Soon bound y → Soon (10 + bound) d) →
      Front (if b then x else y) → Soon bound (if b then x else y) → Soon (10 + bound) d
  one_soon bound d true x y hx hy = hx
  one_soon bound d false x y hx hy = hy

  single : (i : Inst) (bound : ℕ) (d : Draft) → ((s : State) → Ints s → why_plain p i s.regs ≡ None) → Front (put (Plain i) d) → Soon bound (put (Plain i) d)
      → Soon (10 + bound) d
  single i bound d runs front next s h at = sooner p (suc bound) (10 + bound) s (omega arith) (plain_soon i bound d runs front next s h at)

  user_word : (o : ℕ) → 256 ≤ o → o < 65536 → is_user p.place o ≡ true
  user_word o low high = let u = board.user_data in let e = board.end in
      let a : leb p.place.user_data o ≡ true = le-leb p.place.user_data o (omega arith) in
      let b : ltb o p.place.end ≡ true = le-leb (suc o) p.place.end (omega arith) in
      ap (λ c. c && ltb o p.place.end) a ∙ b

  console_word : eqb 255 p.place.console ≡ true
  console_word = let c = board.console in grind (arith, nat_tests)

  item_soon : (x j bound : ℕ) (d : Draft) → Front (item x j d) → Soon bound (item x j d) → Soon (10 + bound) d
  item_soon x j bound d =
      let o = address x in
      let low : 256 ≤ o = omega arith in let high : o < 65536 = omega arith in let short : o < 2 ^ 32 = omega arith in
      let apart : 9 ≢ third x = λ e. nine (x / 2 ^ 14 % 8) (omega arith) e in
      one_soon bound d (kind x == 0) _ _
      (single (Compute (first x) (third x) (second x) Add) bound d (λ s h. compute_runs p s (first x) (third x) (second x) Add h))
      (one_soon bound d (kind x == 1) _ _
      (single (Compute (first x) (third x) (second x) Sub) bound d (λ s h. compute_runs p s (first x) (third x) (second x) Sub h))
      (one_soon bound d (kind x == 2) _ _
      (single (Compute (first x) (third x) (second x) Xor) bound d (λ s h. compute_runs p s (first x) (third x) (second x) Xor h))
      (one_soon bound d (kind x == 3) _ _ (single (Store 0 (first x) (pos o)) bound d (λ s h. store_runs p s (first x) o short (inr (user_word o low high)) h))
      (one_soon bound d (kind x == 4) _ _ (single (Load 0 (third x) (pos o)) bound d (λ s h. load_runs p s (third x) o short (user_word o low high) h))
      (one_soon bound d (kind x == 5) _ _ (round_soon j (first x) (second x) (third x) bound d apart)
      (one_soon bound d (kind x == 6) _ _ (single (Store 0 (first x) (pos 255)) bound d (λ s h. store_runs p s (first x) 255 (lit< tt) (inl console_word) h))
      (λ front next s h at. sooner p (suc (suc bound)) (10 + bound) s (omega arith)
      (skip_soon j (first x) (second x) (third x) bound d front next s h at))))))))
    where
      nine : (q : ℕ) → q < 8 → 9 ≡ 1 + q → ⊥
      nine q lt e = omega arith

  one_front : (d : Draft) (b : Bool) (x y : Draft) → (Front x → Front d) → (Front y → Front d) → Front (if b then x else y) → Front d
  one_front d true x y hx hy = hx
  one_front d false x y hx hy = hy

  front_item : (x j : ℕ) (d : Draft) → Front (item x j d) → Front d
  front_item x j d =
      one_front d (kind x == 0) _ _ (front_put (Plain (Compute (first x) (third x) (second x) Add)) d)
      (one_front d (kind x == 1) _ _ (front_put (Plain (Compute (first x) (third x) (second x) Sub)) d)
      (one_front d (kind x == 2) _ _ (front_put (Plain (Compute (first x) (third x) (second x) Xor)) d)
      (one_front d (kind x == 3) _ _ (front_put (Plain (Store 0 (first x) (pos (address x)))) d)
      (one_front d (kind x == 4) _ _ (front_put (Plain (Load 0 (third x) (pos (address x)))) d)
      (one_front d (kind x == 5) _ _ (front_round (first x) (second x) (third x))
      (one_front d (kind x == 6) _ _ (front_put (Plain (Store 0 (first x) (pos 255))) d)
      (front_skip (first x) (second x) (third x))))))))
    where
      front_round : (a b c : ℕ) → Front (round j a b c d) → Front d
      front_round a b c f =
          let s0 = Plain (Addi 0 9 (pos 3)) in let s1 = Plain (Compute a c b Add) in let s2 = Plain (Addi 9 9 (negsuc 0)) in let s3 =
          Branch 9 0 Ne (suc (length d.statements)) in
          let d1 = name (76 ∷ decimal j) (put s0 d) in let d2 = put s1 d1 in let d3 = put s2 d2 in
          front_put s0 d (front_put s1 d1 (front_put s2 d2 (front_put s3 d3 f)))

      front_skip : (a b c : ℕ) → Front (skip j a b c d) → Front d
      front_skip a b c f = let s0 = Branch a b Lt (suc (suc (length d.statements))) in front_put s0 d (front_put (Plain (Compute c a b Add)) (put s0 d) f)

  front_items : (k j x : ℕ) (d : Draft) → Front (items k j x d) → Front d
  front_items zero j x d f = f
  front_items (suc k) j x d f = front_item (draw x) j d (front_items k (suc j) (draw x) (item (draw x) j d) f)

  -- the items and the halt
  items_soon : (k j x : ℕ) (d : Draft) → Front (put Halt (items k j x d)) → Soon (10 * k + 1) d
  items_soon zero j x d front s h at = halt_here p s h (ap (slice_get p.statements) at ∙ front_last Halt d front)
  items_soon (suc k) j x d front s h at =
      let y = draw x in let d' = item y j d in
      let here = front_items k (suc j) y d' (front_put Halt (items k (suc j) y d') front) in
      sooner p (10 + (10 * k + 1)) (10 * suc k + 1) s (omega arith) (item_soon y j (10 * k + 1) d here (items_soon k (suc j) y d' front) s h at)

  opening_soon : (bound : ℕ) → Front (opening empty) → Soon bound (opening empty) → Soon (8 + bound) empty
  opening_soon bound front next s h at =
      let d1 = set 1 1 empty in let d2 = set 2 4 d1 in let d3 = set 3 9 d2 in let d4 = set 4 16 d3 in let d5 = set 5 25 d4 in let d6 = set 6 36 d5 in let d7 =
      set 7 49 d6 in
      let f7 = front_put (Plain (Addi 0 8 (pos 64))) d7 front in let f6 = front_put (Plain (Addi 0 7 (pos 49))) d6 f7 in let f5 =
      front_put (Plain (Addi 0 6 (pos 36))) d5 f6 in
      let f4 = front_put (Plain (Addi 0 5 (pos 25))) d4 f5 in let f3 = front_put (Plain (Addi 0 4 (pos 16))) d3 f4 in let f2 =
      front_put (Plain (Addi 0 3 (pos 9))) d2 f3 in
      let f1 = front_put (Plain (Addi 0 2 (pos 4))) d1 f2 in
      let c7 = sets 8 64 d7 bound front next in let c6 = sets 7 49 d6 _ f7 c7 in let c5 = sets 6 36 d5 _ f6 c6 in let c4 = sets 5 25 d4 _ f5 c5 in
      let c3 = sets 4 16 d3 _ f4 c4 in let c2 = sets 3 9 d2 _ f3 c3 in let c1 = sets 2 4 d1 _ f2 c2 in
      sooner p _ (8 + bound) s (omega arith) (sets 1 1 empty _ f1 c1 s h at)
    where
      sets : (r n : ℕ) (d : Draft) (b : ℕ) → Front (set r n d) → Soon b (set r n d) → Soon (suc b) d
      sets r n d b f c = plain_soon (Addi 0 r (pos n)) b d (λ s h. addi_runs p s 0 r (pos n) h) f c

run_state : (p : Program) (n : ℕ) (r : Run) → (run_for p n r).state ≡ steps p n r.state
run_state p zero r = refl
run_state p (suc n) r = run_state p n _

start_ints : (place : Place) (x : SourceValue) → x.user_data ≡ [] → Ints (start x place)
start_ints place x e = record {
  going = refl;
  regs = λ n. zeros (eqb n 0);
  mem = λ a. ap (λ ws. is_code (start_words place ws a)) e ∙ zeros (leb place.user_data a);
}
  where
    zeros : (b : Bool) → is_code (cond b (Int 0) (Int 0)) ≡ false
    zeros true = refl
    zeros false = refl

-- it halts
pub generated_halts : (seed count : ℕ) → count ≤ 4000 → (place : Place) (bytes : List ℕ) → IsBoard place → HaltsWithin 40009 (generated seed count) place bytes
generated_halts seed count few place bytes board =
    let source = generated seed count in let p = program source place bytes in let s = start source place in
    let d = put Halt (items count 0 seed (opening empty)) in
    let front : Front p board d = λ i st e. e in
    let behind = items_soon p board count 0 seed (opening empty) front in
    let opened = front_items p board count 0 seed (opening empty) (front_put p board Halt (items count 0 seed (opening empty)) front) in
    let soon : HaltsSoon p (8 + (10 * count + 1)) s = opening_soon p board (10 * count + 1) opened behind s (start_ints place source refl) refl in
    let all = sooner p (8 + (10 * count + 1)) 40009 s (omega arith) soon in (
      all.0,
      all.1,
      record {
        halted = ap (λ t. t.mark) (run_state p all.0 (record { state = s; console = [] })) ∙ all.2.halted;
        first = λ m lt. ap (λ t. t.mark) (run_state p m (record { state = s; console = [] })) ∙ all.2.first m lt;
      },
    )

-- it is never stuck
pub generated_runs : (seed count : ℕ) → count ≤ 4000 → (place : Place) (bytes : List ℕ) → IsBoard place → IsNeverStuck (generated seed count) place bytes
generated_runs seed count few place bytes board m =
    let source = generated seed count in let p = program source place bytes in let s = start source place in
    let h = generated_halts seed count few place bytes board in
    let n = h.0 in let at = h.2 in
    let is = run_state p m (record { state = s; console = [] }) in
    ⊎_elim (λ le. ap is_stuck (ap (λ t. t.mark) is ∙ stays_halted p n m s le.1 (sym (ap (λ t. t.mark) (run_state p n (record { state = s; console = [] })))
    ∙ at.halted)))
    (λ lt. ap is_stuck (at.first m lt.1)) (leb_tells n m)
