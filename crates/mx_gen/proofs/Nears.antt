-- The branches of a generated source are near.
use Rattle.std.proofs.Common.{◌≡◌, ℕ, zero, suc, Bool, true, false, List, [], ◌∷◌, ◌++◌, length, Some, ◌⊎◌, inl, inr, ⊎_elim, refl, sym, ap, ◌∙◌, arith, subst, pos, negsuc, decimal, ◌==◌}
use Rattle.std.specs.Prelude.{if◌then◌else◌}
use Rattle.std.specs.List.{slice_get}
use Rattle.std.proofs.lemmas.Option.{none-some}
use Rattle.mx_isa.specs.declared.inst.Inst.TheVariants.{Load, Store, Compute, Addi}
use Rattle.mx_isa.specs.declared.inst.Op.TheVariants.{Add, Sub, Xor}
use Rattle.mx_isa.specs.declared.inst.Cond.TheVariants.{Ne, Lt}
use Rattle.mx_source.specs.declared.statement.Statement.{Statement}
use Rattle.mx_source.specs.declared.statement.Statement.TheVariants.{Plain, Branch, Halt}
use Rattle.mx_gen.specs.Drafts.{Draft, empty, put, name}
use Rattle.mx_gen.specs.Generated.{draw, kind, first, second, third, address, set, opening, round, skip, item, items, generated}
use Rattle.mx_gen.specs.Near.{IsNear, AllNear}
use Rattle.mx_gen.proofs.Sounds.{length-push}

some_inj : {A : Type 0} {x y : A} → Some x ≡ Some y → x ≡ y
some_inj e = cc

get-push_cases : {A : Type 0} (xs : List A) (y : A) (i : ℕ) (x : A) → slice_get (xs ++ y ∷ []) i ≡ Some x
    → (slice_get xs i ≡ Some x) ⊎ ((i ≡ length xs) × (y ≡ x))
get-push_cases [] y zero x e = inr (refl, some_inj e)
get-push_cases [] y (suc i) x e = absurd (none-some x e)
get-push_cases (z ∷ xs) y zero x e = inl e
get-push_cases (z ∷ xs) y (suc i) x e = ⊎_elim (λ h. inl h) (λ h. inr (ap suc h.0, h.1)) (get-push_cases xs y i x e)

near_put : (s : Statement) (d : Draft) → IsNear (length d.statements) s → AllNear d.statements → AllNear (put s d).statements
near_put s d here all i t e = ⊎_elim (λ h. all i t h)
    (λ h. subst (λ k. IsNear k t) (sym h.0) (subst (IsNear (length d.statements)) h.1 here)) (get-push_cases d.statements s i t e)

near_round : (j a b c : ℕ) (d : Draft) → AllNear d.statements → AllNear (round j a b c d).statements
near_round j a b c d all =
    let n = length d.statements in
    let s0 = Plain (Addi 0 9 (pos 3)) in let s1 = Plain (Compute a c b Add) in let s2 = Plain (Addi 9 9 (negsuc 0)) in
    let d1 = name (76 ∷ decimal j) (put s0 d) in let d2 = put s1 d1 in let d3 = put s2 d2 in
    let l1 = length-push d.statements s0 in let l2 = length-push d1.statements s1 in let l3 = length-push d2.statements s2 in
    let m3 : length d3.statements ≡ suc (suc (suc n)) = l3 ∙ ap suc (l2 ∙ ap suc l1) in
    near_put (Branch 9 0 Ne (suc n)) d3 (omega arith, omega arith) (near_put s2 d2 tt (near_put s1 d1 tt (near_put s0 d tt all)))

near_skip : (j a b c : ℕ) (d : Draft) → AllNear d.statements → AllNear (skip j a b c d).statements
near_skip j a b c d all =
    let s0 = Branch a b Lt (suc (suc (length d.statements))) in
    near_put (Plain (Compute c a b Add)) (put s0 d) tt (near_put s0 d (omega arith, omega arith) all)

one_near : (b : Bool) (x y : Draft) → AllNear x.statements → AllNear y.statements → AllNear (if b then x else y).statements
one_near true x y hx hy = hx
one_near false x y hx hy = hy

near_item : (x j : ℕ) (d : Draft) → AllNear d.statements → AllNear (item x j d).statements
near_item x j d all =
    one_near (kind x == 0) _ _ (near_put (Plain (Compute (first x) (third x) (second x) Add)) d tt all)
    (one_near (kind x == 1) _ _ (near_put (Plain (Compute (first x) (third x) (second x) Sub)) d tt all)
    (one_near (kind x == 2) _ _ (near_put (Plain (Compute (first x) (third x) (second x) Xor)) d tt all)
    (one_near (kind x == 3) _ _ (near_put (Plain (Store 0 (first x) (pos (address x)))) d tt all)
    (one_near (kind x == 4) _ _ (near_put (Plain (Load 0 (third x) (pos (address x)))) d tt all)
    (one_near (kind x == 5) _ _ (near_round j (first x) (second x) (third x) d all)
    (one_near (kind x == 6) _ _ (near_put (Plain (Store 0 (first x) (pos 255))) d tt all)
    (near_skip j (first x) (second x) (third x) d all)))))))

near_items : (k j x : ℕ) (d : Draft) → AllNear d.statements → AllNear (items k j x d).statements
near_items zero j x d all = all
near_items (suc k) j x d all = near_items k (suc j) (draw x) (item (draw x) j d) (near_item (draw x) j d all)

near_set : (r n : ℕ) (d : Draft) → AllNear d.statements → AllNear (set r n d).statements
near_set r n d all = near_put (Plain (Addi 0 r (pos n))) d tt all

pub generated_near : (seed count : ℕ) → AllNear (generated seed count).statements
generated_near seed count =
    let none : AllNear [] = λ i s e. absurd (none-some s e) in
    let d1 = set 1 1 empty in let d2 = set 2 4 d1 in let d3 = set 3 9 d2 in let d4 = set 4 16 d3 in let d5 = set 5 25 d4 in let d6 = set 6 36 d5 in let d7 =
    set 7 49 d6 in
    let opened = near_set 8 64 d7
    (near_set 7 49 d6 (near_set 6 36 d5 (near_set 5 25 d4 (near_set 4 16 d3 (near_set 3 9 d2 (near_set 2 4 d1 (near_set 1 1 empty none))))))) in
    near_put Halt (items count 0 seed (opening empty)) tt (near_items count 0 seed (opening empty) opened)
