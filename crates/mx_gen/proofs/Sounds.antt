-- Drafts keep to what they keep to.
use Rattle.std.proofs.Common.{◌≡◌, ◌≢◌, ℕ, zero, suc, ◌+◌, ◌-◌, ◌*◌, ◌/◌, ◌%◌, ◌^◌, ◌≤◌, ◌<◌, Bool, true, false, ◌||◌, ◌==◌, List, [], ◌∷◌, ◌++◌, length, inl, inr, ⊎_elim, refl, sym, ap, ◌∙◌, arith, subst, decimal, pos, negsuc, lit<, lit≤}
use Rattle.std.specs.Prelude.{if◌then◌else◌}
use Rattle.std.specs.List.{All}
use Rattle.std.proofs.lemmas.Bool.Decides.{nat_tests}
use Rattle.std.proofs.lemmas.Fmt.{decimal_injective}
use Rattle.std.proofs.Math.Nat.{add-mul-mod_self_left, mod-add-div}
use Rattle.std.proofs.lemmas.List.{length-append}
use Rattle.std.proofs.lemmas.List.Elements.{All-nil, All-push, All-weaker}
use Rattle.mx_isa.specs.declared.inst.Inst.TheVariants.{Load, Store, Compute, Addi}
use Rattle.mx_isa.specs.declared.inst.Op.TheVariants.{Add, Sub, Xor}
use Rattle.mx_isa.specs.declared.inst.Cond.TheVariants.{Ne, Lt}
use Rattle.mx_source.specs.declared.statement.Label.{Label}
use Rattle.mx_source.specs.declared.statement.Label.TheVariants.{Code, Data}
use Rattle.mx_source.specs.declared.statement.Statement.{Statement}
use Rattle.mx_source.specs.declared.statement.Statement.TheVariants.{Plain, LaCode, Branch, Call, CallReg, JumpReg, Halt}
use Rattle.mx_source.specs.Labels.{LabelFits, IsPlace, is_labelled, names_index}
use Rattle.mx_source.specs.Statements.{StatementFits}
use Rattle.mx_source.specs.Names.{AreApart}
use Rattle.mx_source.specs.SourceValue.{IsSource}
use Rattle.mx_gen.specs.Drafts.{Draft, empty, put, finished}
use Rattle.mx_gen.specs.Generated.{draw, kind, first, second, third, address, set, opening, round, skip, item, items, generated}
use Rattle.mx_gen.specs.Sound.{IsOlder, IsNew, IsSound}

abbrev Labels : Type 0
Labels = List (List ℕ × Label)

tails : (n : List ℕ) (a b i j : ℕ) → n ≡ a ∷ decimal i → n ≡ b ∷ decimal j → (a ≡ b) × (decimal i ≡ decimal j)
tails n a b i j l e = (heads, rests)
  where
    heads : a ≡ b
    heads = cc

    rests : decimal i ≡ decimal j
    rests = cc

-- a name of an item is none of an item before it
differs : (letter j : ℕ) → j < 2 ^ 32 → (p : List ℕ × Label) → IsOlder j p → p.0 ≢ letter ∷ decimal j
differs letter j h p (i, lt, s) e = ⊎_elim (λ l. clash (tails p.0 76 letter i j l e).1) (λ r. clash (tails p.0 83 letter i j r e).1) s
  where
    clash : decimal i ≡ decimal j → ⊥
    clash same = let short : i < 2 ^ 64 = omega arith in let long : j < 2 ^ 64 = omega arith in
        let d : i ≡ j = decimal_injective i j short long same in omega arith

pub new_name : (letter j : ℕ) (labels : Labels) → j < 2 ^ 32 → All (IsOlder j) labels → IsNew (letter ∷ decimal j) labels
new_name letter j labels h old = All-weaker (IsOlder j) (λ p. p.0 ≢ letter ∷ decimal j) (differs letter j h) labels old

fits_more : (P Q : ℕ → Type 0) → ((i : ℕ) → P i → Q i) → (s : Statement) → StatementFits P s → StatementFits Q s
fits_more P Q f (Plain inst) h = h
fits_more P Q f (LaCode dest target) h = f target h
fits_more P Q f (Branch a b c target) h = f target h
fits_more P Q f (Call dest target) h = f target h
fits_more P Q f (CallReg a dest) h = h
fits_more P Q f (JumpReg a) h = h
fits_more P Q f Halt h = h

label_more : (n m : ℕ) → n ≤ m → (l : Label) → LabelFits n l → LabelFits m l
label_more n m le (Code i) h = omega arith
label_more n m le (Data a) h = h

labelled_more : (labels extra : Labels) (i : ℕ) → is_labelled labels i ≡ true → is_labelled (labels ++ extra) i ≡ true
labelled_more [] extra i h = absurd (false_true h)
  where
    false_true : false ≡ true → ⊥
    false_true e = cc
labelled_more (l ∷ labels) extra i h = either (names_index i l.1) (is_labelled labels i) (is_labelled (labels ++ extra) i) (labelled_more labels extra i) h
  where
    either : (b c d : Bool) → (c ≡ true → d ≡ true) → (b || c) ≡ true → (b || d) ≡ true
    either true c d f g = refl
    either false c d f g = f g

labelled_last : (labels : Labels) (n : List ℕ) (k i : ℕ) → k ≡ i → is_labelled (labels ++ (n, Code k) ∷ []) i ≡ true
labelled_last [] n k i e = let t : (k == i) ≡ true = grind (arith, nat_tests) in ap (λ b. b || false) t
labelled_last (l ∷ labels) n k i e = ap (λ b. names_index i l.1 || b) (labelled_last labels n k i e) ∙ or_true (names_index i l.1)
  where
    or_true : (b : Bool) → (b || true) ≡ true
    or_true true = refl
    or_true false = refl

older_more : (j : ℕ) (p : List ℕ × Label) → IsOlder j p → IsOlder (suc j) p
older_more j p (i, lt, s) = (i, omega arith, s)

pub length-push : {A : Type 0} (xs : List A) (x : A) → length (xs ++ x ∷ []) ≡ suc (length xs)
length-push xs x = simp length-append (omega arith)

-- what was kept, with more labels and statements
module _ (j : ℕ) (d : Draft) (h : IsSound j d) (k : ℕ) (le : length d.statements ≤ k) where
  more_labels : All (λ (p : List ℕ × Label). LabelFits k p.1) d.labels
  more_labels = All-weaker (λ (p : List ℕ × Label). LabelFits (length d.statements) p.1) (λ (p : List ℕ × Label). LabelFits k p.1)
      (λ p. label_more (length d.statements) k le p.1) d.labels h.labels_fit

  more_statements : (labels : Labels) → ((i : ℕ) → is_labelled d.labels i ≡ true → is_labelled labels i ≡ true)
      → All (StatementFits (IsPlace labels k)) d.statements
  more_statements labels sub = All-weaker (StatementFits (IsPlace d.labels (length d.statements))) (StatementFits (IsPlace labels k))
      (fits_more (IsPlace d.labels (length d.statements)) (IsPlace labels k) (λ i p. record { within = within i p; labelled = sub i p.labelled }))
      d.statements h.statements_fit
    where
      within : (i : ℕ) → IsPlace d.labels (length d.statements) i → i ≤ k
      within i p = let w = p.within in omega arith

-- a draft with one more statement that names no place
pub sound_one : (j : ℕ) (d : Draft) (s : Statement) → IsSound j d → ((P : ℕ → Type 0) → StatementFits P s) → IsSound (suc j) (put s d)
sound_one j d s h fits = let e = length-push d.statements s in let l = length-push d.lines d.line in
    let few : length d.statements ≤ 8 + 4 * j = h.few in let each : length d.lines ≡ length d.statements = h.a_line_each in let line : d.line ≤ 10 + 8 * j =
    h.next_line in
    let le : length d.statements ≤ length (d.statements ++ s ∷ []) = omega arith in record {
      few = omega arith;
      a_line_each = omega arith;
      next_line = omega arith;
      older = All-weaker (IsOlder j) (IsOlder (suc j)) (older_more j) d.labels h.older;
      labels_fit = more_labels j d h (length (d.statements ++ s ∷ [])) le;
      statements_fit = All-push (StatementFits (IsPlace d.labels (length (d.statements ++ s ∷ [])))) d.statements s
          (more_statements j d h (length (d.statements ++ s ∷ [])) le d.labels (λ i p. p)) (fits (IsPlace d.labels (length (d.statements ++ s ∷ []))));
    }

-- the branch back
pub sound_round : (j a b c : ℕ) (d : Draft) → IsSound j d → IsSound (suc j) (round j a b c d)
sound_round j a b c d h =
    let n : List ℕ = 76 ∷ decimal j in
    let s0 = Plain (Addi 0 9 (pos 3)) in let s1 = Plain (Compute a c b Add) in let s2 = Plain (Addi 9 9 (negsuc 0)) in let s3 =
    Branch 9 0 Ne (suc (length d.statements)) in
    let st1 = d.statements ++ s0 ∷ [] in let st2 = st1 ++ s1 ∷ [] in let st3 = st2 ++ s2 ∷ [] in let st4 = st3 ++ s3 ∷ [] in
    let l1 = d.lines ++ d.line ∷ [] in let l2 = l1 ++ suc (suc d.line) ∷ [] in let l3 = l2 ++ suc (suc (suc d.line)) ∷ [] in
    let e1 = length-push d.statements s0 in let e2 = length-push st1 s1 in let e3 = length-push st2 s2 in let e4 = length-push st3 s3 in
    let g1 = length-push d.lines d.line in let g2 = length-push l1 (suc (suc d.line)) in let g3 = length-push l2 (suc (suc (suc d.line))) in let g4 =
    length-push l3 (suc (suc (suc (suc d.line)))) in
    let few : length d.statements ≤ 8 + 4 * j = h.few in let each : length d.lines ≡ length d.statements = h.a_line_each in let line : d.line ≤ 10 + 8 * j =
    h.next_line in
    let k = length st4 in let labels = d.labels ++ (n, Code (length st1)) ∷ [] in
    let le : length d.statements ≤ k = omega arith in let here : length st1 ≤ k = omega arith in let back : suc (length d.statements) ≤ k = omega arith in
    let P = StatementFits (IsPlace labels k) in
    let f0 = more_statements j d h k le labels (λ i p. labelled_more d.labels ((n, Code (length st1)) ∷ []) i p) in
    let t : IsPlace labels k (suc (length d.statements)) =
    record { within = back; labelled = labelled_last d.labels n (length st1) (suc (length d.statements)) e1 } in
    record {
      few = omega arith;
      a_line_each = omega arith;
      next_line = omega arith;
      older = All-push (IsOlder (suc j)) d.labels (n, Code (length st1)) (All-weaker (IsOlder j) (IsOlder (suc j)) (older_more j) d.labels h.older)
          (j, omega arith, inl refl);
      labels_fit = All-push (λ (p : List ℕ × Label). LabelFits k p.1) d.labels (n, Code (length st1)) (more_labels j d h k le) here;
      statements_fit = All-push P st3 s3 (All-push P st2 s2 (All-push P st1 s1 (All-push P d.statements s0 f0 (tt, lit< tt)) (tt, tt)) (tt, lit< tt)) t;
    }

-- the branch over an addition
pub sound_skip : (j a b c : ℕ) (d : Draft) → IsSound j d → IsSound (suc j) (skip j a b c d)
sound_skip j a b c d h =
    let n : List ℕ = 83 ∷ decimal j in
    let s0 = Branch a b Lt (suc (suc (length d.statements))) in let s1 = Plain (Compute c a b Add) in
    let st1 = d.statements ++ s0 ∷ [] in let st2 = st1 ++ s1 ∷ [] in
    let l1 = d.lines ++ d.line ∷ [] in
    let e1 = length-push d.statements s0 in let e2 = length-push st1 s1 in
    let g1 = length-push d.lines d.line in let g2 = length-push l1 (suc d.line) in
    let few : length d.statements ≤ 8 + 4 * j = h.few in let each : length d.lines ≡ length d.statements = h.a_line_each in let line : d.line ≤ 10 + 8 * j =
    h.next_line in
    let k = length st2 in let labels = d.labels ++ (n, Code (length st2)) ∷ [] in
    let le : length d.statements ≤ k = omega arith in let over : suc (suc (length d.statements)) ≤ k = omega arith in
    let same : length st2 ≡ suc (suc (length d.statements)) = omega arith in
    let here : length st2 ≤ k = omega arith in
    let P = StatementFits (IsPlace labels k) in
    let f0 = more_statements j d h k le labels (λ i p. labelled_more d.labels ((n, Code (length st2)) ∷ []) i p) in
    let t : IsPlace labels k (suc (suc (length d.statements))) =
    record { within = over; labelled = labelled_last d.labels n (length st2) (suc (suc (length d.statements))) same } in
    record {
      few = omega arith;
      a_line_each = omega arith;
      next_line = omega arith;
      older = All-push (IsOlder (suc j)) d.labels (n, Code (length st2)) (All-weaker (IsOlder j) (IsOlder (suc j)) (older_more j) d.labels h.older)
          (j, omega arith, inr refl);
      labels_fit = All-push (λ (p : List ℕ × Label). LabelFits k p.1) d.labels (n, Code (length st2)) (more_labels j d h k le) here;
      statements_fit = All-push P st1 s1 (All-push P d.statements s0 f0 t) (tt, tt);
    }

one_of : (j : ℕ) (b : Bool) (x y : Draft) → IsSound j x → IsSound j y → IsSound j (if b then x else y)
one_of j true x y hx hy = hx
one_of j false x y hx hy = hy

-- each item keeps a draft sound
pub sound_item : (x j : ℕ) (d : Draft) → IsSound j d → IsSound (suc j) (item x j d)
sound_item x j d h =
    let fits : address x < 2 ^ 16 = omega arith in
    one_of (suc j) (kind x == 0) _ _ (sound_one j d (Plain (Compute (first x) (third x) (second x) Add)) h (λ P. (tt, tt)))
    (one_of (suc j) (kind x == 1) _ _ (sound_one j d (Plain (Compute (first x) (third x) (second x) Sub)) h (λ P. (tt, tt)))
    (one_of (suc j) (kind x == 2) _ _ (sound_one j d (Plain (Compute (first x) (third x) (second x) Xor)) h (λ P. (tt, tt)))
    (one_of (suc j) (kind x == 3) _ _ (sound_one j d (Plain (Store 0 (first x) (pos (address x)))) h (λ P. (tt, fits)))
    (one_of (suc j) (kind x == 4) _ _ (sound_one j d (Plain (Load 0 (third x) (pos (address x)))) h (λ P. (tt, fits)))
    (one_of (suc j) (kind x == 5) _ _ (sound_round j (first x) (second x) (third x) d h)
    (one_of (suc j) (kind x == 6) _ _ (sound_one j d (Plain (Store 0 (first x) (pos 255))) h (λ P. (tt, lit< tt)))
    (sound_skip j (first x) (second x) (third x) d h)))))))

-- with the halt, a sound draft of few items is a source
pub sound_source : (j : ℕ) (d : Draft) → j ≤ 4000 → IsSound j d → AreApart d.labels → IsSource (finished (put Halt d))
sound_source j d few h apart = let s = sound_one j d Halt h (λ P. tt) in
    let n : length (put Halt d).statements ≤ 8 + 4 * suc j = s.few in record {
      few_statements = omega arith;
      few_words = lit≤ tt;
      a_line_each = s.a_line_each;
      labels_fit = s.labels_fit;
      statements_fit = s.statements_fit;
      words_fit = All-nil _;
      distinct = apart;
    }

-- the items that are left, and one of them
pub items_step : (count j x x' : ℕ) (d : Draft) → j < count → x' ≡ draw x → items (count - j) j x d ≡ items (count - (j + 1)) (j + 1) x' (item x' j d)
items_step count j x x' d lt e =
    ap (λ k. items k j x d) left
    ∙ (ap (λ y. items (count - (j + 1)) (suc j) y (item y j d)) (sym e) ∙ ap (λ k. items (count - (j + 1)) k x' (item x' j d)) next)
  where
    left : count - j ≡ suc (count - (j + 1))
    left = omega arith

    next : suc j ≡ j + 1
    next = omega arith

swap : (r q n c : ℕ) → r + q ≡ n → (r + c) + q ≡ n + c
swap r q n c e = omega arith

-- a sum whose first part was reduced
pub reduced : (y b m : ℕ) → (y % m + b) % m ≡ (y + b) % m
reduced y b m = sym (add-mul-mod_self_left (y % m + b) m (y / m)) ∙ ap (λ n. n % m) whole
  where
    whole : (y % m + b) + m * (y / m) ≡ y + b
    whole = swap (y % m) (m * (y / m)) y b (mod-add-div y m)

-- so do the items
sound_items : (k j x : ℕ) (d : Draft) → IsSound j d → IsSound (k + j) (items k j x d)
sound_items zero j x d h = let e : j ≡ zero + j = omega arith in subst (λ n. IsSound n d) e h
sound_items (suc k) j x d h = let e : k + suc j ≡ suc k + j = omega arith in
    subst (λ n. IsSound n (items k (suc j) (draw x) (item (draw x) j d))) e (sound_items k (suc j) (draw x) (item (draw x) j d) (sound_item (draw x) j d h))

set_fits : (r n : ℕ) (d : Draft) → n < 2 ^ 16 → All (StatementFits (IsPlace [] 8)) d.statements → All (StatementFits (IsPlace [] 8)) (set r n d).statements
set_fits r n d lt h = All-push (StatementFits (IsPlace [] 8)) d.statements (Plain (Addi 0 r (pos n))) h (tt, lt)

opening_sound : IsSound 0 (opening empty)
opening_sound = let d1 = set 1 1 empty in let d2 = set 2 4 d1 in let d3 = set 3 9 d2 in let d4 = set 4 16 d3 in let d5 = set 5 25 d4 in let d6 = set 6 36 d5 in
    let d7 = set 7 49 d6 in record {
      few = lit≤ tt;
      a_line_each = refl;
      next_line = lit≤ tt;
      older = All-nil (IsOlder 0);
      labels_fit = All-nil (λ (p : List ℕ × Label). LabelFits 8 p.1);
      statements_fit = set_fits 8 64 d7 (lit< tt) (set_fits 7 49 d6 (lit< tt) (set_fits 6 36 d5 (lit< tt) (set_fits 5 25 d4 (lit< tt) (set_fits 4 16 d3
          (lit< tt)
          (set_fits 3 9 d2 (lit< tt) (set_fits 2 4 d1 (lit< tt) (set_fits 1 1 empty (lit< tt) (All-nil (StatementFits (IsPlace [] 8))))))))));
    }

-- there are few statements
pub generated_few : (seed count : ℕ) → count ≤ 4000 → length (generated seed count).statements ≤ 16009
generated_few seed count few = let d = items count 0 seed (opening empty) in
    let h : length d.statements ≤ 8 + 4 * (count + 0) = (sound_items count 0 seed (opening empty) opening_sound).few in
    let e = length-push d.statements Halt in omega arith
