-- The first of some rows that waits longest.
use Rattle.std.proofs.Common.{◌≡◌, ℤ, ◌<ℤ◌, ◌≤ℤ◌, List, [], ◌∷◌, ◌++◌, refl, sym, ap, ◌∙◌, subst, append_assoc, arith, All, Ordering}
use Rattle.std.specs.Ordering.{int_cmp, is_gt, is_some_and}
use Rattle.std.specs.Option.{option_partial_cmp}
use Rattle.std.proofs.lemmas.Bool.{true≢false, false≢true}
use Rattle.std.proofs.lemmas.Cmp.{by_ranked, int_ranked}
use Rattle.std.specs.Prelude.{true, false, Option, Some, None, IfSome, IfNone}
use Rattle.std.proofs.lemmas.Int.{ints}
use Rattle.std.proofs.lemmas.Option.{none-some, same_Some}
use Rattle.std.proofs.lemmas.List.Elements.{All-nil, All-cons, All-append, All-push, All-same, All-weaker}
use Rattle.lab_measures.specs.declared.row.Row.{Row}
use Rattle.lab_measures.specs.Rows.{wait_of}
use Rattle.lab_measures.specs.Sums.{WaitsLess, WaitsNoMore, WaitsLongest}

-- it is this row, which waits so long, or no row waits
abbrev pub Leads : List Row → Option Row → Option ℤ → Type 0
Leads rows None None = All (λ r. wait_of r ≡ None) rows
Leads rows (Some row) (Some wait) = WaitsLongest rows row × (wait_of row ≡ Some wait)
Leads rows None (Some wait) = ⊥
Leads rows (Some row) None = ⊥

-- a wait is more than another; a wait is none, or no more than another
abbrev pub Exceeds : ℤ → Option ℤ → Type 0
Exceeds wait None = Unit {0}
Exceeds wait (Some most) = most <ℤ wait

abbrev pub Within : Option ℤ → Option ℤ → Type 0
Within None most = Unit {0}
Within (Some wait) None = ⊥
Within (Some wait) (Some most) = wait ≤ℤ most

-- what a comparison of waits tells
pub exceeds_if : (pc : ℤ → ℤ → Option Ordering) → ((x y : ℤ) → pc x y ≡ Some (int_cmp x y)) → (w m : Option ℤ) →
    is_some_and is_gt (option_partial_cmp pc w m) ≡ true →
    (v : ℤ) × (w ≡ Some v) × Exceeds v m
exceeds_if pc is None None e = absurd (false≢true e)
exceeds_if pc is None (Some m) e = absurd (false≢true e)
exceeds_if pc is (Some v) None e = (v, refl, tt)
exceeds_if pc is (Some v) (Some m) e =
    let greater : is_gt (int_cmp v m) ≡ true = sym (ap (is_some_and is_gt) (is v m)) ∙ e in (
      v,
      refl,
      by_ranked (v <ℤ m) (v ≡ m) (m <ℤ v) (int_cmp v m) (int_ranked v m (int_cmp v m) refl)
          (λ o _. absurd (false≢true (sym (ap is_gt o) ∙ greater)))
          (λ o _. absurd (false≢true (sym (ap is_gt o) ∙ greater)))
          (λ _ g. g),
    )

pub within_if : (pc : ℤ → ℤ → Option Ordering) → ((x y : ℤ) → pc x y ≡ Some (int_cmp x y)) → (w m : Option ℤ) →
    is_some_and is_gt (option_partial_cmp pc w m) ≡ false → Within w m
within_if pc is None None e = tt
within_if pc is None (Some m) e = tt
within_if pc is (Some v) None e = absurd (true≢false e)
within_if pc is (Some v) (Some m) e =
    let not_greater : is_gt (int_cmp v m) ≡ false = sym (ap (is_some_and is_gt) (is v m)) ∙ e in
    by_ranked (v <ℤ m) (v ≡ m) (m <ℤ v) (int_cmp v m) (int_ranked v m (int_cmp v m) refl)
    (λ _ l. omega (arith, ints))
    (λ _ s. omega (arith, ints))
    (λ o _. absurd (true≢false (sym (ap is_gt o) ∙ not_greater)))

none_less : (w : ℤ) (o : Option ℤ) → o ≡ None → IfSome o (λ v. v <ℤ w)
none_less w None e = tt
none_less w (Some v) e = absurd (none-some v (sym e))

less_still : (v w : ℤ) (o : Option ℤ) → v <ℤ w → IfSome o (λ u. u <ℤ v) → IfSome o (λ u. u <ℤ w)
less_still v w None h k = tt
less_still v w (Some u) h k = omega (arith, ints)

no_more_less : (v w : ℤ) (o : Option ℤ) → v <ℤ w → IfSome o (λ u. u ≤ℤ v) → IfSome o (λ u. u <ℤ w)
no_more_less v w None h k = tt
no_more_less v w (Some u) h k = omega (arith, ints)

some_less : (v w : ℤ) (o : Option ℤ) → v <ℤ w → o ≡ Some v → IfSome o (λ u. u <ℤ w)
some_less v w o h e = subst (λ p. IfSome p (λ u. u <ℤ w)) (sym e) h

within_no_more : (w : ℤ) (o : Option ℤ) → Within o (Some w) → IfSome o (λ u. u ≤ℤ w)
within_no_more w None h = tt
within_no_more w (Some u) h = h

none_within : (o : Option ℤ) → Within o None → o ≡ None
none_within None h = refl
none_within (Some w) h = absurd h

-- a row that waits longer than all before it leads
leads_on : (rows : List Row) (x : Row) (w : ℤ) (longest : Option Row) (most : Option ℤ) → Leads rows longest most → wait_of x ≡ Some w → Exceeds w most →
    Leads (rows ++ x ∷ []) (Some x) (Some w)
leads_on rows x w None None none is more = (
  record {
    before = rows;
    behind = [];
    wait = w;
    split = refl;
    waits = is;
    less = All-weaker (λ r. wait_of r ≡ None) (WaitsLess w) (λ r n. none_less w (wait_of r) n) rows none;
    no_more = All-nil (WaitsNoMore w);
  },
  is,
)
leads_on rows x w (Some row) (Some most) (led, is_most) is more =
    let v = led.wait in
    let same : v ≡ most = same_Some v most (sym led.waits ∙ is_most) in
    let less : v <ℤ w = subst (λ u. u <ℤ w) (sym same) more in (
      record {
        before = rows;
        behind = [];
        wait = w;
        split = refl;
        waits = is;
        less = All-same (WaitsLess w) rows (led.before ++ row ∷ led.behind) led.split
            (All-append (WaitsLess w) led.before (row ∷ led.behind)
            (All-weaker (WaitsLess v) (WaitsLess w) (λ r. less_still v w (wait_of r) less) led.before led.less)
            (All-cons (WaitsLess w) row led.behind (some_less v w (wait_of row) less led.waits)
            (All-weaker (WaitsNoMore v) (WaitsLess w) (λ r. no_more_less v w (wait_of r) less) led.behind led.no_more)));
        no_more = All-nil (WaitsNoMore w);
      },
      is,
    )
leads_on rows x w None (Some most) h is more = absurd h
leads_on rows x w (Some row) None h is more = absurd h

-- a row that does not wait longer changes nothing
leads_still : (rows : List Row) (x : Row) (longest : Option Row) (most : Option ℤ) → Leads rows longest most →
    Within (wait_of x) most → Leads (rows ++ x ∷ []) longest most
leads_still rows x None None none within = All-push (λ r. wait_of r ≡ None) rows x none (none_within (wait_of x) within)
leads_still rows x (Some row) (Some most) (led, is_most) within =
    let v = led.wait in
    let same : v ≡ most = same_Some v most (sym led.waits ∙ is_most) in (
      record {
        before = led.before;
        behind = led.behind ++ x ∷ [];
        wait = v;
        split = ap (λ xs. xs ++ x ∷ []) led.split ∙ append_assoc led.before (row ∷ led.behind) (x ∷ []);
        waits = led.waits;
        less = led.less;
        no_more = All-push (WaitsNoMore v) led.behind x led.no_more (within_no_more v (wait_of x) (subst (λ u. Within (wait_of x) (Some u)) (sym same) within));
      },
      is_most,
    )
leads_still rows x None (Some most) h within = absurd h
leads_still rows x (Some row) None h within = absurd h

-- one row more
pub leads_new : (rows next : List Row) (x : Row) (longest led : Option Row) (most leading : Option ℤ) → next ≡ rows ++ x ∷ [] → Leads rows longest most →
    ((v : ℤ) × (wait_of x ≡ Some v) × Exceeds v most) → led ≡ Some x → leading ≡ wait_of x → Leads next led leading
leads_new rows next x longest led most leading more h (v, is, exceeds) now_led now =
    subst (λ (rs : List Row). Leads rs led leading) (sym more)
    (subst (λ (o : Option Row). Leads (rows ++ x ∷ []) o leading) (sym now_led)
    (subst (λ (o : Option ℤ). Leads (rows ++ x ∷ []) (Some x) o) (sym (now ∙ is))
    (leads_on rows x v longest most h is exceeds)))

pub leads_same : (rows next : List Row) (x : Row) (longest led : Option Row) (most leading : Option ℤ) → next ≡ rows ++ x ∷ [] → Leads rows longest most →
    Within (wait_of x) most → led ≡ longest → leading ≡ most → Leads next led leading
leads_same rows next x longest led most leading more h within kept same =
    subst (λ (rs : List Row). Leads rs led leading) (sym more)
    (subst (λ (o : Option Row). Leads (rows ++ x ∷ []) o leading) (sym kept)
    (subst (λ (o : Option ℤ). Leads (rows ++ x ∷ []) longest o) (sym same)
    (leads_still rows x longest most h within)))

-- what leads waits longest
pub leads_longest : (rows : List Row) (longest : Option Row) (most : Option ℤ) → Leads rows longest most → IfSome longest (WaitsLongest rows)
leads_longest rows None None h = tt
leads_longest rows (Some row) (Some most) h = h.0
leads_longest rows None (Some most) h = absurd h
leads_longest rows (Some row) None h = absurd h

pub leads_none : (rows : List Row) (longest : Option Row) (most : Option ℤ) → Leads rows longest most → IfNone longest (All (λ r. wait_of r ≡ None) rows)
leads_none rows None None h = h
leads_none rows (Some row) (Some most) h = tt
leads_none rows None (Some most) h = absurd h
leads_none rows (Some row) None h = absurd h
