-- The list of stops, and the console behind one of them.
use Rattle.std.proofs.Common.{◌≡◌, ℕ, zero, suc, ◌+◌, ◌-◌, ◌<◌, ◌≤◌, Bool, true, cond, List, [], ◌∷◌, ◌++◌, length, map, take, Some, refl, sym, ap, ◌∙◌, subst, arith, ⊎_elim, append_assoc}
use Rattle.std.specs.Prelude.{get_or, slice_get, slice_index, option_to_list}
use Rattle.std.proofs.lemmas.Bool.{cases_Bool, cases_lt, cond-true, cond-false, leb-true}
use Rattle.std.proofs.lemmas.Option.{slice_get_within, get_or_from_slice_get}
use Rattle.std.proofs.lemmas.List.{append-nil, length-append, length-map, length-take, get_or-map, get_or-take, get_or_at, get_or_append_left}
use Rattle.mx_turn.specs.Program.{Program}
use Rattle.mx_turn.specs.Run.{bits, console_after}
use Rattle.mx_report.proofs.Runs.{cycled_at, next_console}
use Rattle.mx_debug.specs.declared.Stop.{Stop}
use Rattle.mx_debug.specs.Stops.{is_stop, stop_cycles, stop_at}
use Rattle.mx_debug.specs.Sessions.{Session, all_stops, is_stopped, stops_of, cycles_of}
use Rattle.law_debug.specs.Visits.{count_below}
use Rattle.law_debug.proofs.Counting.{one_passes, none_passes, count_grows}

module _ (p : Program) (requests : List ℕ) (a : ℕ) where
  abbrev pub stopping : ℕ → Bool
  stopping n = is_stop p requests a n

  abbrev cycles : ℕ → List ℕ
  cycles n = stop_cycles p requests a n

  -- a cycle before N is the stop after j others
  pub record IsStop (N j n : ℕ) : Type 0 where
    pub early : n < N
    pub stops : stopping n ≡ true
    pub before : count_below stopping n ≡ j

  pub all_counted : (n : ℕ) → length (cycles n) ≡ count_below stopping n
  all_counted zero = refl
  all_counted (suc n) =
      let e = all_counted n in
      ⊎_elim
      (λ s.
      ap (λ b. length (cycles n ++ cond b (n ∷ []) [])) s
      ∙ length-append (cycles n) (n ∷ [])
      ∙ ap (λ k. k + 1) e
      ∙ sym (one_passes stopping n s))
      (λ s. ap (λ b. length (cycles n ++ cond b (n ∷ []) [])) s ∙ ap length (append-nil (cycles n)) ∙ e ∙ sym (none_passes stopping n s))
      (cases_Bool (stopping n))

  later : (N j n : ℕ) → IsStop N j n → IsStop (suc N) j n
  later N j n s = record { early = (let e = s.early in omega (arith, e)); stops = s.stops; before = s.before }

  pub found : (N j : ℕ) → j < length (cycles N) → IsStop N j (get_or (cycles N) j 0)
  found zero j less = absurd (omega (arith, less))
  found (suc N) j less = ⊎_elim
      (λ s.
      let whole : cycles (suc N) ≡ cycles N ++ N ∷ [] = ap (λ b. cycles N ++ cond b (N ∷ []) []) s in
      ⊎_elim
      (λ (h : j < length (cycles N)).
      subst (IsStop (suc N) j) (sym (ap (λ l. get_or l j 0) whole ∙ get_or_append_left (cycles N) (N ∷ []) 0 j h))
      (later N j (get_or (cycles N) j 0) (found N j h)))
      (λ (h : length (cycles N) ≤ j).
      let k = ap length whole ∙ length-append (cycles N) (N ∷ []) in
      let e : length (cycles N) ≡ j = omega (arith, h, k, less) in
      subst (IsStop (suc N) j) (sym (ap (λ l. get_or l j 0) whole ∙ get_or_at (cycles N) N [] 0 j e))
      (record { early = omega arith; stops = s; before = sym (all_counted N) ∙ e }))
      (cases_lt j (length (cycles N))))
      (λ s.
      let whole : cycles (suc N) ≡ cycles N = ap (λ b. cycles N ++ cond b (N ∷ []) []) s ∙ append-nil (cycles N) in
      subst (IsStop (suc N) j) (sym (ap (λ l. get_or l j 0) whole))
      (later N j (get_or (cycles N) j 0) (found N j (subst (λ l. j < length l) whole less))))
      (cases_Bool (stopping N))

  -- of two stops that with fewer before it is not later
  pub in_order : (n m : ℕ) → stopping m ≡ true → count_below stopping n ≤ count_below stopping m → n ≤ m
  in_order n m s few = ⊎_elim
      (λ (h : m < n).
      let one_more = one_passes stopping m s in
      let grows = count_grows stopping (suc m) (n - suc m) in
      let e : suc m + (n - suc m) ≡ n = omega (arith, h) in
      let f = ap (count_below stopping) e in
      absurd (omega (arith, one_more, grows, f, few)))
      (λ (h : n ≤ m). h)
      (cases_lt m n)

  -- the console only grows
  pub sent_more : (n k : ℕ) → (rest : List ℕ) × (console_after p (bits requests (k + n)) ≡ console_after p (bits requests n) ++ rest)
  sent_more n zero =
      ([], ap (λ j. console_after p (bits requests j)) (let e : zero + n ≡ n = omega arith in e) ∙ sym (append-nil (console_after p (bits requests n))))
  sent_more n (suc k) =
      let r = sent_more n k in
      let byte = option_to_list (cycled_at p requests (k + n)).byte in (
        r.0 ++ byte,
        ap (λ j. console_after p (bits requests j)) (let e : suc k + n ≡ suc (k + n) = omega arith in e)
            ∙ next_console p requests (k + n)
            ∙ ap (λ l. l ++ byte) r.1
            ∙ append_assoc (console_after p (bits requests n)) r.0 byte,
      )

-- a stop of a session: its cycle, of which the session is not over
pub record StoppedAt (s : Session) (j : ℕ) (stop : Stop) : Type 0 where
  pub cycle : ℕ
  pub is : IsStop s.program s.requests s.address s.budget j cycle
  pub told : stop ≡ stop_at s.program s.requests s.watch cycle
  pub within : suc cycle ≤ cycles_of s

module _ (s : Session) (j : ℕ) (stop : Stop) (there : slice_get (stops_of s) j ≡ Some stop) where
  abbrev taken : List ℕ
  taken = take s.limit (all_stops s)

  abbrev tells : ℕ → Stop
  tells n = stop_at s.program s.requests s.watch n

  in_taken : j < length taken
  in_taken = let e = slice_get_within (map tells taken) j stop there in let f = length-map taken tells in omega (arith, e, f)

  few : (j < s.limit) × (j < length (all_stops s))
  few = let e = in_taken in let f = length-take s.limit (all_stops s) in (omega (arith, e, f), omega (arith, e, f))

  abbrev cycle : ℕ
  cycle = get_or (all_stops s) j 0

  is_stop_here : IsStop s.program s.requests s.address s.budget j cycle
  is_stop_here = found s.program s.requests s.address s.budget j few.1

  told_here : stop ≡ tells cycle
  told_here =
      sym (get_or_from_slice_get (map tells taken) j stop stop there)
      ∙ get_or-map tells taken j 0 stop in_taken
      ∙ ap tells (get_or-take s.limit (all_stops s) j 0 few.0)

  last_is_later : is_stopped s ≡ true → cycle ≤ slice_index (all_stops s) (s.limit - 1)
  last_is_later e =
      let long : s.limit ≤ length (all_stops s) = leb-true s.limit (length (all_stops s)) e in
      let small = few.0 in
      let last = found s.program s.requests s.address s.budget (s.limit - 1) (omega (arith, long, small)) in
      let here = is_stop_here in
      let a = here.before in
      let b = last.before in
      in_order s.program s.requests s.address cycle (get_or (all_stops s) (s.limit - 1) 0) last.stops (omega (arith, a, b, small))

  pub stopped_at : StoppedAt s j stop
  stopped_at = record {
    cycle = cycle;
    is = is_stop_here;
    told = told_here;
    within = ⊎_elim
        (λ e. let k = last_is_later e in let f = cond-true (is_stopped s) (suc (slice_index (all_stops s) (s.limit - 1))) s.budget e in omega (arith, k, f))
        (λ e. let here = is_stop_here in let k = here.early in let f = cond-false (is_stopped s) (suc (slice_index (all_stops s) (s.limit - 1))) s.budget e in
        omega (arith, k, f))
        (cases_Bool (is_stopped s));
  }

-- a session has a stop after j others where that many come
pub has_stop : (s : Session) (j : ℕ) → j < s.limit → j < length (all_stops s) → j < length (stops_of s)
has_stop s j few come =
    let e = length-map (take s.limit (all_stops s)) (stop_at s.program s.requests s.watch) in
    let f = length-take s.limit (all_stops s) in
    omega (arith, e, f, few, come)
