-- How a session ends.
use Rattle.std.proofs.Common.{◌≡◌, ℕ, zero, suc, ◌+◌, ◌-◌, ◌<◌, ◌≤◌, Bool, true, false, cond, not, ◌&&◌, List, [], ◌∷◌, ◌++◌, length, map, take, refl, sym, ap, ◌∙◌, subst, arith, append_assoc, true≢false, eqb}
use Rattle.std.specs.Prelude.{leb, slice_index, get_or}
use Rattle.std.proofs.lemmas.Bool.{cond-true, cond-false, le-leb}
use Rattle.std.proofs.lemmas.Bool.Decides.{nat_tests}
use Rattle.std.proofs.lemmas.List.{append-nil, length-append, length-map, take_at, get_or_at, get_or_append_left, take_all}
use Rattle.mx_turn.specs.declared.Cycled.{Cycled}
use Rattle.mx_turn.specs.Cycle.{MachineState}
use Rattle.mx_turn.specs.Program.{state_after}
use Rattle.mx_turn.specs.Run.{bits, console_after}
use Rattle.mx_report.proofs.Runs.{still, cycled_at, state_at, next_halted, state_still, console_still}
use Rattle.mx_debug.specs.declared.stop.Ending.{Ending}
use Rattle.mx_debug.specs.declared.stop.Stop.{Stop}
use Rattle.mx_debug.specs.declared.stop.Ending.TheVariants.{Stopped, Halted, OutOfBudget}
use Rattle.mx_debug.specs.Stops.{is_stop, stop_cycles, stop_at}
use Rattle.mx_debug.specs.Sessions.{Session, all_stops, is_stopped, stops_of, cycles_of, ending_of, console_of, last_of}

-- after n cycles the session has ended so
pub record EndsSo (s : Session) (n : ℕ) (ending : Ending) : Type 0 where
  pub ends : ending ≡ ending_of s
  pub stops : map (stop_at s.program s.requests s.watch) (stop_cycles s.program s.requests s.address n) ≡ stops_of s
  pub console : console_after s.program (bits s.requests n) ≡ console_of s
  pub last : state_after s.program (bits s.requests n) ≡ last_of s

halts_no_stop : (a b c d : Bool) → c ≡ true → (not a && (not b && not c)) && d ≡ false
halts_no_stop a b c d e = grind arith

one_at_most : (xs : List ℕ) (b : Bool) (n : ℕ) → length (xs ++ cond b (n ∷ []) []) ≤ suc (length xs)
one_at_most xs true n = let e = length-append xs (n ∷ []) in omega (arith, e)
one_at_most xs false n = let e = length-append xs [] in omega (arith, e)

-- where a list has got longer, it has its new element at the end
last_added : (xs : List ℕ) (b : Bool) (n : ℕ) → length xs < length (xs ++ cond b (n ∷ []) []) → get_or (xs ++ cond b (n ∷ []) []) (length xs) 0 ≡ n
last_added xs true n less = get_or_at xs n [] 0 (length xs) refl
last_added xs false n less = let e = length-append xs [] in absurd (omega (arith, e, less))

not_leb : (m n : ℕ) → n < m → leb m n ≡ false
not_leb m n less = grind (arith, nat_tests)

module _ (s : Session) where
  abbrev C : ℕ → List ℕ
  C n = stop_cycles s.program s.requests s.address n

  abbrev stopping : ℕ → Bool
  stopping n = is_stop s.program s.requests s.address n

  abbrev state : ℕ → MachineState
  state n = state_at s.program s.requests n

  -- later cycles add stops behind those before them
  later_stops : (n k : ℕ) → (rest : List ℕ) × (C (k + n) ≡ C n ++ rest)
  later_stops n zero = ([], ap C (let e : zero + n ≡ n = omega arith in e) ∙ sym (append-nil (C n)))
  later_stops n (suc k) =
      let r = later_stops n k in (
        r.0 ++ cond (stopping (k + n)) ((k + n) ∷ []) [],
        ap C (let e : suc k + n ≡ suc (k + n) = omega arith in e)
            ∙ ap (λ l. l ++ cond (stopping (k + n)) ((k + n) ∷ []) []) r.1
            ∙ append_assoc (C n) r.0 (cond (stopping (k + n)) ((k + n) ∷ []) []),
      )

  all_later : (n : ℕ) → n ≤ s.budget → (rest : List ℕ) × (all_stops s ≡ C n ++ rest)
  all_later n within = let r = later_stops n (s.budget - n) in (r.0, ap C (let e : s.budget ≡ s.budget - n + n = omega (arith, within) in e) ∙ r.1)

  -- a cycle in which the machine halts is no stop
  no_stop : (n : ℕ) → (state (suc n)).halted ≡ true → stopping n ≡ false
  no_stop n halted =
      let a : Cycled = cycled_at s.program s.requests n in
      halts_no_stop a.stalled a.taken a.halted _ (next_halted s.program s.requests n ∙ halted)

  -- nor is one after it
  stops_still : (n : ℕ) → (state n).halted ≡ true → (m : ℕ) → n ≤ m → C m ≡ C n
  stops_still n halted = still C n (λ m le same.
      let later : n ≤ suc m = omega (arith, le) in
      ap (λ b. C m ++ cond b (m ∷ []) [])
      (no_stop m (ap (λ (x : MachineState). x.halted) (state_still s.program s.requests n halted (suc m) later) ∙ halted))
      ∙ append-nil (C m))

  -- not as many stops came
  module _ (few : length (all_stops s) < s.limit) where
    unstopped : is_stopped s ≡ false
    unstopped = not_leb s.limit (length (all_stops s)) few

    ends_later : (n : ℕ) (b : Bool) → (state s.budget).halted ≡ b → C n ≡ all_stops s → state n ≡ state s.budget
        → console_after s.program (bits s.requests n) ≡ console_after s.program (bits s.requests s.budget) → EndsSo s n (cond b Halted OutOfBudget)
    ends_later n b halted same last sent =
        let whole : cycles_of s ≡ s.budget = cond-false (is_stopped s) _ s.budget unstopped in
        record {
          ends = ap (λ h. cond h Halted OutOfBudget) (sym halted) ∙ sym (cond-false (is_stopped s) Stopped _ unstopped);
          stops = ap (map (stop_at s.program s.requests s.watch)) (same ∙ sym (take_all s.limit (all_stops s) (omega (arith, few))));
          console = sent ∙ ap (λ k. console_after s.program (bits s.requests k)) (sym whole);
          last = last ∙ ap state (sym whole);
        }

  pub ends_halted : (n : ℕ) → suc n ≤ s.budget → length (C n) < s.limit → (state (suc n)).halted ≡ true → EndsSo s (suc n) Halted
  ends_halted n within few halted =
      let same : C (suc n) ≡ C n = ap (λ b. C n ++ cond b (n ∷ []) []) (no_stop n halted) ∙ append-nil (C n) in
      let all : all_stops s ≡ C (suc n) = stops_still (suc n) halted s.budget within in
      let last = state_still s.program s.requests (suc n) halted s.budget within in
      ends_later (subst (λ l. length l < s.limit) (sym (all ∙ same)) few) (suc n) true
      (ap (λ (x : MachineState). x.halted) last ∙ halted) (sym all) (sym last) (sym (console_still s.program s.requests (suc n) halted s.budget within))

  pub ends_spent : length (all_stops s) < s.limit → (state s.budget).halted ≡ false → EndsSo s s.budget OutOfBudget
  ends_spent few going = ends_later few s.budget false going refl refl refl

  pub ends_stopped : (n : ℕ) → suc n ≤ s.budget → length (C n) < s.limit → length (C (suc n)) ≡ s.limit → EndsSo s (suc n) Stopped
  ends_stopped n within few enough =
      let r = all_later (suc n) within in
      let longer = ap length r.1 ∙ length-append (C (suc n)) r.0 in
      let stopped : is_stopped s ≡ true = le-leb s.limit (length (all_stops s)) (omega (arith, longer, enough)) in
      let one_more = one_at_most (C n) (stopping n) n in
      let place : s.limit - 1 ≡ length (C n) = omega (arith, one_more, few, enough) in
      let least : length (C n) < length (C (suc n)) = omega (arith, few, enough) in
      let at_end : slice_index (all_stops s) (s.limit - 1) ≡ n =
      ap (λ l. get_or l (s.limit - 1) 0) r.1
      ∙ ap (λ k. get_or (C (suc n) ++ r.0) k 0) place
      ∙ get_or_append_left (C (suc n)) r.0 0 (length (C n)) least
      ∙ last_added (C n) (stopping n) n least in
      let cycles : cycles_of s ≡ suc n = cond-true (is_stopped s) _ s.budget stopped ∙ ap suc at_end in
      record {
        ends = sym (cond-true (is_stopped s) Stopped _ stopped);
        stops = ap (map (stop_at s.program s.requests s.watch)) (sym (ap (take s.limit) r.1 ∙ take_at (C (suc n)) r.0 s.limit enough));
        console = ap (λ k. console_after s.program (bits s.requests k)) (sym cycles);
        last = ap state (sym cycles);
      }

  halted_at : (m : ℕ) → m ≤ s.budget → ((k : ℕ) → k < m → length (C k) < s.limit) → (state m).halted ≡ true → EndsSo s m Halted
  halted_at zero within few halted = absurd (true≢false (sym halted))
  halted_at (suc n) within few halted = ends_halted n within (few n (omega arith)) halted

  stopped_at : (m : ℕ) → 1 ≤ s.limit → m ≤ s.budget → ((k : ℕ) → k < m → length (C k) < s.limit) → length (C m) ≡ s.limit → EndsSo s m Stopped
  stopped_at zero one within few enough = let none : 0 ≡ s.limit = enough in absurd (omega (arith, one, none))
  stopped_at (suc n) one within few enough = ends_stopped n within (few n (omega arith)) enough

  spent_at : (m : ℕ) → m ≡ s.budget → length (C m) < s.limit → (state m).halted ≡ false → EndsSo s m OutOfBudget
  spent_at m spent few going = subst (λ k. EndsSo s k OutOfBudget) (sym spent)
      (ends_spent (subst (λ k. length (C k) < s.limit) spent few) (subst (λ k. (state k).halted ≡ false) spent going))

  -- where the run ended after so many cycles, before each of which fewer stops than asked for had come
  pub ends_so : (m : ℕ) (halted enough : Bool) → halted ≡ (state m).halted → 1 ≤ s.limit → m ≤ s.budget
      → ((k : ℕ) → k < m → length (C k) < s.limit) → length (C m) ≤ s.limit → enough ≡ eqb (length (C m)) s.limit
      → (halted ≡ false → enough ≡ false → m ≡ s.budget) → EndsSo s m (cond halted Halted (cond enough Stopped OutOfBudget))
  ends_so m true enough is one within few most same whole = halted_at m within few (sym is)
  ends_so m false true is one within few most same whole = stopped_at m one within few (let test = sym same in grind (arith, nat_tests))
  ends_so m false false is one within few most same whole =
      spent_at m (whole refl refl) (let test = sym same in grind (arith, nat_tests)) (sym is)

  -- the same, by the stops that were told
  pub ends_of_run : (m : ℕ) (stops : List Stop) (halted enough : Bool) → stops ≡ map (stop_at s.program s.requests s.watch) (C m)
      → halted ≡ (state m).halted → 1 ≤ s.limit → m ≤ s.budget → ((k : ℕ) → k < m → length (C k) < s.limit) → length stops ≤ s.limit
      → enough ≡ eqb (length stops) s.limit → (halted ≡ false → eqb (length stops) s.limit ≡ false → m ≡ s.budget)
      → EndsSo s m (cond halted Halted (cond enough Stopped OutOfBudget))
  ends_of_run m stops halted enough told is one within few most same whole =
      let count : length stops ≡ length (C m) = ap length told ∙ length-map (C m) (stop_at s.program s.requests s.watch) in
      ends_so m halted enough is one within few (subst (λ n. n ≤ s.limit) count most) (same ∙ ap (λ n. eqb n s.limit) count)
      (λ h e. whole h (sym same ∙ e))
