-- The list of all fetches, from cycle to cycle: how long it is, and what a cycle shows of it.
use Rattle.std.proofs.Common.{◌≡◌, ℕ, zero, suc, ◌+◌, Bool, true, false, eqb, cond, ◌∷◌, List, [], ◌++◌, Option, length, refl, ap, ◌∙◌, true≢false, arith}
use Rattle.std.proofs.lemmas.Bool.Decides.{nat_tests}
use Rattle.mx_delay.specs.Delay.{Code}
use Rattle.mx_turn.specs.declared.latches.Latches.{Latches}
use Rattle.mx_turn.specs.Counted.{Counted, after_turn}
use Rattle.mx_turn.specs.Stages.{stage_of}
use Rattle.mx_turn.specs.Fetches.{Marked, FetchState, mark_first, stage, asked, begun, interrupted, squashes_in_turn, takes_in_turn, missed, finish, turn_of, turn_answer, stalled, cycle_of, cycle_answer, fetches_from}

marked_length : (mark : Marked → Marked) (n : ℕ) (xs : List Marked) → length (mark_first mark n xs) ≡ length xs
marked_length mark zero xs = refl
marked_length mark (suc n) [] = refl
marked_length mark (suc n) (x ∷ xs) = ap suc (marked_length mark n xs)

-- until the end the newest fetch has as its number the count of completed turns
abbrev pub Numbered : FetchState → Type 0
Numbered s = s.halted ≡ false → length s.fetches ≡ suc s.counts.fetches

-- the five stages of a state, as a turn shows them
pub record Shows (s : FetchState) (l : Latches) : Type 0 where
  pub fetch : l.fetch ≡ stage_of (stage 0 s)
  pub rf : l.rf ≡ stage_of (stage 1 s)
  pub alu : l.alu ≡ stage_of (stage 2 s)
  pub mem : l.mem ≡ stage_of (stage 3 s)
  pub wb : l.wb ≡ stage_of (stage 4 s)

module _ (code : Code) (input : Option (List ℕ)) where
  -- the end of a turn, by its parts
  finished : (c : FetchState) (counts : Counted) (halted taken : Bool) → length c.fetches ≡ counts.fetches
      → (let d : FetchState = record c { halted = halted } in Numbered (finish halted taken code counts d))
  finished c counts true taken e = λ h. absurd (true≢false h)
  finished c counts false true e = λ h. ap suc (marked_length _ 3 c.fetches ∙ e)
  finished c counts false false e = λ h. ap suc (marked_length _ 2 c.fetches ∙ e)

  shows : (c : FetchState) (counts : Counted) (halted taken : Bool) → (finish halted taken code counts c).shown ≡ c.shown
  shows c counts true taken = refl
  shows c counts false true = refl
  shows c counts false false = refl

  module _ (s : FetchState) (request : Bool) where
    abbrev at : Bool → ℕ → FetchState
    at halted stall = record s { halted = halted; stall = stall }

    more : (stall : ℕ) → eqb (suc stall) 0 ≡ false
    more stall = grind (arith, nat_tests)

    waits : (t : FetchState) (e : Bool) → e ≡ false → Numbered t → Numbered (cond e (turn_of code input (asked request t)) (stalled (asked request t)))
    waits t true h n = absurd (true≢false h)
    waits t false h n = n

    one_more : (n m : ℕ) → n ≡ suc m → n ≡ m + 1
    one_more n m e = omega (arith, e)

    cycles : (halted : Bool) (stall : ℕ) → Numbered (at halted stall) → Numbered (cycle_of code input (at halted stall) request)
    cycles true stall n = n
    cycles false zero n =
        let t = asked request (at false 0) in
        let c = begun code input t in
        finished c (after_turn (missed t) (squashes_in_turn code c) (takes_in_turn c) s.counts) c.halted (interrupted c) (one_more _ _ (n refl))
    cycles false (suc stall) n = waits (at false (suc stall)) (eqb (suc stall) 0) (more stall) n

    pub numbered_again : Numbered s → Numbered (cycle_of code input s request)
    numbered_again = cycles s.halted s.stall

    abbrev Acts : FetchState → Type 0
    Acts t = (cycle_answer code input t request).stalled ≡ false → Shows t (cycle_of code input t request).shown

    stalls : (t : FetchState) (e : Bool) → e ≡ false
        → (cond e (turn_answer code input (asked request t)) (record { byte = Option.None; taken = false; halted = false; stalled = true })).stalled ≡ false
        → Shows t (cond e (turn_of code input (asked request t)) (stalled (asked request t))).shown
    stalls t true h a = absurd (true≢false h)
    stalls t false h a = absurd (true≢false a)

    acts : (halted : Bool) (stall : ℕ) → halted ≡ false → Acts (at halted stall)
    acts true stall h = λ a. absurd (true≢false h)
    acts false zero h = λ a.
        let t = asked request (at false 0) in
        let c = begun code input t in
        let e = shows c (after_turn (missed t) (squashes_in_turn code c) (takes_in_turn c) s.counts) c.halted (interrupted c) in
        record {
          fetch = ap (λ (l : Latches). l.fetch) e;
          rf = ap (λ (l : Latches). l.rf) e;
          alu = ap (λ (l : Latches). l.alu) e;
          mem = ap (λ (l : Latches). l.mem) e;
          wb = ap (λ (l : Latches). l.wb) e;
        }
    acts false (suc stall) h = stalls (at false (suc stall)) (eqb (suc stall) 0) (more stall)

    -- a cycle that is not stalled shows the stages as its turn began
    pub shows_stages : s.halted ≡ false → Acts s
    shows_stages = acts s.halted s.stall

  pub all_numbered : (s : FetchState) → Numbered s → (h : List Bool) → Numbered (fetches_from code input s h)
  all_numbered s n [] = n
  all_numbered s n (request ∷ h) = all_numbered (cycle_of code input s request) (numbered_again s request n) h

  pub from_one_more : (s : FetchState) (h : List Bool) (request : Bool)
      → fetches_from code input s (h ++ request ∷ []) ≡ cycle_of code input (fetches_from code input s h) request
  from_one_more s [] request = refl
  from_one_more s (b ∷ h) request = from_one_more (cycle_of code input s b) h request
