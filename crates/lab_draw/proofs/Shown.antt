-- What a frame records, over the list of all fetches.
use Rattle.std.proofs.Common.{◌≡◌, ℕ, suc, ◌-◌, Bool, false, ◌∷◌, List, [], ◌++◌, refl, sym, ap, ◌∙◌, subst, arith}
use Rattle.mx_turn.specs.declared.machine.Cycled.{Cycled}
use Rattle.mx_turn.specs.Cycle.{MachineState}
use Rattle.mx_turn.specs.Program.{Program, code_of, memory_of}
use Rattle.mx_turn.specs.Run.{is_requested, bits}
use Rattle.mx_turn.specs.Fetches.{FetchState, fetches_start, fetches_after, cycle_of}
use Rattle.mx_turn.proofs.Fetches.{window_on_fetches}
use Rattle.lab_draw.specs.declared.frame.Frame.{Frame}
use Rattle.lab_draw.specs.Cells.{turn_of, before, answer_at}
use Rattle.lab_draw.specs.Frames.{IsFrame}
use Rattle.lab_draw.proofs.Fetched.{Shows, shows_stages, all_numbered, from_one_more}

-- a frame that shows what a state with all fetches has
pub record Sees (s : FetchState) (answer : Cycled) (f : Frame) : Type 0 where
  pub going : s.halted ≡ false
  pub cycled : f.cycled ≡ answer
  pub turn : f.turn ≡ turn_of s
  pub shown : answer.stalled ≡ false → Shows s f.shown

module _ (p : Program) (requests : List ℕ) (n : ℕ) (f : Frame) (is : IsFrame p requests n f) where
  abbrev h : List Bool
  h = bits requests n

  abbrev request : Bool
  request = is_requested requests n

  going : (before p requests n).halted ≡ false
  going = sym (ap (λ (m : MachineState). m.halted) (window_on_fetches p h).0) ∙ is.going

  answered : f.cycled ≡ answer_at p requests n
  answered = is.frame.cycled ∙ (window_on_fetches p h).1 request

  counted : f.turn ≡ (before p requests n).counts.fetches
  counted = is.frame.turn ∙ ap (λ (m : MachineState). m.counts.fetches) (window_on_fetches p h).0

  before_end : (k t c : ℕ) → t ≡ c → k ≡ suc c → t ≡ k - 1
  before_end k t c e d = omega (arith, e, d)

  numbered : f.turn ≡ turn_of (before p requests n)
  numbered = before_end _ _ _ counted (all_numbered (code_of p) p.input (fetches_start (memory_of p)) (λ e. refl) h going)

  after : fetches_after p (h ++ request ∷ []) ≡ cycle_of (code_of p) p.input (before p requests n) request
  after = from_one_more (code_of p) p.input (fetches_start (memory_of p)) h request

  shows : (answer_at p requests n).stalled ≡ false → Shows (before p requests n) f.shown
  shows acts =
      subst (Shows (before p requests n))
      (sym (is.frame.shown ∙ ap (λ (m : MachineState). m.shown) (window_on_fetches p (h ++ request ∷ [])).0 ∙ ap (λ (s : FetchState). s.shown) after))
      (shows_stages (code_of p) p.input (before p requests n) request going acts)

  pub frame_sees : Sees (before p requests n) (answer_at p requests n) f
  frame_sees = record { going = going; cycled = answered; turn = numbered; shown = shows }
