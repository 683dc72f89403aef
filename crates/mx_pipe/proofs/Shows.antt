-- What is shown of a turn moves on with its words, unless a branch or an interrupt marked them.
use Rattle.std.proofs.Common.{◌≡◌, ℕ, ◌-◌, Bool, true, false, cond, eqb, true≢false, List, Option, Some, None, refl, sym}
use Rattle.mx_delay.specs.Delay.{Code}
use Rattle.mx_pcchain.specs.Fetch.{Fetch}
use Rattle.mx_turn.specs.Counted.{after_stall}
use Rattle.mx_turn.specs.Stages.{squash, stage_of}
use Rattle.mx_turn.specs.Cycle.{MachineState, shifted, committed, showing, is_taken, entered, decision, decided, turned, ended, acted, latched, cycled}
use Rattle.mx_pipe.specs.Kept.{is_live, Shows}

either : (b : Bool) (m n : MachineState) → Shows m → Shows n → Shows (cond b m n)
either true m n s t = s
either false m n s t = t

-- where a branch that may have squashed two words left the younger one live, it squashed neither
unmarked : (b : Bool) (fetch rf : Option Fetch) → is_live (squash b fetch) ≡ true
    → (stage_of fetch ≡ stage_of (squash b fetch)) × (stage_of rf ≡ stage_of (squash b rf))
unmarked b None rf e = absurd (true≢false (sym e))
unmarked true (Some f) rf e = absurd (true≢false (sym e))
unmarked false (Some f) None e = (refl, refl)
unmarked false (Some f) (Some g) e = (refl, refl)

pub shows_ended : (code : Code) (m : MachineState) → Shows (ended code (showing code m))
shows_ended code m =
    let c : MachineState = showing code m in
    let decides : Shows (decided code c) = record {
      older = refl;
      younger = λ e. let same = unmarked (decision code c).cancels m.fetch m.rf e in (same.0, same.1, refl);
    } in
    either c.halted c (turned code c) (record { older = refl; younger = λ e. (refl, refl, refl) })
    (either (is_taken c) (entered c) (decided code c) (record { older = refl; younger = λ e. absurd (true≢false (sym e)) }) decides)

pub shows_cycled : (resident : List ℕ → ℕ → Bool) (code : Code) (input : Option (List ℕ)) (m : MachineState) (request : Bool) → Shows m
    → Shows (cycled resident code input m request)
shows_cycled resident code input m request s =
    let l : MachineState = latched request m in
    let e = shows_ended code (committed code input (shifted l)) in
    let acts : Shows (acted resident code input l) = record { older = e.older; younger = e.younger } in
    let waits : MachineState = record l { stall = m.stall - 1; counts = after_stall m.counts } in
    either m.halted m (cond (eqb m.stall 0) (acted resident code input l) waits) s
    (either (eqb m.stall 0) (acted resident code input l) waits acts (record { older = s.older; younger = s.younger }))
