use Rattle.std.proofs.Common.{◌≡◌, ℕ, ◌∷◌, List, false, not, sym, ap, ◌∙◌, subst}
use Rattle.std.specs.Prelude.{slice_index}
use Rattle.mx_isa.specs.Words.{Words}
use Rattle.mx_delay.specs.Delay.{Code}
use Rattle.mx_icache.specs.Residency.{resident}
use Rattle.mx_turn.specs.declared.latches.Latches.{Latches}
use Rattle.mx_turn.specs.declared.turns.Turns.{Turns}
use Rattle.mx_turn.specs.Counted.{after_turn}
use Rattle.mx_turn.specs.Decoded.{code_in}
use Rattle.mx_turn.specs.Cycle.{MachineState, showing, reached, ended, takes, squashes, waited, acted}
use Rattle.mx_turn.specs.Kept.{code_of_turns, machine_of, shown_of}
use Rattle.mx_turn.proofs.Steps.{acted_is}
use Rattle.mx_turn.proofs.turns.Turns.act.Goals as goal
use Rattle.mx_turn.proofs.turns.Turns.act.Goals.{After-wait}
use Rattle.mx_turn.proofs.turns.Turns.act.Given as given

module _ (g : given.Over) (c : After-wait g) (past : List ℕ) (before : Words) (shown : Latches) where
  abbrev s0 : Turns g.row.C.Denot
  s0 = c.args.self.now

  abbrev s1 : Turns g.row.C.Denot
  s1 = c.commit-byte.new.self

  abbrev s2 : Turns g.row.C.Denot
  s2 = c.show.new.self

  abbrev s3 : Turns g.row.C.Denot
  s3 = c.end-ended.new.self

  abbrev s5 : Turns g.row.C.Denot
  s5 = c.wait.new.self

  abbrev code : Code
  code = code_of_turns s0

  abbrev m : MachineState
  m = machine_of s0 past before shown

  abbrev past' : List ℕ
  past' = s0.next.address ∷ past

  abbrev before' : Words
  before' = slice_index s0.registers.file

  same1 : code_of_turns s1 ≡ code
  same1 = ap code_in c.commit-byte.ensures.program.code

  same2 : code_of_turns s2 ≡ code
  same2 = ap code_in c.show.ensures.program.code ∙ same1

  -- the machine once the stages of the turn are shown
  abbrev reaches : MachineState
  reaches = machine_of s2 past' before' (shown_of s2)

  reaches_is : reaches ≡ reached code s0.board.input m
  reaches_is = c.show.ensures.state past' before' shown ∙ (λ k. showing (same1 k) (c.commit-byte.ensures.state past before shown k))

  ends_is : machine_of s3 past' before' (shown_of s2) ≡ ended code reaches
  ends_is = c.end-ended.ensures.state past' before' (shown_of s2) ∙ ap (λ x. ended x reaches) same2

  counts_is : c.turned.new.self ≡ after_turn s3.missed c.end-ended.result.squashed c.end-ended.result.taken m.counts
  counts_is = c.turned.ensures
      ∙ ap (after_turn s3.missed c.end-ended.result.squashed c.end-ended.result.taken)
      (c.end-ended.ensures.counts ∙ c.show.ensures.counts ∙ c.commit-byte.ensures.counts)

  shown_is : shown_of s5 ≡ shown_of s2
  shown_is = c.wait.ensures.shown ∙ c.end-ended.ensures.shown

  waits_is : g.C.FetchCache.holds s0.cache past'
      → (let d : MachineState = machine_of s3 past' before' (shown_of s2) in
      let n : MachineState = record d { counts = after_turn s3.missed c.end-ended.result.squashed c.end-ended.result.taken m.counts } in
      machine_of s5 past' before' (shown_of s5) ≡ waited resident n)
  waits_is holds =
      c.wait.ensures.state past' before' (shown_of s5)
      (subst (λ x. g.C.FetchCache.holds x past') (sym (c.end-ended.ensures.cache ∙ c.show.ensures.cache ∙ c.commit-byte.ensures.cache)) holds)
      ∙ (λ k. let d : MachineState = machine_of s3 past' before' (shown_is k) in let n : MachineState = record d { counts = counts_is k } in waited resident n)

  acts : g.C.FetchCache.holds s0.cache past' → s0.missed ≡ not (resident past s0.next.address)
      → machine_of s5 past' before' (shown_of s5) ≡ acted resident code s0.board.input m
  acts holds missed =
      acted_is resident code s0.board.input m reaches (machine_of s3 past' before' (shown_of s2)) (machine_of s5 past' before' (shown_of s5))
      s3.missed c.end-ended.result.squashed c.end-ended.result.taken
      reaches_is ends_is
      (c.end-ended.ensures.missed ∙ c.show.ensures.missed ∙ c.commit-byte.ensures.missed ∙ missed)
      (c.end-ended.ensures.squashed past' before' (shown_of s2) ∙ ap (λ x. squashes x reaches) same2)
      (c.end-ended.ensures.taken past' before' (shown_of s2))
      (waits_is holds)

pub returns-clause-state : goal.returns-clause-state
returns-clause-state g c = λ past before shown holds missed. acts g c past before shown holds missed

pub returns-clause-answer : goal.returns-clause-answer
returns-clause-answer g c = λ past before shown.
    let s2 = c.show.new.self in
    let past' : List ℕ = c.args.self.now.next.address ∷ past in
    let before' : Words = slice_index c.args.self.now.registers.file in
    λ k. record {
      byte = c.commit-byte.ensures.byte past before shown k;
      taken = (c.end-ended.ensures.taken past' before' (shown_of s2) ∙ ap takes (reaches_is g c past before shown)) k;
      halted = (c.commit-byte.ensures.state past before shown k).halted;
      stalled = false;
    }
