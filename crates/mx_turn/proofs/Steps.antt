-- The parts of a turn.
use Rattle.std.proofs.Common.{◌≡◌, ◌-◌, ℕ, Bool, true, false, eqb, not, ◌&&◌, List, [], ◌∷◌, ◌++◌, Option, None, refl, sym, ◌∙◌}
use Rattle.std.proofs.lemmas.Bool.{cond-true, cond-false}
use Rattle.mx_delay.specs.Delay.{Code}
use Rattle.mx_turn.specs.declared.machine.Cycled.{Cycled}
use Rattle.mx_turn.specs.Counted.{after_stall, after_turn}
use Rattle.mx_turn.specs.Cycle.{MachineState, is_taken, entered, decision, decided, turned, ended, takes, squashes, latched, reached, waited, acted, cycled, answer, acted_answer, after_bits}

pub ended_taken : (code : Code) (m n : MachineState) → m.halted ≡ false → is_taken m ≡ true → n ≡ entered m → n ≡ ended code m
ended_taken code m n h t e = e ∙ sym (cond-false _ m (turned code m) h ∙ cond-true _ (entered m) (decided code m) t)

pub ended_on : (code : Code) (m n : MachineState) → m.halted ≡ false → is_taken m ≡ false → n ≡ decided code m → n ≡ ended code m
ended_on code m n h t e = e ∙ sym (cond-false _ m (turned code m) h ∙ cond-false _ (entered m) (decided code m) t)

both : (a b : Bool) → a ≡ false → b ≡ true → true ≡ (not a && b)
both a b e f = λ k. not (sym e k) && sym f k

pub taken_when : (m : MachineState) → m.halted ≡ false → is_taken m ≡ true → true ≡ takes m
taken_when m h t = both m.halted (is_taken m) h t

pub not_taken : (m : MachineState) → m.halted ≡ false → is_taken m ≡ false → false ≡ takes m
not_taken m h t = λ k. not (sym h k) && sym t k

pub taken_keeps : (code : Code) (m : MachineState) → m.halted ≡ false → is_taken m ≡ true → false ≡ squashes code m
taken_keeps code m h t = λ k. not (sym h k) && (not (sym t k) && (decision code m).cancels)

pub squashes_on : (code : Code) (m : MachineState) (b : Bool) → m.halted ≡ false → is_taken m ≡ false → b ≡ (decision code m).cancels → b ≡ squashes code m
squashes_on code m b h t e = e ∙ (λ k. not (sym h k) && (not (sym t k) && (decision code m).cancels))

-- one more request bit
pub after_one_more : (resident : List ℕ → ℕ → Bool) (code : Code) (input : Option (List ℕ)) (m : MachineState) (h : List Bool) (request : Bool)
    → after_bits resident code input m (h ++ request ∷ []) ≡ cycled resident code input (after_bits resident code input m h) request
after_one_more resident code input m [] request = refl
after_one_more resident code input m (b ∷ h) request = after_one_more resident code input (cycled resident code input m b) h request

-- the three kinds of cycle
module _ (resident : List ℕ → ℕ → Bool) (code : Code) (input : Option (List ℕ)) (m : MachineState) (request : Bool) where
  pub cycled_halted : m.halted ≡ true → m ≡ cycled resident code input m request
  cycled_halted e = sym (cond-true _ _ _ e)

  pub cycled_acted : m.halted ≡ false → eqb m.stall 0 ≡ true → acted resident code input (latched request m) ≡ cycled resident code input m request
  cycled_acted e f = sym (cond-false _ m _ e ∙ cond-true _ _ _ f)

  pub cycled_stalled : m.halted ≡ false → eqb m.stall 0 ≡ false
      → (let l : MachineState = latched request m in
      let n : MachineState = record l { stall = m.stall - 1; counts = after_stall m.counts } in
      n ≡ cycled resident code input m request)
  cycled_stalled e f = sym (cond-false _ m _ e ∙ cond-false _ _ _ f)

  pub answer_halted : m.halted ≡ true
      → (let r : Cycled = record { byte = None; taken = false; halted = true; stalled = false } in r ≡ answer code input m request)
  answer_halted e = sym (cond-true _ _ _ e)

  pub answer_acted : m.halted ≡ false → eqb m.stall 0 ≡ true → acted_answer code input (latched request m) ≡ answer code input m request
  answer_acted e f = sym (cond-false _ _ _ e ∙ cond-true _ _ _ f)

  pub answer_stalled : m.halted ≡ false → eqb m.stall 0 ≡ false
      → (let r : Cycled = record { byte = None; taken = false; halted = false; stalled = true } in r ≡ answer code input m request)
  answer_stalled e f = sym (cond-false _ _ _ e ∙ cond-false _ _ _ f)

-- a turn that acts, by its steps: the commit, what it shows, its end, the counts, the wait
pub acted_is : (resident : List ℕ → ℕ → Bool) (code : Code) (input : Option (List ℕ)) (m c d w : MachineState) (missed squashed taken : Bool)
    → c ≡ reached code input m → d ≡ ended code c
    → missed ≡ not (resident m.past m.next.address) → squashed ≡ squashes code c → taken ≡ takes c
    → (let n : MachineState = record d { counts = after_turn missed squashed taken m.counts } in w ≡ waited resident n)
    → w ≡ acted resident code input m
acted_is resident code input m c d w missed squashed taken is_c is_d is_m is_s is_t is_w =
    is_w
    ∙ (λ k. let x : MachineState = is_d k in let n : MachineState = record x { counts = after_turn (is_m k) (is_s k) (is_t k) m.counts } in waited resident n)
    ∙ (λ k. let x : MachineState = ended code (is_c k) in let n : MachineState =
    record x { counts = after_turn (not (resident m.past m.next.address)) (squashes code (is_c k)) (takes (is_c k)) m.counts } in waited resident n)
