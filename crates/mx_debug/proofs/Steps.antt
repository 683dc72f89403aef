-- One more cycle of a session.
use Rattle.std.proofs.Common.{◌≡◌, ℕ, suc, Bool, true, false, cond, ◌&&◌, List, [], ◌∷◌, ◌++◌, length, map, sym, ◌∙◌}
use Rattle.std.proofs.lemmas.List.{map-append}
use Rattle.mx_turn.specs.declared.Cycled.{Cycled}
use Rattle.mx_turn.specs.Program.{Program, state_after, answer_after}
use Rattle.mx_turn.specs.Run.{is_requested, bits, console_after}
use Rattle.mx_debug.specs.declared.stop.Stop.{Stop}
use Rattle.mx_debug.specs.Stops.{shows_live, goes_on, is_stop, stop_cycles, stop_with, stop_at}

map_one_more : {X : Type 0} (f : ℕ → X) (xs : List ℕ) (b : Bool) (n : ℕ) → map f (xs ++ cond b (n ∷ []) []) ≡ map f xs ++ cond b (f n ∷ []) []
map_one_more f xs true n = map-append f xs (n ∷ [])
map_one_more f xs false n = map-append f xs []

module _ (p : Program) (requests : List ℕ) (address watch n : ℕ) where
  -- the stop of a cycle, if it is one, is added to those before it
  pub next_stops : (stops added : List Stop) (answer : Cycled) (bytes : ℕ)
      → answer ≡ answer_after p (bits requests n) (is_requested requests n)
      → bytes ≡ length (console_after p (bits requests (suc n)))
      → stops ≡ map (stop_at p requests watch) (stop_cycles p requests address n)
      → (let last = state_after p (bits requests (suc n)) in
      added ≡ stops ++ cond (goes_on answer && shows_live address last.shown.alu) (stop_with n bytes watch last.core ∷ []) [])
      → added ≡ map (stop_at p requests watch) (stop_cycles p requests address (suc n))
  next_stops stops added answer bytes answered counted before is =
      let last = state_after p (bits requests (suc n)) in
      is
      ∙ (λ k. before k ++ cond (goes_on (answered k) && shows_live address last.shown.alu) (stop_with n (counted k) watch last.core ∷ []) [])
      ∙ sym (map_one_more (stop_at p requests watch) (stop_cycles p requests address n) (is_stop p requests address n) n)
