-- Runs of the machine with delay slots. No step takes back what was sent, nor a halt, so neither do many (`delay_sends`, `delay_halted`).
use Rattle.std.proofs.Common.{◌≡◌, ℕ, zero, suc, ◌+◌, ◌-◌, ◌≤◌, true, List, [], ◌++◌, Option, refl, sym, ap, ◌∙◌, subst, arith, ⊎_elim, append_assoc}
use Rattle.std.specs.Prelude.{option_to_list}
use Rattle.std.proofs.lemmas.Bool.{cond-true, cond-false, cases_Bool}
use Rattle.std.proofs.lemmas.List.{append-nil}
use Rattle.mx_isa.specs.declared.place.Place.{Place}
use Rattle.mx_isa.specs.Words.{Words}
use Rattle.mx_isa.specs.Effect.{decides}
use Rattle.mx_delay.specs.Delay.{Code, Delay, does, user_byte, stepped, delay_step, delay_start, delay_for, delay}
use Rattle.mx_delay.specs.Prefixes.{IsPrefix}

pub prefix_same : (xs ys : List ℕ) → xs ≡ ys → IsPrefix xs ys
prefix_same xs ys e = record { rest = []; whole = sym e ∙ sym (append-nil xs) }

pub prefix_then : (xs ys zs : List ℕ) → IsPrefix xs ys → IsPrefix ys zs → IsPrefix xs zs
prefix_then xs ys zs h k = record { rest = h.rest ++ k.rest; whole = k.whole ∙ ap (λ l. l ++ k.rest) h.whole ∙ append_assoc xs h.rest k.rest }

module _ (code : Code) (p : Place) (input : Option (List ℕ)) where
  abbrev for : ℕ → Delay → Delay
  for = delay_for code p input

  pub for_add : (m n : ℕ) (s : Delay) → for (m + n) s ≡ for n (for m s)
  for_add zero n s = ap (λ k. for k s) (let e : zero + n ≡ n = omega arith in e)
  for_add (suc m) n s = ap (λ k. for k s) (let e : suc m + n ≡ suc (m + n) = omega arith in e) ∙ for_add m n (delay_step code p input s)

  stays : (s : Delay) → s.halted ≡ true → delay_step code p input s ≡ s
  stays s h = cond-true s.halted s _ h

  stays_for : (n : ℕ) (s : Delay) → s.halted ≡ true → for n s ≡ s
  stays_for zero s h = refl
  stays_for (suc n) s h = ap (for n) (stays s h) ∙ stays_for n s h

  step_sends : (s : Delay) → IsPrefix s.console (delay_step code p input s).console
  step_sends s = ⊎_elim
      (λ h. prefix_same s.console (delay_step code p input s).console (ap (λ (d : Delay). d.console) (sym (stays s h))))
      (λ h. record {
        rest = option_to_list (user_byte p input (does code s.first) s.first.address s.core);
        whole = ap (λ (d : Delay). d.console) (cond-false s.halted s
            (stepped p input (does code s.first) (decides (does code s.first) s.first.address s.core.regs) s) h);
      })
      (cases_Bool s.halted)

  sends_for : (n : ℕ) (s : Delay) → IsPrefix s.console (for n s).console
  sends_for zero s = prefix_same s.console s.console refl
  sends_for (suc n) s =
      prefix_then s.console (delay_step code p input s).console (for (suc n) s).console (step_sends s) (sends_for n (delay_step code p input s))

  module _ (words : Words) where
    later : (a b : ℕ) → a ≤ b → delay code p input words b ≡ for (b - a) (delay code p input words a)
    later a b h = ap (delay code p input words) (let e : b ≡ a + (b - a) = omega arith in e) ∙ for_add a (b - a) (delay_start p words)

    pub delay_sends : (a b : ℕ) → a ≤ b → IsPrefix (delay code p input words a).console (delay code p input words b).console
    delay_sends a b h =
        subst (λ (d : Delay). IsPrefix (delay code p input words a).console d.console) (sym (later a b h)) (sends_for (b - a) (delay code p input words a))

    pub delay_halted : (a b : ℕ) → a ≤ b → (delay code p input words a).halted ≡ true → delay code p input words b ≡ delay code p input words a
    delay_halted a b h e = later a b h ∙ stays_for (b - a) (delay code p input words a) e
