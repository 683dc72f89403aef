-- Runs of the meaning. No step takes back what was sent (`meaning_sends`), a halt (`meaning_halted`), or that it is stuck, so what is not
-- stuck later was not stuck before (`unstuck_before`).
use Rattle.std.proofs.Common.{◌≡◌, ℕ, ◌+◌, ◌-◌, ◌<◌, ◌≤◌, false, List, [], sym, ap, ◌∙◌, subst, arith, ⊎_elim}
use Rattle.std.proofs.lemmas.Bool.{cases_lt}
use Rattle.mx_isa.specs.declared.place.Place.{Place}
use Rattle.mx_source.specs.SourceValue.{SourceValue}
use Rattle.mx_source.specs.Meaning.{Program, Run, program, start, run_for, meaning, is_stuck, HaltsIn}
use Rattle.mx_delay.specs.Prefixes.{IsPrefix}
use Rattle.law_link.proofs.Saying.{is_going, not_stuck_before, run_add, says_more, stays_for}

module _ (source : SourceValue) (place : Place) (bytes : List ℕ) where
  abbrev p : Program
  p = program source place bytes

  abbrev M : ℕ → Run
  M m = meaning source place bytes m

  abbrev Unstuck : ℕ → Type 0
  Unstuck m = is_stuck (M m).state.mark ≡ false

  later : (a b : ℕ) → a ≤ b → M b ≡ run_for p (b - a) (M a)
  later a b h = ap M (let e : b ≡ a + (b - a) = omega arith in e) ∙ run_add p a (b - a) (record { state = start source place; console = [] })

  pub meaning_sends : (a b : ℕ) → a ≤ b → IsPrefix (M a).console (M b).console
  meaning_sends a b h =
      let more = says_more p (b - a) (M a) in
      subst (λ (r : Run). IsPrefix (M a).console r.console) (sym (later a b h)) (record { rest = more.0; whole = more.1 })

  pub unstuck_before : (a b : ℕ) → a ≤ b → Unstuck b → Unstuck a
  unstuck_before a b h u = not_stuck_before p (b - a) (M a) (ap (λ (r : Run). is_stuck r.state.mark) (sym (later a b h)) ∙ u)

  pub meaning_halted : (n m : ℕ) → n ≤ m → HaltsIn source place bytes n → M m ≡ M n
  meaning_halted n m h halts = later n m h ∙ stays_for p (m - n) (M n) (ap is_going halts.halted)

  -- a meaning that halts is never stuck
  pub halts_unstuck : (n m : ℕ) → HaltsIn source place bytes n → Unstuck m
  halts_unstuck n m halts = ⊎_elim
      (λ (q : n < m). ap (λ (r : Run). is_stuck r.state.mark) (meaning_halted n m (omega arith) halts) ∙ ap is_stuck halts.halted)
      (λ (q : m ≤ n). unstuck_before m n q (ap is_stuck halts.halted))
      (cases_lt n m)

  -- what is sent before a halt is all that is sent
  pub sent_by_halt : (n m : ℕ) → HaltsIn source place bytes n → IsPrefix (M m).console (M n).console
  sent_by_halt n m halts = ⊎_elim
      (λ (q : n < m). subst (λ (r : Run). IsPrefix r.console (M n).console) (sym (meaning_halted n m (omega arith) halts)) (meaning_sends n n (omega arith)))
      (λ (q : m ≤ n). meaning_sends m n q)
      (cases_lt n m)
