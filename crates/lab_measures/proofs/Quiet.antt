-- Cycles without a request.
use Rattle.std.proofs.Common.{◌≡◌, inl, inr, ℕ, zero, suc, ◌+◌, ◌<◌, ◌≤◌, false, List, [], ◌∷◌, ◌++◌, refl, ap, ◌∙◌, subst, arith}
use Rattle.std.proofs.lemmas.Bool.{cases_lt}
use Rattle.std.proofs.lemmas.List.{same_from_push}
use Rattle.mx_turn.specs.Program.{quiet}
use Rattle.mx_turn.specs.Run.{is_requested, bits}

pub none_asked : (requests : List ℕ) (i n : ℕ) → bits requests (n + i) ≡ quiet (bits requests i) n
    → (k : ℕ) → i ≤ k → k < n + i → is_requested requests k ≡ false
none_asked requests i zero are k l m = absurd (omega arith)
none_asked requests i (suc n) are k l m =
    let next = subst (λ (m : ℕ). bits requests m ≡ quiet (bits requests i) (suc n)) (let same : suc n + i ≡ suc (n + i) = omega arith in same) are in
    let (before, last) = same_from_push (bits requests (n + i)) (quiet (bits requests i) n) (is_requested requests (n + i)) false next in
    elim (cases_lt k (n + i)) [
      | inl under ↦ none_asked requests i n before k l under
      | inr over ↦ let same : k ≡ n + i = omega arith in ap (is_requested requests) same ∙ last
    ]

-- where no request came, the bits are those of no request at all
pub bits_before : (requests : List ℕ) (n : ℕ) → ((k : ℕ) → k < n → is_requested requests k ≡ false) → bits requests n ≡ bits [] n
bits_before requests zero none = refl
bits_before requests (suc n) none =
    ap (λ l. l ++ is_requested requests n ∷ []) (bits_before requests n (λ k l. none k (omega arith)))
    ∙ ap (λ b. bits [] n ++ b ∷ []) (none n (omega arith))
