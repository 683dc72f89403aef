-- The plans that are taken for proposals. The invariant is `AreTaken`: with these plans the first blocks are kept, for these proposals,
-- of which n were rejected. It goes across one more block with its proposal (`taken_more`).
use Rattle.std.proofs.Common.{◌≡◌, ℕ, ◌+◌, ◌<◌, Bool, true, false, cond, List, [], ◌∷◌, ◌++◌, length, take, slice_index_or, refl, sym, ap, ◌∙◌, subst, inl, inr, ⊎_elim, All, arith}
use Rattle.std.proofs.lemmas.List.{take_more, take_all, length_push, length-take-le}
use Rattle.std.proofs.lemmas.List.Elements.{All-nil, All-cons}
use Rattle.mx_blocks.specs.declared.block.Block.{Block}
use Rattle.mx_blocks.specs.declared.block.Plan.{Plan}
use Rattle.mx_validate.specs.Padded.{IsPadded}
use Rattle.mx_validate.specs.Validity.{Valid}
use Rattle.mx_validate.proofs.PaddedLists.{valid_padded}
use Rattle.mx_squash.specs.Copies.{Site, sites}
use Rattle.mx_squash.proofs.Targets.{site}
use Rattle.mx_layout.specs.Kept.{AreKept}

-- one more site with its proposal behind those that are kept
kept_push :
    (Proposes : Block → Plan → Type 0) (n k total : ℕ) (list : List Site) (proposals : List Plan) (s : Site) (proposal : Plan) → total ≡ n + k
    → AreKept Proposes k (s ∷ []) (proposal ∷ []) → AreKept Proposes n list proposals
    → AreKept Proposes total (list ++ s ∷ []) (proposals ++ proposal ∷ [])
kept_push Proposes n k total [] [] s proposal e last h =
    let same : k ≡ total = omega (arith, e, h) in
    subst (λ (m : ℕ). AreKept Proposes m (s ∷ []) (proposal ∷ [])) same last
kept_push Proposes n k total [] (p ∷ proposals) s proposal e last h = absurd h
kept_push Proposes n k total (r ∷ list) [] s proposal e last h = absurd h
kept_push Proposes n k total (r ∷ list) (p ∷ proposals) s proposal e last h = (
  h.0,
  ⊎_elim
      (λ q. inl (q.0, q.1, kept_push Proposes n k total list proposals s proposal e last q.2))
      (λ q. inr (q.0, q.1, q.2 + k, omega (arith, e, q.3), kept_push Proposes q.2 k (q.2 + k) list proposals s proposal refl last q.4))
      h.1,
)

sites_push :
    (blocks : List Block) (plans : List Plan) (starts : List ℕ) (b : Block) (p : Plan) (at : ℕ) → length plans ≡ length blocks
    → length starts ≡ length blocks → sites (blocks ++ b ∷ []) (plans ++ p ∷ []) (starts ++ at ∷ [])
    ≡ sites blocks plans starts ++ site b p at ∷ []
sites_push [] [] [] b p at e f = refl
sites_push [] (q ∷ plans) starts b p at e f = absurd (omega arith)
sites_push [] [] (s ∷ starts) b p at e f = absurd (omega arith)
sites_push (c ∷ blocks) [] starts b p at e f = absurd (omega arith)
sites_push (c ∷ blocks) (q ∷ plans) [] b p at e f = absurd (omega arith)
sites_push (c ∷ blocks) (q ∷ plans) (s ∷ starts) b p at e f =
    ap (λ r. site c q s ∷ r) (sites_push blocks plans starts b p at (omega arith) (omega arith))

-- the plans are taken for the proposals of these blocks, wherever they stand
abbrev pub AreTaken : (Block → Plan → Type 0) → ℕ → List Block → List Plan → List Plan → Type 0
AreTaken Proposes n blocks plans proposals =
    (starts : List ℕ) → length starts ≡ length blocks → AreKept Proposes n (sites blocks plans starts) proposals

split_last : (starts : List ℕ) (k : ℕ) → length starts ≡ k + 1 → starts ≡ take k starts ++ slice_index_or starts k 0 ∷ []
split_last starts k e = sym (take_all (k + 1) starts (omega arith)) ∙ take_more starts k 0 (omega arith)

one_more :
    (Proposes : Block → Plan → Type 0) (m : ℕ) (blocks : List Block) (plans proposals : List Plan) (b : Block) (p proposal : Plan)
    → length plans ≡ length blocks → ((starts : List ℕ) (at : ℕ) → length starts ≡ length blocks
    → AreKept Proposes m (sites blocks plans starts ++ site b p at ∷ []) (proposals ++ proposal ∷ []))
    → AreTaken Proposes m (blocks ++ b ∷ []) (plans ++ p ∷ []) (proposals ++ proposal ∷ [])
one_more Proposes m blocks plans proposals b p proposal e more starts f =
    let k = length blocks in
    let all : length starts ≡ k + 1 = f ∙ length_push blocks b in
    let front : length (take k starts) ≡ k = length-take-le k starts (omega arith) in
    let at = slice_index_or starts k 0 in
    subst (λ (l : List Site). AreKept Proposes m l (proposals ++ proposal ∷ []))
    (sym (sites_push blocks plans (take k starts) b p at e front) ∙ ap (sites (blocks ++ b ∷ []) (plans ++ p ∷ [])) (sym (split_last starts k all)))
    (more (take k starts) at front)

-- a proposal for a block, and the plan that is taken for it
pub record IsTaken (Proposes : Block → Plan → Type 0) (b : Block) (p proposal : Plan) (rejected : Bool) : Type 0 where
  pub told : Proposes b proposal
  pub invalid : rejected ≡ true → ¬ Valid b proposal
  pub padded : rejected ≡ true → IsPadded b p
  pub kept : rejected ≡ false → p ≡ proposal
  pub valid : Valid b p

module _ (Proposes : Block → Plan → Type 0) (n : ℕ) (blocks : List Block) (plans proposals : List Plan) (b : Block) (p proposal : Plan) where
  alone : (r : Bool) (at : ℕ) → IsTaken Proposes b p proposal r → AreKept Proposes (cond r 1 0) (site b p at ∷ []) (proposal ∷ [])
  alone true at is = (is.told, inr (is.invalid refl, is.padded refl, 0, refl, refl))
  alone false at is = (is.told, inl (subst (λ (x : Plan). Valid b x) (is.kept refl) is.valid, is.kept refl, refl))

  counted : (r : Bool) → cond r (n + 1) n ≡ n + cond r 1 0
  counted true = refl
  counted false = omega arith

  pushed : (r : Bool) → length plans ≡ length blocks → AreTaken Proposes n blocks plans proposals → IsTaken Proposes b p proposal r
      → AreTaken Proposes (cond r (n + 1) n) (blocks ++ b ∷ []) (plans ++ p ∷ []) (proposals ++ proposal ∷ [])
  pushed r same taken is = one_more Proposes (cond r (n + 1) n) blocks plans proposals b p proposal same (λ starts at f.
      kept_push Proposes n (cond r 1 0) (cond r (n + 1) n) (sites blocks plans starts) proposals (site b p at) proposal (counted r) (alone r at is)
      (taken starts f))

-- one more of these blocks
pub taken_more :
    (Proposes : Block → Plan → Type 0) (blocks : List Block) (i n m : ℕ) (plans proposals plans' proposals' : List Plan)
    (b : Block) (p proposal : Plan) (rejected : Bool) → i < length blocks → b ≡ slice_index_or blocks i b → length plans ≡ i
    → AreTaken Proposes n (take i blocks) plans proposals → IsTaken Proposes b p proposal rejected
    → proposals' ≡ proposals ++ proposal ∷ [] → plans' ≡ plans ++ p ∷ [] → m ≡ cond rejected (n + 1) n
    → AreTaken Proposes m (take (i + 1) blocks) plans' proposals'
taken_more Proposes blocks i n m plans proposals plans' proposals' b p proposal rejected l here count taken is by_proposals by_plans by_rejected =
    let same : length plans ≡ length (take i blocks) = count ∙ sym (length-take-le i blocks (omega arith)) in
    let more_blocks : take (i + 1) blocks ≡ take i blocks ++ b ∷ [] = take_more blocks i b l ∙ ap (λ x. take i blocks ++ x ∷ []) (sym here) in
    subst (λ (k : ℕ). AreTaken Proposes k (take (i + 1) blocks) plans' proposals') (sym by_rejected)
    (subst (λ (x : List Block). AreTaken Proposes (cond rejected (n + 1) n) x plans' proposals') (sym more_blocks)
    (subst (λ (x : List Plan). AreTaken Proposes (cond rejected (n + 1) n) (take i blocks ++ b ∷ []) x proposals') (sym by_plans)
    (subst (λ (x : List Plan). AreTaken Proposes (cond rejected (n + 1) n) (take i blocks ++ b ∷ []) (plans ++ p ∷ []) x) (sym by_proposals)
    (pushed Proposes n (take i blocks) plans proposals b p proposal rejected same taken is))))

-- each plan that is taken is valid
pub kept_valid :
    (Proposes : Block → Plan → Type 0) (n : ℕ) (list : List Site) (proposals : List Plan) → AreKept Proposes n list proposals
    → All (λ (s : Site). Valid s.block s.plan) list
kept_valid Proposes n [] proposals h = All-nil (λ (s : Site). Valid s.block s.plan)
kept_valid Proposes n (s ∷ list) [] h = absurd h
kept_valid Proposes n (s ∷ list) (p ∷ proposals) h = ⊎_elim
    (λ k. All-cons (λ (r : Site). Valid r.block r.plan) s list (subst (λ (q : Plan). Valid s.block q) (sym k.1) k.0)
    (kept_valid Proposes n list proposals k.2))
    (λ k. All-cons (λ (r : Site). Valid r.block r.plan) s list (valid_padded s.block s.plan k.1) (kept_valid Proposes k.2 list proposals k.4))
    h.1
