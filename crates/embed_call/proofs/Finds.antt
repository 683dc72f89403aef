-- A command that finds its files has no fault of reading.
use Rattle.std.proofs.Common.{◌≡◌, ℕ, ◌<◌, ◌≤◌, inl, inr, List, [], length, true, Option, Some, None, refl, sym, ap, ◌∙◌, subst, arith}
use Rattle.std.specs.Prelude.{IsSomeAnd}
use Rattle.std.specs.Option.{unwrap_or}
use Rattle.mx_io.specs.Counts.{Rose}
use Rattle.cmd_answer.specs.Answer.{Answer}
use Rattle.mx_io.specs.Shelves.{Counts}
use Rattle.mx_io.specs.Writes.{Written}
use Rattle.cmd_answer.specs.Protocol.{Protocol, Answers, Reads, Faulted}
use Rattle.mx_command.specs.Accepted.{Held}
use Rattle.embed_call.specs.Answered.{FindsItsFiles}

-- a count that ends at 0 did not rise
pub no_rise : (x y : ℕ) → y ≡ 0 → Rose x y → ⊥
no_rise x y z (inl above) = omega arith
no_rise x y z (inr last) = omega arith

not_long : (limit : ℕ) (h : Option (List ℕ)) (bytes : List ℕ) → h ≡ Some bytes → length bytes ≤ limit → IsSomeAnd h (λ b. limit < length b) → ⊥
not_long limit h bytes is within over =
    let above : limit < length bytes = subst (λ o. IsSomeAnd o (λ b. limit < length b)) is over in omega arith

not_none : (h : Option (List ℕ)) (bytes : List ℕ) → h ≡ Some bytes → h ≡ None → ⊥
not_none h bytes is none = absurd (cc)

pub finds_no_fault : (held : Held) (p : Protocol) (before after : Counts) (answer : Answer) → after.faults ≡ 0 → FindsItsFiles held p
    → (wrote : List Written) → Faulted (record { tells = true; held = held; wrote = wrote }) p before after answer → ⊥
finds_no_fault held (Answers given) before after answer z finds wrote faulted = faulted
finds_no_fault held (Reads kind name next) before after answer z (bytes, holds, rest) wrote (inl (read, inl (is, logged, inl rose))) =
    no_rise before.faults after.faults z rose
finds_no_fault held (Reads kind name next) before after answer z (bytes, holds, rest) wrote (inl (read, inl (is, logged, inr (tells, none)))) =
    not_none (held name) bytes holds.there none
finds_no_fault held (Reads kind name next) before after answer z (bytes, holds, rest) wrote (inl (read, inr (is, logged, long))) =
    not_long _ (held name) bytes holds.there holds.within (long.told refl)
finds_no_fault held (Reads kind name next) before after answer z (bytes, holds, rest) wrote (inr (between, read, found, given, more)) =
    let same : bytes ≡ found = ap (λ (o : Option (List ℕ)). unwrap_or o []) (sym holds.there ∙ given.exact refl) in
    finds_no_fault held (next found) between after answer z (subst (λ b. FindsItsFiles held (next b)) same rest) wrote more
