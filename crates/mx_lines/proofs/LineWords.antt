-- A loop that reads the words of a line.
use Rattle.std.proofs.Common.{◌≡◌, ℕ, suc, ◌+◌, ◌-◌, ◌≤◌, ◌<◌, List, [], ◌∷◌, ◌++◌, length, map, Result, Ok, Err, Bool, cond, false, refl, ap, sym, ◌∙◌, append_assoc, length-append, arith, true, ◌≢◌, subst, true≢false}
use Rattle.mx_lex.specs.Tokens.{next_token, tokens_within, tokens_of, before, is_end}
use Rattle.mx_lex.specs.Reading.{IsSpan}
use Rattle.mx_lex.specs.declared.token.Kind.{Kind}
use Rattle.mx_lex.specs.declared.token.Kind.TheVariants.{End}
use Rattle.mx_lex.specs.declared.token.Token.{Token}
use Rattle.mx_lex.specs.declared.token.LexFault.{LexFault}
use Rattle.mx_lines.specs.declared.fault.Fault.{Fault}
use Rattle.mx_lines.specs.declared.fault.Fault.TheVariants.{BadByte, BadToken}
use Rattle.std.proofs.lemmas.List.{append-nil}
use Rattle.mx_lines.specs.Words.{Word, word_at, words_at, words_of, has_bad_byte}

-- words before others
abbrev pub with_front : List Word → Result (List Word) Fault → Result (List Word) Fault
with_front front (Ok words) = Ok (front ++ words)
with_front front (Err fault) = Err fault

-- the words so far, and what the rest of the line gives, are those of the line
pub record Reads (line : List ℕ) (front : List Word) (at : ℕ) : Type 0 where
  pub within : at ≤ length line
  pub few : length front ≤ at
  pub same : with_front front (words_at line (tokens_within (suc (length line) - length front) line at)) ≡ words_at line (tokens_of line)

one_more : (line : List ℕ) (front : List Word) (t : Token) (r : Result (List Token) LexFault)
    → with_front front (words_at line (before t r)) ≡ with_front (front ++ word_at line t ∷ []) (words_at line r)
one_more line front t (Ok ts) = ap Ok (sym (append_assoc front (word_at line t ∷ []) (map (word_at line) ts)))
one_more line front t (Err fault) = refl

step_tokens : (m : ℕ) (line : List ℕ) (at : ℕ) (t : Token) → next_token line at ≡ Ok t → is_end t.kind ≡ false
    → tokens_within (suc m) line at ≡ before t (tokens_within m line t.end)
step_tokens m line at t e goes = rw (e, goes) refl

end_tokens : (m : ℕ) (line : List ℕ) (at : ℕ) (t : Token) → next_token line at ≡ Ok t → is_end t.kind ≡ true → tokens_within (suc m) line at ≡ Ok []
end_tokens m line at t e ends = rw (e, ends) refl

fault_tokens : (m : ℕ) (line : List ℕ) (at : ℕ) (fault : LexFault) → next_token line at ≡ Err fault → tokens_within (suc m) line at ≡ Err fault
fault_tokens m line at fault e = rw e refl

pub reads_more : (line : List ℕ) (front : List Word) (at : ℕ) (t : Token) → Reads line front at → next_token line at ≡ Ok t → is_end t.kind ≡ false
    → at < t.end → t.end ≤ length line → Reads line (front ++ word_at line t ∷ []) t.end
reads_more line front at t h e goes grows within =
    let m = length line - length front in
    let now : suc (length line) - length front ≡ suc m = omega (arith, h.within, h.few) in
    let after : suc (length line) - length (front ++ word_at line t ∷ []) ≡ m = omega (arith, length-append front (word_at line t ∷ [])) in
    record {
      within = within;
      few = omega (arith, length-append front (word_at line t ∷ []), h.few);
      same =
          ap (λ k. with_front (front ++ word_at line t ∷ []) (words_at line (tokens_within k line t.end))) after
          ∙ sym (one_more line front t (tokens_within m line t.end))
          ∙ ap (λ r. with_front front (words_at line r)) (sym (step_tokens m line at t e goes))
          ∙ ap (λ k. with_front front (words_at line (tokens_within k line at))) (sym now)
          ∙ h.same;
    }

pub reads_end : (line : List ℕ) (front : List Word) (at : ℕ) (t : Token) → Reads line front at → next_token line at ≡ Ok t → is_end t.kind ≡ true
    → words_at line (tokens_of line) ≡ Ok front
reads_end line front at t h e ends =
    let m = length line - length front in
    let now : suc (length line) - length front ≡ suc m = omega (arith, h.within, h.few) in
    sym h.same
    ∙ ap (λ k. with_front front (words_at line (tokens_within k line at))) now
    ∙ ap (λ r. with_front front (words_at line r)) (end_tokens m line at t e ends)
    ∙ ap Ok (append-nil front)

pub reads_fault : (line : List ℕ) (front : List Word) (at : ℕ) (fault : LexFault) → Reads line front at → next_token line at ≡ Err fault
    → words_at line (tokens_of line) ≡ Err BadToken
reads_fault line front at fault h e =
    let m = length line - length front in
    let now : suc (length line) - length front ≡ suc m = omega (arith, h.within, h.few) in
    sym h.same
    ∙ ap (λ k. with_front front (words_at line (tokens_within k line at))) now
    ∙ ap (λ r. with_front front (words_at line r)) (fault_tokens m line at fault e)

same_result : (r : Result (List Token) LexFault) (line : List ℕ) → with_front [] (words_at line r) ≡ words_at line r
same_result (Ok ts) line = refl
same_result (Err fault) line = refl

pub reads_none : (line : List ℕ) → Reads line [] 0
unfolding tokens_of
reads_none line = record {
  within = omega arith;
  few = omega arith;
  same =
      let all : suc (length line) - 0 ≡ length line + 1 = omega arith in
      ap (λ k. with_front [] (words_at line (tokens_within k line 0))) all ∙ same_result (tokens_within (length line + 1) line 0) line;
}

pub not_end : (kind : Kind) → is_end kind ≡ false → kind ≢ End
not_end kind goes p = true≢false (sym (ap is_end p) ∙ goes)

pub no_bad_byte : (line : List ℕ) → has_bad_byte line ≡ false → words_of line ≡ words_at line (tokens_of line)
unfolding words_of
no_bad_byte line h = rw h refl

no_words : (bad : Bool) (read : Result (List Word) Fault) → read ≡ Err BadToken → cond bad (Err BadByte) read ≡ Err (cond bad BadByte BadToken)
no_words true read h = refl
no_words false read h = h

-- a line that does not split into tokens has one of two faults
pub splits_not : (line : List ℕ) → words_at line (tokens_of line) ≡ Err BadToken → words_of line ≡ Err (cond (has_bad_byte line) BadByte BadToken)
unfolding words_of
splits_not line h = no_words (has_bad_byte line) (words_at line (tokens_of line)) h

-- the loop's step, where the token and its word have names of their own
pub reads_push : (line : List ℕ) (front front' : List Word) (at at' : ℕ) (t : Token) (w : Word) → Reads line front at → next_token line at ≡ Ok t
    → is_end t.kind ≡ false
    → IsSpan line at t → front' ≡ front ++ w ∷ [] → w ≡ word_at line t → at' ≡ t.end → Reads line front' at'
reads_push line front front' at at' t w h e goes span fs ws ends =
    subst (λ a. Reads line front' a) (sym ends)
    (subst (λ ws. Reads line ws t.end) (sym (fs ∙ ap (λ w. front ++ w ∷ []) ws))
    (let taken = span.taken (not_end t.kind goes) in reads_more line front at t h e goes (omega (arith, span.after)) span.within))
