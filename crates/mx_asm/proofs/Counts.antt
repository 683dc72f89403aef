-- How many statements and data words a statement of a line adds.
use Rattle.std.proofs.Common.{◌≡◌, ℕ, suc, ◌+◌, ◌/◌, List, [], ◌∷◌, length, ◌*◌, cond, replicate, Bool, true, false, Option, Some, None, Result, Ok, Err, refl, ap, sym, ◌∙◌, subst, arith}
use Rattle.std.proofs.lemmas.List.{append-nil, length-replicate}
use Rattle.mx_source.specs.declared.statement.Statement.{Statement}
use Rattle.mx_source.specs.declared.statement.Value.{Value}
use Rattle.mx_source.specs.declared.statement.Value.TheVariants.{Int}
use Rattle.mx_lines.specs.declared.fault.Fault.{Fault}
use Rattle.mx_asm.specs.declared.position.Section.{Section}
use Rattle.mx_asm.specs.declared.position.Section.TheVariants as section
use Rattle.mx_asm.specs.declared.directive.Directive.{Directive}
use Rattle.mx_asm.specs.declared.directive.Directive.TheVariants as d
use Rattle.mx_lines.specs.Reading.{◌>>=◌}
use Rattle.mx_lines.specs.Words.{Word, Name, Number, Comma, Open, Close, Hash, Colon, End}
use Rattle.mx_lines.specs.Instructions.{Labels, instruction}
use Rattle.mx_asm.specs.Directives.{Effect, Nothing, Instruction, Data, Input, cons, is_value, is_comma, before_values, value_words, numbers_fit, value_of, values_of, word_values, space_count, in_data, in_code, without_operands, directed, directive_named, is_dotted, effect_of}
use Rattle.mx_asm.specs.Positions.{instruction_count, word_count, asked, ok_or_zero}
use Rattle.mx_asm.specs.Texts.{onto_statements, onto_values}

-- an effect is so many statements and so many data words
pub record Counts (few many : ℕ) (e : Effect) : Type 0 where
  pub statements : length (onto_statements e []) ≡ few
  pub words : length (onto_values e []) ≡ many

cons_length : {A : Type 0} (x : A) (r : Result (List A) Fault) (xs : List A) → cons x r ≡ Ok xs → (ys : List A) × (r ≡ Ok ys) × (length xs ≡ suc (length ys))
cons_length x (Ok ys) xs h = let e : x ∷ ys ≡ xs = cc in (ys, refl, ap length (sym e))
cons_length x (Err fault) xs h = cc

cond_ok : {A : Type 0} (b : Bool) (r : Result A Fault) (fault : Fault) (x : A) → cond b r (Err fault) ≡ Ok x → r ≡ Ok x
cond_ok true r fault x h = h
cond_ok false r fault x h = cc

values_length : (ws us : List Word) → value_words ws ≡ Ok us → 2 * length us ≡ length ws + 1
values_length [] us h = cc
values_length (v ∷ []) us h =
    let r = cons_length v (Ok []) us (cond_ok (is_value v) (cons v (Ok [])) _ us h) in
    let e : [] ≡ r.0 = cc in
    omega (arith, r.2, ap length e)
values_length (v ∷ separator ∷ ws) us h =
    let r = cons_length v (value_words ws) us
    (cond_ok (is_value v) (cons v (value_words ws)) _ us (cond_ok (is_comma separator) (before_values v (value_words ws)) _ us h)) in
    omega (arith, r.2, values_length ws r.0 r.1)

bind_ok : {A B : Type 0} (r : Result A Fault) (f : A → Result B Fault) (y : B) → (r >>= f) ≡ Ok y → (x : A) × (r ≡ Ok x) × (f x ≡ Ok y)
bind_ok (Ok x) f y h = (x, refl, h)
bind_ok (Err fault) f y h = cc

resolved_length : (labels : Labels) (us : List Word) (vs : List Value) → values_of labels us ≡ Ok vs → length vs ≡ length us
resolved_length labels [] vs h = let e : [] ≡ vs = cc in ap length (sym e)
resolved_length labels (u ∷ us) vs h =
    let v = bind_ok (value_of labels u) (λ v. cons v (values_of labels us)) vs h in
    let r = cons_length v.0 (values_of labels us) vs v.2 in
    omega (arith, r.2, resolved_length labels us r.0 r.1)

word_values_length : (labels : Labels) (ws : List Word) (vs : List Value) → word_values labels ws ≡ Ok vs → length vs ≡ (length ws + 1) / 2
unfolding word_values
word_values_length labels ws vs h =
    let u = bind_ok (value_words ws) (λ us. numbers_fit us >>= λ _. values_of labels us) vs h in
    let n = bind_ok (numbers_fit u.0) (λ _. values_of labels u.0) vs u.2 in
    omega (arith, values_length ws u.0 u.1, resolved_length labels u.0 vs n.2)

code_counts : (r : Result Statement Fault) (s : Section) (e : Effect) → (r >>= λ statement. in_code s statement) ≡ Ok e → Counts 1 0 e
code_counts (Err fault) s e h = cc
code_counts (Ok st) section.Code e h = let q : Instruction st ≡ e = cc in subst (Counts 1 0) q (record { statements = refl; words = refl })
code_counts (Ok st) section.Data e h = cc

data_counts : (n : ℕ) (vs : List Value) (s : Section) (e : Effect) → length vs ≡ n → in_data s vs ≡ Ok e → Counts 0 n e
data_counts n vs section.Code e long h = cc
data_counts n vs section.Data e long h = let q : Data vs ≡ e = cc in subst (Counts 0 n) q
    (record { statements = refl; words = ap length (append-nil vs) ∙ long })

alone_counts : (e' e : Effect) (ws : List Word) → Counts 0 0 e' → without_operands e' ws ≡ Ok e → Counts 0 0 e
alone_counts e' e [] c h = let q : e' ≡ e = cc in subst (Counts 0 0) q c
alone_counts e' e (_ ∷ _) c h = cc

directed_counts : (labels : Labels) (s : Section) (d : Option Directive) (ws : List Word) (e : Effect) → directed labels s d ws ≡ Ok e → Counts 0 (asked d ws) e
unfolding directed
directed_counts labels s None ws e h = cc
directed_counts labels s (Some d.Code) ws e h = alone_counts Nothing e ws (record { statements = refl; words = refl }) h
directed_counts labels s (Some d.Data) ws e h = alone_counts Nothing e ws (record { statements = refl; words = refl }) h
directed_counts labels s (Some d.Input) ws e h = alone_counts Input e ws (record { statements = refl; words = refl }) h
directed_counts labels s (Some d.Word) ws e h =
    let v = bind_ok (word_values labels ws) (in_data s) e h in
    data_counts ((length ws + 1) / 2) v.0 s e (word_values_length labels ws v.0 v.1) v.2
directed_counts labels s (Some d.Space) ws e h =
    let k = bind_ok (space_count ws) (λ k. in_data s (replicate k (Int 0))) e h in
    data_counts (ok_or_zero (space_count ws)) (replicate k.0 (Int 0)) s e (length-replicate k.0 (Int 0) ∙ sym (ap ok_or_zero k.1)) k.2

by_dot : (labels : Labels) (s : Section) (dotted : Bool) (name : List ℕ) (ws : List Word) (e : Effect)
    → cond dotted (directed labels s (directive_named name) ws) (instruction labels name ws >>= λ statement. in_code s statement) ≡ Ok e
    → Counts (cond dotted 0 1) (cond dotted (asked (directive_named name) ws) 0) e
by_dot labels s true name ws e h = directed_counts labels s (directive_named name) ws e h
by_dot labels s false name ws e h = code_counts (instruction labels name ws) s e h

-- a statement adds as many statements and data words as it counts for
pub effect_counts : (labels : Labels) (s : Section) (ws : List Word) (e : Effect) → effect_of labels s ws ≡ Ok e
    → Counts (instruction_count ws) (word_count ws) e
unfolding effect_of
effect_counts labels s [] e h = let q : Nothing ≡ e = cc in subst (Counts 0 0) q (record { statements = refl; words = refl })
effect_counts labels s (Name name ∷ ws) e h = by_dot labels s (is_dotted name) name ws e h
effect_counts labels s (Number negative value ∷ ws) e h = cc
effect_counts labels s (Comma ∷ ws) e h = cc
effect_counts labels s (Open ∷ ws) e h = cc
effect_counts labels s (Close ∷ ws) e h = cc
effect_counts labels s (Hash ∷ ws) e h = cc
effect_counts labels s (Colon ∷ ws) e h = cc
effect_counts labels s (End ∷ ws) e h = cc
