-- The labels of a program have names of the language.
use Rattle.std.proofs.Common.{◌≡◌, ℕ, ◌+◌, ◌≤◌, ◌<◌, Bool, true, false, cond, ◌&&◌, ◌||◌, List, [], ◌∷◌, ◌++◌, length, map, refl, sym, ap, ◌∙◌, subst, append_assoc, arith}
use Rattle.std.specs.Prelude.{All, codes, is_some}
use Rattle.std.specs.Fmt.{decimal, digits}
use Rattle.std.specs.List.{list_all}
use Rattle.std.proofs.lemmas.Bool.{agree_below_at}
use Rattle.std.proofs.lemmas.List.Folds.{list_all-append}
use Rattle.std.proofs.lemmas.List.Elements.{All-nil, All-cons, All-head, All-tail, All-push, All-append}
use Rattle.mx_lex.specs.Bytes.{begins_name, continues_name}
use Rattle.mx_source.specs.declared.Label.{Label}
use Rattle.mx_asm.specs.declared.Position.{Position}
use Rattle.mx_lines.specs.Words.{Word, Name, Colon}
use Rattle.mx_lines.specs.Operands.{label_named}
use Rattle.mx_lines.specs.Instructions.{Labels}
use Rattle.mx_asm.specs.Directives.{is_dotted}
use Rattle.mx_asm.specs.Positions.{define, define_front, with_labels, labels_from, label_here, after, line_words}
use Rattle.mx_asm.specs.Printable.{is_name}
use Rattle.mx_asm.proofs.Spelled.{and_both}
use Rattle.mx_module.specs.Modules.{ModuleValue, module_at, modules_from, behind_text, plain_lines}
use Rattle.mx_module.specs.LinkFaults.{is_exported}
use Rattle.mx_module.specs.Joined.{program_name, renamed, labels_in}
use Rattle.law_modules.proofs.Spelling.{IsSpelled, line_is_spelled}

-- a name of the language that does not begin with `.`
pub record IsNamed (name : List ℕ) : Type 0 where
  pub spelled : is_name name ≡ true
  pub undotted : is_dotted name ≡ false

abbrev pub AllNamed : Labels → Type 0
AllNamed labels = All (λ (p : List ℕ × Label). IsNamed p.0) labels

define_named : (labels : Labels) (l : Label) (name : List ℕ) → AllNamed labels → is_name name ≡ true → AllNamed (define labels l name)
unfolding define
define_named labels l name h spelled = by (is_dotted name) (is_some (label_named labels name)) refl
  where
    by : (dotted known : Bool) → is_dotted name ≡ dotted → AllNamed (cond (dotted || known) labels (labels ++ (name, l) ∷ []))
    by true known e = h
    by false true e = h
    by false false e = All-push (λ (p : List ℕ × Label). IsNamed p.0) labels (name, l) h (record { spelled = spelled; undotted = e })

front_named : (labels : Labels) (l : Label) (ws : List Word) → AllNamed labels → All IsSpelled ws → AllNamed (define_front labels l ws)
front_named labels l (Name name ∷ Colon ∷ ws) h all =
    front_named (define labels l name) l ws (define_named labels l name h (All-head IsSpelled (Name name) (Colon ∷ ws) all))
    (All-tail IsSpelled Colon ws (All-tail IsSpelled (Name name) (Colon ∷ ws) all))
front_named labels l _ h all = h

lines_named : (lines : List (List ℕ)) (p : Position) (labels : Labels) → AllNamed labels → AllNamed (labels_from p labels lines)
lines_named [] p labels h = h
lines_named (line ∷ lines) p labels h =
    lines_named lines (after p (line_words line)) (with_labels p labels (line_words line))
    (front_named labels (label_here p) (line_words line) h (line_is_spelled line))

number_goes_on : (k : ℕ) → k < 32 → list_all continues_name (codes ".." ++ decimal k) ≡ true
unfolding digits
number_goes_on k h = agree_below_at (λ n. list_all continues_name (codes ".." ++ decimal n)) (λ n. true) 32 k refl h

with_number : (name : List ℕ) (k : ℕ) → k < 32 → IsNamed name → IsNamed (name ++ (codes ".." ++ decimal k))
with_number [] k lt h = absurd (let e = h.spelled in cc)
with_number (b ∷ bytes) k lt h =
    let both = and_both (begins_name b) (list_all continues_name bytes) h.spelled in
    record {
      spelled = ap (λ t. t && list_all continues_name (bytes ++ (codes ".." ++ decimal k))) both.0
          ∙ list_all-append continues_name bytes (codes ".." ++ decimal k) ∙ ap (λ t. t && list_all continues_name (codes ".." ++ decimal k)) both.1
          ∙ number_goes_on k lt;
      undotted = h.undotted;
    }

program_named : (m : ModuleValue) (place : ℕ) (name : List ℕ) → place < 31 → IsNamed name → IsNamed (program_name m place name)
program_named m place name lt h = by (is_exported m name)
  where
    by : (exported : Bool) → IsNamed (cond exported name (name ++ codes ".." ++ decimal (place + 1)))
    by true = h
    by false = subst IsNamed (sym (append_assoc name (codes "..") (decimal (place + 1)))) (with_number name (place + 1) (omega arith) h)

renamed_named : (m : ModuleValue) (place : ℕ) (es : Labels) → place < 31 → AllNamed es → AllNamed (map (renamed m place) es)
renamed_named m place [] lt h = All-nil (λ (p : List ℕ × Label). IsNamed p.0)
renamed_named m place (e ∷ es) lt h =
    All-cons (λ (p : List ℕ × Label). IsNamed p.0) (renamed m place e) (map (renamed m place) es)
    (program_named m place e.0 lt (All-head (λ (p : List ℕ × Label). IsNamed p.0) e es h))
    (renamed_named m place es lt (All-tail (λ (p : List ℕ × Label). IsNamed p.0) e es h))

pub texts_named : (texts : List (List ℕ)) (p : Position) (place : ℕ) → place + length texts ≤ 31 → AllNamed (labels_in place (modules_from p texts))
texts_named [] p place few = All-nil (λ (p : List ℕ × Label). IsNamed p.0)
texts_named (text ∷ texts) p place few =
    let labels = labels_from p [] (plain_lines text) in
    All-append (λ (p : List ℕ × Label). IsNamed p.0) (map (renamed (module_at p text) place) labels)
    (labels_in (place + 1) (modules_from (behind_text p text) texts))
    (renamed_named (module_at p text) place labels (omega arith) (lines_named (plain_lines text) p [] (All-nil (λ (p : List ℕ × Label). IsNamed p.0))))
    (texts_named texts (behind_text p text) (place + 1) (omega arith))
