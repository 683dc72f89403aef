-- What the exports of modules without faults are: names without `..`, each of one module.
use Rattle.std.proofs.Common.{◌≡◌, ℕ, ◌+◌, Bool, true, false, ◌||◌, ◌&&◌, cond, List, [], ◌∷◌, ◌++◌, length, take, Option, Some, None, refl, ap, sym, ◌∙◌, subst, append_assoc, length-append}
use Rattle.std.specs.Prelude.{not, is_some}
use Rattle.std.specs.Str.{bytes_eq}
use Rattle.std.proofs.lemmas.Bool.{false≢true}
use Rattle.std.proofs.lemmas.List.{take_at}
use Rattle.std.proofs.lemmas.Slice.Eq.{bytes_eq-Decides}
use Rattle.mx_lines.specs.Words.{Word, Name}
use Rattle.mx_asm.specs.Directives.{is_dotted}
use Rattle.mx_asm.specs.Positions.{begins_label, statement_words, line_words}
use Rattle.mx_module.specs.declared.error.JoinFault.{JoinFault}
use Rattle.mx_module.specs.declared.error.JoinFault.TheVariants.{NotDefined, DuplicateExport}
use Rattle.mx_module.specs.declared.link.LinkKind.{LinkKind}
use Rattle.mx_module.specs.declared.link.LinkKind.TheVariants.{Import, Export}
use Rattle.mx_module.specs.Links.{Link, kind_of, has_two_dots, link_name, linked, with_link, link_lines_from}
use Rattle.mx_module.specs.ExportTable.{Exports, export_line, add_export, with_export, exports_from}
use Rattle.mx_module.specs.Modules.{ModuleValue, exports_of}
use Rattle.mx_module.specs.LinkFaults.{Refusal, is_exported, is_label, first_exporter, is_before, link_fault, refused_or, refusal_or, fault_in_links, fault_in_modules}

-- what holds of each exported name
abbrev pub Each : (List ℕ → Type 0) → Exports → Type 0
Each Good es = (n : List ℕ) → is_some (export_line es n) ≡ true → Good n

abbrev GoodLink : (List ℕ → Type 0) → LinkKind → Option (List ℕ) → Type 0
GoodLink Good Export (Some n) = Good n
GoodLink Good _ _ = Unit {0}

abbrev GoodLinks : (List ℕ → Type 0) → List Link → Type 0
GoodLinks Good [] = Unit {0}
GoodLinks Good (l ∷ links) = GoodLink Good l.kind l.name × GoodLinks Good links

push_cond : (b : Bool) (x : ℕ) (o p : Option ℕ) (r : Bool) → is_some o ≡ is_some p || r → is_some (cond b (Some x) o) ≡ is_some (cond b (Some x) p) || r
push_cond true x o p r h = refl
push_cond false x o p r h = h

last_cond : (b : Bool) (x : ℕ) → is_some (cond b (Some x) None) ≡ b
last_cond true x = refl
last_cond false x = refl

push_line : (es : Exports) (name n : List ℕ) (number : ℕ) → is_some (export_line (es ++ (name, number) ∷ []) n) ≡ is_some (export_line es n) || bytes_eq n name
push_line [] name n number = last_cond (bytes_eq n name) number
push_line (e ∷ es) name n number =
    push_cond (bytes_eq n e.0) e.1 (export_line (es ++ (name, number) ∷ []) n) (export_line es n) (bytes_eq n name) (push_line es name n number)

either_good : (Good : List ℕ → Type 0) (name n : List ℕ) (a b : Bool) → a || b ≡ true → (a ≡ true → Good n) → (b ≡ true → n ≡ name) → Good name → Good n
either_good Good name n true b h k e g = k refl
either_good Good name n false b h k e g = subst Good (sym (e h)) g

add_by : (Good : List ℕ → Type 0) (es : Exports) (name : List ℕ) (number : ℕ) (known : Bool) → Each Good es → Good name
    → Each Good (cond known es (es ++ (name, number) ∷ []))
add_by Good es name number true each g = each
add_by Good es name number false each g = λ n is.
    either_good Good name n (is_some (export_line es n)) (bytes_eq n name) (sym (push_line es name n number) ∙ is) (each n) (bytes_eq-Decides n name).0 g

with_good : (Good : List ℕ → Type 0) (es : Exports) (number : ℕ) (kind : LinkKind) (name : Option (List ℕ)) → Each Good es → GoodLink Good kind name
    → Each Good (with_export es number kind name)
unfolding add_export
with_good Good es number Export (Some name) each g = add_by Good es name number (is_some (export_line es name)) each g
with_good Good es number Export None each g = each
with_good Good es number Import name each g = each

all_good : (Good : List ℕ → Type 0) (links : List Link) (es : Exports) → Each Good es → GoodLinks Good links → Each Good (exports_from es links)
all_good Good [] es each g = each
all_good Good (l ∷ links) es each g = all_good Good links (with_export es l.number l.kind l.name) (with_good Good es l.number l.kind l.name each g.0) g.1

none_good : (Good : List ℕ → Type 0) → Each Good []
none_good Good = λ n is. absurd (false≢true is)

-- exported names have no `..`
abbrev pub IsPlain : List ℕ → Type 0
IsPlain n = has_two_dots n ≡ false

may_by : (dotted two : Bool) (name n : List ℕ) → two ≡ has_two_dots name → cond (not dotted && not two) (Some name) None ≡ Some n → IsPlain n
may_by true two name n e h = cc
may_by false true name n e h = cc
may_by false false name n e h = let q : name ≡ n = cc in subst IsPlain q (sym e)

name_plain : (ws : List Word) (n : List ℕ) → link_name Export ws ≡ Some n → IsPlain n
name_plain (Name d ∷ Name name ∷ []) n h = may_by (is_dotted name) (has_two_dots name) name n refl h
name_plain _ n h = cc

plain_if : (b : Bool) (ws : List Word) (o : Option (List ℕ)) → cond b None (link_name Export ws) ≡ o → GoodLink IsPlain Export o
plain_if true ws (Some n) h = cc
plain_if false ws (Some n) h = name_plain ws n h
plain_if b ws None h = tt

plain_at : (number : ℕ) (kind : Option LinkKind) (ws : List Word) (later : List Link) → GoodLinks IsPlain later
    → GoodLinks IsPlain (with_link number kind ws later)
plain_at number None ws later g = g
plain_at number (Some Import) ws later g = (tt, g)
plain_at number (Some Export) ws later g = (plain_if (begins_label ws) (statement_words ws) (linked number Export ws).name refl, g)

links_plain : (number : ℕ) (lines : List (List ℕ)) → GoodLinks IsPlain (link_lines_from number lines)
links_plain number [] = tt
links_plain number (line ∷ lines) =
    plain_at number (kind_of (statement_words (line_words line))) (line_words line) (link_lines_from (number + 1) lines) (links_plain (number + 1) lines)

pub exports_plain : (lines : List (List ℕ)) → Each IsPlain (exports_from [] (link_lines_from 1 lines))
exports_plain lines = all_good IsPlain (link_lines_from 1 lines) [] (none_good IsPlain) (links_plain 1 lines)

-- a name that a module without faults exports is exported by none before it
abbrev pub IsFresh : List ModuleValue → List ℕ → Type 0
IsFresh before n = is_some (first_exporter before n) ≡ false

or_first : (a b : Bool) → a || b ≡ false → a ≡ false
or_first true b h = cc
or_first false b h = refl

export_by : (undefined before line : Bool) → cond undefined (Some NotDefined) (cond (before || line) (Some DuplicateExport) None) ≡ None → before ≡ false
export_by true before line h = cc
export_by false true line h = cc
export_by false false line h = refl

fresh_by : (all : List ModuleValue) (place : ℕ) (m : ModuleValue) (number : ℕ) (kind : LinkKind) (name : Option (List ℕ))
    → link_fault all place m (record { number = number; kind = kind; name = name }) ≡ None
    → GoodLink (IsFresh (take place all)) kind name
fresh_by all place m number Export (Some n) h =
    export_by (not (is_label m n)) (is_some (first_exporter (take place all) n)) (is_before (export_line (exports_of m) n) number) h
fresh_by all place m number Export None h = tt
fresh_by all place m number Import name h = tt

refused_none : (place number : ℕ) (f : Option JoinFault) (later : Option Refusal) → refused_or place number f later ≡ None → (f ≡ None) × (later ≡ None)
refused_none place number None later h = (refl, h)
refused_none place number (Some fault) later h = cc

fresh_links : (all : List ModuleValue) (place : ℕ) (m : ModuleValue) (links : List Link) → fault_in_links all place m links ≡ None
    → GoodLinks (IsFresh (take place all)) links
fresh_links all place m [] h = tt
fresh_links all place m (l ∷ links) h =
    let two = refused_none place l.number (link_fault all place m l) (fault_in_links all place m links) h in
    (fresh_by all place m l.number l.kind l.name two.0, fresh_links all place m links two.1)

fresh : (all : List ModuleValue) (place : ℕ) (m : ModuleValue) → fault_in_links all place m m.links ≡ None → Each (IsFresh (take place all)) (exports_of m)
fresh all place m h = all_good (IsFresh (take place all)) m.links [] (none_good (IsFresh (take place all))) (fresh_links all place m m.links h)

pub refusal_none : (f later : Option Refusal) → refusal_or f later ≡ None → (f ≡ None) × (later ≡ None)
refusal_none None later h = (refl, h)
refusal_none (Some r) later h = cc

-- the module is among these
abbrev Has : ModuleValue → List ModuleValue → Type 0
Has m before = (n : List ℕ) → is_exported m n ≡ true → is_some (first_exporter before n) ≡ true

-- none of these exports what the module exports
abbrev pub Unshared : ModuleValue → List ModuleValue → Type 0
Unshared m [] = Unit {0}
Unshared m (x ∷ xs) = ((n : List ℕ) → is_exported m n ≡ true → is_exported x n ≡ false) × Unshared m xs

one_more : (m : ModuleValue) (before : List ModuleValue) (n : List ℕ) → is_some (first_exporter before n) ≡ true
    → is_some (first_exporter (before ++ m ∷ []) n) ≡ true
one_more m [] n h = absurd (false≢true h)
one_more m (x ∷ before) n h = by (is_exported x n) h (one_more m before n)
  where
    by : (b : Bool) → is_some (cond b (Some x) (first_exporter before n)) ≡ true
        → (is_some (first_exporter before n) ≡ true → is_some (first_exporter (before ++ m ∷ []) n) ≡ true)
        → is_some (cond b (Some x) (first_exporter (before ++ m ∷ []) n)) ≡ true
    by true h k = refl
    by false h k = k h

last_one : (m : ModuleValue) (before : List ModuleValue) (n : List ℕ) → is_exported m n ≡ true → is_some (first_exporter (before ++ m ∷ []) n) ≡ true
last_one m [] n h = ap (λ b. is_some (cond b (Some m) None)) h
last_one m (x ∷ before) n h = by (is_exported x n) (last_one m before n h)
  where
    by : (b : Bool) → is_some (first_exporter (before ++ m ∷ []) n) ≡ true → is_some (cond b (Some x) (first_exporter (before ++ m ∷ []) n)) ≡ true
    by true k = refl
    by false k = k

clash : (b : Bool) → (b ≡ true → ⊥) → b ≡ false
clash true h = absurd (h refl)
clash false h = refl

unshared : (all : List ModuleValue) (m : ModuleValue) (before rest : List ModuleValue) → all ≡ before ++ rest → Has m before
    → fault_in_modules all (length before) rest ≡ None → Unshared m rest
unshared all m before [] e has h = tt
unshared all m before (x ∷ rest) e has h =
    let two = refusal_none (fault_in_links all (length before) x x.links) (fault_in_modules all (length before + 1) rest) h in
    let front : take (length before) all ≡ before = ap (take (length before)) e ∙ take_at before (x ∷ rest) (length before) refl in
    let here = subst (λ ms. Each (IsFresh ms) (exports_of x)) front (fresh all (length before) x two.0) in (
      (λ n is. clash (is_exported x n) (λ k. false≢true (sym (here n k) ∙ has n is))),
      unshared all m (before ++ x ∷ []) rest (e ∙ sym (append_assoc before (x ∷ []) rest)) (λ n is. one_more x before n (has n is))
          (subst (λ k. fault_in_modules all k rest ≡ None) (sym (length-append before (x ∷ []))) two.1),
    )

-- the modules behind this one
pub unshared_behind : (all : List ModuleValue) (m : ModuleValue) (before rest : List ModuleValue) → all ≡ before ++ m ∷ rest
    → fault_in_modules all (length before + 1) rest ≡ None → Unshared m rest
unshared_behind all m before rest e h =
    unshared all m (before ++ m ∷ []) rest (e ∙ sym (append_assoc before (m ∷ []) rest)) (last_one m before)
    (subst (λ k. fault_in_modules all k rest ≡ None) (sym (length-append before (m ∷ []))) h)
