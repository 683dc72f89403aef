-- Modules, each of which begins where the one before it ends.
use Rattle.std.proofs.Common.{◌≡◌, ℕ, suc, ◌+◌, length, drop, get_or, ◌≤◌, ◌<◌, List, [], ◌∷◌, refl, sym, ap, ◌∙◌, subst, arith}
use Rattle.std.proofs.lemmas.List.{at_drop_more}
use Rattle.mx_asm.specs.declared.Position.{Position}
use Rattle.mx_asm.specs.Positions.{start, labels_from, position_at_end, after, line_words}
use Rattle.mx_asm.proofs.LabelBounds.{address_grows}
use Rattle.mx_module.specs.ModuleView.{IsProgram}
use Rattle.mx_module.specs.Modules.{ModuleValue, modules_from, module_at, behind_text, in_code, plain_lines}

-- modules of texts from a position on, at which there is room
pub record Chained (ms : List ModuleValue) : Type 0 where
  pub from : Position
  pub texts : List (List ℕ)
  pub same : ms ≡ modules_from from texts
  pub room : from.index ≤ 20000
  pub near : from.address ≤ 65536
  pub low : 256 ≤ from.address

-- the first module begins there
pub record First (m : ModuleValue) (ms : List ModuleValue) (h : Chained (m ∷ ms)) : Type 0 where
  pub begins : m.start ≡ h.from
  pub text : List ℕ
  pub lines : m.lines ≡ plain_lines text
  pub labels : m.labels ≡ labels_from m.start [] m.lines
  pub later : List (List ℕ)
  pub rest : ms ≡ modules_from (in_code (position_at_end m.start m.lines)) later

cons_parts : {A : Type 0} (x y : A) (xs ys : List A) → x ∷ xs ≡ y ∷ ys → (x ≡ y) × (xs ≡ ys)
cons_parts x y xs ys h = let q : x ≡ y = cc in let r : xs ≡ ys = cc in (q, r)

first_by : (p : Position) (texts : List (List ℕ)) (m : ModuleValue) (ms : List ModuleValue) → m ∷ ms ≡ modules_from p texts
    → (t : List ℕ) × (ts : List (List ℕ)) × (m ≡ module_at p t) × (ms ≡ modules_from (behind_text p t) ts)
first_by p [] m ms h = cc
first_by p (t ∷ ts) m ms h = let two = cons_parts m (module_at p t) ms (modules_from (behind_text p t) ts) h in (t, ts, two.0, two.1)

pub address_stays : (lines : List (List ℕ)) (p : Position) → 256 ≤ p.address → 256 ≤ (position_at_end p lines).address
address_stays [] p h = h
address_stays (line ∷ lines) p h = address_stays lines (after p (line_words line)) (address_grows p (line_words line) h)

module _ (m : ModuleValue) (ms : List ModuleValue) (h : Chained (m ∷ ms)) where
  pub first : First m ms h
  first =
      let f = first_by h.from h.texts m ms h.same in
      let begins = ap (λ (x : ModuleValue). x.start) f.2 in
      let lines = ap (λ (x : ModuleValue). x.lines) f.2 in
      record {
        begins = begins;
        text = f.0;
        lines = lines;
        labels = ap (λ (x : ModuleValue). x.labels) f.2 ∙ ap (λ p. labels_from p [] (plain_lines f.0)) (sym begins) ∙ ap (labels_from m.start []) (sym lines);
        later = f.1;
        rest = f.3
            ∙ ap (λ p. modules_from (in_code (position_at_end p (plain_lines f.0))) f.1) (sym begins)
            ∙ ap (λ ls. modules_from (in_code (position_at_end m.start ls)) f.1) (sym lines);
      }

  pub first_room : m.start.index ≤ 20000
  first_room = subst (λ (p : Position). p.index ≤ 20000) (sym first.begins) h.room

  pub first_near : m.start.address ≤ 65536
  first_near = subst (λ (p : Position). p.address ≤ 65536) (sym first.begins) h.near

  pub first_low : 256 ≤ m.start.address
  first_low = subst (λ (p : Position). 256 ≤ p.address) (sym first.begins) h.low

  -- the other modules, where there is room behind the first one
  abbrev pub next : (position_at_end m.start m.lines).index ≤ 20000 → (position_at_end m.start m.lines).address ≤ 65536 → Chained ms
  next few within = record {
    from = in_code (position_at_end m.start m.lines);
    texts = first.later;
    same = first.rest;
    room = few;
    near = within;
    low = address_stays m.lines m.start first_low;
  }

-- the modules that a loop has left, by the next one
module _ (ms : List ModuleValue) (i : ℕ) (m : ModuleValue) (lt : i < length ms) (is : m ≡ get_or ms i m) where
  pub left_modules : drop i ms ≡ m ∷ drop (i + 1) ms
  left_modules = at_drop_more (λ xs. xs) ms i m lt ∙ ap (λ x. x ∷ drop (i + 1) ms) (sym is)

  pub left_chained : Chained (drop i ms) → Chained (m ∷ drop (i + 1) ms)
  left_chained h = subst Chained left_modules h

pub as_many : (p : Position) (texts : List (List ℕ)) → length (modules_from p texts) ≡ length texts
as_many p [] = refl
as_many p (t ∷ ts) = ap suc (as_many (behind_text p t) ts)

abbrev pub program_chained : (texts : List (List ℕ)) (ms : List ModuleValue) → ms ≡ modules_from (start 256) texts → Chained ms
program_chained texts ms h = record { from = start 256; texts = texts; same = h; room = omega arith; near = omega arith; low = omega arith }

pub many : (ms : List ModuleValue) → IsProgram ms → length ms ≤ 16
many ms h = let n : length ms ≡ length h.texts = ap length h.same ∙ as_many (start 256) h.texts in let f = h.few in omega (arith, n, f)
