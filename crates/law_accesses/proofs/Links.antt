-- Words as they are, whatever they show, and the load of the link that a function saved.
use Rattle.std.proofs.Common.{◌≡◌, ◌≢◌, ◌<◌, ◌^◌, ℕ, ◌+◌, ◌/◌, ◌%◌, Bool, true, false, [], ◌∷◌, Option, sym, ap, ap₂, ◌∙◌, arith, subst, ⊎_elim}
use Rattle.std.specs.Prelude.{slice_index_or}
use Rattle.std.proofs.lemmas.Bool.{cases_eq}
use Rattle.mx_isa.specs.Words.{Words, put, reg}
use Rattle.mx_isa.specs.Effect.{Core, Bus}
use Rattle.cc_plan.specs.declared.plan.Place.{Place}
use Rattle.cc_meaning.specs.declared.value.Value.TheVariants.{Number}
use Rattle.cc_meaning.specs.declared.layout.Layout.{Layout}
use Rattle.cc_meaning.specs.Values.{unspecified}
use Rattle.cc_meaning.specs.States.{State, memory_word}
use Rattle.cc_operations.specs.Operations.{lines}
use Rattle.cc_accesses.specs.Loads.{word_loaded}
use Rattle.cc_accesses.specs.Stores.{word_stored}
use Rattle.cc_accesses.specs.Places.{word_base, word_offset, reached, word_load, word_store}
use Rattle.law_operations.specs.Runs.{ran, ran_lines, Leaves, IsNamed}
use Rattle.law_accesses.specs.Memories.{Access, ShowsData, ShowsMemory, Stored, is_shown}
use Rattle.law_accesses.proofs.Data.{store_puts, put_same, put_other}
use Rattle.law_accesses.proofs.Reaching.{place_reached, reached_then, located, in_data}
use Rattle.law_accesses.proofs.WholeWords.{fetched, after_reached}
use Rattle.law_accesses.proofs.PartStores.{fetched_sets}

pub load : (first : Option ℕ) (place : Place) (rd address : ℕ) (l : Layout) (a : State) (bus : Bus) (s : Core) → Access bus first place address l a s
    → rd ≢ 1
    → Leaves rd (Number (s.mem (address / 4))) (word_loaded first place rd false).first s (ran_lines bus (word_loaded first place rd false).lines s)
load first place rd address l a bus s x ne =
    let n = (reached first place).first in
    let v = Number (s.mem (address / 4)) in
    let g = place_reached first place bus s x.words x.known x.reachable in
    let t = ran_lines bus (reached first place).lines s in
    subst (Leaves rd v n s) (sym (reached_then first place (lines (word_load place rd ∷ [])) bus s))
    (after_reached place n rd v s t _ ne g (fetched bus place n rd address l a s t x.keeps x.shown x.at (in_data l address x.within) g))

pub store : (first : Option ℕ) (place : Place) (rs address : ℕ) (l : Layout) (a : State) (bus : Bus) (s : Core) → Access bus first place address l a s
    → IsNamed rs
    → (ran_lines bus (word_stored first place rs).lines s).mem ≡ put s.mem (address / 4) (reg s.regs rs)
store first place rs address l a bus s x named =
    let n = address / 4 in
    let g = place_reached first place bus s x.words x.known x.reachable in
    let e = located (reg s.regs) place address x.at (in_data l address x.within) in
    let t = ran_lines bus (reached first place).lines s in
    ap (λ u. u.mem) (reached_then first place (lines (word_store place rs ∷ [])) bus s)
    ∙ ap (λ u. u.mem) (store_puts bus (word_base place) (word_offset place) rs n t x.keeps g.small (g.at ∙ e.0) e.1.1)
    ∙ ap₂ (λ m r. put m n r) g.mem (g.kept rs named.0 named.1)

-- a word that stands for a code address may become any
cleared : (l : Layout) (a : State) (mem : Words) (address : ℕ) → ShowsMemory l a mem → is_shown (memory_word a address) ≡ false
    → ShowsMemory l a (put mem (address / 4) 0)
cleared l a mem address m hidden = record {
  shown = λ b d. ⊎_elim
      (λ (e : b / 4 ≡ address / 4) k.
      absurd (never (is_shown (memory_word a b)) k (ap (λ j. is_shown (slice_index_or a.memory j unspecified)) e ∙ hidden)))
      (λ ne. subst (ShowsData (memory_word a b)) (sym (put_other mem (address / 4) 0 (b / 4) ne)) (m.shown b d))
      (cases_eq (b / 4) (address / 4));
  words = λ i d. ⊎_elim
      (λ (e : i ≡ address / 4). subst (λ x. x < 2 ^ 32) (sym (ap (put mem (address / 4) 0) e ∙ put_same mem (address / 4) 0)) small)
      (λ ne. subst (λ x. x < 2 ^ 32) (sym (put_other mem (address / 4) 0 i ne)) (m.words i d)) (cases_eq i (address / 4));
}
  where
    small : 0 < 2 ^ 32
    small = omega arith

    never : (b : Bool) → b ≡ true → b ≡ false → ⊥
    never b h k = absurd (cc)

pub link : (first : Option ℕ) (place : Place) (rd address : ℕ) (l : Layout) (a : State) (bus : Bus) (s : Core) → Access bus first place address l a s
    → rd ≢ 1 → rd ≢ word_base place → is_shown (memory_word a address) ≡ false
    → let after = ran_lines bus (word_loaded first place rd true).lines s in
    Stored l a (address / 4) rd (word_loaded first place rd true).first s after × (rd ≢ 0 → reg after.regs rd ≡ s.mem (address / 4))
link first place rd address l a bus s x ne apart hidden =
    let n = address / 4 in
    let known = (reached first place).first in
    let g = place_reached first place bus s x.words x.known x.reachable in
    let e = located (reg s.regs) place address x.at (in_data l address x.within) in
    let t = ran_lines bus (reached first place).lines s in
    let u = ran bus (word_load place rd ∷ []) t in
    let f = fetched_sets bus place first rd address l a s t x known g in
    let base = f.kept (word_base place) (λ q. absurd (apart (sym q))) in
    let code = reached_then first place (lines (word_load place rd ∷ word_store place 0 ∷ [])) bus s
    ∙ store_puts bus (word_base place) (word_offset place) 0 n u x.keeps g.small
    (ap (λ m. (m + word_offset place) % 2 ^ 32) base ∙ g.at ∙ e.0) e.1.1 in (
      subst (Stored l a (address / 4) rd known s) (sym code)
          (record {
            shown = subst (λ mem. ShowsMemory l a (put mem n 0)) (sym (f.mem ∙ g.mem)) (cleared l a s.mem address x.shown hidden);
            others = λ i q. put_other u.mem n 0 i q ∙ ap (λ mem. mem i) (f.mem ∙ g.mem);
            known = λ i q. f.kept 1 (λ z. absurd (ne (sym z))) ∙ g.known i q;
            kept = λ j l q r. f.kept j (λ z. absurd (r z)) ∙ g.kept j l q;
            md = f.md ∙ g.md;
            taken = f.taken ∙ g.taken;
            words = f.words;
          }),
      λ some. ap (λ c. reg c.regs rd) code ∙ f.given some,
    )
