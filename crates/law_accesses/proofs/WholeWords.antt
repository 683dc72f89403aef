-- Loads and stores of words.
use Rattle.std.proofs.Common.{◌≡◌, ◌≢◌, ◌<◌, ◌^◌, ℕ, ◌/◌, ◌%◌, Bool, true, false, ◌==◌, [], ◌∷◌, Option, Ok, sym, ap, ◌∙◌, subst}
use Rattle.mx_isa.specs.Words.{put, reg}
use Rattle.mx_isa.specs.Effect.{Core, Bus}
use Rattle.cc_lines.specs.declared.instruction.Width.TheVariants.{Word}
use Rattle.cc_plan.specs.declared.plan.Place.{Place}
use Rattle.cc_plan.specs.Places.{IsAt}
use Rattle.cc_meaning.specs.declared.value.Value.{Value}
use Rattle.cc_meaning.specs.declared.value.Value.TheVariants.{Number}
use Rattle.cc_meaning.specs.Memory.{loaded, stored, if_aligned}
use Rattle.cc_meaning.specs.declared.layout.Layout.{Layout}
use Rattle.cc_meaning.specs.States.{State, memory_word, with_word}
use Rattle.cc_operations.specs.Operations.{lines}
use Rattle.cc_accesses.specs.Loads.{word_loaded}
use Rattle.cc_accesses.specs.Stores.{word_stored}
use Rattle.cc_accesses.specs.Places.{word_base, word_offset, reached, word_load, word_store}
use Rattle.law_operations.specs.Runs.{ran, ran_lines, ShowsValue, Gives, Leaves, IsNamed}
use Rattle.law_operations.proofs.Rest.{known_after}
use Rattle.law_accesses.specs.Memories.{IsData, KeepsData, is_shown, ShowsData, ShowsMemory, Stored, Access}
use Rattle.law_accesses.proofs.Data.{load_gives, gives_shown, store_puts, shows_after, put_other}
use Rattle.law_accesses.proofs.Reaching.{IsInData, Reached, place_reached, reached_then, located, in_data}

-- what a place's word leaves in a register, after the lines that reach the place
pub fetched_data : (bus : Bus) (place : Place) (first : Option ℕ) (rd address : ℕ) (s t : Core) → KeepsData bus
    → ((n : ℕ) → IsData n → s.mem n < 2 ^ 32) → IsAt (reg s.regs) place address → IsInData address → Reached place first s t
    → Gives rd (Number (s.mem (address / 4))) t (ran bus (word_load place rd ∷ []) t)
fetched_data bus place first rd address s t k words at d g =
    let e = located (reg s.regs) place address at d in
    let n = address / 4 in
    let same : t.mem n ≡ s.mem n = ap (λ x. x n) g.mem in
    subst (λ w. Gives rd (Number w) t (ran bus (word_load place rd ∷ []) t)) same
    (load_gives bus (word_base place) (word_offset place) rd n t k g.words g.small (g.at ∙ e.0) e.1.1
    (subst (λ w. w < 2 ^ 32) (sym same) (words n e.1.1)))

pub fetched : (bus : Bus) (place : Place) (first : Option ℕ) (rd address : ℕ) (l : Layout) (a : State) (s t : Core)
    → KeepsData bus → ShowsMemory l a s.mem → IsAt (reg s.regs) place address → IsInData address → Reached place first s t
    → Gives rd (Number (s.mem (address / 4))) t (ran bus (word_load place rd ∷ []) t)
fetched bus place first rd address l a s t k m at d g = fetched_data bus place first rd address s t k m.words at d g

-- what a register has after a place was reached
pub after_reached : (place : Place) (first : Option ℕ) (d : ℕ) (v : Value) (s t u : Core) → d ≢ 1 → Reached place first s t → Gives d v t u
    → Leaves d v first s u
after_reached place first d v s t u ne g h = record {
  given = h.given;
  known = known_after first d v t u ne g.known h;
  kept = λ n k l m. h.kept n k m ∙ g.kept n l m;
  md = h.md ∙ g.md;
  mem = h.mem ∙ g.mem;
  taken = h.taken ∙ g.taken;
  words = h.words;
}

aligned_is : (t : Bool) (w v : Value) → if_aligned t (Ok w) ≡ Ok v → w ≡ v
aligned_is true w v e = cc
aligned_is false w v e = absurd (cc)

pub word_load_leaves : (first : Option ℕ) (place : Place) (rd address : ℕ) (l : Layout) (a : State) (old v : Value) (bus : Bus) (s : Core)
    → Access bus first place address l a s → rd ≢ 1 → loaded Word (address % 4) (memory_word a address) old ≡ Ok v → is_shown v ≡ true
    → Leaves rd v (word_loaded first place rd false).first s (ran_lines bus (word_loaded first place rd false).lines s)
word_load_leaves first place rd address l a old v bus s x ne e shown =
    let g = place_reached first place bus s x.words x.known x.reachable in
    let t = ran_lines bus (reached first place).lines s in
    let c = fetched bus place (reached first place).first rd address l a s t x.keeps x.shown x.at (in_data l address x.within) g in
    let is : memory_word a address ≡ v = aligned_is (address % 4 == 0) (memory_word a address) v e in
    let seen : ShowsValue v (s.mem (address / 4)) =
    subst (λ w. ShowsData w (s.mem (address / 4))) is (x.shown.shown address x.within) shown in
    subst (Leaves rd v (reached first place).first s) (sym (reached_then first place (lines (word_load place rd ∷ [])) bus s))
    (after_reached place (reached first place).first rd v s t _ ne g (gives_shown rd v _ t _ seen c))

-- a word of a register goes to memory
pub kept_in_data : (bus : Bus) (place : Place) (first : Option ℕ) (rs address : ℕ) (l : Layout) (a : State) (v : Value) (s t : Core) → KeepsData bus
    → ShowsMemory l a s.mem → IsAt (reg s.regs) place address → IsInData address → Reached place first s t → ShowsData v (reg t.regs rs)
    → Stored l (with_word a address v) (address / 4) 26 first s (ran bus (word_store place rs ∷ []) t)
kept_in_data bus place first rs address l a v s t k m at d g shown =
    let e = located (reg s.regs) place address at d in
    let n = address / 4 in
    subst (Stored l (with_word a address v) (address / 4) 26 first s)
    (sym (store_puts bus (word_base place) (word_offset place) rs n t k g.small (g.at ∙ e.0) e.1.1))
    (record {
      shown = subst (λ mem. ShowsMemory l (with_word a address v) (put mem n (reg t.regs rs))) (sym g.mem)
          (shows_after l a address v s.mem (reg t.regs rs) m (g.words rs) shown);
      others = λ i j. put_other t.mem n (reg t.regs rs) i j ∙ ap (λ mem. mem i) g.mem;
      known = g.known;
      kept = λ i j l q. g.kept i j l;
      md = g.md;
      taken = g.taken;
      words = g.words;
    })

pub word_store_stores : (first : Option ℕ) (place : Place) (rs address : ℕ) (l : Layout) (a : State) (r v : Value) (bus : Bus) (s : Core)
    → Access bus first place address l a s → IsNamed rs → ShowsData r (reg s.regs rs)
    → stored Word (address % 4) (memory_word a address) r ≡ Ok v
    → Stored l (with_word a address v) (address / 4) 26 (word_stored first place rs).first s (ran_lines bus (word_stored first place rs).lines s)
word_store_stores first place rs address l a r v bus s x named shown e =
    let g = place_reached first place bus s x.words x.known x.reachable in
    let t = ran_lines bus (reached first place).lines s in
    let is : r ≡ v = aligned_is (address % 4 == 0) r v e in
    let seen : ShowsData v (reg t.regs rs) =
    subst (λ w. ShowsData w (reg t.regs rs)) is (subst (ShowsData r) (sym (g.kept rs named.0 named.1)) shown) in
    subst (Stored l (with_word a address v) (address / 4) 26 (reached first place).first s)
    (sym (reached_then first place (lines (word_store place rs ∷ [])) bus s))
    (kept_in_data bus place (reached first place).first rs address l a v s t x.keeps x.shown x.at (in_data l address x.within) g seen)
