-- A plan as words of code: they do what its items do, at addresses of their own, and no load is directly followed by a reader of its register.
use Rattle.std.proofs.Common.{◌≡◌, ℕ, suc, ◌+◌, ◌≤◌, Bool, true, false, cond, ◌&&◌, List, [], ◌∷◌, ◌++◌, length, map, Option, option_to_list, refl, sym, ap, ◌∙◌, arith}
use Rattle.std.proofs.lemmas.Bool.{cond-false}
use Rattle.std.proofs.lemmas.Bool.Decides.{nat_tests}
use Rattle.std.proofs.lemmas.List.{append-nil}
use Rattle.mx_isa.specs.declared.inst.Inst.{Inst}
use Rattle.mx_isa.specs.declared.place.Place.{Place}
use Rattle.mx_isa.specs.Effect.{Change, change, decides, sent, apply}
use Rattle.mx_isa.specs.Views.{reads, dest, is_load, is_transfer}
use Rattle.mx_isa.specs.UserBus.{user_bus}
use Rattle.mx_isa.proofs.Frame.{change_anywhere}
use Rattle.mx_delay.specs.Delay.{idle}
use Rattle.mx_delay.specs.Clean.{loads_to}
use Rattle.mx_depend.specs.Independence.{feeds}
use Rattle.mx_depend.specs.Graphs.{inst_at}
use Rattle.mx_blocks.specs.declared.block.Block.{Block}
use Rattle.mx_blocks.specs.declared.block.Plan.{Plan}
use Rattle.mx_blocks.specs.declared.block.Item.{Item}
use Rattle.mx_blocks.specs.declared.block.Item.TheVariants.{Op, Nop}
use Rattle.mx_blocks.specs.Items.{StandsAt}
use Rattle.mx_validate.specs.Padded.{insts_of, items_of}
use Rattle.mx_validate.specs.Validity.{KeepsApart, EndsWithoutLoad}
use Rattle.law_order.specs.Running.{Ran, run_one, run_source, run_items}
use Rattle.law_order.specs.Laws.{IsPlanned}
use Rattle.law_order.specs.Parts.{AreBelow}
use Rattle.law_order.proofs.Swap.{ran_same}
use Rattle.law_order.proofs.Order.{SameViews, laid_out_views}

-- the word of an item
abbrev pub item_inst : List Inst → Item → Inst
item_inst insts (Op k) = inst_at insts k
item_inst insts Nop = idle

abbrev pub words : List Inst → List Item → List Inst
words insts items = map (item_inst insts) items

and_true : (b : Bool) → (b && true) ≡ b
and_true b = grind arith

-- the no-op does nothing
pub run_idle : (p : Place) (input : Option (List ℕ)) (at : ℕ) (s : Ran) → run_one p input at idle s ≡ s
run_idle p input at s = λ k. record { core = s.core; bytes = append-nil s.bytes k; clean = and_true s.clean k; leads = s.leads }

pub run_words : (p : Place) (input : Option (List ℕ)) (at : ℕ) (insts : List Inst) (items : List Item) (s : Ran)
    → run_source p input at (words insts items) s ≡ run_items p input at insts items s
run_words p input at insts [] s = refl
run_words p input at insts (Op k ∷ items) s = run_words p input at insts items (run_one p input at (inst_at insts k) s)
run_words p input at insts (Nop ∷ items) s = ap (run_source p input at (words insts items)) (run_idle p input at s) ∙ run_words p input at insts items s

-- what does not transfer does the same at any address
pub run_anywhere :
    (p : Place) (input : Option (List ℕ)) (at at' : ℕ) (i : Inst) (s : Ran) → is_transfer i ≡ false
    → run_one p input at i s ≡ run_one p input at' i s
run_anywhere p input at at' i s h =
    let c = s.core in
    let bus = user_bus p input in
    let e : change i at c.regs c.md (bus.load c.mem c.taken) ≡ change i at' c.regs c.md (bus.load c.mem c.taken) =
    change_anywhere i at at' c.regs c.md (bus.load c.mem c.taken) h in
    ran_same _ _ _ _ _ _ _ _
    (ap (λ (d : Change). apply bus d c) e)
    (ap (λ (d : Change). s.bytes ++ option_to_list (sent bus d.stores)) e)
    refl
    (cond-false (is_transfer i) (decides i at c.regs) s.leads h ∙ sym (cond-false (is_transfer i) (decides i at' c.regs) s.leads h))

-- words from an address on, each at its own
abbrev pub run_along : Place → Option (List ℕ) → ℕ → List Inst → Ran → Ran
run_along p input a [] s = s
run_along p input a (i ∷ insts) s = run_along p input (a + 1) insts (run_one p input a i s)

-- no word transfers
abbrev pub AllStay : List Inst → Type 0
AllStay [] = Unit {0}
AllStay (i ∷ insts) = (is_transfer i ≡ false) × AllStay insts

pub run_along_stays :
    (p : Place) (input : Option (List ℕ)) (a at : ℕ) (insts : List Inst) (s : Ran) → AllStay insts
    → run_along p input a insts s ≡ run_source p input at insts s
run_along_stays p input a at [] s h = refl
run_along_stays p input a at (i ∷ insts) s h =
    run_along_stays p input (a + 1) at insts (run_one p input a i s) h.1
    ∙ ap (run_source p input at insts) (run_anywhere p input a at i s h.0)

-- where one word alone transfers, all may be taken to stand at its address
pub run_along_once : (p : Place) (input : Option (List ℕ)) (a at : ℕ) (front : List Inst) (i : Inst) (back : List Inst) (s : Ran)
    → at ≡ a + length front → AllStay front → AllStay back
    → run_along p input a (front ++ i ∷ back) s ≡ run_source p input at (front ++ i ∷ back) s
run_along_once p input a at [] i back s e f b =
    let here : a ≡ at = omega arith in
    run_along_stays p input (a + 1) at back (run_one p input a i s) b ∙ ap (λ n. run_source p input at back (run_one p input n i s)) here
run_along_once p input a at (j ∷ front) i back s e f b =
    run_along_once p input (a + 1) at front i back (run_one p input a j s) (omega arith) f.1 b
    ∙ ap (run_source p input at (front ++ i ∷ back)) (run_anywhere p input a at j s f.0)

pub words_stay :
    (insts : List Inst) (n : ℕ) (items : List Item) → AreBelow n items → ((k : ℕ) → suc k ≤ n → is_transfer (inst_at insts k) ≡ false)
    → AllStay (words insts items)
words_stay insts n [] b h = tt
words_stay insts n (Op k ∷ items) b h = (h k b.0, words_stay insts n items b.1 h)
words_stay insts n (Nop ∷ items) b h = (refl, words_stay insts n items b h)

-- no word reads the register that the word before it loads; before the first this one was loaded
abbrev pub AreApart : ℕ → List Inst → Type 0
AreApart loaded [] = Unit {0}
AreApart loaded (i ∷ insts) = (reads i loaded ≡ false) × AreApart (loads_to i) insts

-- the register that the last word loads, or 0
abbrev pub last_loaded : ℕ → List Inst → ℕ
last_loaded loaded [] = loaded
last_loaded loaded (i ∷ insts) = last_loaded (loads_to i) insts

reads_none : (i : Inst) → reads i 0 ≡ false
reads_none i = grind arith

apart_from :
    (insts : List Inst) (items : List Item) (loaded : ℕ) → ((j : ℕ) → StandsAt items 0 j → reads (inst_at insts j) loaded ≡ false)
    → KeepsApart insts items → AreApart loaded (words insts items)
apart_from insts [] loaded first h = tt
apart_from insts (Op k ∷ items) loaded first h = (
  first k refl,
  apart_from insts items (loads_to (inst_at insts k)) (λ j s. by_load j (is_load (inst_at insts k)) (h 0 k j refl s))
      (λ q i j s t. h (suc q) i j s t),
)
  where
    by_load :
        (j : ℕ) (b : Bool) → (b && reads (inst_at insts j) (dest (inst_at insts k))) ≡ false
        → reads (inst_at insts j) (cond b (dest (inst_at insts k)) 0) ≡ false
    by_load j true e = e
    by_load j false e = reads_none (inst_at insts j)
apart_from insts (Nop ∷ items) loaded first h =
    (idle_reads loaded, apart_from insts items 0 (λ j s. reads_none (inst_at insts j)) (λ q i j s t. h (suc q) i j s t))
  where
    idle_reads : (n : ℕ) → reads idle n ≡ false
    idle_reads n = grind (arith, nat_tests)

last_from : (insts : List Inst) (items : List Item) → EndsWithoutLoad insts items → last_loaded 0 (words insts items) ≡ 0
last_from insts [] h = refl
last_from insts (x ∷ items) h = at_last x items 0 h
  where
    at_last : (x : Item) (items : List Item) (loaded : ℕ) → EndsWithoutLoad insts (x ∷ items) → last_loaded loaded (words insts (x ∷ items)) ≡ 0
    at_last (Op k) [] loaded h = cond-false _ _ _ (h 0 k refl refl)
    at_last Nop [] loaded h = refl
    at_last x (y ∷ items) loaded h = at_last y items (loads_to (item_inst insts x)) (λ q k s e. h (suc q) k s (ap (λ n. suc n) e))

module _ (block : Block) (plan : Plan) (insts : List Inst) (input : Option (List ℕ)) (laid : IsPlanned block plan insts input) where
  same : (k : ℕ) → SameViews (inst_at (insts_of block) k) (inst_at insts k)
  same k = laid_out_views (insts_of block) insts k (sym laid.filled)

  same_feeds : (k j : ℕ) → feeds (inst_at (insts_of block) k) (inst_at (insts_of block) j) ≡ feeds (inst_at insts k) (inst_at insts j)
  same_feeds k j =
      ap (λ b. b && reads (inst_at (insts_of block) j) (dest (inst_at (insts_of block) k))) (same k).load
      ∙ ap (λ d. is_load (inst_at insts k) && reads (inst_at (insts_of block) j) d) (same k).dest
      ∙ ap (λ (r : ℕ → Bool). is_load (inst_at insts k) && r (dest (inst_at insts k))) (same j).reads

  -- laid out one after another, no load of a valid plan is directly followed by a reader of its register
  pub words_apart : AreApart 0 (words insts (items_of plan))
  words_apart = apart_from insts (items_of plan) 0 (λ j s. reads_none (inst_at insts j)) (λ p k j s t. sym (same_feeds k j) ∙ laid.valid.apart p k j s t)

  -- and the last word is not a load
  pub words_end : last_loaded 0 (words insts (items_of plan)) ≡ 0
  words_end = last_from insts (items_of plan) (λ p k s e. sym (same k).load ∙ laid.valid.last p k s e)
