-- One site: the instructions of its block as they are linked (`insts`), with which its plan is laid out (`laid`), and the words of its
-- plan. Before the terminator's place each word is its item's (`front_words`), and what a body holds is linked alike everywhere
-- (`linked_anywhere`), so also where it is copied to.
use Rattle.std.proofs.Common.{◌≡◌, ℕ, suc, ◌+◌, ◌<◌, ◌≤◌, Bool, true, false, cond, eqb, List, [], ◌∷◌, ◌++◌, length, map, take, All, Option, Some, None, slice_index_or, refl, sym, ap, ◌∙◌, subst, arith}
use Rattle.std.proofs.lemmas.Bool.{false≢true}
use Rattle.std.specs.Prelude.{slice_get, slice_range, is_some}
use Rattle.std.specs.Option.{option_map}
use Rattle.std.proofs.lemmas.Bool.Decides.{nat_tests}
use Rattle.std.proofs.lemmas.List.{length-map, get_or-take, length-take-le}
use Rattle.std.proofs.lemmas.Option.{slice_get-map, slice_get_within, get_or_from_slice_get, slice_get-get_or}
use Rattle.mx_isa.specs.declared.inst.Inst.{Inst}
use Rattle.mx_isa.specs.declared.inst.Inst.TheVariants.{Halt as HaltInst}
use Rattle.mx_isa.specs.Fields.{InstFits}
use Rattle.mx_depend.specs.Graphs.{inst_at as inst_number}
use Rattle.mx_source.specs.declared.statement.Statement.{Statement}
use Rattle.mx_source.specs.declared.statement.Statement.TheVariants.{Plain, LaCode, Branch, Call, CallReg, JumpReg, Halt}
use Rattle.mx_source.specs.Labels.{IsPlace}
use Rattle.mx_source.specs.Statements.{StatementFits}
use Rattle.mx_source.specs.Meaning.{given}
use Rattle.mx_blocks.specs.declared.block.Item.{Item}
use Rattle.mx_blocks.specs.declared.block.Item.TheVariants.{Op, Nop}
use Rattle.mx_blocks.specs.Ends.{is_last}
use Rattle.mx_blocks.specs.Leaders.{inst_of, end_of, size}
use Rattle.mx_blocks.proofs.Splits.{get_range, range_length}
use Rattle.mx_validate.specs.Padded.{insts_of, body_count}
use Rattle.mx_squash.specs.declared.copying.Copied.{Copied}
use Rattle.mx_squash.specs.Copies.{Site}
use Rattle.mx_link.specs.declared.linked.Origin.{Origin}
use Rattle.mx_link.specs.Origins.{own, over, copied_to, goal_of, origins_from}
use Rattle.mx_link.specs.Words.{linked_inst, linked_statement, inst_at, insts_from}
use Rattle.mx_link.specs.Parts.{origin_at}
use Rattle.mx_link.proofs.Bodies.{inst_is, is_last_of}
use Rattle.mx_link.proofs.Fits.{inst_fits}
use Rattle.mx_link.proofs.Sizes.{length-origins_from}
use Rattle.law_order.specs.Laws.{unplaced, IsPlanned}
use Rattle.law_order.specs.Parts.{AreBelow}
use Rattle.law_order.proofs.Split.{body_within, body_goes_on, below_left, below_right}
use Rattle.law_order.proofs.Words.{item_inst, words}
use Rattle.law_link.proofs.Saying.{IsBodyOf, AreBody}
use Rattle.law_link.proofs.Setting.{LinkedSite}

-- but for what depends on where it stands, a linked instruction is its statement's
unplaced_same : (link : ℕ → ℕ) (c : Copied) (at : ℕ) (s : Statement) → unplaced (linked_inst link c at s) ≡ unplaced (inst_of s)
unplaced_same link c at (Plain i) = refl
unplaced_same link c at (LaCode d t) = refl
unplaced_same link c at (Branch a b condition t) = refl
unplaced_same link c at (Call d t) = refl
unplaced_same link c at (CallReg a d) = refl
unplaced_same link c at (JumpReg a) = refl
unplaced_same link c at Halt = refl

all_unplaced :
    (link : ℕ → ℕ) (c : Copied) (at : ℕ) (xs : List Statement) → map unplaced (map (linked_inst link c at) xs) ≡ map unplaced (map inst_of xs)
all_unplaced link c at [] = refl
all_unplaced link c at (s ∷ xs) = λ k. unplaced_same link c at s k ∷ all_unplaced link c at xs k

-- a statement of a body is linked alike everywhere
pub linked_anywhere :
    (link : ℕ → ℕ) (c c' : Copied) (at at' : ℕ) (s : Statement) → is_last (inst_of s) ≡ false
    → linked_inst link c at s ≡ linked_inst link c' at' s
linked_anywhere link c c' at at' (Plain i) h = refl
linked_anywhere link c c' at at' (LaCode d t) h = refl
linked_anywhere link c c' at at' (Branch a b condition t) h = absurd (false≢true (sym h))
linked_anywhere link c c' at at' (Call d t) h = absurd (false≢true (sym h))
linked_anywhere link c c' at at' (CallReg a d) h = absurd (false≢true (sym h))
linked_anywhere link c c' at at' (JumpReg a) h = absurd (false≢true (sym h))
linked_anywhere link c c' at at' Halt h = absurd (false≢true (sym h))

body_of :
    (link : ℕ → ℕ) (P : ℕ → Type 0) (c : Copied) (at : ℕ) (s : Statement) → StatementFits P s → is_last (inst_of s) ≡ false
    → IsBodyOf link (Some s) (linked_inst link c at s)
body_of link P c at (Plain i) f h = (f.0, refl)
body_of link P c at (LaCode d t) f h = refl
body_of link P c at (Branch a b condition t) f h = absurd (false≢true (sym h))
body_of link P c at (Call d t) f h = absurd (false≢true (sym h))
body_of link P c at (CallReg a d) f h = absurd (false≢true (sym h))
body_of link P c at (JumpReg a) f h = absurd (false≢true (sym h))
body_of link P c at Halt f h = absurd (false≢true (sym h))

are_body :
    (link : ℕ → ℕ) (statements : List Statement) (i : ℕ) (xs : List Inst)
    → ((k : ℕ) → k < length xs → IsBodyOf link (slice_get statements (i + k)) (inst_number xs k)) → AreBody link statements i xs
are_body link statements i [] h = tt
are_body link statements i (x ∷ xs) h = (
  subst (λ n. IsBodyOf link (slice_get statements n) x) (let e : i + 0 ≡ i = omega arith in e) (h 0 (omega arith)),
  are_body link statements (suc i) xs (λ k l. let on : i + suc k ≡ suc i + k = omega arith in
      subst (λ n. IsBodyOf link (slice_get statements n) (inst_number xs k)) on (h (suc k) (omega arith))),
)

-- items one behind the other
pub origins_append :
    (s : Site) (c : Copied) (p : ℕ) (xs ys : List Item) → origins_from s c p (xs ++ ys) ≡ origins_from s c p xs ++ origins_from s c (p + length xs) ys
origins_append s c p [] ys = ap (λ n. origins_from s c n ys) (let e : p ≡ p + 0 = omega arith in e)
origins_append s c p (x ∷ xs) ys =
    ap (λ l. origin_at s c p x ∷ l)
    (origins_append s c (suc p) xs ys ∙ ap (λ n. origins_from s c (suc p) xs ++ origins_from s c n ys)
    (let e : suc p + length xs ≡ p + suc (length xs) = omega arith in e))

insts_append :
    (link : ℕ → ℕ) (statements : List Statement) (c : Copied) (at : ℕ) (xs ys : List Origin)
    → insts_from link statements c at (xs ++ ys) ≡ insts_from link statements c at xs ++ insts_from link statements c (at + length xs) ys
insts_append link statements c at [] ys = ap (λ n. insts_from link statements c n ys) (let e : at ≡ at + 0 = omega arith in e)
insts_append link statements c at (x ∷ xs) ys =
    ap (λ l. inst_at link statements c at x ∷ l)
    (insts_append link statements c (suc at) xs ys ∙ ap (λ n. insts_from link statements c (suc at) xs ++ insts_from link statements c n ys)
    (let e : suc at + length xs ≡ at + suc (length xs) = omega arith in e))

module _ (here : LinkedSite) where
  open here use {source, well_formed as is, link, site as s, copied as c, block as b, valid as v, goes as g}

  -- where the terminator stands
  abbrev pub at : ℕ
  at = s.start + s.plan.place

  abbrev pub stated : List Statement
  stated = slice_range source.statements s.block.first (s.block.first + size s.block)

  -- the instructions of the block, linked
  abbrev pub insts : List Inst
  insts = map (linked_inst link c at) stated

  pub count : length insts ≡ size s.block
  count =
      let r = range_length source.statements s.block.first (s.block.first + size s.block) (omega arith) b.within in
      let m = length-map stated (linked_inst link c at) in
      omega arith

  -- instruction k and its statement
  pub record There (k : ℕ) : Type 0 where
    pub statement : Statement
    pub is_there : slice_get source.statements (s.block.first + k) ≡ Some statement
    pub inst : slice_get insts k ≡ Some (linked_inst link c at statement)

  pub there : (k : ℕ) → k < size s.block → There k
  there k l =
      let w = b.within in
      let e = slice_get-get_or source.statements (s.block.first + k) Halt (omega arith) in
      record {
        statement = slice_index_or source.statements (s.block.first + k) Halt;
        is_there = e;
        inst = slice_get-map (linked_inst link c at) stated k ∙ ap (option_map (linked_inst link c at))
            (get_range source.statements s.block.first (s.block.first + size s.block) k (omega arith) b.within ∙ e);
      }

  pub inst_there : (k : ℕ) (l : k < size s.block) → inst_number insts k ≡ linked_inst link c at (there k l).statement
  inst_there k l = get_or_from_slice_get insts k (linked_inst link c at (there k l).statement) HaltInst (there k l).inst

  pub fits_there :
      (k : ℕ) (x : Statement) → slice_get source.statements (s.block.first + k) ≡ Some x
      → StatementFits (IsPlace source.labels (length source.statements)) x
  fits_there k x e =
      subst (StatementFits (IsPlace source.labels (length source.statements))) (get_or_from_slice_get source.statements (s.block.first + k) x x e)
      (is.statements_fit (s.block.first + k) x (slice_get_within source.statements (s.block.first + k) x e))

  inst_fits_there : (k : ℕ) (l : k < size s.block) → InstFits (linked_inst link c at (there k l).statement)
  inst_fits_there k l =
      let t = there k l in
      inst_fits (IsPlace source.labels (length source.statements)) link c at t.statement (fits_there k t.statement t.is_there) g.short
      (λ d target x.
      let last = is_last_of source s.block b k t.statement l t.is_there (ap (λ y. is_last (inst_of y)) x) in
      g.call target (last.end ∙ ap end_of x))
      (λ a a' condition target x.
      let last = is_last_of source s.block b k t.statement l t.is_there (ap (λ y. is_last (inst_of y)) x) in
      g.branch target (last.end ∙ ap end_of x))

  pub all_fit : All InstFits insts
  all_fit k d l =
      let low : k < size s.block = (let n = count in omega arith) in
      subst InstFits (sym (get_or_from_slice_get insts k (linked_inst link c at (there k low).statement) d (there k low).inst)) (inst_fits_there k low)

  -- the block with its plan and these instructions is laid out
  pub laid : (bytes : List ℕ) → IsPlanned s.block s.plan insts (given source.input bytes)
  laid bytes = record {
    valid = v;
    filled = all_unplaced link c at stated ∙ ap (map unplaced) (sym b.insts);
    fits = all_fit;
    ordered = λ h. b.input ∙ sym (with_input source.input) ∙ h;
  }
    where
      with_input : (o : Option ℕ) → is_some (given o bytes) ≡ is_some o
      with_input None = refl
      with_input (Some line) = refl

  -- the body's statements neither transfer nor halt
  pub goes_on :
      (k : ℕ) (x : Statement) → k < body_count s.block → slice_get source.statements (s.block.first + k) ≡ Some x → is_last (inst_of x) ≡ false
  goes_on k x l e =
      let low : k < size s.block = (let w = body_within s.block in omega arith) in
      ap is_last (sym (get_or_from_slice_get (insts_of s.block) k (inst_of x) HaltInst (inst_is source s.block b k x low e))) ∙ body_goes_on s.block k l

  pub body : AreBody link source.statements s.block.first (take (body_count s.block) insts)
  body = are_body link source.statements s.block.first (take (body_count s.block) insts) (λ k l.
      let w = body_within s.block in
      let n = count in
      let t = length-take-le (body_count s.block) insts (omega arith) in
      let low : k < body_count s.block = omega arith in
      let within : k < size s.block = omega arith in
      let x = there k within in
      subst (λ o. IsBodyOf link o (inst_number (take (body_count s.block) insts) k)) (sym x.is_there)
      (subst (λ i. IsBodyOf link (Some x.statement) i) (sym (get_or-take (body_count s.block) insts k HaltInst low ∙ inst_there k within))
      (body_of link (IsPlace source.labels (length source.statements)) c at x.statement (fits_there k x.statement x.is_there)
      (goes_on k x.statement low x.is_there))))

  -- the word of one of the block's own items, at an address
  abbrev pub own_word : ℕ → Item → Inst
  own_word a x = inst_at link source.statements c a (own s.block.first x)

  pub body_word : (a : ℕ) (x : Item) → AreBelow (body_count s.block) (x ∷ []) → own_word a x ≡ item_inst insts x
  body_word a Nop h = refl
  body_word a (Op k) h =
      let within : k < size s.block = (let w = body_within s.block in let l = h.0 in omega arith) in
      let x = there k within in
      ap (linked_statement link c a) x.is_there
      ∙ linked_anywhere link c c a at x.statement (goes_on k x.statement h.0 x.is_there)
      ∙ sym (inst_there k within)

  pub end_word : (k : ℕ) → k < size s.block → own_word at (Op k) ≡ inst_number insts k
  end_word k l = ap (linked_statement link c at) (there k l).is_there ∙ sym (inst_there k l)

  pub not_copied : (p : ℕ) → p ≤ s.plan.place → copied_to c s.plan.place p ≡ Nop
  not_copied p h = none (eqb p (s.plan.place + 1)) (eqb p (s.plan.place + 2)) (grind (arith, nat_tests)) (grind (arith, nat_tests))
    where
      none : (x y : Bool) → x ≡ false → y ≡ false → cond x (slice_index_or c.from 0 Nop) (cond y (slice_index_or c.from 1 Nop) Nop) ≡ Nop
      none true y e f = absurd (false≢true (sym e))
      none false true e f = absurd (false≢true (sym f))
      none false false e f = refl

  -- the word of an item at place p
  abbrev pub word_at : ℕ → Item → Inst
  word_at p x = inst_at link source.statements c (s.start + p) (origin_at s c p x)

  pub plain_word_at : (p : ℕ) (x : Item) → p ≤ s.plan.place → word_at p x ≡ own_word (s.start + p) x
  plain_word_at p x h = ap (λ i. inst_at link source.statements c (s.start + p) (over (goal_of s.block.end) i (own s.block.first x))) (not_copied p h)

  abbrev pub words_from : ℕ → List Item → List Inst
  words_from p items = insts_from link source.statements c (s.start + p) (origins_from s c p items)

  -- items before the terminator's place
  pub front_words :
      (p : ℕ) (items : List Item) → p + length items ≤ s.plan.place → AreBelow (body_count s.block) items → words_from p items ≡ words insts items
  front_words p [] l h = refl
  front_words p (x ∷ items) l h =
      let on : suc (s.start + p) ≡ s.start + suc p = omega arith in
      (λ k. (plain_word_at p x (omega arith) ∙ body_word (s.start + p) x
      (below_left (body_count s.block) (x ∷ []) items h)) k ∷ insts_from link source.statements c (on k) (origins_from s c (suc p) items))
      ∙ ap (λ l. item_inst insts x ∷ l) (front_words (suc p) items (omega arith) (below_right (body_count s.block) (x ∷ []) items h))

  -- items before others
  pub words_append : (xs ys : List Item) → words_from 0 (xs ++ ys) ≡ words_from 0 xs ++ words_from (length xs) ys
  words_append xs ys =
      ap (insts_from link source.statements c (s.start + 0)) (origins_append s c 0 xs ys)
      ∙ insts_append link source.statements c (s.start + 0) (origins_from s c 0 xs) (origins_from s c (0 + length xs) ys)
      ∙ (λ k. words_from 0 xs ++ insts_from link source.statements c (there_on k) (origins_from s c (here_on k) ys))
    where
      there_on : s.start + 0 + length (origins_from s c 0 xs) ≡ s.start + length xs
      there_on = let e = length-origins_from s c 0 xs in omega arith

      here_on : 0 + length xs ≡ length xs
      here_on = omega arith
