-- The words of linked code stand: each spells its instruction (`code_there`), and each site's stand from its start on
-- (`code_stands`). The step is a site: where those of a site and of what is behind it stand, so they do one site on (`sites_stand`).
use Rattle.std.proofs.Common.{◌≡◌, ℕ, zero, suc, ◌+◌, ◌-◌, ◌<◌, Bool, true, cond, leb, ltb, ◌&&◌, List, [], ◌∷◌, ◌++◌, length, map, All, Option, Some, None, refl, sym, ap, ◌∙◌, subst, arith}
use Rattle.std.specs.Prelude.{slice_get, option_and_then, unwrap_or}
use Rattle.std.specs.List.{flat_map}
use Rattle.std.specs.Option.{option_map}
use Rattle.std.proofs.lemmas.Bool.Decides.{nat_tests}
use Rattle.std.proofs.lemmas.List.{length-map}
use Rattle.std.proofs.lemmas.List.Elements.{All-head, All-tail}
use Rattle.std.proofs.lemmas.Option.{slice_get-map, slice_get_within}
use Rattle.mx_isa.specs.declared.inst.Inst.{Inst}
use Rattle.mx_isa.specs.declared.place.Place.{Place}
use Rattle.mx_isa.specs.Fields.{InstFits}
use Rattle.mx_code.specs.Codes.{word_of_row, HasRegisters}
use Rattle.mx_code.specs.Decoding.{inst_of}
use Rattle.mx_delay.specs.Delay.{Code, idle, code_from}
use Rattle.mx_delay.specs.Clean.{is_inside}
use Rattle.mx_code.proofs.Rows.{spelled}
use Rattle.mx_source.specs.declared.statement.Statement.{Statement}
use Rattle.mx_source.specs.SourceValue.{SourceValue, IsSource}
use Rattle.mx_blocks.specs.declared.block.Item.{Item}
use Rattle.mx_blocks.specs.Leaders.{IsBlockOf}
use Rattle.mx_blocks.specs.Leaders.{inst_of as statement_inst}
use Rattle.mx_validate.specs.Padded.{items_of}
use Rattle.mx_validate.specs.Validity.{Valid}
use Rattle.mx_squash.specs.declared.copying.Copied.{Copied}
use Rattle.mx_squash.specs.Copies.{Site, no_copies}
use Rattle.mx_layout.specs.Layout.{plan_size, StandFrom}
use Rattle.mx_link.specs.declared.linked.Origin.{Origin}
use Rattle.mx_link.specs.declared.linked.Origin.TheVariants.{Own, Copy, Pad}
use Rattle.mx_link.specs.Origins.{Filling, origins_from, origins_at}
use Rattle.mx_link.specs.Words.{linked_statement, inst_at, insts_from, code_of}
use Rattle.mx_link.specs.Parts.{origin_at}
use Rattle.mx_link.proofs.Sizes.{length-origins_from, length-insts_from}
use Rattle.mx_link.proofs.Linkable.{Goes, has_words}
use Rattle.law_link.proofs.Going.{Stands, stands_left, stands_right}
use Rattle.mx_link.proofs.Registers.{linked_registers}

-- an instruction that has a word
pub record Spelled (i : Inst) : Type 0 where
  pub fits : InstFits i
  pub registers : HasRegisters i

abbrev pub AllSpelled : List Inst → Type 0
AllSpelled [] = Unit {0}
AllSpelled (i ∷ insts) = Spelled i × AllSpelled insts

pub all_append : (is js : List Inst) → AllSpelled is → AllSpelled js → AllSpelled (is ++ js)
all_append [] js h k = k
all_append (i ∷ is) js h k = (h.0, all_append is js h.1 k)

pub spelled_at : (insts : List Inst) (k : ℕ) (x : Inst) → AllSpelled insts → slice_get insts k ≡ Some x → Spelled x
spelled_at [] k x h e = absurd (cc)
spelled_at (i ∷ insts) zero x h e = let same : i ≡ x = cc in subst Spelled same h.0
spelled_at (i ∷ insts) (suc k) x h e = spelled_at insts k x h.1 e

word_spells : (x : Inst) → Spelled x → inst_of (word_of_row x) ≡ Some x
word_spells x h = spelled x (word_of_row x) (record { fits = h.fits; registers = h.registers; word_is = refl })

stands_all :
    (code : Code) (inside : ℕ → Bool) (b : ℕ) (insts : List Inst)
    → ((k : ℕ) (x : Inst) → slice_get insts k ≡ Some x → (code (b + k) ≡ x) × (inside (b + k) ≡ true)) → Stands code inside b insts
stands_all code inside b [] h = tt
stands_all code inside b (i ∷ insts) h =
    let here = h 0 i refl in
    let zero_on : b + 0 ≡ b = omega arith in (
      ap code (sym zero_on) ∙ here.0,
      ap inside (sym zero_on) ∙ here.1,
      stands_all code inside (b + 1) insts (λ k x e. let r = h (suc k) x e in let on : b + 1 + k ≡ b + suc k = omega arith in
          (ap code on ∙ r.0, ap inside on ∙ r.1)),
    )

-- the word of an instruction that has one stands at its address
pub code_there :
    (base : ℕ) (insts : List Inst) (k : ℕ) (x : Inst) → Spelled x → slice_get insts k ≡ Some x
    → code_from inst_of base (map word_of_row insts) (base + k) ≡ x
code_there base insts k x h e =
    let index : base + k - base ≡ k = omega arith in
    let word : slice_get (map word_of_row insts) (base + k - base) ≡ Some (word_of_row x) = ap (slice_get (map word_of_row insts)) index
    ∙ slice_get-map word_of_row insts k ∙ ap (option_map word_of_row) e in
    ap (λ b. cond b (unwrap_or (option_and_then inst_of (slice_get (map word_of_row insts) (base + k - base))) idle) idle) above
    ∙ ap (λ o. unwrap_or (option_and_then inst_of o) idle) word
    ∙ ap (λ o. unwrap_or o idle) (word_spells x h)
  where
    above : leb base (base + k) ≡ true
    above = grind (arith, nat_tests)

-- the words of instructions that have words spell them
pub words_stand :
    (p : Place) (insts : List Inst) → AllSpelled insts → Stands (code_from inst_of p.code (map word_of_row insts))
    (is_inside p (length (map word_of_row insts))) p.code insts
words_stand p insts h = stands_all (code_from inst_of p.code (map word_of_row insts)) (is_inside p (length (map word_of_row insts))) p.code insts there
  where
    within : (k n : ℕ) → k < n → (leb p.code (p.code + k) && ltb (p.code + k) (p.code + n)) ≡ true
    within k n l = grind (arith, nat_tests)

    there :
        (k : ℕ) (x : Inst) → slice_get insts k ≡ Some x → (code_from inst_of p.code (map word_of_row insts) (p.code + k) ≡ x)
        × (is_inside p (length (map word_of_row insts)) (p.code + k) ≡ true)
    there k x e =
        let low : k < length insts = slice_get_within insts k x e in
        let long : length (map word_of_row insts) ≡ length insts = length-map insts word_of_row in (
          code_there p.code insts k x (spelled_at insts k x h e) e,
          within k (length (map word_of_row insts)) (omega arith),
        )

-- pieces that are as long as the sites' plans stand where the sites do
pub sites_stand :
    (code : Code) (inside : ℕ → Bool) (piece : Site → List Inst) → ((s : Site) → length (piece s) ≡ plan_size s.plan)
    → (at : ℕ) (list : List Site) → StandFrom at list → Stands code inside at (flat_map piece list)
    → All (λ (s : Site). Stands code inside s.start (piece s)) list
sites_stand code inside piece long at [] h st k d l = absurd (omega arith)
sites_stand code inside piece long at (s ∷ list) h st zero d l =
    subst (λ n. Stands code inside n (piece s)) (sym h.0) (stands_left code inside at (piece s) (flat_map piece list) st)
sites_stand code inside piece long at (s ∷ list) h st (suc k) d l =
    sites_stand code inside piece long (at + plan_size s.plan) list h.1
    (subst (λ n. Stands code inside (at + n) (flat_map piece list)) (long s) (stands_right code inside at (piece s) (flat_map piece list) st)) k d
    (omega arith)

pub pieces_spelled : (piece : Site → List Inst) (list : List Site) → All (λ (s : Site). AllSpelled (piece s)) list → AllSpelled (flat_map piece list)
pieces_spelled piece [] h = tt
pieces_spelled piece (s ∷ list) h =
    all_append (piece s) (flat_map piece list) (All-head (λ (s : Site). AllSpelled (piece s)) s list h)
    (pieces_spelled piece list (All-tail (λ (s : Site). AllSpelled (piece s)) s list h))

-- the registers of each statement are 0 to 31
abbrev pub RegistersOf : SourceValue → Type 0
RegistersOf source = (i : ℕ) (s : Statement) → slice_get source.statements i ≡ Some s → HasRegisters (statement_inst s)

module _ (source : SourceValue) (link : ℕ → ℕ) where
  abbrev pub piece : Filling → List Site → Site → List Inst
  piece filling all s = insts_from link source.statements (filling all s) s.start (origins_at s (filling all s))

  pub piece_length : (filling : Filling) (all : List Site) (s : Site) → length (piece filling all s) ≡ plan_size s.plan
  piece_length filling all s =
      length-insts_from link source.statements (filling all s) s.start (origins_at s (filling all s))
      ∙ length-origins_from s (filling all s) 0 (items_of s.plan)

module _ (source : SourceValue) (registers : RegistersOf source) (link : ℕ → ℕ) where
  abbrev piece_of : Filling → List Site → Site → List Inst
  piece_of = piece source link

  statement_registers : (c : Copied) (at i : ℕ) → HasRegisters (linked_statement link c at (slice_get source.statements i))
  statement_registers c at i = by_statement (slice_get source.statements i) refl
    where
      by_statement : (o : Option Statement) → slice_get source.statements i ≡ o → HasRegisters (linked_statement link c at o)
      by_statement None e = (omega arith, omega arith, omega arith)
      by_statement (Some s) e = (linked_registers link c at s).0 (registers i s e)

  origin_registers : (c : Copied) (at : ℕ) (o : Origin) → HasRegisters (inst_at link source.statements c at o)
  origin_registers c at (Own i) = statement_registers c at i
  origin_registers c at (Copy i) = statement_registers no_copies at i
  origin_registers c at Pad = (omega arith, omega arith, omega arith)

  items_spelled :
      (s : Site) (c : Copied) (p a : ℕ) (items : List Item) → a ≡ s.start + p
      → ((k : ℕ) (item : Item) → slice_get items k ≡ Some item
      → InstFits (inst_at link source.statements c (s.start + (p + k)) (origin_at s c (p + k) item)))
      → AllSpelled (insts_from link source.statements c a (origins_from s c p items))
  items_spelled s c p a [] e h = tt
  items_spelled s c p a (item ∷ items) e h =
      let here : p + 0 ≡ p = omega arith in (
        record {
          fits = subst (λ n. InstFits (inst_at link source.statements c n (origin_at s c p item))) (sym e)
              (subst (λ n. InstFits (inst_at link source.statements c (s.start + n) (origin_at s c n item))) here (h 0 item refl));
          registers = origin_registers c a (origin_at s c p item);
        },
        items_spelled s c (suc p) (suc a) items (omega arith) (λ k x f. let on : p + suc k ≡ suc p + k = omega arith in
            subst (λ n. InstFits (inst_at link source.statements c (s.start + n) (origin_at s c n x))) on (h (suc k) x f)),
      )

  pub piece_spelled :
      IsSource source → (filling : Filling) (all : List Site) (s : Site) → IsBlockOf source s.block → Valid s.block s.plan
      → Goes source link s (filling all s) → AllSpelled (piece_of filling all s)
  piece_spelled is filling all s b v g =
      items_spelled s (filling all s) 0 s.start (items_of s.plan) (omega arith) (λ k item e.
      let on : k ≡ 0 + k = omega arith in
      subst (λ n. InstFits (inst_at link source.statements (filling all s) (s.start + n) (origin_at s (filling all s) n item))) on
      (has_words source link s (filling all s) is b v g k item e))

  -- the code of a layout stands, each site's words from its start on
  pub code_stands : (filling : Filling) (p : Place) (all : List Site) → StandFrom p.code all → All (λ (s : Site). AllSpelled (piece_of filling all s)) all
      → (let code = code_of filling link source.statements all in
      All (λ (s : Site). Stands (code_from inst_of p.code code) (is_inside p (length code)) s.start (piece_of filling all s)) all)
  code_stands filling p all h spelled =
      let insts = flat_map (piece_of filling all) all in
      sites_stand (code_from inst_of p.code (map word_of_row insts)) (is_inside p (length (map word_of_row insts))) (piece_of filling all)
      (piece_length source link filling all) p.code all h
      (words_stand p insts (pieces_spelled (piece_of filling all) all spelled))
