-- The lines that reach a place.
use Rattle.std.proofs.Common.{◌≡◌, ◌≢◌, ◌≤◌, ◌<◌, ◌^◌, ℕ, ◌+◌, ◌/◌, ◌%◌, Bool, true, false, cond, ◌==◌, List, [], ◌∷◌, ◌++◌, Option, None, refl, sym, ap, ◌∙◌, ap₂, arith, subst}
use Rattle.std.specs.Int.{w32, cast_signed}
use Rattle.std.proofs.lemmas.Bool.Decides.{nat_tests}
use Rattle.mx_isa.specs.Arithmetic.{shift_right_signed}
use Rattle.mx_isa.specs.Words.{reg, write}
use Rattle.mx_isa.specs.Effect.{Core, Bus, act}
use Rattle.mx_isa.specs.declared.inst.Op.TheVariants as machine
use Rattle.cc_rules.specs.declared.numbers.TheConstants.{FIRST_BYTE, LIMIT}
use Rattle.cc_emit.specs.declared.line.Computed.TheVariants.{Add}
use Rattle.cc_emit.specs.declared.line.Line.{Line}
use Rattle.cc_emit.specs.declared.line.Line.TheVariants.{Plain as PlainLine, Constant}
use Rattle.cc_emit.specs.declared.line.Plain.{Plain}
use Rattle.cc_emit.specs.declared.line.Plain.TheVariants.{Compute, Addi, Asr}
use Rattle.cc_emit.specs.Lines.{is_short}
use Rattle.cc_plan.specs.declared.plan.Place.{Place}
use Rattle.cc_plan.specs.declared.plan.Place.TheVariants.{Byte, Turned, Far}
use Rattle.cc_plan.specs.Places.{word_at, byte_at, quarter, IsAt}
use Rattle.cc_meaning.specs.declared.value.Value.TheVariants.{Number}
use Rattle.cc_meaning.specs.declared.layout.Layout.{Layout}
use Rattle.cc_meaning.specs.Layouts.{is_memory}
use Rattle.cc_operations.specs.Operations.{lines}
use Rattle.cc_operations.specs.Numbers.{Put, instructions, constant, added, is_held, addend, long_sum}
use Rattle.cc_accesses.specs.Places.{word_base, word_offset, reached}
use Rattle.law_emit.specs.Statements.{instruction}
use Rattle.law_operations.specs.Runs.{ran, ran_from, ran_lines, HoldsWords, HoldsFirst, Gives, Leaves}
use Rattle.law_operations.proofs.Numbers.{added_leaves}
use Rattle.law_operations.proofs.Rest.{known_after}
use Rattle.law_operations.proofs.Steps.{computes}
use Rattle.law_accesses.specs.Memories.{IsData, IsReachable}

-- ---- lines without branches

abbrev pub is_straight : List Line → Bool
is_straight [] = true
is_straight (PlainLine plain ∷ rest) = is_straight rest
is_straight (Constant value rd ∷ rest) = is_straight rest
is_straight _ = false

pub straight_then : (bus : Bus) (code rest : List Line) (s : Core) → is_straight code ≡ true
    → ran_from bus None (code ++ rest) s ≡ ran_from bus None rest (ran_from bus None code s)
straight_then bus [] rest s h = refl
straight_then bus (PlainLine plain ∷ code) rest s h = straight_then bus code rest (act bus (instruction plain) 0 s.regs s) h
straight_then bus (Constant value rd ∷ code) rest s h = straight_then bus code rest (record s { regs = write s.regs rd value }) h
straight_then bus (_ ∷ code) rest s h = absurd (cc)

held_straight : (t : Bool) (value rd : ℕ) (rest : List Line) → is_straight rest ≡ true
    → is_straight (cond t [] (Constant value rd ∷ []) ++ rest) ≡ true
held_straight true value rd rest h = h
held_straight false value rd rest h = h

held_alone : (t : Bool) (value rd : ℕ) → is_straight (cond t [] (Constant value rd ∷ [])) ≡ true
held_alone true value rd = refl
held_alone false value rd = refl

pub added_straight : (first : Option ℕ) (rs value rd : ℕ) → is_straight (added first rs value rd).lines ≡ true
added_straight first rs value rd = by (rs == 0) (is_short (cast_signed w32 value))
  where
    long : Put
    long = long_sum first rs value rd

    short : Put
    short = instructions first (Addi rs (cast_signed w32 value) rd ∷ [])

    found : Bool → Put
    found u = record { lines = (cond u short long).lines; first = cond (rd == 1) None (cond u short long).first }

    by : (t u : Bool) → is_straight (cond t (constant first value rd) (found u)).lines ≡ true
    by true u = held_alone (is_held first value rd) value rd
    by false true = refl
    by false false =
        held_straight (is_held first value (addend rs rd)) value (addend rs rd) (lines (Compute Add rs (addend rs rd) rd ∷ [])) refl

pub plain_straight : (code : List Plain) → is_straight (lines code) ≡ true
plain_straight [] = refl
plain_straight (plain ∷ code) = plain_straight code

-- ---- a place is reached

pub record Reached (place : Place) (first : Option ℕ) (before after : Core) : Type 0 where
  pub known : HoldsFirst first after.regs
  pub at : (reg after.regs (word_base place) + word_offset place) % 2 ^ 32 ≡ word_at (reg before.regs) place
  pub address : (base bytes : ℕ) → place ≡ Far base bytes → reg after.regs 1 ≡ (reg before.regs base + bytes) % 2 ^ 32
  pub small : word_offset place < 2 ^ 32
  pub kept : (n : ℕ) → n ≢ 1 → n ≢ 26 → reg after.regs n ≡ reg before.regs n
  pub md : after.md ≡ before.md
  pub mem : after.mem ≡ before.mem
  pub taken : after.taken ≡ before.taken
  pub words : HoldsWords after.regs

-- the machine's shift with the sign by 2 is the quarter of an address
pub quarter_is : (x : ℕ) → x < 2 ^ 32 → shift_right_signed 2 x ≡ quarter x
quarter_is x h = grind (arith, nat_tests)

quarter_whole : (x : ℕ) → x < 2 ^ 32 → (quarter x + 0) % 2 ^ 32 ≡ quarter x
quarter_whole x h = grind (arith, nat_tests)

-- the address of a byte of data
abbrev pub IsInData : ℕ → Type 0
IsInData address = (FIRST_BYTE ≤ address) × (address < LIMIT)

-- a byte of the program's memory is one of data
pub in_data : (l : Layout) (address : ℕ) → is_memory l address ≡ true → IsInData address
in_data l address h = (let p : 1024 ≤ address = grind (arith, nat_tests) in p, let q : address < 262144 = grind (arith, nat_tests) in q)

-- a place of data is at a word and a byte of data
pub located : (r : ℕ → ℕ) (place : Place) (address : ℕ) → IsAt r place address → IsInData address
    → (word_at r place ≡ address / 4) × ((byte_at r place ≡ address % 4) × IsData (address / 4))
located r place address h d =
    let e = h d.1 in
    let l = d.0 in
    let k = d.1 in
    let p : 256 ≤ address / 4 = omega arith in
    let q : address / 4 < 65536 = omega arith in
    (e.0, (e.1, (p, q)))

abbrev pub Distinct : ℕ → ℕ → Type 0
Distinct m n = m ≢ n

abbrev Reaches : Option ℕ → Place → Bus → Core → Type 0
Reaches first place bus s = Reached place (reached first place).first s (ran_lines bus (reached first place).lines s)

near_reached : (first : Option ℕ) (place : Place) (s : Core) → HoldsWords s.regs → HoldsFirst first s.regs → word_offset place < 2 ^ 32
    → (reg s.regs (word_base place) + word_offset place) % 2 ^ 32 ≡ word_at (reg s.regs) place
    → ((base bytes : ℕ) → place ≡ Far base bytes → ⊥) → Reached place first s s
near_reached first place s h k small e near = record {
  known = k;
  at = e;
  address = λ base bytes q. absurd (near base bytes q);
  small = small;
  kept = λ n i j. refl;
  md = refl;
  mem = refl;
  taken = refl;
  words = h;
}

far_base : {a b c d : ℕ} → Far a b ≡ Far c d → a ≡ c
far_base e = cc

far_bytes : {a b c d : ℕ} → Far a b ≡ Far c d → b ≡ d
far_bytes e = cc

far_reached : (first : Option ℕ) (base bytes : ℕ) (bus : Bus) (s : Core) → HoldsWords s.regs → HoldsFirst first s.regs → bytes < 2 ^ 32
    → base ≢ 1 → Reaches first (Far base bytes) bus s
far_reached first base bytes bus s h k small ne =
    subst (Reached (Far base bytes) put.first s) (sym (straight_then bus put.lines (lines (Asr 1 2 26 ∷ [])) s (added_straight first base bytes 1)))
    (record {
      known = known_after put.first 26 _ t u apart g.known c;
      at = ap (λ x. (x + 0) % 2 ^ 32) shown ∙ whole;
      address = λ b y e. c.kept 1 (λ q. absurd (apart' q)) apart' ∙ at ∙ ap₂ (λ i j. (reg s.regs i + j) % 2 ^ 32) (far_base e) (far_bytes e);
      small = none;
      kept = λ n i j. c.kept n (λ q. absurd (j q)) j ∙ g.kept n (λ q. absurd (i q)) i j;
      md = c.md ∙ g.md;
      mem = c.mem ∙ g.mem;
      taken = c.taken ∙ g.taken;
      words = c.words;
    })
  where
    put : Put
    put = added first base bytes 1

    t : Core
    t = ran_lines bus put.lines s

    u : Core
    u = ran bus (Asr 1 2 26 ∷ []) t

    x : ℕ
    x = (reg s.regs base + bytes) % 2 ^ 32

    apart : Distinct 26 1
    apart = omega arith

    apart' : Distinct 1 26
    apart' = omega arith

    one : Distinct 1 0
    one = omega arith

    some : Distinct 26 0
    some = omega arith

    two : 2 ≤ 31
    two = omega arith

    none : 0 < 2 ^ 32
    none = omega arith

    g : Leaves 1 (Number x) put.first s t
    g = added_leaves first base bytes 1 bus s h k small ne

    at : reg t.regs 1 ≡ x
    at = g.given one

    fits : x < 2 ^ 32
    fits = omega arith

    c : Gives 26 (Number (shift_right_signed 2 (reg t.regs 1))) t u
    c = computes bus 1 26 0 (machine.Asr 2) t g.words two refl

    shown : reg u.regs 26 ≡ quarter x
    shown = c.given some ∙ ap (shift_right_signed 2) at ∙ quarter_is x fits

    whole : (quarter x + 0) % 2 ^ 32 ≡ quarter x
    whole = quarter_whole x fits

pub place_reached : (first : Option ℕ) (place : Place) (bus : Bus) (s : Core) → HoldsWords s.regs → HoldsFirst first s.regs → IsReachable place
    → Reaches first place bus s
place_reached first (Byte base words byte) bus s h k fits = near_reached first (Byte base words byte) s h k fits.1 refl (λ b y e. cc)
place_reached first (Turned base words by) bus s h k fits = near_reached first (Turned base words by) s h k fits.1 refl (λ b y e. cc)
place_reached first (Far base bytes) bus s h k fits = far_reached first base bytes bus s h k fits.1 fits.0.0

-- the lines after those that reach a place
pub reached_then : (first : Option ℕ) (place : Place) (rest : List Line) (bus : Bus) (s : Core)
    → ran_lines bus ((reached first place).lines ++ rest) s ≡ ran_lines bus rest (ran_lines bus (reached first place).lines s)
reached_then first place rest bus s = straight_then bus (reached first place).lines rest s (straight place)
  where
    straight : (place : Place) → is_straight (reached first place).lines ≡ true
    straight (Byte base words byte) = refl
    straight (Turned base words by) = refl
    straight (Far base bytes) = both (added first base bytes 1).lines (added_straight first base bytes 1)
      where
        both : (code : List Line) → is_straight code ≡ true → is_straight (code ++ lines (Asr 1 2 26 ∷ [])) ≡ true
        both [] h = refl
        both (PlainLine plain ∷ code) h = both code h
        both (Constant value rd ∷ code) h = both code h
        both (_ ∷ code) h = absurd (cc)
