-- Loads of bytes and halves.
use Rattle.std.proofs.Common.{◌≡◌, ◌≢◌, ◌<◌, ◌^◌, ℕ, ◌*◌, ◌/◌, ◌%◌, Bool, true, false, cond, ◌==◌, ◌||◌, List, [], ◌∷◌, ◌++◌, None, Result, Ok, Err, ◌⊎◌, inl, inr, Option, refl, sym, ap, ap₂, ◌∙◌, arith, subst, ⊎_elim}
use Rattle.std.specs.Int.{w32, rotate_left}
use Rattle.std.proofs.lemmas.Bool.Decides.{nat_tests}
use Rattle.mx_isa.specs.Words.{reg}
use Rattle.mx_isa.specs.Effect.{Core, Bus}
use Rattle.mx_isa.specs.declared.inst.Op.TheVariants as machine
use Rattle.cc_lines.specs.declared.instruction.Shift.{Shift}
use Rattle.cc_lines.specs.declared.instruction.Shift.TheVariants.{Left}
use Rattle.cc_lines.specs.declared.instruction.Width.TheVariants as width
use Rattle.cc_emit.specs.declared.line.Line.{Line}
use Rattle.cc_emit.specs.declared.line.Plain.{Plain}
use Rattle.cc_emit.specs.declared.line.Plain.TheVariants.{Compute}
use Rattle.cc_emit.specs.declared.line.Computed.TheVariants.{Rotlb}
use Rattle.cc_plan.specs.declared.plan.Place.{Place}
use Rattle.cc_plan.specs.declared.plan.Place.TheVariants.{Byte, Turned, Far}
use Rattle.cc_plan.specs.Places.{byte_at}
use Rattle.cc_meaning.specs.declared.value.Bytes.{Bytes}
use Rattle.cc_meaning.specs.declared.value.Value.{Value}
use Rattle.cc_meaning.specs.declared.value.Value.TheVariants.{Number}
use Rattle.cc_meaning.specs.declared.value.Why.{Why}
use Rattle.cc_meaning.specs.Arithmetic.{shifted_by}
use Rattle.cc_meaning.specs.Memory.{loaded, byte_value, half_at, extended, if_aligned}
use Rattle.cc_meaning.specs.Memory as meaning
use Rattle.cc_meaning.specs.declared.layout.Layout.{Layout}
use Rattle.cc_meaning.specs.States.{State, memory_word}
use Rattle.cc_meaning.specs.Values.{and_then, bytes_of}
use Rattle.cc_operations.specs.Operations.{lines, shifted}
use Rattle.cc_accesses.specs.Loads.{part_loaded, part_register, at_top, down}
use Rattle.cc_accesses.specs.Places.{part_of, reached, word_load}
use Rattle.law_operations.specs.Runs.{ran, ran_from, ran_lines, HoldsWords, ShowsValue, Gives, Leaves}
use Rattle.law_operations.proofs.Operations.{shift_values}
use Rattle.law_operations.proofs.Rest.{ran_only}
use Rattle.law_operations.proofs.Steps.{computes, gives_as, twice}
use Rattle.law_accesses.specs.Memories.{Access, ShowsData, IsReachable}
use Rattle.law_accesses.proofs.Data.{gives_shown}
use Rattle.law_accesses.proofs.Reaching.{Reached, Distinct, place_reached, reached_then, located, in_data, straight_then, plain_straight}
use Rattle.law_accesses.proofs.WholeWords.{fetched, after_reached}
use Rattle.law_accesses.proofs.Parts.{byte_of, half_of, raised, turned, raised_byte, raised_half, turned_byte, turned_half, byte_down, half_down, bytes_shown, byte_shown, byte_value_shown, half_shown}

-- ---- three pieces of code, one after the other

pub ran_then : (bus : Bus) (code : List Plain) (rest : List Line) (s : Core)
    → ran_lines bus (lines code ++ rest) s ≡ ran_lines bus rest (ran bus code s)
ran_then bus code rest s = straight_then bus (lines code) rest s (plain_straight code) ∙ ap (ran_from bus None rest) (ran_only bus code s)

pub ran_three : (bus : Bus) (a b c : List Plain) (s : Core)
    → ran_lines bus (lines a ++ (lines b ++ lines c)) s ≡ ran bus c (ran bus b (ran bus a s))
ran_three bus a b c s =
    ran_then bus a (lines b ++ lines c) s ∙ ran_then bus b (lines c) (ran bus a s) ∙ ran_only bus c (ran bus b (ran bus a s))

-- a value goes through a register that is r26 or the last one
pub over : (w d x y : ℕ) (s t u : Core) → (w ≡ 26) ⊎ (w ≡ d) → Gives w (Number x) s t → Gives d (Number y) t u → Gives d (Number y) s u
over w d x y s t u is g h = record {
  given = h.given;
  kept = λ n k l. h.kept n k l ∙ g.kept n (λ e. ⊎_elim (λ q. absurd (l (e ∙ q))) (λ q. k (e ∙ q)) is) l;
  md = h.md ∙ g.md;
  mem = h.mem ∙ g.mem;
  taken = h.taken ∙ g.taken;
  words = h.words;
}

pub shift_gives : (o : Shift) (rd rs count : ℕ) (bus : Bus) (s : Core) → HoldsWords s.regs
    → Gives rd (Number (shifted_by o (reg s.regs rs) (count % 32))) s (ran bus (shifted o rd rs count) s)
shift_gives o rd rs count bus s h = shift_values o rd rs count (Number (reg s.regs rs)) _ bus s h refl refl

-- ---- the register that takes the word

-- it is r26 or rd, and neither r0 nor the register that tells the part
abbrev TakesBy : ℕ → ℕ → ℕ → Type 0
TakesBy by w rd = ((w ≡ 26) ⊎ (w ≡ rd)) × (w ≢ by) × (w ≢ 0) × (by ≢ 26)

abbrev Takes : Place → ℕ → ℕ → Type 0
Takes (Byte base words byte) w rd = w ≡ rd
Takes (Turned base words by) w rd = TakesBy by w rd
Takes (Far base bytes) w rd = TakesBy 1 w rd

takes_by : (t : Bool) (by rd : ℕ) → by ≢ 26 → (t ≡ false → (rd ≢ by) × (rd ≢ 0)) → TakesBy by (cond t 26 rd) rd
takes_by true by rd ne h = let some : Distinct 26 0 = omega arith in (inl refl, λ e. ne (sym e), some, ne)
takes_by false by rd ne h = (inr refl, (h refl).0, (h refl).1, ne)

neither : (rd by : ℕ) → (rd == by || rd == 0) ≡ false → (rd ≢ by) × (rd ≢ 0)
neither rd by e = (let p : rd ≢ by = grind (arith, nat_tests) in p, let q : rd ≢ 0 = grind (arith, nat_tests) in q)

takes : (place : Place) (rd : ℕ) → IsReachable place → Takes place (part_register (part_of place) rd) rd
takes (Byte base words byte) rd h = refl
takes (Turned base words by) rd h = takes_by (rd == by || rd == 0) by rd h.2.1 (neither rd by)
takes (Far base bytes) rd h = let other : Distinct 1 26 = omega arith in takes_by (rd == 1 || rd == 0) 1 rd other (neither rd 1)

takes_either : (place : Place) (w rd : ℕ) → Takes place w rd → (w ≡ 26) ⊎ (w ≡ rd)
takes_either (Byte base words byte) w rd h = inr h
takes_either (Turned base words by) w rd h = h.0
takes_either (Far base bytes) w rd h = h.0

takes_some : (place : Place) (w rd : ℕ) → Takes place w rd → rd ≢ 0 → w ≢ 0
takes_some (Byte base words byte) w rd h ne e = ne (sym h ∙ e)
takes_some (Turned base words by) w rd h ne e = h.2 e
takes_some (Far base bytes) w rd h ne e = h.2 e

-- ---- the part goes to the top

-- the part begins at byte k
abbrev pub BeginsAt : Place → ℕ → Core → Type 0
BeginsAt (Byte base words byte) k s = byte ≡ k
BeginsAt (Turned base words by) k s = reg s.regs by % 4 ≡ k
BeginsAt (Far base bytes) k s = reg s.regs 1 % 4 ≡ k

pub begins : (place : Place) (first : Option ℕ) (k : ℕ) (s t : Core) → IsReachable place → Reached place first s t
    → byte_at (reg s.regs) place ≡ k → BeginsAt place k t
begins (Byte base words byte) first k s t h g e = e
begins (Turned base words by) first k s t h g e = ap (λ x. x % 4) (g.kept by h.2.0 h.2.1) ∙ e
begins (Far base bytes) first k s t h g e = ap (λ x. x % 4) (g.address base bytes refl) ∙ e

abbrev lifted : Place → ℕ → ℕ → ℕ
lifted (Byte base words byte) x k = raised x k
lifted (Turned base words by) x k = turned x k
lifted (Far base bytes) x k = turned x k

pub turned_gives : (by w x k : ℕ) (bus : Bus) (s t : Core) → w ≢ by → by ≢ 26 → reg s.regs by % 4 ≡ k → Gives w (Number x) s t
    → Gives w (Number (turned x k)) s (ran bus (Compute Rotlb w by w ∷ []) t)
turned_gives by w x k bus s t apart ne b g =
    let same : reg t.regs by % 4 ≡ k = ap (λ i. i % 4) (g.kept by (λ e. absurd (apart (sym e))) ne) ∙ b in
    twice w x _ s t _ g
    (gives_as w _ _ t _ (λ ne. ap₂ (λ i j. rotate_left w32 i (8 * j)) (g.given ne) same) (computes bus w w by machine.Rotlb t g.words tt refl))

lifted_gives : (place : Place) (w rd x k : ℕ) (bus : Bus) (s t : Core) → Takes place w rd → BeginsAt place k s → Gives w (Number x) s t
    → Gives w (Number (lifted place x k)) s (ran bus (at_top (part_of place) w) t)
lifted_gives (Byte base words byte) w rd x k bus s t h b g =
    twice w x _ s t _ g
    (gives_as w _ _ t _ (λ ne. ap₂ (λ i j. (i * 2 ^ (j * 8 % 32)) % 2 ^ 32) (g.given ne) b) (shift_gives Left w w (byte * 8) bus t g.words))
lifted_gives (Turned base words by) w rd x k bus s t h b g = turned_gives by w x k bus s t h.1 h.3 b g
lifted_gives (Far base bytes) w rd x k bus s t h b g = turned_gives 1 w x k bus s t h.1 h.3 b g

lifted_byte : (place : Place) (x k : ℕ) → x < 2 ^ 32 → k < 4 → lifted place x k / 2 ^ 24 ≡ byte_of x k
lifted_byte (Byte base words byte) x k h small = raised_byte x k h small
lifted_byte (Turned base words by) x k h small = turned_byte x k h small
lifted_byte (Far base bytes) x k h small = turned_byte x k h small

lifted_half : (place : Place) (x k : ℕ) → x < 2 ^ 32 → k < 4 → k % 2 ≡ 0 → lifted place x k / 2 ^ 16 ≡ half_of x k
lifted_half (Byte base words byte) x k h small even = raised_half x k h small even
lifted_half (Turned base words by) x k h small even = turned_half x k h small even
lifted_half (Far base bytes) x k h small even = turned_half x k h small even

-- ---- and down

-- what comes down of a part at the top
abbrev ComesDown : Bool → ℕ → ℕ → ℕ → Type 0
ComesDown signed count y z = y < 2 ^ 32 → shifted_by (down signed) y (count % 32) ≡ z

part_gives : (place : Place) (w rd x k count z : ℕ) (signed : Bool) (bus : Bus) (s t : Core) → Takes place w rd → BeginsAt place k s
    → Gives w (Number x) s t → ComesDown signed count (lifted place x k) z
    → Gives rd (Number z) s (ran bus (shifted (down signed) rd w count) (ran bus (at_top (part_of place) w) t))
part_gives place w rd x k count z signed bus s t h b g c =
    let u = ran bus (at_top (part_of place) w) t in
    let l = lifted_gives place w rd x k bus s t h b g in
    over w rd (lifted place x k) z s u _ (takes_either place w rd h) l
    (gives_as rd _ z u _
    (λ ne. let e = l.given (takes_some place w rd h ne) in
    ap (λ y. shifted_by (down signed) y (count % 32)) e ∙ c (subst (λ y. y < 2 ^ 32) e (l.words w)))
    (shift_gives (down signed) rd w count bus u l.words))

-- the lines of a load of a part leave what comes down
part_leaves : (first : Option ℕ) (place : Place) (rd address count z : ℕ) (signed : Bool) (l : Layout) (a : State) (v : Value) (bus : Bus) (s : Core)
    → Access bus first place address l a s → rd ≢ 1 → ComesDown signed count (lifted place (s.mem (address / 4)) (address % 4)) z
    → ShowsValue v z
    → Leaves rd v (part_loaded first place rd signed count).first s (ran_lines bus (part_loaded first place rd signed count).lines s)
part_leaves first place rd address count z signed l a v bus s x ne c shown =
    let p = part_of place in
    let w = part_register p rd in
    let g = place_reached first place bus s x.words x.known x.reachable in
    let t = ran_lines bus (reached first place).lines s in
    let f = fetched bus place (reached first place).first w address l a s t x.keeps x.shown x.at (in_data l address x.within) g in
    let there = located (reg s.regs) place address x.at (in_data l address x.within) in
    let b = begins place (reached first place).first (address % 4) s t x.reachable g there.1.0 in
    let h = part_gives place w rd (s.mem (address / 4)) (address % 4) count z signed bus t _ (takes place rd x.reachable) b f c in
    let code = reached_then first place (lines (word_load place w ∷ []) ++ (lines (at_top p w) ++ lines (shifted (down signed) rd w count))) bus s
    ∙ ran_three bus (word_load place w ∷ []) (at_top p w) (shifted (down signed) rd w count) t in
    subst (Leaves rd v (reached first place).first s) (sym code)
    (after_reached place (reached first place).first rd v s t _ ne g (gives_shown rd v z t _ shown h))

-- ---- what the semantics loads

byte_loaded : (signed : Bool) (word v : Value) (r : Result Bytes Why) (w k : ℕ) → k < 4 → bytes_of word ≡ r
    → and_then r (λ b. Ok (byte_value signed (meaning.byte_at b k))) ≡ Ok v → ShowsData word w → ShowsValue v (extended signed 8 (byte_of w k))
byte_loaded signed word v (Ok b) w k small e q h =
    let is : byte_value signed (meaning.byte_at b k) ≡ v = cc in
    subst (λ i. ShowsValue i (extended signed 8 (byte_of w k))) is
    (byte_value_shown signed (meaning.byte_at b k) (byte_of w k) (byte_shown b w k small (bytes_shown word b w e h)))
byte_loaded signed word v (Err why) w k small e q h = absurd (cc)

half_loaded : (signed : Bool) (word v : Value) (r : Result Bytes Why) (w k : ℕ) → w < 2 ^ 32 → k < 4 → k % 2 ≡ 0 → bytes_of word ≡ r
    → and_then r (λ b. Ok (half_at signed b k)) ≡ Ok v → ShowsData word w → ShowsValue v (extended signed 16 (half_of w k))
half_loaded signed word v (Ok b) w k fits small even e q h =
    let is : half_at signed b k ≡ v = cc in
    subst (λ i. ShowsValue i (extended signed 16 (half_of w k))) is (half_shown signed b w k fits small even (bytes_shown word b w e h))
half_loaded signed word v (Err why) w k fits small even e q h = absurd (cc)

pub aligned_from : (t : Bool) (r : Result Value Why) (v : Value) → if_aligned t r ≡ Ok v → (t ≡ true) × (r ≡ Ok v)
aligned_from true r v e = (refl, e)
aligned_from false r v e = absurd (cc)

pub even_from : (k : ℕ) → (k % 2 == 0) ≡ true → k % 2 ≡ 0
even_from k e = grind (arith, nat_tests)

pub quarter_rest : (address : ℕ) → address % 4 < 4
quarter_rest address = omega arith

pub byte_load_leaves : (first : Option ℕ) (place : Place) (rd address : ℕ) (signed : Bool) (l : Layout) (a : State) (old v : Value) (bus : Bus) (s : Core)
    → Access bus first place address l a s → rd ≢ 1 → loaded (width.Byte signed) (address % 4) (memory_word a address) old ≡ Ok v
    → Leaves rd v (part_loaded first place rd signed 24).first s (ran_lines bus (part_loaded first place rd signed 24).lines s)
byte_load_leaves first place rd address signed l a old v bus s x ne e =
    let k = address % 4 in
    let w = s.mem (address / 4) in
    let within = (located (reg s.regs) place address x.at (in_data l address x.within)).1.1 in
    part_leaves first place rd address 24 (extended signed 8 (byte_of w k)) signed l a v bus s x ne
    (λ h. byte_down signed (lifted place w k) h
    ∙ ap (extended signed 8) (lifted_byte place w k (x.shown.words (address / 4) within) (quarter_rest address)))
    (byte_loaded signed (memory_word a address) v _ w k (quarter_rest address) refl e (x.shown.shown address x.within))

pub half_load_leaves : (first : Option ℕ) (place : Place) (rd address : ℕ) (signed : Bool) (l : Layout) (a : State) (old v : Value) (bus : Bus) (s : Core)
    → Access bus first place address l a s → rd ≢ 1 → loaded (width.Half signed) (address % 4) (memory_word a address) old ≡ Ok v
    → Leaves rd v (part_loaded first place rd signed 16).first s (ran_lines bus (part_loaded first place rd signed 16).lines s)
half_load_leaves first place rd address signed l a old v bus s x ne e =
    let k = address % 4 in
    let w = s.mem (address / 4) in
    let within = (located (reg s.regs) place address x.at (in_data l address x.within)).1.1 in
    let fits = x.shown.words (address / 4) within in
    let split = aligned_from (k % 2 == 0) _ v e in
    let even = even_from k split.0 in
    part_leaves first place rd address 16 (extended signed 16 (half_of w k)) signed l a v bus s x ne
    (λ h. half_down signed (lifted place w k) h
    ∙ ap (extended signed 16) (lifted_half place w k fits (quarter_rest address) even))
    (half_loaded signed (memory_word a address) v _ w k fits (quarter_rest address) even refl split.1 (x.shown.shown address x.within))
