-- The laws of linked code, from those on whole runs: the watched machine is the machine with delay slots (`watched_at`), its run begins
-- as that machine starts (`begins_so`), and so what whole runs show of the meaning linked code shows (`shows_so`).
use Rattle.std.proofs.Common.{◌≡◌, ℕ, zero, suc, ◌+◌, ◌*◌, ◌-◌, ◌<◌, ◌≤◌, Bool, true, false, cond, leb, ◌&&◌, List, [], ◌∷◌, length, map, Option, refl, sym, ap, ◌∙◌, subst, arith, ⊎_elim, inl, inr, ltb}
use Rattle.std.specs.Prelude.{slice_index, slice_index_or}
use Rattle.std.proofs.lemmas.Bool.{cases_lt, false≢true}
use Rattle.std.proofs.lemmas.Bool.Decides.{nat_tests}
use Rattle.mx_isa.specs.declared.place.Place.{Place}
use Rattle.mx_isa.specs.Effect.{Core}
use Rattle.mx_isa.proofs.Frame.{same_words}
use Rattle.mx_delay.specs.Delay.{data_from, Delay}
use Rattle.mx_delay.specs.Clean.{Watched, watch_start, watch_for}
use Rattle.mx_source.specs.declared.statement.Value.{Value}
use Rattle.mx_source.specs.declared.statement.Value.TheVariants.{Int}
use Rattle.mx_source.specs.SourceValue.{SourceValue}
use Rattle.mx_source.specs.Meaning.{Mark, Going, Halted, Stuck, Run, start, start_words, given}
use Rattle.mx_blocks.specs.Leaders.{is_leader, size, BlocksFrom}
use Rattle.mx_squash.specs.Copies.{Site}
use Rattle.mx_layout.specs.Layout.{link_of, plan_size, blocks_in, has_statement}
use Rattle.mx_validate.specs.Padded.{insts_of, items_of}
use Rattle.mx_layout.proofs.Links.{link_within}
use Rattle.mx_link.specs.Origins.{Filling, from_nowhere}
use Rattle.mx_link.specs.Words.{value_word}
use Rattle.mx_delay.proofs.Watched.{watched_at}
use Rattle.mx_delay.specs.Prefixes.{IsPrefix}
use Rattle.law_link.specs.Runs.{Linking, IsLinking, code_in, inside, data_in, linked_run, RunsClean}
use Rattle.law_link.specs.Laws.{meant, IsSafe, LinkedCodeIsClean, Shows, HaltsSoon, LinkedCodeHalts, HaltedBefore, LinkedCodeHaltsOnly, LinkedCodeSends, block_words, planned_words, IsBlockStart, StartsBlock, LinkedBlocksStart, LaterBlocksStartLater, ComesFrom, FetchesStartBlocks}
use Rattle.law_link.proofs.Saying.{Prefix, is_going}
use Rattle.law_link.proofs.Matching.{core_of}
use Rattle.law_link.proofs.Codes.{registers_lead}
use Rattle.law_link.proofs.OneBlock.{IsAt}
use Rattle.law_link.proofs.Layouts.{setting}
use Rattle.law_link.proofs.Placing.{placed}
use Rattle.law_link.proofs.Whole.{Placed, Begun, D, from, M_stays, runs_clean, halts_soon as soon_halted, halted_back, sent_soon, sum_of_plans}
use Rattle.law_link.proofs.Starts.{FetchesLeader, block_starts, sum_grows, some_words, block_at_fetch}
use Rattle.law_link.proofs.Setting.{Known, Setting}

-- the first block stands at the beginning
first_link : (source : SourceValue) (j at : ℕ) (sites : List Site) → BlocksFrom source 0 j (blocks_in sites) → link_of at sites 0 ≡ at
first_link source j at [] h = refl
first_link source j at (s ∷ sites) h =
    let first = h.0 in
    let some = h.1.some in
    ap (λ c. cond c at (link_of (at + plan_size s.plan) sites 0)) (in_first (omega arith))
  where
    in_first : (s.block.first ≤ 0) × (0 < s.block.first + size s.block) → has_statement 0 s.block ≡ true
    in_first l = let a = l.0 in let b = l.1 in grind (arith, nat_tests)

-- links grow with statements
link_grows :
    (source : SourceValue) (i j at : ℕ) (sites : List Site) (t u : ℕ) → BlocksFrom source i j (blocks_in sites) → i ≤ t → t ≤ u
    → link_of at sites t ≤ link_of at sites u
link_grows source i j at [] t u h l m = omega arith
link_grows source i j at (s ∷ sites) t u h l m = ⊎_elim
    (λ (q : t < s.block.first + size s.block).
    let first = h.0 in
    let here : link_of at (s ∷ sites) t ≡ at = ap (λ c. cond c at (link_of (at + plan_size s.plan) sites t))
    (has t s.block.first (s.block.first + size s.block) (omega arith) q) in
    let w = (link_within at (s ∷ sites) u).0 in
    omega arith)
    (λ (q : s.block.first + size s.block ≤ t).
    let first = h.0 in
    let at_t : link_of at (s ∷ sites) t ≡ link_of (at + plan_size s.plan) sites t =
    ap (λ c. cond c at (link_of (at + plan_size s.plan) sites t)) (has_not t s.block.first (s.block.first + size s.block) q) in
    let at_u : link_of at (s ∷ sites) u ≡ link_of (at + plan_size s.plan) sites u =
    ap (λ c. cond c at (link_of (at + plan_size s.plan) sites u)) (has_not u s.block.first (s.block.first + size s.block) (omega arith)) in
    let more = link_grows source (i + size s.block) j (at + plan_size s.plan) sites t u h.2 (omega arith) m in
    omega arith)
    (cases_lt t (s.block.first + size s.block))
  where
    has : (x a b : ℕ) → a ≤ x → x < b → (leb a x && ltb x b) ≡ true
    has x a b p q = grind (arith, nat_tests)

    has_not : (x a b : ℕ) → b ≤ x → (leb a x && ltb x b) ≡ false
    has_not x a b p = grind (arith, nat_tests)

-- data words with places of code as their addresses
words_linked :
    (link : ℕ → ℕ) (words : List Value) (k : ℕ) → slice_index (map (value_word link) words) k ≡ value_word link (slice_index_or words k (Int 0))
words_linked link [] k = refl
words_linked link (v ∷ words) zero = refl
words_linked link (v ∷ words) (suc k) = words_linked link words k

data_linked :
    (link : ℕ → ℕ) (place : Place) (words : List Value) → data_from place.user_data (map (value_word link) words)
    ≡ (λ a. value_word link (start_words place words a))
data_linked link place words = same_words _ _ (λ a. by_test (leb place.user_data a) a)
  where
    by_test :
        (b : Bool) (a : ℕ) → cond b (slice_index (map (value_word link) words) (a - place.user_data)) 0
        ≡ value_word link (cond b (slice_index_or words (a - place.user_data) (Int 0)) (Int 0))
    by_test true a = words_linked link words (a - place.user_data)
    by_test false a = refl

is_prefix : (xs ys : List ℕ) → Prefix xs ys → IsPrefix xs ys
is_prefix xs ys h = record { rest = h.0; whole = h.1 }

-- linked code with what is known of it
abbrev pub known_of : (l : Linking) → IsLinking l → Known
known_of l h = record { linking = l; laid = h.laid; bare = false; fills = λ s. inr (refl, h.filled l.sites s) }

-- without copies
abbrev bare_of : (l : Linking) → IsLinking l → l.filling ≡ from_nowhere → Known
bare_of l h e = record { linking = l; laid = h.laid; bare = true; fills = λ s. inl (ap (λ (f : Filling). f l.sites s) e) }

module _ (known : Known) where
  open known use {linking as l, linking.{source, sites as all}, laid}

  abbrev seen : Setting
  seen = setting known

  open seen use {program as p, link as lk, place_of as places}

  abbrev input : Option (List ℕ)
  input = given source.input l.bytes

  abbrev r0 : Run
  r0 = record { state = start source l.place; console = [] }

  abbrev begun : Begun seen
  begun = record {
    placed = placed known;
    r0 = r0;
    going = refl;
    leads = (inl refl, (let q : 0 ≤ places 0 = omega arith in q));
    codes = λ m n t e. inl (registers_lead source laid.well_formed l.place l.bytes m n t e);
  }

  abbrev blocks : (t : ℕ) → is_leader source t ≡ true → t < length source.statements → Placed seen t
  blocks = placed known

  abbrev Linked : ℕ → Watched
  Linked j = D seen begun j

  -- the run begins as the machine starts
  begins_so : from seen begun r0 ≡ watch_start l.place (data_in l)
  begins_so = λ k. record {
    at = record {
      first = record { address = start_at k; squashed = false };
      second = record { address = start_at k + 1; squashed = false };
      third = record { address = start_at k + 2; squashed = false };
      core = record { regs = λ n. 0; md = 0; mem = sym (data_linked lk l.place source.user_data) k; taken = 0 };
      console = [];
      halted = false;
    };
    clean = true;
    loaded = 0;
  }
    where
      start_at : lk 0 ≡ l.place.code
      start_at = first_link source (length source.statements) l.place.code all laid.layout.blocks

  watched_so : (j : ℕ) → Linked j ≡ watch_for (code_in l) (inside l) l.place input j (watch_start l.place (data_in l))
  watched_so j = ap (watch_for (code_in l) (inside l) l.place input j) begins_so

  pub runs_so : (j : ℕ) → (Linked j).at ≡ linked_run l j
  runs_so j = ap (λ (x : Watched). x.at) (watched_so j) ∙ watched_at (code_in l) (inside l) l.place input j (watch_start l.place (data_in l))

  clean_so : (j : ℕ) → IsSafe l (j + 64) → RunsClean l j × IsPrefix (linked_run l j).console (meant l (j + 64)).console
  clean_so j safe =
      let c = runs_clean seen begun j safe in (
        sym (ap (λ (x : Watched). x.clean) (watched_so j)) ∙ c.clean,
        subst (λ (x : Delay). IsPrefix x.console (meant l (j + 64)).console) (runs_so j)
            (is_prefix (Linked j).at.console (meant l (j + 64)).console c.console),
      )

  abbrev AtNow : Watched → Run → Type 0
  AtNow x r = IsAt seen x r

  shows_by : (j n : ℕ) → (linked_run l j).core ≡ core_of lk (meant l n).state → (linked_run l j).console ≡ (meant l n).console → Shows l j n
  shows_by j n core console = record {
    console = console;
    state = record {
      registers = λ i low high. ap (λ (c : Core). c.regs i) core;
      user_data = λ i user. ap (λ (c : Core). c.mem i) core;
      md = ap (λ (c : Core). c.md) core;
      taken = ap (λ (c : Core). c.taken) core;
    };
  }

  shows_so : (j n : ℕ) → AtNow (Linked j) (meant l n) → Shows l j n
  shows_so j n a = shows_by j n (ap (λ (x : Delay). x.core) (sym (runs_so j)) ∙ a.core) (ap (λ (x : Delay). x.console) (sym (runs_so j)) ∙ a.console)

  halts_so : (n : ℕ) → (meant l n).state.mark ≡ Halted → HaltsSoon l n
  halts_so n e =
      let s = soon_halted seen begun n e in
      record {
        steps = s.e;
        soon = s.soon;
        halted = ap (λ (x : Delay). x.halted) (sym (runs_so s.e)) ∙ s.halted;
        shows = shows_so s.e n s.shown;
      }

  -- before a state that goes on each one does
  going_to : (last m : ℕ) → (meant l last).state.mark ≡ Going → m ≤ last → (meant l m).state.mark ≡ Going
  going_to last m e le = by_mark (meant l m).state.mark refl
    where
      by_mark : (k : Mark) → (meant l m).state.mark ≡ k → (meant l m).state.mark ≡ Going
      by_mark Going q = q
      by_mark Halted q =
          absurd (false≢true (sym (ap is_going q) ∙ sym (ap (λ (r : Run). is_going r.state.mark) (M_stays seen begun m last le (ap is_going q)))
          ∙ ap is_going e))
      by_mark (Stuck why) q =
          absurd (false≢true (sym (ap is_going q) ∙ sym (ap (λ (r : Run). is_going r.state.mark) (M_stays seen begun m last le (ap is_going q)))
          ∙ ap is_going e))

  halted_so : (j : ℕ) → IsSafe l (j + 64) → (linked_run l j).halted ≡ true → HaltedBefore l j
  halted_so j safe e =
      let b = halted_back seen begun j safe (ap (λ (x : Delay). x.halted) (runs_so j) ∙ e) in
      record {
        statements = b.n;
        few = b.few;
        halts = record { halted = b.halted; first = λ m low. going_to b.last m b.goes_before (let i = b.is_n in omega arith) };
        shows = shows_so j b.n b.shown;
      }

  sent_so : (m : ℕ) → IsSafe l (m + 64) → IsPrefix (meant l m).console (linked_run l (3 * (m + 64))).console
  sent_so m safe =
      subst (λ (x : Delay). IsPrefix (meant l m).console x.console) (runs_so (3 * (m + 64)))
      (is_prefix (meant l m).console (Linked (3 * (m + 64))).at.console (sent_soon seen begun m safe))

  -- the words of the plans so far
  abbrev Sum : ℕ → ℕ
  Sum m = sum_of_plans seen begun m

  sums : (m : ℕ) → Sum m ≡ planned_words l m
  sums zero = refl
  sums (suc m) = ap (λ k. k + cond (is_leader l.source (meant l m).state.index) (block_words l (meant l m).state.index) 0) (sums m)

  start_so : ((t : ℕ) → places t ≡ 0) → (m : ℕ) → IsBlockStart l m → StartsBlock l m
  start_so bare m s =
      let b = block_starts seen begun bare m s.going s.leads in
      let at_is : linked_run l (planned_words l m) ≡ (from seen begun (meant l m)).at = ap (linked_run l) (sym (sums m)) ∙ sym (runs_so (Sum m))
      ∙ b.state in
      let sum = sums m in
      record {
        no_fewer = (let q = b.low_sum in omega arith);
        no_more = (let q = b.high_sum in omega arith);
        going = ap (λ (x : Delay). x.halted) at_is;
        first = ap (λ (x : Delay). x.first) at_is;
        second = ap (λ (x : Delay). x.second) at_is;
        third = ap (λ (x : Delay). x.third) at_is;
        shows = shows_by (planned_words l m) m (ap (λ (x : Delay). x.core) at_is) (ap (λ (x : Delay). x.console) at_is);
      }

  later_so : (m n : ℕ) → IsBlockStart l m → IsBlockStart l n → m < n → planned_words l m < planned_words l n
  later_so m n s t less =
      let g = sum_grows seen begun m n s.going s.leads t.going less in
      let a = sums m in
      let b = sums n in
      omega arith

  abbrev PlacedHere : ℕ → Type 0
  PlacedHere = Placed seen

  -- the next leader is behind the block
  behind : (i j : ℕ) (w : PlacedHere i) → i < j → is_leader source j ≡ true → i + length (insts_of w.lay.block) ≤ j
  behind i j w less lead = ⊎_elim
      (λ (q : j < i + length (insts_of w.lay.block)).
      let on : i + (j - i) ≡ j = omega arith in
      absurd (false≢true (sym (w.inner (j - i) (omega arith) (omega arith)) ∙ ap (is_leader source) on ∙ lead)))
      (λ q. q)
      (cases_lt j (i + length (insts_of w.lay.block)))

  no_later : (i j : ℕ) → i ≤ j → lk i ≤ lk j
  no_later i j le = link_grows source 0 (length source.statements) l.place.code all i j laid.layout.blocks (omega arith) le

  only :
      (i j k : ℕ) → is_leader source i ≡ true → i < length source.statements → (w : PlacedHere j) → is_leader source j ≡ true
      → j < length source.statements → k < length (items_of w.lay.plan) → lk i ≡ lk j + k → i ≡ j
  only i j k li hi w lj hj few e = ⊎_elim
      (λ (q : i < j).
      let wi = blocks i li hi in
      let some = some_words seen begun i wi in
      let next = wi.lay.next in
      let above = no_later (i + length (insts_of wi.lay.block)) j (behind i j wi q lj) in
      absurd (omega arith))
      (λ (q : j ≤ i). ⊎_elim
      (λ (x : j < i).
      let next = w.lay.next in
      let above = no_later (j + length (insts_of w.lay.block)) i (behind j i w x li) in
      absurd (omega arith))
      (λ (x : i ≤ j). omega arith)
      (cases_lt j i))
      (cases_lt i j)

  fetch_so :
      ((t : ℕ) → places t ≡ 0) → (d i : ℕ) → IsSafe l (d + 64) → (linked_run l d).halted ≡ false → is_leader source i ≡ true
      → i < length source.statements → (linked_run l d).first.address ≡ lk i → ComesFrom l d i
  fetch_so bare d i safe on lead within here =
      let fetches : FetchesLeader seen begun d i = record {
        none = bare;
        only = only;
        safe = safe;
        on = ap (λ (x : Delay). x.halted) (runs_so d) ∙ on;
        i_leads = lead;
        i_in = within;
        here = ap (λ (x : Delay). x.first.address) (runs_so d) ∙ here;
      } in
      let b = block_at_fetch seen begun d i fetches in
      record {
        statements = b.m;
        start = record { going = b.going; leads = ap (is_leader source) b.index ∙ lead };
        index = b.index;
        steps = b.is_d ∙ sums b.m;
      }

pub is_clean : LinkedCodeIsClean
is_clean l j h safe = clean_so (known_of l h) j safe

pub halts : LinkedCodeHalts
halts l n h e = halts_so (known_of l h) n e.halted

pub halts_only : LinkedCodeHaltsOnly
halts_only l j h safe e = halted_so (known_of l h) j safe e

pub sends : LinkedCodeSends
sends l m h safe = sent_so (known_of l h) m safe

pub blocks_start : LinkedBlocksStart
blocks_start l m h e s = start_so (bare_of l h e) (λ t. refl) m s

pub later : LaterBlocksStartLater
later l m n h s t less = later_so (known_of l h) m n s t less

pub fetches : FetchesStartBlocks
fetches l d i h e safe on lead within here = fetch_so (bare_of l h e) (λ t. refl) d i safe on lead within here
