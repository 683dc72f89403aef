-- Linked code on the machine with delay slots does what its source means.
use Rattle.std.specs.Prelude.{◌≡◌, ℕ, ◌+◌, ◌*◌, ◌<◌, ◌≤◌, zero, suc, true, false, cond, eqb, List, length, Option, Some, None}
use Rattle.mx_delay.specs.Delay.{queued}
use Rattle.mx_source.specs.Meaning.{Going, Run, meaning, is_stuck, HaltsIn}
use Rattle.mx_blocks.specs.Leaders.{is_leader}
use Rattle.mx_squash.specs.Copies.{Site, site_of}
use Rattle.mx_layout.specs.Layout.{plan_size}
use Rattle.mx_link.specs.Origins.{from_nowhere, as_wanted, as_chosen}
use Rattle.mx_link.specs.Linked.{link_map}
use Rattle.mx_delay.specs.Prefixes.{IsPrefix}
use Rattle.law_link.specs.Runs.{IsFilling, Linking, IsLinking, linked_run, RunsClean}
use Rattle.law_link.specs.Matches.{Matches, block_ahead}

-- copies by wanted counts are lawful, whatever is wanted
abbrev pub AsWantedIsLawful : Type 0
AsWantedIsLawful = (counts : List ℕ) → IsFilling (as_wanted counts)

-- so are chosen copies, whatever is chosen
abbrev pub AsChosenIsLawful : Type 0
AsChosenIsLawful = (choices : List (Option ℕ)) → IsFilling (as_chosen choices)

-- what the source means, after so many statements
abbrev pub meant : Linking → ℕ → Run
meant l m = meaning l.source l.place l.bytes m

-- the number of words of the plan of a site that was found
abbrev pub plan_words : Option Site → ℕ
plan_words None = 0
plan_words (Some s) = plan_size s.plan

-- the number of words of the plan of the block that begins at a statement, 0 where none does
abbrev pub block_words : Linking → ℕ → ℕ
block_words l i = plan_words (site_of (λ b. eqb b.first i) l.sites)

-- the words of the plans of the blocks that began within the first statements, a block as often as it was run
abbrev pub planned_words : Linking → ℕ → ℕ
planned_words l zero = 0
planned_words l (suc m) = planned_words l m + cond (is_leader l.source (meant l m).state.index) (block_words l (meant l m).state.index) 0

-- the meaning is not stuck within so many statements
abbrev pub IsSafe : Linking → ℕ → Type 0
IsSafe l m = is_stuck (meant l m).state.mark ≡ false

-- linked code is clean, and has sent no more than the meaning sends
abbrev pub LinkedCodeIsClean : Type 0
LinkedCodeIsClean =
    (l : Linking) (j : ℕ) → IsLinking l → IsSafe l (j + block_ahead)
    → RunsClean l j × IsPrefix (linked_run l j).console (meant l (j + block_ahead)).console

-- after j steps linked code shows what the meaning shows after n statements
pub record Shows (l : Linking) (j n : ℕ) : Type 0 where
  pub console : (linked_run l j).console ≡ (meant l n).console
  pub state : Matches l.place l.sites (linked_run l j).core (meant l n).state

pub record HaltsSoon (l : Linking) (n : ℕ) : Type 0 where
  pub steps : ℕ
  pub soon : steps ≤ 3 * n
  pub halted : (linked_run l steps).halted ≡ true
  pub shows : Shows l steps n

-- where the meaning halts, linked code halts within three words for each statement, and shows the same
abbrev pub LinkedCodeHalts : Type 0
LinkedCodeHalts = (l : Linking) (n : ℕ) → IsLinking l → HaltsIn l.source l.place l.bytes n → HaltsSoon l n

pub record HaltedBefore (l : Linking) (j : ℕ) : Type 0 where
  pub statements : ℕ
  pub few : statements ≤ j
  pub halts : HaltsIn l.source l.place l.bytes statements
  pub shows : Shows l j statements

-- where linked code has halted, the meaning halts in as few statements, and shows the same
abbrev pub LinkedCodeHaltsOnly : Type 0
LinkedCodeHaltsOnly = (l : Linking) (j : ℕ) → IsLinking l → IsSafe l (j + block_ahead) → (linked_run l j).halted ≡ true → HaltedBefore l j

-- what the meaning has sent, linked code sends within three words for each statement of that and of 64 more
abbrev pub LinkedCodeSends : Type 0
LinkedCodeSends =
    (l : Linking) (m : ℕ) → IsLinking l → IsSafe l (m + block_ahead)
    → IsPrefix (meant l m).console (linked_run l (3 * (m + block_ahead))).console

-- after m statements the meaning goes on at a leader
pub record IsBlockStart (l : Linking) (m : ℕ) : Type 0 where
  pub going : (meant l m).state.mark ≡ Going
  pub leads : is_leader l.source (meant l m).state.index ≡ true

-- there the machine is about to take the first words of the block, and shows what the meaning shows
pub record StartsBlock (l : Linking) (m : ℕ) : Type 0 where
  pub no_fewer : m ≤ planned_words l m
  pub no_more : planned_words l m ≤ 3 * m
  pub going : (linked_run l (planned_words l m)).halted ≡ false
  pub first : (linked_run l (planned_words l m)).first ≡ queued (link_map l.place l.sites (meant l m).state.index)
  pub second : (linked_run l (planned_words l m)).second ≡ queued (link_map l.place l.sites (meant l m).state.index + 1)
  pub third : (linked_run l (planned_words l m)).third ≡ queued (link_map l.place l.sites (meant l m).state.index + 2)
  pub shows : Shows l (planned_words l m) m

-- without copies, linked code comes to a block after the words of the plans of the blocks that began before
abbrev pub LinkedBlocksStart : Type 0
LinkedBlocksStart = (l : Linking) (m : ℕ) → IsLinking l → l.filling ≡ from_nowhere → IsBlockStart l m → StartsBlock l m

-- and later to a later one
abbrev pub LaterBlocksStartLater : Type 0
LaterBlocksStartLater = (l : Linking) (m n : ℕ) → IsLinking l → IsBlockStart l m → IsBlockStart l n → m < n → planned_words l m < planned_words l n

pub record ComesFrom (l : Linking) (d i : ℕ) : Type 0 where
  pub statements : ℕ
  pub start : IsBlockStart l statements
  pub index : (meant l statements).state.index ≡ i
  pub steps : d ≡ planned_words l statements

-- where its first fetch is the address of a leader, it has come to that block so
abbrev pub FetchesStartBlocks : Type 0
FetchesStartBlocks =
    (l : Linking) (d i : ℕ) → IsLinking l → l.filling ≡ from_nowhere → IsSafe l (d + block_ahead) → (linked_run l d).halted ≡ false
    → is_leader l.source i ≡ true → i < length l.source.statements → (linked_run l d).first.address ≡ link_map l.place l.sites i → ComesFrom l d i
