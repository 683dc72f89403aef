-- How many words of a target another linker may copy into the slots of a transfer, and what is then copied.
use Rattle.std.specs.Prelude.{◌≡◌, ℕ, ◌+◌, Bool, cond, eqb, ltb, not, ◌&&◌, Option, Some, None, Result, Ok, Err}
use Rattle.std.specs.Option.{is_none}
use Rattle.mx_squash.specs.declared.choosing.CopyRule.{CopyRule}
use Rattle.mx_squash.specs.declared.choosing.CopyRule.TheVariants.{Target, Room, Front, Reach, Load}
use Rattle.mx_squash.specs.declared.copying.Copied.{Copied}
use Rattle.mx_squash.specs.Copies.{Site, room, copyable, is_branch_end, reaches, is_fed, no_copies, copied_words}

-- the branch does not reach its target, moved on by so many copies
abbrev pub is_far : ℕ → Site → Site → Bool
is_far n site goal = is_branch_end site.block.end && not (reaches (site.start + site.plan.place) (goal.start + n))

-- the first rule that forbids to copy so many words, of which there are some, from a target
abbrev pub target_fault : ℕ → Site → Site → Option CopyRule
target_fault n site goal =
    cond (ltb (room site.block site.plan) n) (Some Room)
    (cond (ltb (copyable goal.plan) n) (Some Front)
    (cond (is_far n site goal) (Some Reach)
    (cond (is_fed site goal) (Some Load) None)))

-- the first rule that forbids to copy so many words, if there is a target; no rule forbids to copy none
abbrev pub copy_fault : ℕ → Site → Option Site → Option CopyRule
copy_fault n site None = cond (eqb n 0) None (Some Target)
copy_fault n site (Some goal) = cond (eqb n 0) None (target_fault n site goal)

-- the copies of so many words from a target, if there is one
abbrev pub copies_of : ℕ → Site → Option Site → Copied
copies_of n site None = no_copies
copies_of n site (Some goal) = copied_words n site.block site.plan goal.plan

-- what a linker may copy to the slots of a site whose transfer goes to this target: so many words that no rule forbids it
abbrev pub IsCopied : Site → Option Site → Copied → Type 0
IsCopied site goal c = (n : ℕ) × (copy_fault n site goal ≡ None) × (c ≡ copies_of n site goal)

-- the copies of so many words, or the first rule that forbids so many
abbrev pub unless_forbidden : Option CopyRule → Copied → Result Copied CopyRule
unless_forbidden None c = Ok c
unless_forbidden (Some rule) c = Err rule

abbrev pub copies_asked : ℕ → Site → Option Site → Result Copied CopyRule
copies_asked n site goal = unless_forbidden (copy_fault n site goal) (copies_of n site goal)

-- the copies of so many words, or of none where a rule forbids so many
abbrev pub copies_wanted : ℕ → Site → Option Site → Copied
copies_wanted n site goal = copies_of (cond (is_none (copy_fault n site goal)) n 0) site goal
