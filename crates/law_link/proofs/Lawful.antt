-- Lawful copies: no load feeds them (`no_load`), and four fillings make no others.
use Rattle.std.proofs.Common.{◌≡◌, ℕ, ◌≤◌, Bool, true, false, cond, eqb, ltb, List, Option, Some, None, refl, sym, ◌∙◌, arith}
use Rattle.std.specs.Prelude.{slice_index_or}
use Rattle.std.proofs.lemmas.Bool.{cond-false}
use Rattle.std.proofs.lemmas.Bool.Decides.{nat_tests}
use Rattle.mx_squash.specs.declared.choosing.CopyRule.TheVariants.{Room, Front, Reach, Load}
use Rattle.mx_squash.specs.Copies.{Site, site_of, is_target, room, copyable, is_fed, count, no_copies, copied}
use Rattle.mx_squash.specs.Chosen.{is_far, target_fault, copy_fault, IsCopied}
use Rattle.mx_link.specs.Origins.{from_target, from_nowhere, as_wanted, as_chosen}
use Rattle.mx_link.proofs.Chosen.{count_allowed, wanted_allowed, chosen_allowed}
use Rattle.law_link.specs.Runs.{IsFilling}

-- the word that is copied behind a load does not read its register
pub no_load : (n : ℕ) (s g : Site) → 1 ≤ n → copy_fault n s (Some g) ≡ None → is_fed s g ≡ false
no_load n s g some e =
    by_tests (ltb (room s.block s.plan) n) (ltb (copyable g.plan) n) (is_far n s g) (is_fed s g)
    (sym (cond-false (eqb n 0) None (target_fault n s g) (grind (arith, nat_tests))) ∙ e)
  where
    by_tests : (a b c d : Bool) → cond a (Some Room) (cond b (Some Front) (cond c (Some Reach) (cond d (Some Load) None))) ≡ None → d ≡ false
    by_tests true b c d e = absurd (cc)
    by_tests false true c d e = absurd (cc)
    by_tests false false true d e = absurd (cc)
    by_tests false false false true e = absurd (cc)
    by_tests false false false false e = refl

copied_lawful : (s : Site) (o : Option Site) → IsCopied s o (copied s o)
copied_lawful s None = (0, refl, refl)
copied_lawful s (Some g) = (count s g, count_allowed s g, refl)

nothing_lawful : (s : Site) (o : Option Site) → IsCopied s o no_copies
nothing_lawful s None = (0, refl, refl)
nothing_lawful s (Some g) = (0, refl, refl)

pub from_target_lawful : IsFilling from_target
from_target_lawful sites s = copied_lawful s (site_of (is_target s.block.end) sites)

pub from_nowhere_lawful : IsFilling from_nowhere
from_nowhere_lawful sites s = nothing_lawful s (site_of (is_target s.block.end) sites)

pub as_wanted_lawful : (counts : List ℕ) → IsFilling (as_wanted counts)
as_wanted_lawful counts sites s = wanted_allowed (slice_index_or counts s.block.first 0) s (site_of (is_target s.block.end) sites)

pub as_chosen_lawful : (choices : List (Option ℕ)) → IsFilling (as_chosen choices)
as_chosen_lawful choices sites s =
    chosen_allowed (slice_index_or choices s.block.first None) s (site_of (is_target s.block.end) sites)
