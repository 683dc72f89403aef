-- Copies that no rule forbids, and that each way of filling slots gives such copies.
use Rattle.std.proofs.Common.{◌≡◌, ℕ, ◌+◌, ◌≤◌, Bool, true, false, cond, eqb, ltb, not, Option, Some, None, Ok, Err, List, refl, sym, ap, ◌∙◌, inl, inr, ⊎_elim, arith}
use Rattle.std.specs.Prelude.{◌&&◌, ◌||◌, ◌⊎◌, min, slice_index_or}
use Rattle.std.specs.Option.{is_none}
use Rattle.std.proofs.lemmas.Bool.{false≢true}
use Rattle.std.proofs.lemmas.Bool.Decides.{nat_tests}
use Rattle.std.proofs.lemmas.Option.{none-some}
use Rattle.mx_squash.specs.declared.Copied.{Copied}
use Rattle.mx_squash.specs.declared.CopyRule.{CopyRule}
use Rattle.mx_squash.specs.declared.CopyRule.TheVariants.{Room, Front, Reach, Load}
use Rattle.mx_squash.specs.Copies.{Site, site_of, is_target, copyable, is_too_far, is_fed, is_branch_end, most, room, count, reaches, no_copies, copied}
use Rattle.mx_squash.specs.Chosen.{is_far, copy_fault, copies_of, copies_wanted, copies_asked, unless_forbidden, IsCopied}
use Rattle.mx_link.specs.declared.code.Slots.{Slots}
use Rattle.mx_link.specs.declared.code.Slots.TheVariants.{FromTarget, Kept, Wanted, Chosen}
use Rattle.mx_link.specs.Origins.{copies_chosen}
use Rattle.mx_link.specs.Parts.{filling_of}

-- so many words fit into the slots and may be copied, and the transfer reaches what is after them
pub record MayMove (n : ℕ) (s g : Site) : Type 0 where
  pub fits : n ≤ room s.block s.plan
  pub front : n ≤ copyable g.plan
  pub near : is_branch_end s.block.end ≡ true → reaches (s.start + s.plan.place) (g.start + n) ≡ true

pub fault_cases : (n : ℕ) (s g : Site) → copy_fault n s (Some g) ≡ None → (n ≡ 0) ⊎ MayMove n s g
fault_cases n s g =
    by_tests (eqb n 0) (ltb (room s.block s.plan) n) (ltb (copyable g.plan) n) (is_far n s g) (is_fed s g) refl refl refl refl
  where
    none : (m : ℕ) → eqb m 0 ≡ true → m ≡ 0
    none m e = grind (arith, nat_tests)

    fitting : (m k : ℕ) → ltb m k ≡ false → k ≤ m
    fitting m k e = grind (arith, nat_tests)

    near_enough : (b r : Bool) → (b && not r) ≡ false → b ≡ true → r ≡ true
    near_enough b r f t = grind arith

    by_tests :
        (a b c d e : Bool) → eqb n 0 ≡ a → ltb (room s.block s.plan) n ≡ b → ltb (copyable g.plan) n ≡ c → is_far n s g ≡ d
        → cond a None (cond b (Some Room) (cond c (Some Front) (cond d (Some Reach) (cond e (Some Load) None)))) ≡ None
        → (n ≡ 0) ⊎ MayMove n s g
    by_tests true b c d e f i j k h = inl (none n f)
    by_tests false true c d e f i j k h = absurd (none-some Room (sym h))
    by_tests false false true d e f i j k h = absurd (none-some Front (sym h))
    by_tests false false false true e f i j k h = absurd (none-some Reach (sym h))
    by_tests false false false false e f i j k h =
        inr (record {
          fits = fitting (room s.block s.plan) n i;
          front = fitting (copyable g.plan) n j;
          near = near_enough (is_branch_end s.block.end) (reaches (s.start + s.plan.place) (g.start + n)) k;
        })

-- what no rule forbids fits, and may be copied
pub fault_small : (n : ℕ) (s g : Site) → copy_fault n s (Some g) ≡ None → (n ≤ room s.block s.plan) × (n ≤ copyable g.plan)
fault_small n s g h = ⊎_elim (λ none. (omega arith, omega arith)) (λ moves. (moves.fits, moves.front)) (fault_cases n s g h)

none_forbidden : (s : Site) (o : Option Site) → copy_fault 0 s o ≡ None
none_forbidden s None = refl
none_forbidden s (Some g) = refl

pub none_copied : (s : Site) (o : Option Site) → copies_of 0 s o ≡ no_copies
none_copied s None = refl
none_copied s (Some g) = refl

-- no rule forbids what a linker copies that takes as many words as it can
pub count_allowed : (s g : Site) → copy_fault (count s g) s (Some g) ≡ None
count_allowed s g = by_tests (is_too_far s g) (is_fed s g) refl refl
  where
    within : (m n k : ℕ) → k ≡ min m n → (ltb m k ≡ false) × (ltb n k ≡ false)
    within m n k e = (grind (arith, nat_tests), grind (arith, nat_tests))

    all_false :
        (a b c d e : Bool) → b ≡ false → c ≡ false → d ≡ false → e ≡ false
        → cond a None (cond b (Some Room) (cond c (Some Front) (cond d (Some Reach) (cond e (Some Load) None)))) ≡ None
    all_false true b c d e f i j k = refl
    all_false false false false false false f i j k = refl
    all_false false true c d e f i j k = absurd (false≢true (sym f))
    all_false false false true d e f i j k = absurd (false≢true (sym i))
    all_false false false false true e f i j k = absurd (false≢true (sym j))
    all_false false false false false true f i j k = absurd (false≢true (sym k))

    by_tests : (a b : Bool) → is_too_far s g ≡ a → is_fed s g ≡ b → copy_fault (count s g) s (Some g) ≡ None
    by_tests true b f h = ap (λ n. copy_fault n s (Some g)) (ap (λ t. cond (t || is_fed s g) 0 (most s g)) f)
    by_tests false true f h = ap (λ n. copy_fault n s (Some g))
        (ap (λ t. cond (t || is_fed s g) 0 (most s g)) f ∙ ap (λ t. cond t 0 (most s g)) h)
    by_tests false false f h =
        let all : count s g ≡ most s g = ap (λ t. cond (t || is_fed s g) 0 (most s g)) f ∙ ap (λ t. cond t 0 (most s g)) h in
        let low = within (room s.block s.plan) (copyable g.plan) (most s g) refl in
        ap (λ n. copy_fault n s (Some g)) all
        ∙ all_false (eqb (most s g) 0) (ltb (room s.block s.plan) (most s g)) (ltb (copyable g.plan) (most s g)) (is_far (most s g) s g) (is_fed s g)
        low.0 low.1 f h

copied_allowed : (s : Site) (o : Option Site) → IsCopied s o (copied s o)
copied_allowed s None = (0, refl, refl)
copied_allowed s (Some g) = (count s g, count_allowed s g, refl)

pub wanted_allowed : (n : ℕ) (s : Site) (o : Option Site) → IsCopied s o (copies_wanted n s o)
wanted_allowed n s o = by_fault (copy_fault n s o) refl
  where
    by_fault : (f : Option CopyRule) → copy_fault n s o ≡ f → IsCopied s o (copies_wanted n s o)
    by_fault None e = (n, e, ap (λ (x : Option CopyRule). copies_of (cond (is_none x) n 0) s o) e)
    by_fault (Some rule) e = (0, none_forbidden s o, ap (λ (x : Option CopyRule). copies_of (cond (is_none x) n 0) s o) e)

pub chosen_allowed : (choice : Option ℕ) (s : Site) (o : Option Site) → IsCopied s o (copies_chosen choice s o)
chosen_allowed None s o = copied_allowed s o
chosen_allowed (Some n) s o = wanted_allowed n s o

-- each way of filling slots copies what no rule forbids
pub slots_allowed :
    (slots : Slots) (all : List Site) (s : Site) → IsCopied s (site_of (is_target s.block.end) all) (filling_of slots all s)
slots_allowed FromTarget all s = copied_allowed s (site_of (is_target s.block.end) all)
slots_allowed Kept all s =
    let o = site_of (is_target s.block.end) all in
    (0, none_forbidden s o, sym (none_copied s o))
slots_allowed (Wanted counts) all s = wanted_allowed (slice_index_or counts.now s.block.first 0) s (site_of (is_target s.block.end) all)
slots_allowed (Chosen choices) all s = chosen_allowed (slice_index_or choices.now s.block.first None) s (site_of (is_target s.block.end) all)

-- what was asked for is what is wanted, and nothing where it was refused
pub asked_wanted : (n : ℕ) (s : Site) (o : Option Site) (c : Copied) → Ok c ≡ copies_asked n s o → c ≡ copies_wanted n s o
asked_wanted n s o c = by_fault (copy_fault n s o)
  where
    by_fault : (f : Option CopyRule) → Ok c ≡ unless_forbidden f (copies_of n s o) → c ≡ copies_of (cond (is_none f) n 0) s o
    by_fault None e = cc
    by_fault (Some rule) e = absurd (cc)

pub refused_wanted : (n : ℕ) (s : Site) (o : Option Site) (rule : CopyRule) → Err rule ≡ copies_asked n s o → no_copies ≡ copies_wanted n s o
refused_wanted n s o rule = by_fault (copy_fault n s o)
  where
    by_fault : (f : Option CopyRule) → Err rule ≡ unless_forbidden f (copies_of n s o) → no_copies ≡ copies_of (cond (is_none f) n 0) s o
    by_fault None e = absurd (cc)
    by_fault (Some r) e = sym (none_copied s o)
