-- What was asked for, and whether a rule forbids it.
use Rattle.std.proofs.Common.{◌≡◌, ℕ, Option, Some, None, Ok, Err, refl}
use Rattle.mx_squash.specs.declared.Copied.{Copied}
use Rattle.mx_squash.specs.declared.CopyRule.{CopyRule}
use Rattle.mx_squash.specs.Copies.{Site}
use Rattle.mx_squash.specs.Chosen.{copy_fault, copies_of, copies_asked, unless_forbidden}

-- no rule forbids what was given
pub record Granted (n : ℕ) (s : Site) (o : Option Site) (c : Copied) : Type 0 where
  pub allowed : copy_fault n s o ≡ None
  pub is : c ≡ copies_of n s o

pub ok_asked : (n : ℕ) (s : Site) (o : Option Site) (c : Copied) → Ok c ≡ copies_asked n s o → Granted n s o c
ok_asked n s o c = by_fault (copy_fault n s o) refl
  where
    by_fault : (f : Option CopyRule) → copy_fault n s o ≡ f → Ok c ≡ unless_forbidden f (copies_of n s o) → Granted n s o c
    by_fault None e h = record { allowed = e; is = cc }
    by_fault (Some rule) e h = absurd (cc)

pub err_asked : (n : ℕ) (s : Site) (o : Option Site) (rule : CopyRule) → Err rule ≡ copies_asked n s o → copy_fault n s o ≡ Some rule
err_asked n s o rule = by_fault (copy_fault n s o) refl
  where
    by_fault : (f : Option CopyRule) → copy_fault n s o ≡ f → Err rule ≡ unless_forbidden f (copies_of n s o) → copy_fault n s o ≡ Some rule
    by_fault None e h = absurd (cc)
    by_fault (Some other) e h = cc

pub none_asked : (n : ℕ) (s : Site) (o : Option Site) (c : Copied) → Ok c ≡ copies_asked n s o → copy_fault n s o ≡ None
none_asked n s o c e = (ok_asked n s o c e).allowed
