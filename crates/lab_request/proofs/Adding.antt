-- Files that are added one after the other.
use Rattle.std.proofs.Common.{◌≡◌, ℕ, List, Option, Some, None, ap}
use Rattle.std.specs.Prelude.{if◌then◌else◌}
use Rattle.std.specs.Str.{bytes_eq}
use Rattle.lab_request.specs.Requests.{Held, with_file}

pub over : (at : List ℕ) (given : Option (List ℕ)) (held held' : Held) (n : List ℕ)
    → held n ≡ held' n → with_file at given held n ≡ with_file at given held' n
over at None held held' n same = same
over at (Some bytes) held held' n same = ap (λ h. if bytes_eq at n then Some bytes else h) same

pub put : (n at at' bytes bytes' : List ℕ) (rest rest' : Option (List ℕ)) → at ≡ at' → bytes ≡ bytes' → rest ≡ rest'
    → (if bytes_eq at n then Some bytes else rest) ≡ (if bytes_eq at' n then Some bytes' else rest')
put n at at' bytes bytes' rest rest' a b r = cc
