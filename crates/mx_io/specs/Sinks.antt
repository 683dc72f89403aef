-- What a put does to the bytes of a sink.
use Rattle.std.specs.Prelude.{◌≡◌, ◌++◌, ◌≤◌, ◌<◌, ℕ, List, Result, length, take, IfOk, OnErr}
use Rattle.mx_io.specs.declared.fault.SinkFault.{SinkFault}

-- it takes the first of the bytes, at least one where there are any, and answers how many; or none
pub record IsPut (old new bytes : List ℕ) (result : Result ℕ SinkFault) : Type 0 where
  pub within : IfOk result (λ n. n ≤ length bytes)
  pub moves : IfOk result (λ n. 0 < length bytes → 0 < n)
  pub ok : IfOk result (λ n. new ≡ old ++ take n bytes)
  pub err : OnErr result (new ≡ old)
