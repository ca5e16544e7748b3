-- What a read into an empty buffer does.
use Rattle.std.specs.Prelude.{◌≡◌, ℕ, ◌≤◌, List, [], length, Option, Result, IfOk, OnErr}
use Rattle.std.specs.Io.KnownBytes.{Consumes, IsAtEnd}

-- these bytes were taken from the source, some but at its end, and no more than allowed
pub record Refills {E : Type 0} (left0 left : Option (List ℕ)) (most : ℕ) (held : List ℕ) (result : Result ℕ E) : Type 0 where
  pub consumed : Consumes left0 left held
  pub count : IfOk result (λ n. (n ≡ length held) × (n ≤ most) × (n ≡ 0 → IsAtEnd left))
  pub nothing : OnErr result (held ≡ [])
