-- What a reply does to an output.
use Rattle.std.specs.Prelude.{◌≤◌, ℕ, List, Option, Result, length}
use Rattle.fsm_io.specs.Buffers.{most_gathered}
use Rattle.fsm_io.specs.Sinks.{Gathers}

-- a reply that is lawful was gathered for the output, or a front of it written where it failed; and no more is gathered than may be
pub record Sends {T E : Type 0} (R : List ℕ → Type 0) (held0 held : Option (List ℕ)) (gathered after : List ℕ) (result : Result T E) : Type 0 where
  pub reply : List ℕ
  pub lawful : R reply
  pub sent : Gathers held0 held gathered reply after result
  pub few : length after ≤ most_gathered
