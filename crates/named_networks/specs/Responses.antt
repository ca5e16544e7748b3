-- What is written of the networks of names, and whether it is an answer.
use Rattle.std.specs.Prelude.{ℕ, List}
use Rattle.named_networks.specs.declared.told.Told.{Told}
use Rattle.named_networks.specs.declared.told.Told.TheVariants.{Answer, Refusal}

-- the bytes of an answer, or of the line that says why there is none
pub data Response : Type 0 where
  answer : List ℕ → Response
  refusal : List ℕ → Response

abbrev pub response_of : Told → Response
response_of (Answer bytes) = answer bytes.items
response_of (Refusal bytes) = refusal bytes.items
