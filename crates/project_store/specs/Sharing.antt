-- Networks that stand for one another, and networks that stay while others are built.
use Rattle.std.specs.Prelude.{◌≡◌, ℕ, List, Option, Some, slice_get}
use Rattle.fsm_base.specs.declared.letters.Sym.{Sym}
use Rattle.network_algebra.specs.Networks.{IsNetwork, PairsOf, kind_of_network}
use Rattle.network_algebra.specs.declared.network.Network.{Network}
use Rattle.word_relations.specs.Relations.{AreSame}

-- the other network has the kind of this one, is over each alphabet that this one is over, and relates the same
pub record IsLike (n other : Network) : Type 0 where
  pub kind : kind_of_network other ≡ kind_of_network n
  pub over : (symbols : List Sym) → IsNetwork symbols n → IsNetwork symbols other
  pub relation : AreSame (PairsOf other) (PairsOf n)

-- each network that is there stays at its place
abbrev pub StayThere : List (Option Network) → List (Option Network) → Type 0
StayThere old new = (place : ℕ) (n : Network) → slice_get old place ≡ Some (Some n) → slice_get new place ≡ Some (Some n)
