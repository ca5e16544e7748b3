-- The networks of all definitions of a project, ready for look-ups.
use Rattle.std.specs.Prelude.{◌≡◌, ◌<◌, ℕ, List, Option, Some, length, map, slice_get}
use Rattle.std.specs.Arc.{arc_value}
use Rattle.lookup.specs.Nets.{NetRelates, NetView}
use Rattle.fsm_base.specs.Alphabet.{symbols_of}
use Rattle.fsm_base.specs.declared.letters.Sym.{Sym}
use Rattle.lookup.specs.Answering.{IsOverAlphabet}
use Rattle.network_algebra.specs.Networks.{IsNetwork, PairsOf}
use Rattle.network_algebra.specs.declared.network.Network.{Network}
use Rattle.project_meaning.specs.Projects.{names_of}
use Rattle.project_sources.specs.Sources.{Said, project_in}
use Rattle.project_store.specs.Building.{IsThere}
use Rattle.project_store.specs.Centres.{AreFree}
use Rattle.project_store.specs.Loaded.{IsLoadedFrom, LoadedView}
use Rattle.project_store.specs.Networks.{ShowsName}
use Rattle.project_versions.specs.declared.networks.Built.{Built}
use Rattle.word_relations.specs.Relations.{AreSame}

-- the automaton of a network
abbrev pub net_in : Built → NetView
net_in built = (arc_value built.compiled).net

-- the networks stand at the places of their definitions, and each definition has its own
pub record AreAllBuilt (loaded : LoadedView) (built : List (Option Network)) : Type 0 where
  pub are : AreFree loaded built
  pub all : (place : ℕ) → place < length loaded.definitions → IsThere built place

-- the automaton relates what the network does, over each alphabet that the network is over
pub record IsReady (n : Network) (net : NetView) : Type 0 where
  pub relation : AreSame (NetRelates net) (PairsOf n)
  pub over : (alphabet : List (Sym × List ℕ)) → IsNetwork (symbols_of alphabet) n → IsOverAlphabet alphabet net

-- it is the same network with the same automaton
pub record IsSame (one other : Built) : Type 0 where
  pub network : other.network ≡ one.network
  pub net : net_in other ≡ net_in one

-- it is the network at a place, with its automaton
pub record IsReadyAt (built : List (Option Network)) (place : ℕ) (b : Built) : Type 0 where
  pub there : slice_get built place ≡ Some (Some b.network)
  pub ready : IsReady b.network (net_in b)

-- those that are kept are networks of their places, with their automata
abbrev pub AreKeptIn : List (Option Built) → List (Option Network) → Type 0
AreKeptIn kept built = (place : ℕ) (b : Built) → slice_get kept place ≡ Some (Some b) → IsReadyAt built place b

-- where one is kept at a place, this has its automaton
abbrev pub IsKeptBy : List (Option Built) → ℕ → Built → Type 0
IsKeptBy kept place b = (one : Built) → slice_get kept place ≡ Some (Some one) → net_in b ≡ net_in one

-- the networks by themselves
abbrev pub all_in : List Built → List (Option Network)
all_in networks = map (λ b. Some b.network) networks

-- each definition has its network at its place, and neither has nor reaches an empty centre
pub record AreReady (loaded : LoadedView) (networks : List Built) : Type 0 where
  pub free : AreFree loaded (all_in networks)
  pub each : (place : ℕ) (b : Built) → slice_get networks place ≡ Some b → IsReady b.network (net_in b)

-- each definition has its automaton at its place: over the alphabet of the project, and with the meaning of the definition's name
pub record AreNetworks (loaded : LoadedView) (nets : List NetView) : Type 0 where
  pub count : length nets ≡ length loaded.definitions
  pub over : (place : ℕ) (net : NetView) → slice_get nets place ≡ Some net → IsOverAlphabet loaded.alphabet net
  pub shows : (said : Said) → IsLoadedFrom said loaded → (place : ℕ) (name : List ℕ) (net : NetView) → slice_get (names_of said.written) place ≡ Some name → slice_get nets place ≡ Some net
      → ShowsName loaded.alphabet name net (project_in said)
