-- The networks of a project's definitions, each built of those of the names in it.
use Rattle.std.specs.Prelude.{◌≡◌, ◌<◌, ◌++◌, ℕ, List, [], ◌∷◌, length, AllPairs, Contains, Option, Some, None, slice_get}
use Rattle.std.specs.List.{flat_map}
use Rattle.fsm_base.specs.Alphabet.{symbols_of}
use Rattle.regex_ast.specs.declared.expr.Atom.{Atom}
use Rattle.regex_ast.specs.declared.expr.Atom.TheVariants.{Name}
use Rattle.expr_kinds.specs.Atoms.{kind_at}
use Rattle.expr_leaves.specs.Leaves.{leaves_in}
use Rattle.expr_spelling.specs.Laws.{IsSpelled}
use Rattle.name_order.specs.Graph.{Refers}
use Rattle.network_algebra.specs.Networks.{IsNetwork, PairsOf, kind_of_network}
use Rattle.network_algebra.specs.declared.network.Network.{Network}
use Rattle.network_expr.specs.declared.parts.Part.{Part}
use Rattle.project_meaning.specs.Leaves.{expressions_of}
use Rattle.project_meaning.specs.Meaning.{Meaning}
use Rattle.project_meaning.specs.Trees.{Body}
use Rattle.project_meaning.specs.Projects.{names_of}
use Rattle.project_definitions.specs.Referring.{references_of}
use Rattle.project_sources.specs.Sources.{Said, project_in}
use Rattle.project_store.specs.Loaded.{IsLoadedFrom, LoadedView}

-- the network of the definition at a place: it is of the definition's kind, over the alphabet, and relates what the name means
pub record IsBuiltAt (loaded : LoadedView) (place : ℕ) (n : Network) : Type 0 where
  pub kind : kind_of_network n ≡ kind_at loaded.forms place
  pub over : IsNetwork (symbols_of loaded.alphabet) n
  pub means : (said : Said) → IsLoadedFrom said loaded → (name : List ℕ) → slice_get (names_of said.written) place ≡ Some name
      → IsSpelled loaded.alphabet (PairsOf n) (Meaning (project_in said) name)

-- the networks stand at the places of their definitions
pub record AreBuilt (loaded : LoadedView) (built : List (Option Network)) : Type 0 where
  pub count : length built ≡ length loaded.definitions
  pub each : (place : ℕ) (n : Network) → slice_get built place ≡ Some (Some n) → IsBuiltAt loaded place n

-- there is a network at this place
abbrev pub IsThere : List (Option Network) → ℕ → Type 0
IsThere built place = (n : Network) × (slice_get built place ≡ Some (Some n))

-- each definition to which this one refers has its network
abbrev pub HasParts : LoadedView → List (Option Network) → ℕ → Type 0
HasParts loaded built place = (other : ℕ) → Refers (references_of loaded.definitions) place other → IsThere built other

-- the leaves that stand in the expressions of a body
abbrev pub expression_leaves : Body Atom → List Atom
expression_leaves body = flat_map (λ e. leaves_in e) (expressions_of body)

-- the numbers of the names among leaves, each at its place
pub record AreNamesAmong (leaves : List Atom) (names : List (Option ℕ)) : Type 0 where
  pub own : (place name : ℕ) → slice_get names place ≡ Some (Some name) → name ≡ place
  pub all : (place : ℕ) → place < length names → Contains leaves (Name place) → slice_get names place ≡ Some (Some place)

-- the part of a name that has a network was put behind the others; without name or network they stay
abbrev pub HasPut : Option ℕ → Option Network → List Part → List Part → Type 0
HasPut (Some name) (Some n) old new = (part : Part) × (part.name ≡ name) × (part.network.now ≡ n) × (new ≡ old ++ part ∷ [])
HasPut (Some name) None old new = new ≡ old
HasPut None network old new = new ≡ old

-- the parts of these names that have networks, in the order of their places
pub record ArePartsOf (names : List (Option ℕ)) (built : List (Option Network)) (parts : List Part) : Type 0 where
  pub rising : AllPairs (λ one next. one.name < next.name) parts
  pub each : (part : Part) → Contains parts part → slice_get built part.name ≡ Some (Some part.network.now)
  pub all : (place : ℕ) → slice_get names place ≡ Some (Some place) → IsThere built place → (part : Part) × Contains parts part × (part.name ≡ place)
