-- Empty centres of a loaded project's definitions, by the places of these.
use Rattle.std.specs.Prelude.{◌≡◌, ◌<◌, ◌⊎◌, ℕ, Bool, false, true, List, [], Option, None, Some, length, slice_get, slice_set}
use Rattle.std.specs.List.{flat_map}
use Rattle.network_algebra.specs.declared.network.Network.{Network}
use Rattle.network_build.specs.declared.compiled.BuildError.{BuildError}
use Rattle.network_build.specs.declared.compiled.BuildError.TheVariants as unbuilt
use Rattle.name_order.specs.Graph.{Refers}
use Rattle.project_meaning.specs.Centres.{HasEmptyCentre, HasOwnEmptyCentre, centres_in}
use Rattle.project_meaning.specs.Leaves.{expressions_of}
use Rattle.project_meaning.specs.Projects.{Project, Reaches, names_of}
use Rattle.project_meaning.specs.Trees.{Body}
use Rattle.project_definitions.specs.Plain.{body_of}
use Rattle.project_definitions.specs.Referring.{references_of}
use Rattle.project_definitions.specs.declared.definition.Definition.{Definition}
use Rattle.regex_ast.specs.declared.expr.Atom.{Atom}
use Rattle.regex_ast.specs.declared.expr.Atom.TheVariants.{Sym, Name}
use Rattle.regex_ast.specs.Terms.{Term}
use Rattle.regex_ast.specs.declared.fault.Why.TheVariants as why
use Rattle.project_sources.specs.Faults.{fault}
use Rattle.project_sources.specs.Sources.{Said, project_in}
use Rattle.project_store.specs.Building.{AreBuilt, IsBuiltAt, IsThere}
use Rattle.project_store.specs.Loaded.{IsLoadedFrom, LoadedView}
use Rattle.project_store.specs.Sharing.{StayThere}
use Rattle.project_store.specs.declared.centres.Outcome.{Outcome}
use Rattle.project_store.specs.declared.centres.Outcome.TheVariants.{Built, EmptyCentre, Behind, Stands}
use Rattle.project_store.specs.declared.store_error.StoreError.{StoreError}
use Rattle.project_store.specs.declared.store_error.StoreError.TheVariants.{Memory, Refused}

-- so it is of the name at the place, in the project from which this was loaded
abbrev pub OfPlace : LoadedView → ℕ → (Project → List ℕ → Type 0) → Type 0
OfPlace loaded place P = (said : Said) → IsLoadedFrom said loaded → (name : List ℕ) → slice_get (names_of said.written) place ≡ Some name → P (project_in said) name

-- the definition has no own empty centre
abbrev pub HasNoOwn : Project → List ℕ → Type 0
HasNoOwn project name = HasOwnEmptyCentre project name → ⊥

-- it has no empty centre that is told of it
abbrev pub HasNone : Project → List ℕ → Type 0
HasNone project name = HasEmptyCentre project name → ⊥

-- it has an own empty centre, or refers to a definition that has one, in any number of steps
abbrev pub IsBarred : Project → List ℕ → Type 0
IsBarred project name = HasOwnEmptyCentre project name ⊎ ((other : List ℕ) × Reaches project name other × HasOwnEmptyCentre project other)

abbrev pub IsFree : Project → List ℕ → Type 0
IsFree project name = IsBarred project name → ⊥

-- the centres in the expressions of a body
abbrev pub body_centres : {A : Type 0} → Body A → List (Term A)
body_centres body = flat_map (λ e. centres_in e) (expressions_of body)

-- no rule of replacement in the definition at this place has a centre
abbrev pub HasNoCentre : LoadedView → ℕ → Type 0
HasNoCentre loaded place = (d : Definition) → slice_get loaded.definitions place ≡ Some d → body_centres (body_of d.body) ≡ []

-- why the definition at a place has no network: it has an own empty centre, or want of memory
abbrev pub IsWhyUnbuilt : LoadedView → ℕ → BuildError → Type 0
IsWhyUnbuilt loaded place (unbuilt.Memory refused) = Unit {0}
IsWhyUnbuilt loaded place (unbuilt.EmptyCentre line) = OfPlace loaded place HasOwnEmptyCentre × (HasNoCentre loaded place → ⊥)

-- the networks stand at the places of their definitions, which neither have nor reach an empty centre
pub record AreFree (loaded : LoadedView) (built : List (Option Network)) : Type 0 where
  pub are : AreBuilt loaded built
  pub free : (place : ℕ) (n : Network) → slice_get built place ≡ Some (Some n) → OfPlace loaded place IsFree

-- a leaf is the name of a definition that has no network
abbrev pub HasNoNetwork : List (Option Network) → Atom → Type 0
HasNoNetwork built (Sym s) = ⊥
HasNoNetwork built (Name place) = slice_get built place ≡ Some None

-- what comes of the definition at a place, of the networks that are built: it has its network already, or gets it; it has an empty
-- centre; or it refers to a definition that has no network
abbrev pub IsOutcome : LoadedView → List (Option Network) → ℕ → Outcome → Type 0
IsOutcome loaded built place Stands = IsThere built place
IsOutcome loaded built place (Built n) = IsBuiltAt loaded place n × OfPlace loaded place IsFree × (slice_get built place ≡ Some None)
IsOutcome loaded built place EmptyCentre = OfPlace loaded place HasEmptyCentre
IsOutcome loaded built place Behind = (other : ℕ) × Refers (references_of loaded.definitions) place other × (slice_get built other ≡ Some None)

-- the networks with what came of the definition at a place, and which definitions have an empty centre
abbrev pub with_network : Outcome → ℕ → List (Option Network) → List (Option Network)
with_network (Built n) place built = slice_set built place (Some n)
with_network _ place built = built

abbrev pub with_empty : Outcome → ℕ → List Bool → List Bool
with_empty EmptyCentre place empty = slice_set empty place true
with_empty _ place empty = empty

-- the networks are those of their places, whose definitions neither have nor reach an empty centre, and each definition with a centre
-- has its network
pub record CentresAreBuilt (loaded : LoadedView) (built : List (Option Network)) : Type 0 where
  pub are : AreBuilt loaded built
  pub free : (place : ℕ) (n : Network) → slice_get built place ≡ Some (Some n) → OfPlace loaded place IsFree
  pub plain : (place : ℕ) → slice_get built place ≡ Some None → HasNoCentre loaded place

-- of each definition it is told whether it has an empty centre; where none has, those with a centre have their networks
pub record AreTried (loaded : LoadedView) (built : List (Option Network)) (marks : List Bool) : Type 0 where
  pub count : length marks ≡ length loaded.definitions
  pub empty : (place : ℕ) → slice_get marks place ≡ Some true → OfPlace loaded place HasEmptyCentre
  pub none : (place : ℕ) → slice_get marks place ≡ Some false → OfPlace loaded place HasNone
  pub ready : ((place : ℕ) → slice_get marks place ≡ Some true → ⊥) → CentresAreBuilt loaded built

-- the marks before this place are not set; and the place is the first that is
abbrev pub AreClear : ℕ → List Bool → Type 0
AreClear end marks = (place : ℕ) → place < end → slice_get marks place ≡ Some false

abbrev pub IsFirstMark : List Bool → ℕ → Type 0
IsFirstMark marks place = (slice_get marks place ≡ Some true) × AreClear place marks

-- no definition has an empty centre
abbrev pub HasNoEmptyCentre : LoadedView → Type 0
HasNoEmptyCentre loaded = (place : ℕ) → place < length loaded.definitions → OfPlace loaded place HasNone

-- the definition at this place has an empty centre, and none before it
pub record IsFirstEmpty (loaded : LoadedView) (place : ℕ) : Type 0 where
  pub empty : OfPlace loaded place HasEmptyCentre
  pub first : (before : ℕ) → before < place → OfPlace loaded before HasNone

-- the fault of the first definition with an empty centre, or want of memory
abbrev pub IsCentreError : LoadedView → StoreError → Type 0
IsCentreError loaded (Memory refused) = Unit {0}
IsCentreError loaded (Refused found) =
    (place : ℕ) × (d : Definition) × (slice_get loaded.definitions place ≡ Some d) × IsFirstEmpty loaded place × (found ≡ fault d.file d.line why.EmptyCentre)

-- the place has its network, and the others keep theirs
pub record HasFilled (loaded : LoadedView) (place : ℕ) (old new : List (Option Network)) : Type 0 where
  pub are : CentresAreBuilt loaded new
  pub there : IsThere new place
  pub stay : StayThere old new
