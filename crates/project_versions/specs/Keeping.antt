-- The networks of an old version that a new project keeps.
use Rattle.std.specs.Prelude.{◌≡◌, ◌<◌, ℕ, List, Option, Contains, Some, length, map, slice_get}
use Rattle.std.specs.Option.{option_map}
use Rattle.expr_kinds.specs.Atoms.{kind_at}
use Rattle.expr_kinds.specs.declared.form.Kind.{Kind}
use Rattle.fsm_base.specs.Alphabet.{texts_of}
use Rattle.network_algebra.specs.Networks.{kind_of_network}
use Rattle.network_algebra.specs.declared.network.Network.{Network}
use Rattle.project_store.specs.Loaded.{LoadedView}
use Rattle.touched_names.specs.Itself.{names_in}
use Rattle.touched_names.specs.Staying.{IsSameAt}
use Rattle.project_versions.specs.Networks.{IsSame}
use Rattle.project_versions.specs.declared.networks.Built.{Built}

-- it is the network at a place, and of this kind
pub record IsServing (networks : List Built) (place : ℕ) (kind : Kind) (b : Built) : Type 0 where
  pub one : Built
  pub there : slice_get networks place ≡ Some one
  pub same : IsSame one b
  pub of_kind : kind_of_network b.network ≡ kind

-- each old symbol has the same number in the new alphabet
abbrev pub KeepNumbers : LoadedView → LoadedView → Type 0
KeepNumbers old new = (number : ℕ) → number < length (texts_of old.alphabet) → IsSameAt (texts_of old.alphabet) (texts_of new.alphabet) number

-- It is the network that the definition at a place of the new project has in the old version: its name isn't touched and stands there, too,
-- it has the kind of the definition, and its symbols have the same numbers
pub record IsKept (old : LoadedView) (networks : List Built) (new : LoadedView) (touched : List ℕ) (place : ℕ) (b : Built) : Type 0 where
  pub before : ℕ
  pub name : List ℕ
  pub was_there : slice_get (names_in old.definitions) before ≡ Some name
  pub is_there : slice_get (names_in new.definitions) place ≡ Some name
  pub untouched : Contains touched place → ⊥
  pub serving : IsServing networks before (kind_at new.forms place) b
  pub numbers : KeepNumbers old new

-- the networks by themselves
abbrev pub part_in : Option Built → Option Network
part_in kept = option_map (λ b. b.network) kept

abbrev pub parts_in : List (Option Built) → List (Option Network)
parts_in kept = map part_in kept
