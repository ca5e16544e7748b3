-- The part of a network that a word reaches, as a graph: the configurations in the order in which a search from the
-- start finds them (Cormen, Leiserson, Rivest and Stein, Introduction to Algorithms, section 22.2), and an edge for
-- each step. The configuration with the number k is the node k + 1.
use Rattle.std.specs.Prelude.{◌≡◌, ◌<◌, ◌+◌, ◌++◌, ◌⊎◌, ℕ, List, Option, None, Some, Contains, slice_get}
use Rattle.fsa.specs.declared.automaton.Edge.{Edge}
use Rattle.fsm_base.specs.declared.letters.Sym.{Sym}
use Rattle.lookup.specs.Graph.{end}
use Rattle.lookup.specs.declared.explored.Config.{Config}

pub record Reached : Type 0 where
  pub configs : List Config
  pub edges : List (Edge Sym)

-- the node of a configuration, or the end for None
abbrev pub IsNode : List Config → ℕ → Option Config → Type 0
IsNode configs node None = node ≡ end
IsNode configs node (Some config) = (k : ℕ) × (node ≡ k + 1) × (slice_get configs k ≡ Some config)

-- the steps that pass the test are added as edges from the node, and no others
pub record AddsSteps (P : Option Sym → Option Config → Type 0) (node : ℕ) (old new : Reached) : Type 0 where
  pub found : (more : List Config) × (new.configs ≡ old.configs ++ more)
  pub kept : (e : Edge Sym) → Contains old.edges e → Contains new.edges e
  pub only : (e : Edge Sym) → Contains new.edges e → Contains old.edges e ⊎ ((e.from ≡ node) × ((target : Option Config) × IsNode new.configs e.to target × P e.letter target))
  pub all : (letter : Option Sym) (target : Option Config) → P letter target → (to : ℕ) × IsNode new.configs to target × Contains new.edges (record { from = node; letter = letter; to = to })

-- what was found from the start on: the configurations before a number have all their steps as edges
pub record IsExplored (P : Config → Option Sym → Option Config → Type 0) (done : ℕ) (reached : Reached) : Type 0 where
  pub start : slice_get reached.configs 0 ≡ Some (record { place = 0; state = 0 })
  pub only : (e : Edge Sym) → Contains reached.edges e
      → (k : ℕ) × (config : Config) × (target : Option Config) × (slice_get reached.configs k ≡ Some config) × (e.from ≡ k + 1) × IsNode reached.configs e.to target × P config e.letter target
  pub all : (k : ℕ) (config : Config) (letter : Option Sym) (target : Option Config) → k < done → slice_get reached.configs k ≡ Some config → P config letter target
      → (to : ℕ) × IsNode reached.configs to target × Contains reached.edges (record { from = k + 1; letter = letter; to = to })
