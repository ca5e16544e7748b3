-- A state in place of those that epsilon edges reach from it.
use Rattle.std.specs.Prelude.{◌≡◌, ◌↔◌, ◌⊎◌, ℕ, List, Bool, true, Some, Contains, slice_get, length}
use Rattle.fsa.specs.Automaton.{Automaton, IsFinal}
use Rattle.fsa.specs.declared.automaton.Edge.{Edge}
use Rattle.fsa_explore.specs.Reaches.{Reaches}

-- an edge with this letter leads from one of the states that pass the test to where this one leads
abbrev pub LeavesOne : {L : Type 0} → List (Edge L) → (ℕ → Type 0) → Edge L → Type 0
LeavesOne {L} edges Q e = (q : ℕ) × (x : L) × Q q × (e.letter ≡ Some x) × Contains edges (record { from = q; letter = Some x; to = e.to })

-- one of the states that pass the test is final
abbrev pub HasFinal : List Bool → (ℕ → Type 0) → Type 0
HasFinal finals Q = (q : ℕ) × Q q × (slice_get finals q ≡ Some true)

-- the state got the lettered edges of the states that pass the test, and became final where one of them is;
-- nothing else changed
pub record TakesOver {L : Type 0} (edges : List (Edge L)) (finals : List Bool) (state : ℕ) (Q : ℕ → Type 0) (old new : Automaton L) : Type 0 where
  pub states : length new.finals ≡ length old.finals
  pub final : (k : ℕ) → IsFinal new k ↔ (IsFinal old k ⊎ ((k ≡ state) × HasFinal finals Q))
  pub edge : (e : Edge L) → Contains new.edges e ↔ (Contains old.edges e ⊎ ((e.from ≡ state) × LeavesOne edges Q e))

-- the states that pass the test took over what they reach, and no others
pub record IsBypassed {L : Type 0} (edges : List (Edge L)) (finals : List Bool) (P : ℕ → Type 0) (m : Automaton L) : Type 0 where
  pub states : length m.finals ≡ length finals
  pub final : (k : ℕ) → IsFinal m k ↔ (P k × HasFinal finals (Reaches edges k))
  pub edge : (e : Edge L) → Contains m.edges e ↔ (P e.from × LeavesOne edges (Reaches edges e.from) e)
