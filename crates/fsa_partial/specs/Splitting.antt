-- Classes of states that are split by the edges of one letter: by whether one leaves a state, and by the class of the
-- state that it enters.
use Rattle.std.specs.Prelude.{◌≡◌, ◌≢◌, ◌<◌, ◌⊎◌, ℕ, List, Some, Contains, slice_get, length}
use Rattle.std.specs.Prelude.{Vec}
use Rattle.std.specs.Global.{Global}
use Rattle.fsa.specs.Automaton.{Automaton}
use Rattle.fsa.specs.Language.{AcceptsFrom}
use Rattle.fsa_partial.specs.declared.grouping.Arc.{Arc}
use Rattle.fsa_partial.specs.Minimal.{AreApart}

-- each leaves and enters a state below the bound
abbrev pub AreBelow : List Arc → ℕ → Type 0
AreBelow arcs bound = (a : Arc) → Contains arcs a → (a.from < bound) × (a.to < bound)

-- edges that leave states of the same class, and enter states of the same class, have the same number
pub record AreByClasses (classes targets : List ℕ) (arcs : List Arc) (numbers : List ℕ) : Type 0 where
  pub count : length numbers ≡ length arcs
  pub same : (i j : ℕ) (a b : Arc) → slice_get arcs i ≡ Some a → slice_get arcs j ≡ Some b
      → slice_get classes a.from ≡ slice_get classes b.from → slice_get targets a.to ≡ slice_get targets b.to → slice_get numbers i ≡ slice_get numbers j

-- some of these edges leaves the state
abbrev pub Leaves : List Arc → ℕ → Type 0
Leaves arcs s = (t : ℕ) × Contains arcs (record { from = s; to = t })

-- a state that edges leave got the number of one of them, and the others kept theirs
pub record IsMoved (arcs : List Arc) (numbers : List ℕ) (old new : List ℕ) : Type 0 where
  pub count : length new ≡ length old
  pub state : (s : ℕ) → ((i : ℕ) × ((a : Arc) × (slice_get arcs i ≡ Some a) × (a.from ≡ s) × (slice_get new s ≡ slice_get numbers i)))
      ⊎ (¬ Leaves arcs s × (slice_get new s ≡ slice_get old s))

-- exactly one of the states has such an edge, or two of their edges enter states of different classes
abbrev pub AreTold : List ℕ → List Arc → ℕ → ℕ → Type 0
AreTold targets arcs s t =
    (Leaves arcs s × ¬ Leaves arcs t) ⊎ ((¬ Leaves arcs s × Leaves arcs t)
    ⊎ ((u v : ℕ) × Contains arcs (record { from = s; to = u }) × Contains arcs (record { from = t; to = v }) × (slice_get targets u ≢ slice_get targets v)))

-- states of different classes were of different ones before, or the edges of some letter tell them
abbrev pub IsSplit : List ℕ → List (Vec Arc Global) → List ℕ → List ℕ → Type 0
IsSplit targets groups old new = (s t : ℕ) → slice_get new s ≢ slice_get new t
    → (slice_get old s ≢ slice_get old t) ⊎ ((arcs : Vec Arc Global) × Contains groups arcs × AreTold targets arcs.items s t)

-- from each state some word is accepted
abbrev pub AreLive : {L : Type 0} → Automaton L → Type 0
AreLive {L} m = (s : ℕ) → s < length m.finals → (w : List L) × AcceptsFrom m s w

-- two states of different classes are apart
abbrev pub ClassesAreApart : {L : Type 0} → Automaton L → List ℕ → Type 0
ClassesAreApart m classes = (s t : ℕ) → s < length m.finals → t < length m.finals → slice_get classes s ≢ slice_get classes t → AreApart m s t
