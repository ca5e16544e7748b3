-- Edges with numbers in place of letters.
use Rattle.std.specs.Prelude.{◌≡◌, ◌++◌, ℕ, List, Option, Some, Contains, slice_get}
use Rattle.fsa.specs.declared.automaton.Edge.{Edge}

-- the list got more at its end, or stayed
abbrev pub Keeps : {X : Type 0} → List X → List X → Type 0
Keeps {X} old new = (more : List X) × (new ≡ old ++ more)

-- between the same states, the number of the edge's letter
abbrev pub StandsFor : {L : Type 0} → List (Option L) → Edge L → Edge ℕ → Type 0
StandsFor letters e f = (number : ℕ) × (f.letter ≡ Some number) × (slice_get letters number ≡ Some e.letter) × (e.from ≡ f.from) × (e.to ≡ f.to)

-- each edge has one that stands for it, and each stands for one
pub record AreNumbered {L : Type 0} (edges : List (Edge L)) (letters : List (Option L)) (numbered : List (Edge ℕ)) : Type 0 where
  pub only : (f : Edge ℕ) → Contains numbered f → (e : Edge L) × Contains edges e × StandsFor letters e f
  pub all : (e : Edge L) → Contains edges e → (f : Edge ℕ) × Contains numbered f × StandsFor letters e f
