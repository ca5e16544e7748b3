-- Classes of states that go on alike: a bisimulation of automata (Milner, Communication and Concurrency, 1989,
-- chapter 4).
use Rattle.std.specs.Prelude.{◌≡◌, ◌<◌, ◌-◌, ℕ, List, Bool, true, Some, All, Contains, slice_get, length, if◌then◌else◌, ◌==◌}
use Rattle.fsa.specs.declared.automaton.Edge.{Edge}

-- the states have numbers below the count, and two with the same number are final together, and each edge of one
-- has an edge of the other with the same letter that enters a state with the same number
pub record AreAlike (finals : List Bool) (edges : List (Edge ℕ)) (numbers : List ℕ) (count : ℕ) : Type 0 where
  pub number : length numbers ≡ length finals
  pub within : All (λ k. k < count) numbers
  pub final : (s t k : ℕ) → slice_get numbers s ≡ Some k → slice_get numbers t ≡ Some k → slice_get finals s ≡ Some true → slice_get finals t ≡ Some true
  pub step : (e : Edge ℕ) (t k : ℕ) → Contains edges e → slice_get numbers e.from ≡ Some k → slice_get numbers t ≡ Some k
      → (f : Edge ℕ) × (to : ℕ) × Contains edges f × (f.from ≡ t) × (f.letter ≡ e.letter) × (slice_get numbers e.to ≡ Some to) × (slice_get numbers f.to ≡ Some to)

-- the same for classes of the states from the last one back: the state is in the class
abbrev pub IsIn : List ℕ → ℕ → ℕ → ℕ → Type 0
IsIn classes states s c = (s < states) × (slice_get classes (states - 1 - s) ≡ Some c)

pub record AreClasses (finals : List Bool) (edges : List (Edge ℕ)) (classes : List ℕ) (count : ℕ) : Type 0 where
  pub number : length classes ≡ length finals
  pub within : All (λ c. c < count) classes
  pub final : (s t c : ℕ) → IsIn classes (length finals) s c → IsIn classes (length finals) t c → slice_get finals s ≡ Some true → slice_get finals t ≡ Some true
  pub step : (e : Edge ℕ) (t c : ℕ) → Contains edges e → IsIn classes (length finals) e.from c → IsIn classes (length finals) t c
      → (f : Edge ℕ) × (to : ℕ) × Contains edges f × (f.from ≡ t) × (f.letter ≡ e.letter) × IsIn classes (length finals) e.to to × IsIn classes (length finals) f.to to

-- the order turned round, and then the start's class and the first change places
abbrev pub renumbered : ℕ → ℕ → ℕ → ℕ
renumbered start last class = if class == start then 0 else (if class == last then last - start else last - class)
