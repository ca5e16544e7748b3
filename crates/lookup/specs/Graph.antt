-- Paths in a directed graph whose edges carry letters (Cormen, Leiserson, Rivest and Stein, Introduction to
-- Algorithms, section B.4), and what is written along them. A graph is the list of its edges. Nodes are
-- numbers: node 0 is the end, and node 1 the start. An edge with no letter is epsilon.
use Rattle.std.specs.Prelude.{◌≡◌, ◌<◌, ℕ, List, [], ◌∷◌, ◌++◌, Contains, option_to_list}
use Rattle.fsa.specs.declared.automaton.Edge.{Edge}

abbrev pub end : ℕ
end = 0

abbrev pub start : ℕ
start = 1

-- the edges lead from the first node to the second, one after another
abbrev pub IsPath : {L : Type 0} → List (Edge L) → ℕ → List (Edge L) → ℕ → Type 0
IsPath edges a [] b = a ≡ b
IsPath edges a (e ∷ path) b = Contains edges e × (e.from ≡ a) × IsPath edges e.to path b

-- the letters along a path, epsilon edges left out
abbrev pub letters_of : {L : Type 0} → List (Edge L) → List L
letters_of [] = []
letters_of (e ∷ path) = option_to_list e.letter ++ letters_of path

-- a path from the first node to the second has these letters
abbrev pub Connects : {L : Type 0} → List (Edge L) → ℕ → List L → ℕ → Type 0
Connects {L} edges a word b = (path : List (Edge L)) × IsPath edges a path b × (letters_of path ≡ word)

-- a path from the first node leads to the second
abbrev pub Leads : {L : Type 0} → List (Edge L) → ℕ → ℕ → Type 0
Leads {L} edges a b = (path : List (Edge L)) × IsPath edges a path b

-- a path from the start to the end has these letters
abbrev pub Writes : {L : Type 0} → List (Edge L) → List L → Type 0
Writes edges word = Connects edges start word end

-- edges go between nodes below the count
abbrev pub IsWithin : {L : Type 0} → List (Edge L) → ℕ → Type 0
IsWithin {L} edges count = (e : Edge L) → Contains edges e → (e.from < count) × (e.to < count)

-- each edge stands on a path from the start to the end
abbrev pub AreUseful : {L : Type 0} → List (Edge L) → Type 0
AreUseful {L} edges = (e : Edge L) → Contains edges e → Leads edges start e.from × Leads edges e.to end
