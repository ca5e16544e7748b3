-- A walk, in the order of bytes, over the texts that the paths of a graph of bytes begin with: depth first
-- (Cormen, Leiserson, Rivest and Stein, Introduction to Algorithms, section 22.3), where a text leads to the
-- set of all nodes that it may lead to (Hopcroft, Motwani and Ullman, Introduction to Automata Theory,
-- section 2.5.5).
use Rattle.std.specs.Prelude.{◌≡◌, ◌<◌, ◌≤◌, ◌+◌, ◌++◌, ◌⊎◌, ◌↔◌, ℕ, List, [], ◌∷◌, Option, Some, None, true, Contains, length, map, take, slice_get, slice_index_or}
use Rattle.fsa.specs.declared.automaton.Edge.{Edge}
use Rattle.lookup.specs.Graph.{Connects, Writes, start}
use Rattle.lookup.specs.declared.walk.Byte.{Byte}
use Rattle.lookup.specs.declared.walk.Leaving.{Leaving}
use Rattle.lookup.specs.declared.walk.Move.{Move}
use Rattle.lookup.specs.declared.walk.Walk.{Walk}

-- a text as a word of bytes
abbrev pub word_of : List ℕ → List Byte
word_of text = map (λ byte. record { 0 = byte }) text

-- the graph writes the text
abbrev pub WritesText : List (Edge Byte) → List ℕ → Type 0
WritesText edges text = Writes edges (word_of text)

-- the first text stands before the second in the order of bytes
abbrev pub IsBefore : List ℕ → List ℕ → Type 0
IsBefore text [] = ⊥
IsBefore [] (byte ∷ other) = Unit {0}
IsBefore (a ∷ text) (b ∷ other) = (a < b) ⊎ ((a ≡ b) × IsBefore text other)

-- the nodes are those that the text leads to
abbrev pub IsFront : List (Edge Byte) → List ℕ → List ℕ → Type 0
IsFront edges text front = (q : ℕ) → Contains front q ↔ Connects edges start (word_of text) q

-- the byte may follow the text
abbrev pub Follows : List (Edge Byte) → List ℕ → ℕ → Type 0
Follows edges text byte =
    (e : Edge Byte) × Contains edges e × (e.letter ≡ Some (record { 0 = byte })) × Connects edges start (word_of text) e.from

-- an edge with the byte leads from one of the nodes to the node
abbrev pub Enters : List (Edge Byte) → List ℕ → ℕ → ℕ → Type 0
Enters edges front byte q =
    (e : Edge Byte) × Contains edges e × Contains front e.from × (e.letter ≡ Some (record { 0 = byte })) × (e.to ≡ q)

-- an edge with the byte leaves one of the nodes
abbrev pub Carries : List (Edge Byte) → List ℕ → ℕ → Type 0
Carries edges front byte = (e : Edge Byte) × Contains edges e × Contains front e.from × (e.letter ≡ Some (record { 0 = byte }))

-- the edges are those that leave one of the nodes
abbrev pub AreFrom : List (Edge Byte) → List ℕ → List (Edge Byte) → Type 0
AreFrom edges front leaving = (e : Edge Byte) → Contains leaving e ↔ (Contains edges e × Contains front e.from)

-- one of the edges has the byte
abbrev pub HasByte : List (Edge Byte) → ℕ → Type 0
HasByte edges byte = (e : Edge Byte) × Contains edges e × (e.letter ≡ Some (record { 0 = byte }))

-- the least number that passes the test, or None where none does
pub record IsLeast (P : ℕ → Type 0) (found : Option ℕ) : Type 0 where
  pub passes : (least : ℕ) → found ≡ Some least → P least
  pub least : (least other : ℕ) → found ≡ Some least → P other → least ≤ other
  pub none : found ≡ None → (other : ℕ) → ¬ P other

-- the nodes that each beginning of a text leads to, from the empty one on
pub record AreFronts (edges : List (Edge Byte)) (text : List ℕ) (fronts : List (List ℕ)) : Type 0 where
  pub count : length fronts ≡ length text + 1
  pub each : (k : ℕ) (front : List ℕ) → slice_get fronts k ≡ Some front → IsFront edges (take k text) front

-- the nodes of the set with a number
abbrev pub front_at : List (List ℕ) → ℕ → List ℕ
front_at sets number = slice_index_or sets number []

-- where a text leads to the first nodes, it leads to the second ones with the byte more
abbrev pub LeadsOn : List (Edge Byte) → List ℕ → ℕ → List ℕ → Type 0
LeadsOn edges front byte next = (text : List ℕ) → IsFront edges text front → IsFront edges (text ++ byte ∷ []) next

-- one of the moves has the byte
abbrev pub HasMove : List Move → ℕ → Type 0
HasMove moves byte = (m : Move) × Contains moves m × (m.byte ≡ byte)

-- the moves are in the order of their bytes, of which each stands once
abbrev pub AreInOrder : List Move → Type 0
AreInOrder moves = (i j : ℕ) (a b : Move) → i < j → slice_get moves i ≡ Some a → slice_get moves j ≡ Some b → a.byte < b.byte

-- the moves are those from some nodes: one for each byte that leaves them
pub record AreMoves (edges : List (Edge Byte)) (sets : List (List ℕ)) (front : List ℕ) (moves : List Move) : Type 0 where
  pub carried : (m : Move) → Contains moves m → Carries edges front m.byte
  pub all : (byte : ℕ) → Carries edges front byte → HasMove moves byte
  pub in_order : AreInOrder moves
  pub within : (m : Move) → Contains moves m → m.to < length sets
  pub leads : (m : Move) → Contains moves m → LeadsOn edges front m.byte (front_at sets m.to)

-- more sets behind those that were there
abbrev pub AreMore : List (List ℕ) → List (List ℕ) → Type 0
AreMore old new = (more : List (List ℕ)) × (new ≡ old ++ more)

-- the moves from the set with the number are known
abbrev pub IsKnown : List Leaving → ℕ → Type 0
IsKnown leaving number = (known : Leaving) × (slice_get leaving number ≡ Some known) × (known.is_known ≡ true)

-- moves that are known are those from their set
abbrev pub AreLearnt : List (Edge Byte) → List (List ℕ) → List Leaving → Type 0
AreLearnt edges sets leaving = (number : ℕ) (known : Leaving) → slice_get leaving number ≡ Some known → known.is_known ≡ true
    → (number < length sets) × AreMoves edges sets (front_at sets number) known.moves.items

-- the sets that each beginning of a text leads to, by their numbers, of each of which the moves are known
pub record IsTrail (edges : List (Edge Byte)) (sets : List (List ℕ)) (leaving : List Leaving) (text trail : List ℕ) : Type 0 where
  pub fronts : AreFronts edges text (map (λ number. front_at sets number) trail)
  pub held : (number : ℕ) → Contains trail number → number < length sets
  pub known : (number : ℕ) → Contains trail number → IsKnown leaving number

-- how a walk is kept
pub record IsWalk (walk : Walk) : Type 0 where
  pub trail : IsTrail walk.rows walk.sets walk.leaving.items walk.text.items walk.trail.items
  pub learnt : AreLearnt walk.rows walk.sets walk.leaving.items
  pub within : (e : Edge Byte) → Contains walk.rows e → e.to < walk.marked.bound
  pub bytes : (k byte : ℕ) → slice_get walk.text.items k ≡ Some byte → byte < 256
  pub floor_within : walk.floor ≤ 256

-- the lesser of two numbers, where both are there
abbrev pub IsLesser : Option ℕ → Option ℕ → Option ℕ → Type 0
IsLesser None b found = found ≡ b
IsLesser (Some x) None found = found ≡ Some x
IsLesser (Some x) (Some y) found = (z : ℕ) × (found ≡ Some z) × (z ≤ x) × (z ≤ y) × ((z ≡ x) ⊎ (z ≡ y))
