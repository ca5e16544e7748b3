-- What the constructions add to an automaton, and the edges that they make.
use Rattle.std.specs.Prelude.{◌≡◌, ◌<◌, ◌+◌, ◌*◌, ◌⊎◌, ℕ, List, Bool, true, Option, Some, None, Contains, slice_get, length}
use Rattle.fsa.specs.Automaton.{Automaton}
use Rattle.fsa.specs.declared.automaton.Edge.{Edge}

abbrev pub epsilon : {L : Type 0} → ℕ → ℕ → Edge L
epsilon p q = record { from = p; letter = None; to = q }

-- the edge with the numbers of its states raised
abbrev pub shifted : {L : Type 0} → ℕ → Edge L → Edge L
shifted by e = record { from = e.from + by; letter = e.letter; to = e.to + by }

-- the same edge in the other direction
abbrev pub reversed_by : {L : Type 0} → ℕ → Edge L → Edge L
reversed_by by e = record { from = e.to + by; letter = e.letter; to = e.from + by }

-- the states stay, and the edges that pass the test were added, and no others
pub record Extends {L : Type 0} (old new : Automaton L) (P : Edge L → Type 0) : Type 0 where
  pub finals : new.finals ≡ old.finals
  pub kept : (e : Edge L) → Contains old.edges e → Contains new.edges e
  pub only : (e : Edge L) → Contains new.edges e → Contains old.edges e ⊎ P e
  pub all : (e : Edge L) → P e → Contains new.edges e

-- it was added for one of these
abbrev pub ForEach : {X L : Type 0} → (X → Edge L → Type 0) → List X → Edge L → Type 0
ForEach {X} P items e = (x : X) × Contains items x × P x e

-- it comes from one of these
abbrev pub ComesFrom : {X L : Type 0} → (X → Edge L) → List X → Edge L → Type 0
ComesFrom change items e = ForEach (λ x f. f ≡ change x) items e

-- it leaves a final state, or enters one
abbrev pub LeavesFinal : {L : Type 0} → List Bool → ℕ → ℕ → Edge L → Type 0
LeavesFinal finals by to e = (q : ℕ) × (slice_get finals q ≡ Some true) × (e ≡ epsilon (q + by) to)

abbrev pub EntersFinal : {L : Type 0} → ℕ → List Bool → ℕ → Edge L → Type 0
EntersFinal from finals by e = (q : ℕ) × (slice_get finals q ≡ Some true) × (e ≡ epsilon from (q + by))

-- it is of the copy of an automaton that is entered from a state and left to it, the copy's numbers being raised
abbrev pub PutInAt : {L : Type 0} → Automaton L → ℕ → ℕ → Edge L → Type 0
PutInAt put state by e = (e ≡ epsilon state by) ⊎ ComesFrom (shifted by) put.edges e ⊎ LeavesFinal put.finals by state e

-- it is of one of the copies for the states below a bound, which stand one after another behind the first of them
abbrev pub PutInBelow : {L : Type 0} → Automaton L → ℕ → ℕ → Edge L → Type 0
PutInBelow put first bound e = (state : ℕ) × (state < bound) × PutInAt put state (first + state * length put.finals) e

-- with the numbers raised, the edges stay below the bound
abbrev pub FitsBelow : {L : Type 0} → List (Edge L) → ℕ → ℕ → Type 0
FitsBelow {L} edges by bound = (e : Edge L) → Contains edges e → (e.from + by < bound) × (e.to + by < bound)

-- the edge with another source, where it isn't epsilon
abbrev pub IsLettered : {L : Type 0} → ℕ → Edge L → Edge L → Type 0
IsLettered {L} from old e = (x : L) × (old.letter ≡ Some x) × (e ≡ record { from = from; letter = Some x; to = old.to })

-- what the table gives for the edge's letter, between the same states; an epsilon edge stays
abbrev pub IsImage : {L M : Type 0} → List (L × Option M) → Option L → Option M → Type 0
IsImage table None y = y ≡ None
IsImage table (Some x) y = Contains table (x, y)

abbrev pub ImageOf : {L M : Type 0} → List (L × Option M) → Edge L → Edge M → Type 0
ImageOf {L} {M} table old e = (y : Option M) × IsImage table old.letter y × (e ≡ record { from = old.from; letter = y; to = old.to })

-- the letters for which the rows give the edge's letter, each row being that letter and then the other, between
-- the same states; an epsilon edge stays
abbrev pub IsPreimage : {L M : Type 0} → List (M × L) → Option M → Option L → Type 0
IsPreimage rows None letter = letter ≡ None
IsPreimage {L} rows (Some y) letter = (x : L) × Contains rows (y, x) × (letter ≡ Some x)

abbrev pub PreimageOf : {L M : Type 0} → List (M × L) → Edge M → Edge L → Type 0
PreimageOf {L} rows old e = (letter : Option L) × IsPreimage rows old.letter letter × (e ≡ record { from = old.from; letter = letter; to = old.to })

abbrev pub loop_at : {L : Type 0} → ℕ → L → Edge L
loop_at state x = record { from = state; letter = Some x; to = state }

-- a letter leads from a state below the bound to itself
abbrev pub LoopsBelow : {L : Type 0} → ℕ → List L → Edge L → Type 0
LoopsBelow bound letters e = (state : ℕ) × (state < bound) × ComesFrom (loop_at state) letters e
