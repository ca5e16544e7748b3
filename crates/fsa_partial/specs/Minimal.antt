-- The fewest states of a deterministic automaton that isn't complete (Hopcroft, Motwani and Ullman, Introduction to
-- Automata Theory, section 4.4): it is trim (Sakarovitch, Elements of Automata Theory, 2009, section I.1), and of any
-- two states some word is accepted from exactly one (Myhill and Nerode).
use Rattle.std.specs.Prelude.{◌≡◌, ◌≢◌, ◌<◌, ◌≤◌, ◌↔◌, ◌⊎◌, ℕ, List, [], ◌∷◌, Some, Contains, length}
use Rattle.fsa.specs.Automaton.{Automaton, IsWellFormed, HasNoEpsilonEdge}
use Rattle.fsa.specs.Language.{Accepts, AcceptsFrom}

-- each edge reads a letter, and a letter leads from a state to one state at most
pub record IsDeterministic {L : Type 0} (m : Automaton L) : Type 0 where
  pub no_epsilon : HasNoEpsilonEdge m
  pub one_target : (s t u : ℕ) (x : L) → Contains m.edges (record { from = s; letter = Some x; to = t }) → Contains m.edges (record { from = s; letter = Some x; to = u }) → t ≡ u

-- the letters of the word lead from the first state to the second
pub data Leads {L : Type 0} (m : Automaton L) : ℕ → List L → ℕ → Type 0 where
  here : {s : ℕ} → Leads m s [] s
  along : {s t u : ℕ} {x : L} {w : List L} → Contains m.edges (record { from = s; letter = Some x; to = t }) → Leads m t w u → Leads m s (x ∷ w) u

-- some word is accepted from exactly one of the two states
abbrev pub AreApart : {L : Type 0} → Automaton L → ℕ → ℕ → Type 0
AreApart {L} m s t = (w : List L) × ((AcceptsFrom m s w × ¬ AcceptsFrom m t w) ⊎ (¬ AcceptsFrom m s w × AcceptsFrom m t w))

-- it is deterministic, the start leads to each state, each state but the start leads on to a final one, and any two
-- states are apart
pub record IsMinimal {L : Type 0} (m : Automaton L) : Type 0 where
  pub deterministic : IsDeterministic m
  pub reached : (s : ℕ) → s < length m.finals → (w : List L) × Leads m 0 w s
  pub leads_on : (s : ℕ) → s < length m.finals → s ≢ 0 → (w : List L) × AcceptsFrom m s w
  pub apart : (s t : ℕ) → s < length m.finals → t < length m.finals → s ≢ t → AreApart m s t

-- no deterministic automaton of the language has fewer states
pub record HasFewest {L : Type 0} (m : Automaton L) : Type 0 where
  pub least : (other : Automaton L) → IsWellFormed other → IsDeterministic other → ((w : List L) → Accepts other w ↔ Accepts m w)
      → length m.finals ≤ length other.finals
