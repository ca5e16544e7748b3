-- Pairs of states of two complete automata (the product construction: Hopcroft, Motwani and Ullman, Introduction to Automata Theory,
-- section 4.2.1), and the search among them.
use Rattle.std.specs.Prelude.{◌≡◌, ◌<◌, ◌++◌, ◌⊎◌, [], ◌∷◌, ℕ, List, true, Option, Some, Contains, length, slice_get}
use Rattle.fsa.specs.Complete.{Complete, Accepts, AcceptsFrom, next_state}
use Rattle.lang_equal.specs.Difference.{IsShortest, IsSought, sought}
use Rattle.lang_equal.specs.Search.{AreWordsOf, IsSearch}
use Rattle.lang_equal.specs.declared.search.StatePair.{StatePair}
use Rattle.lang_equal.specs.declared.search.Step.{Step}
use Rattle.lang_equal.specs.declared.sought.Sought.{Sought}

-- the two starts
abbrev pub starts : StatePair
starts = record { first = 0; second = 0 }

-- two states, one of each automaton
pub record IsPair {L : Type 0} (a b : Complete L) (pair : StatePair) : Type 0 where
  pub first : pair.first < length a.finals
  pub second : pair.second < length b.finals

-- each of the states leads to its own next one
abbrev pub LeadsPair : {L : Type 0} → Complete L → Complete L → StatePair → ℕ → StatePair → Type 0
LeadsPair a b pair place to = (next_state a pair.first place ≡ Some to.first) × (next_state b pair.second place ≡ Some to.second)

-- a word that is sought ends at the pair
abbrev pub IsFinalPair : {L : Type 0} → Sought → Complete L → Complete L → StatePair → Type 0
IsFinalPair which a b pair = sought which (slice_get a.finals pair.first ≡ Some true) (slice_get b.finals pair.second ≡ Some true)

-- the words that are sought from the pair on
abbrev pub SoughtFrom : {L : Type 0} → Sought → Complete L → Complete L → StatePair → List L → Type 0
SoughtFrom which a b pair w = sought which (AcceptsFrom a pair.first w) (AcceptsFrom b pair.second w)

abbrev pub IsPairSearch : {L : Type 0} → Sought → Complete L → Complete L → ℕ → List StatePair → List (Option Step) → Type 0
IsPairSearch which a b number found steps =
    IsSearch a.letters starts (IsPair a b) (LeadsPair a b) (IsFinalPair which a b) (SoughtFrom which a b) number found steps

-- the pair with the number is the end of a shortest word that is sought
abbrev pub EndsShortest : {L : Type 0} → Sought → Complete L → Complete L → List (Option Step) → ℕ → Type 0
EndsShortest {L} which a b steps i =
    (words : List (List L)) × AreWordsOf a.letters steps words × ((word : List L) × (slice_get words i ≡ Some word) × IsShortest (IsSought which (Accepts a) (Accepts b)) word)

-- the letters before a bound lead from the pair to pairs that were found
abbrev pub HasNext : {L : Type 0} → Complete L → Complete L → StatePair → ℕ → List StatePair → Type 0
HasNext a b pair bound found = (k : ℕ) (t : StatePair) → k < bound → LeadsPair a b pair k t → Contains found t

-- the pair was found before, or is found now, by the step
abbrev pub AddsPair : List StatePair → List (Option Step) → StatePair → Step → List StatePair → List (Option Step) → Type 0
AddsPair old steps pair step new steps_new =
    (Contains old pair × (new ≡ old) × (steps_new ≡ steps)) ⊎ ((new ≡ old ++ pair ∷ []) × (steps_new ≡ steps ++ Some step ∷ []))
