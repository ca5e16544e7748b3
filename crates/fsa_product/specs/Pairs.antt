-- The product construction (Hopcroft, Motwani and Ullman, Introduction to Automata Theory, section 4.2.1): a
-- state is a pair of states, the first at place 0 of a list of two, and the second at place 1.
use Rattle.std.specs.Prelude.{◌≡◌, ◌<◌, ℕ, List, Some, true, length, slice_get, slice_index}
use Rattle.fsa.specs.Complete.{Complete, next_state}
use Rattle.fsa_product.specs.declared.products.Operation.{Operation}
use Rattle.fsa_product.specs.declared.products.Operation.TheVariants.{Intersection, Difference}

-- what holds of a word in the one set and not in the other, or in both
abbrev pub combined : Operation → Type 0 → Type 0 → Type 0
combined Intersection P Q = P × Q
combined Difference P Q = P × ¬ Q

-- two states, one of each automaton
pub record IsPair {L : Type 0} (a b : Complete L) (pair : List ℕ) : Type 0 where
  pub two : length pair ≡ 2
  pub first : slice_index pair 0 < length a.finals
  pub second : slice_index pair 1 < length b.finals

-- each of the states leads to its own next one
abbrev pub LeadsPair : {L : Type 0} → Complete L → Complete L → List ℕ → ℕ → List ℕ → Type 0
LeadsPair a b pair place to =
    (next_state a (slice_index pair 0) place ≡ Some (slice_index to 0)) × (next_state b (slice_index pair 1) place ≡ Some (slice_index to 1))

-- the same at a place of a list of places
abbrev pub LeadsAt : {L : Type 0} → Complete L → Complete L → List ℕ → List ℕ → ℕ → List ℕ → Type 0
LeadsAt a b places pair class to = (place : ℕ) × (slice_get places class ≡ Some place) × LeadsPair a b pair place to

-- the pair is final: by both of its states
abbrev pub IsFinalPair : {L : Type 0} → Operation → Complete L → Complete L → List ℕ → Type 0
IsFinalPair operation a b pair =
    combined operation (slice_get a.finals (slice_index pair 0) ≡ Some true) (slice_get b.finals (slice_index pair 1) ≡ Some true)
