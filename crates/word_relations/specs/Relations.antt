-- Relations between words: an upper word over one alphabet and a lower word over another, as a test on the two
-- (Kaplan and Kay, Regular Models of Phonological Rule Systems, 1994, section 2; Beesley and Karttunen, Finite State
-- Morphology, 2003, section 2.3).
use Rattle.std.specs.Prelude.{◌≡◌, ◌↔◌, ℕ, List, ◌++◌, All, length, map}
use Rattle.word_relations.specs.Words.{joined}

-- relations that hold of the same words
abbrev pub AreSame : {L : Type 0} → (List L → List L → Type 0) → (List L → List L → Type 0) → Type 0
AreSame {L} P Q = (u w : List L) → P u w ↔ Q u w

-- a pair of words of the first relation, and then one of the second
abbrev pub IsConcatenationOfPairs : {L : Type 0} → (List L → List L → Type 0) → (List L → List L → Type 0) → List L → List L → Type 0
IsConcatenationOfPairs {L} P Q u w = (u1 : List L) × (u2 : List L) × (w1 : List L) × (w2 : List L) × (u ≡ u1 ++ u2) × (w ≡ w1 ++ w2) × P u1 w1 × Q u2 w2

-- so many pairs of the relation as pass the test, one after another
abbrev pub IsRepetitionOfPairs : {L : Type 0} → (ℕ → Type 0) → (List L → List L → Type 0) → List L → List L → Type 0
IsRepetitionOfPairs {L} Counts P u w =
    (pairs : List (List L × List L)) × Counts (length pairs) × All (λ p. P p.0 p.1) pairs × (u ≡ joined (map (λ p. p.0) pairs)) × (w ≡ joined (map (λ p. p.1) pairs))

-- each word of the set with itself
abbrev pub IsIdentity : {L : Type 0} → (List L → Type 0) → List L → List L → Type 0
IsIdentity P upper lower = P upper × (upper ≡ lower)

-- each word of the first set with each word of the second
abbrev pub IsCross : {L : Type 0} → (List L → Type 0) → (List L → Type 0) → List L → List L → Type 0
IsCross P Q upper lower = P upper × Q lower

-- the sides exchanged
abbrev pub IsInverse : {L : Type 0} → (List L → List L → Type 0) → List L → List L → Type 0
IsInverse R upper lower = R lower upper

-- the words on the upper side
abbrev pub IsUpper : {L : Type 0} → (List L → List L → Type 0) → List L → Type 0
IsUpper {L} R word = (lower : List L) × R word lower

-- the words on the lower side
abbrev pub IsLower : {L : Type 0} → (List L → List L → Type 0) → List L → Type 0
IsLower {L} R word = (upper : List L) × R upper word

-- some word between is related to both: by the first relation below it, by the second above it
abbrev pub IsComposition : {L : Type 0} → (List L → List L → Type 0) → (List L → List L → Type 0) → List L → List L → Type 0
IsComposition {L} R S upper lower = (middle : List L) × R upper middle × S middle lower

-- the two relations relate the words to some lower word in common
abbrev pub ShareLower : {L : Type 0} → (List L → List L → Type 0) → (List L → List L → Type 0) → List L → List L → Type 0
ShareLower {L} R S first second = (lower : List L) × R first lower × S second lower
