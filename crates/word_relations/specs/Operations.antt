-- Operations on sets of words beside concatenation and repetition (Beesley and Karttunen, Finite State Morphology,
-- 2003, sections 2.3 and 2.4; ignoring also Kaplan and Kay, Regular Models of Phonological Rule Systems, 1994,
-- section 4).
use Rattle.std.specs.Prelude.{◌≡◌, List, [], ◌∷◌, ◌++◌, Contains}
use Rattle.word_relations.specs.Words.{IsRepetition}

-- one letter
abbrev pub IsOneLetter : {L : Type 0} → List L → List L → Type 0
IsOneLetter {L} letters w = (x : L) × Contains letters x × (w ≡ x ∷ [])

-- x y z with y in the set
abbrev pub HasPart : {L : Type 0} → (List L → Type 0) → List L → Type 0
HasPart {L} P w = (x : List L) × (y : List L) × (z : List L) × (w ≡ x ++ (y ++ z)) × P y

-- the letters of the first word, with words of the set put in before the first letter, between any two and behind
-- the last: any number of words at each place
abbrev pub HasPutIn : {L : Type 0} → (List L → Type 0) → List L → List L → Type 0
HasPutIn P [] w = IsRepetition P w
HasPutIn {L} P (x ∷ v) w = (front : List L) × (rest : List L) × (w ≡ front ++ (x ∷ rest)) × IsRepetition P front × HasPutIn P v rest

-- a word of the first set, with words of the second put in
abbrev pub IsIgnoring : {L : Type 0} → (List L → Type 0) → (List L → Type 0) → List L → Type 0
IsIgnoring {L} P Q w = (v : List L) × P v × HasPutIn Q v w
