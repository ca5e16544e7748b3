-- The words of a set with each letter replaced by its image (a substitution: Hopcroft, Motwani and Ullman,
-- Introduction to Automata Theory, section 7.3.1).
use Rattle.std.specs.Prelude.{◌≡◌, ◌∷◌, [], List, Option, Some, None}
use Rattle.fsa.specs.declared.automaton.Edge.{Edge}
use Rattle.fst_algebra.specs.declared.substitution.Image.{Image}
use Rattle.fst_algebra.specs.declared.substitution.Image.TheVariants.{Letter, Epsilon}

-- the word w is the images of the letters of v, in their order; a letter whose image is epsilon is left out, and none
-- has nothing as its image
pub data Spells {L M : Type 0} (image : L → Image M) : List L → List M → Type 0 where
  finish : Spells image [] []
  keep : {x : L} {y : M} {v : List L} {w : List M} → image x ≡ Letter y → Spells image v w → Spells image (x ∷ v) (y ∷ w)
  omit : {x : L} {v : List L} {w : List M} → image x ≡ Epsilon → Spells image v w → Spells image (x ∷ v) w

-- the words of the set, with each letter replaced by its image
abbrev pub IsSubstituted : {L M : Type 0} → (L → Image M) → (List L → Type 0) → List M → Type 0
IsSubstituted {L} image P w = (v : List L) × P v × Spells image v w

-- the letter on an edge as an image
abbrev pub letter_or_epsilon : {M : Type 0} → Option M → Image M
letter_or_epsilon None = Epsilon
letter_or_epsilon (Some y) = Letter y

-- what stands on an edge in place of its letter; an epsilon edge stays one
abbrev pub image_on_edge : {L M : Type 0} → (L → Image M) → Option L → Image M
image_on_edge image None = Epsilon
image_on_edge image (Some x) = image x

-- the edge carries the image of the other's letter
abbrev pub CarriesImage : {L M : Type 0} → (L → Image M) → Edge L → Edge M → Type 0
CarriesImage {L} {M} image old e = (letter : Option M) × (image_on_edge image old.letter ≡ letter_or_epsilon letter) × (e ≡ record { from = old.from; letter = letter; to = old.to })
