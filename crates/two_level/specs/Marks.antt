-- Strings of pairs in which a place is marked (marks as in Kaplan and Kay, Regular Models of Phonological Rule Systems, 1994,
-- section 4), and what may stand in the place.
use Rattle.std.specs.Prelude.{◌≡◌, List, [], ◌∷◌, ◌++◌, Option, map}
use Rattle.fsm_base.specs.declared.letters.Pair.{Pair}
use Rattle.fsm_base.specs.declared.letters.Bound.{Bound}
use Rattle.fsm_base.specs.declared.letters.Bound.TheVariants.{Edge}
use Rattle.word_relations.specs.Words.{IsOver}
use Rattle.expr_meaning.specs.Operators.{inner}
use Rattle.network_algebra.specs.Networks.{all_letters}
use Rattle.network_algebra.specs.Renamed.{inside_of}
use Rattle.two_level.specs.declared.marks.MarkedLetter.{MarkedLetter}
use Rattle.two_level.specs.declared.marks.MarkedLetter.TheVariants.{Letter, Place}

-- what stands before the place, the place, and what stands behind it
abbrev pub marked : List (Bound Pair) → List (Bound Pair) → List MarkedLetter
marked before behind = map Letter before ++ Place ∷ map Letter behind

-- a marked string whose parts are in the two sets
abbrev pub IsMarked : (List (Bound Pair) → Type 0) → (List (Bound Pair) → Type 0) → List MarkedLetter → Type 0
IsMarked P Q v = (before : List (Bound Pair)) × (behind : List (Bound Pair)) × (v ≡ marked before behind) × P before × Q behind

-- the place between two strings of pairs, with the word's edges round them
abbrev pub place_between : List Pair → List Pair → List MarkedLetter
place_between x z = marked (Edge ∷ inner x) (inner z ++ Edge ∷ [])

-- a place in a string of these pairs, between two parts of which this holds
abbrev pub IsPlaceWhere : List Pair → (List Pair → List Pair → Type 0) → List MarkedLetter → Type 0
IsPlaceWhere pairs P v = (x : List Pair) × (z : List Pair) × (v ≡ place_between x z) × IsOver pairs x × IsOver pairs z × P x z

-- the letters of marked strings
abbrev pub marked_letters : List Pair → List MarkedLetter
marked_letters pairs = Place ∷ map Letter (all_letters pairs)

-- in place of a letter the pair that it is, in place of an edge nothing, and in the place any of the fillings
abbrev pub letter_row : Bound Pair → MarkedLetter × Option Pair
letter_row x = (Letter x, inside_of x)

abbrev pub place_row : Option Pair → MarkedLetter × Option Pair
place_row filling = (Place, filling)

abbrev pub filled_table : List Pair → List (Option Pair) → List (MarkedLetter × Option Pair)
filled_table pairs fillings = map letter_row (all_letters pairs) ++ map place_row fillings
