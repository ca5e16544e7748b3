-- Directed replacement (Karttunen, Directed Replacement, 1996). A match is a part of the upper word that a rule may replace where it
-- stands. Of the matches that begin at one place, or that end there, the longest is replaced, or the shortest, and no symbol is copied at
-- such a place. A match that begins, or ends, inside of what is replaced bars nothing.
use Rattle.std.specs.Prelude.{◌≡◌, ◌⊎◌, ◌<◌, List, ◌∷◌, ◌++◌, length}
use Rattle.fsm_base.specs.declared.letters.Bound.{Bound}
use Rattle.regex_ast.specs.declared.expr.Side.TheVariants.{UpUp}
use Rattle.regex_ast.specs.declared.expr.Way.{Way}
use Rattle.regex_ast.specs.declared.expr.Way.TheVariants.{LeftLongest, LeftShortest, RightLongest, RightShortest}
use Rattle.regex_ast.specs.Terms.{Contexts, no_context}
use Rattle.expr_meaning.specs.Operators.{inner}
use Rattle.expr_meaning.specs.Replacement.{Piece, copied, replaced, upper, uppers, lowers, IsAllowed, IsDerivation}

-- a match that stands at a piece bars the copy of a symbol; and of a centre it bars the replacement where it is longer, or shorter
abbrev pub Bars : {L : Type 0} → Way → List L → Piece L → Type 0
Bars way c (copied symbol) = Unit {0}
Bars LeftLongest c (replaced centre result) = length centre < length c
Bars LeftShortest c (replaced centre result) = length c < length centre
Bars RightLongest c (replaced centre result) = length centre < length c
Bars RightShortest c (replaced centre result) = length c < length centre

-- `Match x c z`: the part c of the upper word is a match between x and z
module _ {L : Type 0} (Match : List L → List L → List L → Type 0) where
  -- it begins where the piece between these does, or ends where the piece does
  abbrev pub BeginsAt : List (Piece L) → Piece L → List (Piece L) → List L → Type 0
  BeginsAt before piece behind c = (z : List L) × (upper piece ++ uppers behind ≡ c ++ z) × Match (uppers before) c z

  abbrev pub EndsAt : List (Piece L) → Piece L → List (Piece L) → List L → Type 0
  EndsAt before piece behind c = (x : List L) × (uppers before ++ upper piece ≡ x ++ c) × Match x c (uppers behind)

  abbrev pub StandsAt : Way → List (Piece L) → Piece L → List (Piece L) → List L → Type 0
  StandsAt LeftLongest before piece behind c = BeginsAt before piece behind c
  StandsAt LeftShortest before piece behind c = BeginsAt before piece behind c
  StandsAt RightLongest before piece behind c = EndsAt before piece behind c
  StandsAt RightShortest before piece behind c = EndsAt before piece behind c

  -- no piece is barred by a match that stands at it
  abbrev pub IsDirected : Way → List (Piece L) → Type 0
  IsDirected way pieces =
      (before : List (Piece L)) (piece : Piece L) (behind : List (Piece L)) (c : List L) → pieces ≡ before ++ piece ∷ behind → StandsAt way before piece behind c → Bars way c piece → ⊥

  -- where a match stands, the rule has a centre
  abbrev pub AppliesOn : List (Piece L) → List L → List (Piece L) → Type 0
  AppliesOn before centre behind = Match (uppers before) centre (uppers behind)

  -- the rule relates the upper word to the lower word: by a derivation, of which each replacement is one that `Replaces` says
  abbrev pub IsDirectedBy : List L → (List (Piece L) → List L → List L → List (Piece L) → Type 0) → Way → List L → List L → Type 0
  IsDirectedBy alphabet Replaces way u w =
      (pieces : List (Piece L)) × IsDerivation alphabet Replaces AppliesOn pieces × IsDirected way pieces × (u ≡ uppers pieces) × (w ≡ lowers pieces)

-- a match between two words: `HasCentre c` says that a mapping of the rule has the centre c, and no context is asked for, or one of them
-- holds between the words
abbrev pub IsMatchBy : {A L : Type 0} → Contexts A → (List L → Type 0) → (List (Bound L) → List (Bound L) → Type 0) → List L → List L → List L → Type 0
IsMatchBy contexts HasCentre Holds x centre z = HasCentre centre × ((contexts ≡ no_context) ⊎ Holds (inner x) (inner z))

-- a replacement between pieces: `Maps c r` says that a mapping of the rule replaces the centre c by r, and the contexts are read on the upper side
abbrev pub DirectsBy : {A L : Type 0} → Contexts A → (List L → List L → Type 0) → (List (Bound L) → List (Bound L) → Type 0) → List (Piece L) → List L → List L → List (Piece L) → Type 0
DirectsBy contexts Maps Holds before centre result behind = Maps centre result × IsAllowed contexts Holds UpUp before behind
