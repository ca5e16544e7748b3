-- What directed rules rewrite, by words of marks; these by the firsts of symbols; and rules from the right, by rules from the left.
use Rattle.std.specs.Prelude.{◌≡◌, ◌↔◌, List, [], ◌∷◌, ◌++◌, map, All, Contains, reverse}
use Rattle.std.specs.List.{filter_map}
use Rattle.fsm_base.specs.declared.letters.Bound.{Bound}
use Rattle.fsm_base.specs.declared.letters.Bound.TheVariants.{Edge}
use Rattle.fsm_base.specs.declared.letters.Sym.{Sym}
use Rattle.expr_meaning.specs.Operators.{inner}
use Rattle.expr_meaning.specs.Replacement.{Piece, uppers}
use Rattle.replace_words.specs.declared.marks.Mark.{Mark}
use Rattle.replace_words.specs.Places.{Rules, HasNoEmptyCentre, ReplacesAt}
use Rattle.replace_words.specs.Marked.{upper_of, lower_of, symbol_of}
use Rattle.replace_words.specs.Firsts.{first_mark, HasSymbolIn, ActsByFirsts}
use Rattle.directed_words.specs.declared.ways.Length.{Length}
use Rattle.directed_words.specs.declared.ways.Length.TheVariants.{Longest, Shortest}
use Rattle.regex_ast.specs.declared.expr.Way.{Way}
use Rattle.regex_ast.specs.declared.expr.Way.TheVariants.{LeftLongest, LeftShortest, RightLongest, RightShortest}
use Rattle.expr_meaning.specs.Directed.{IsDirectedBy}
use Rattle.directed_words.specs.Marked.{IsMarkedFromLeft}

abbrev pub from_left : Length → Way
from_left Longest = LeftLongest
from_left Shortest = LeftShortest

abbrev pub from_right : Length → Way
from_right Longest = RightLongest
from_right Shortest = RightShortest

-- one of the places has the centre, and its context holds between the words
abbrev pub MatchesAt : {P : Type 0} → Rules P → List P → List Sym → List Sym → List Sym → Type 0
MatchesAt {P} of places x c z = (p : P) × Contains places p × of.centre p c × of.left p (Edge ∷ inner x) × of.right p (inner z ++ Edge ∷ [])

-- places whose matches are told on the upper side relate, from the left, the two sides of these words and nothing else
abbrev pub IsMarkedFromLeftBy : {P : Type 0} → Rules P → List P → List Sym → Length → List Sym → List Sym → Type 0
IsMarkedFromLeftBy of places symbols length u w =
    (z : List (Bound Mark)) × IsMarkedFromLeft of symbols places length z × (filter_map (symbol_of upper_of) z ≡ u) × (filter_map (symbol_of lower_of) z ≡ w)

abbrev pub DirectedAreMarkedWords : Type 1
DirectedAreMarkedWords =
    (P : Type 0) (of : Rules P) (places : List P) (symbols : List Sym) (length : Length) (u w : List Sym)
    → ((p : P) → Contains places p → HasNoEmptyCentre of p)
    → IsDirectedBy (MatchesAt of places) symbols (ReplacesAt of places) (from_left length) u w ↔ IsMarkedFromLeftBy of places symbols length u w

-- where places act by the firsts of symbols, a word of marks keeps a directed rule just where the word of the firsts does
abbrev pub DirectedMarkedWordsGoByFirsts : Type 1
DirectedMarkedWordsGoByFirsts =
    (P : Type 0) (of : Rules P) (places : List P) (symbols firsts : List Sym) (first : Sym → Sym) (length : Length) (z : List (Bound Mark))
    → ((p : P) → Contains places p → ActsByFirsts of symbols first p) → ((s : Sym) → Contains symbols s → Contains firsts (first s)) → All (HasSymbolIn symbols) z
    → IsMarkedFromLeft of symbols places length z ↔ IsMarkedFromLeft of firsts places length (map (first_mark first) z)

-- what is a match, and what replaces it, is the same where all words are turned round
abbrev pub AreTurned : (List Sym → List Sym → List Sym → Type 0) → (List Sym → List Sym → List Sym → Type 0) → Type 0
AreTurned Match Turned = (x c z : List Sym) → Match x c z ↔ Turned (reverse z) (reverse c) (reverse x)

abbrev pub ReplaceTurned : (List (Piece Sym) → List Sym → List Sym → List (Piece Sym) → Type 0) → (List (Piece Sym) → List Sym → List Sym → List (Piece Sym) → Type 0) → Type 0
ReplaceTurned Replaces Turned =
    (before behind left right : List (Piece Sym)) (c r : List Sym) → uppers left ≡ reverse (uppers behind) → uppers right ≡ reverse (uppers before)
    → Replaces before c r behind ↔ Turned left (reverse c) (reverse r) right

-- rules from the right relate the words turned round where those from the left of what is turned round do
abbrev pub RightIsLeftTurned : Type 1
RightIsLeftTurned =
    (Match Turned : List Sym → List Sym → List Sym → Type 0) (Replaces Replaces' : List (Piece Sym) → List Sym → List Sym → List (Piece Sym) → Type 0) (symbols : List Sym) (length : Length) (u w : List Sym)
    → AreTurned Match Turned → ReplaceTurned Replaces Replaces'
    → IsDirectedBy Match symbols Replaces (from_right length) u w ↔ IsDirectedBy Turned symbols Replaces' (from_left length) (reverse u) (reverse w)
