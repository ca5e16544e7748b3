-- What the cut of a text is, in the words of its rule: at each place the longest symbol of the alphabet
-- that the rest begins with, or the first place where there is none.
use Rattle.std.specs.Prelude.{◌≡◌, ℕ, ◌+◌, ◌<◌, ◌≤◌, List, [], ◌∷◌, ◌++◌, length, All, Contains, Ok, Err, MatchResult}
use Rattle.word_relations.specs.Words.{joined}
use Rattle.fsm_base.specs.Cut.{characters, cut}
use Rattle.fsm_base.specs.Symbols.{IsSymbol}

-- the text begins with these bytes
abbrev pub BeginsWith : List ℕ → List ℕ → Type 0
BeginsWith text front = (rest : List ℕ) × (text ≡ front ++ rest)

-- a symbol of the alphabet that the text begins with, and no longer one begins it
pub record IsLongest (symbols : List (List ℕ)) (text symbol : List ℕ) : Type 0 where
  pub listed : Contains symbols symbol
  pub begins : BeginsWith text symbol
  pub longest : (other : List ℕ) → Contains symbols other → BeginsWith text other → length other ≤ length symbol

-- the text begins with no symbol of the alphabet
abbrev pub BeginsWithNone : List (List ℕ) → List ℕ → Type 0
BeginsWithNone symbols text = (symbol : List ℕ) → Contains symbols symbol → ¬ (BeginsWith text symbol)

-- the text is the symbols of the word and then the rest, and each is the longest that begins there
abbrev pub TakesLongest : List (List ℕ) → List ℕ → List (List ℕ) → List ℕ → Type 0
TakesLongest symbols text [] rest = text ≡ rest
TakesLongest symbols text (symbol ∷ word) rest =
    (after : List ℕ) × IsLongest symbols text symbol × (text ≡ symbol ++ after) × TakesLongest symbols after word rest

-- the cut goes on as long as there are symbols, and stops before a character at which none begins
pub record StopsAt (symbols : List (List ℕ)) (text : List ℕ) (place : ℕ) : Type 0 where
  pub word : List (List ℕ)
  pub rest : List ℕ
  pub takes : TakesLongest symbols text word rest
  pub more : 0 < length rest
  pub none : BeginsWithNone symbols rest
  pub at : place ≡ characters (joined word) + 1

-- the cut takes the longest symbol at each place, and stops at the first place where there is none
abbrev pub CutTakesLongest : Type 0
CutTakesLongest =
    (symbols : List (List ℕ)) (text : List ℕ) → All IsSymbol symbols
    → MatchResult (cut symbols text) (λ word. TakesLongest symbols text word []) (StopsAt symbols text)

-- no other word takes the longest symbol at each place
abbrev pub OnlyCutTakesLongest : Type 0
OnlyCutTakesLongest =
    (symbols : List (List ℕ)) (text : List ℕ) (word : List (List ℕ)) → All IsSymbol symbols
    → TakesLongest symbols text word [] → cut symbols text ≡ Ok word

-- no other place is the first where there is none
abbrev pub OnlyCutStops : Type 0
OnlyCutStops =
    (symbols : List (List ℕ)) (text : List ℕ) (place : ℕ) → All IsSymbol symbols
    → StopsAt symbols text place → cut symbols text ≡ Err place

-- the symbols of a cut joined are the text
abbrev pub CutJoins : Type 0
CutJoins =
    (symbols : List (List ℕ)) (text : List ℕ) (word : List (List ℕ)) → All IsSymbol symbols
    → cut symbols text ≡ Ok word → joined word ≡ text
