-- The forms of lexicon entries: how letters are cut into symbols and flags, and the two sides of a word (Beesley and Karttunen,
-- Finite State Morphology, 2003, chapters 4 and 7). `declared` are the declared multicharacter symbols that are no flags,
-- each by its characters.
use Rattle.std.specs.Prelude.{◌≡◌, ◌<◌, ◌≤◌, ◌==◌, ◌⊎◌, ◌++◌, ℕ, Bool, false, List, [], ◌∷◌, length, take, drop, Contains, if◌then◌else◌}
use Rattle.std.specs.List.{list_any}
use Rattle.std.specs.Str.{encode_utf8_all}
use Rattle.regex_ast.specs.declared.expr.Raw.{Raw}
use Rattle.regex_ast.specs.declared.expr.Raw.TheVariants.{Quoted}
use Rattle.regex_ast.specs.declared.lexc.FlagOp.{FlagOp}
use Rattle.regex_ast.specs.declared.lexc.Piece.{Piece}
use Rattle.regex_ast.specs.declared.lexc.Piece.TheVariants.{Symbol, Flag}
use Rattle.regex_ast.specs.declared.lexc.Form.{Form}
use Rattle.regex_ast.specs.declared.lexc.Form.TheVariants.{Sides, Pairs}
use Rattle.flag_texts.specs.Reading.{IsFlagOf}
use Rattle.lexc_forms.specs.Letters.{character_of, characters_of, is_colon}
use Rattle.lexc_forms.specs.declared.letters.Letter.{Letter}
use Rattle.lexc_forms.specs.declared.letters.Letter.TheVariants.{Plain, Escaped}

-- characters as one symbol. A symbol of a form is never a name
abbrev pub symbol_of : List ℕ → Piece Raw
symbol_of characters = Symbol (Quoted (encode_utf8_all characters))

-- these characters are a declared symbol or a flag, which this piece is
pub data IsWhole (declared : List (List ℕ)) (characters : List ℕ) : Piece Raw → Type 0 where
  symbol : Contains declared characters → IsWhole declared characters (symbol_of characters)
  flag : (f : FlagOp) → IsFlagOf (encode_utf8_all characters) f → IsWhole declared characters (Flag f)

-- so many characters in front are a declared symbol or a flag, which this piece is, and no longer front is any
pub record IsLongestPiece (declared : List (List ℕ)) (text : List ℕ) (n : ℕ) (piece : Piece Raw) : Type 0 where
  pub some : 0 < n
  pub within : n ≤ length text
  pub whole : IsWhole declared (take n text) piece
  pub longest : (m : ℕ) (other : Piece Raw) → m ≤ length text → IsWhole declared (take m text) other → m ≤ n

abbrev pub HasNoPiece : List (List ℕ) → List ℕ → Type 0
HasNoPiece declared text = (m : ℕ) (piece : Piece Raw) → m ≤ length text → IsWhole declared (take m text) piece → ⊥

-- a `0` that isn't escaped
abbrev pub is_nothing : Letter → Bool
is_nothing (Plain c) = c == 48
is_nothing (Escaped c) = false

-- what a letter gives alone: nothing, or one symbol
abbrev pub alone : Letter → List (Piece Raw)
alone letter = if is_nothing letter then [] else symbol_of (character_of letter ∷ []) ∷ []

-- Letters are cut into these pieces, from left to right: at each place the longest declared symbol or flag that begins there,
-- whether its characters are escaped or not, and where none begins what the letter gives alone.
pub data CutsInto (declared : List (List ℕ)) : List Letter → List (Piece Raw) → Type 0 where
  ended : CutsInto declared [] []
  longest : (letters : List Letter) (n : ℕ) (piece : Piece Raw) (pieces : List (Piece Raw)) → IsLongestPiece declared (characters_of letters) n piece → CutsInto declared (drop n letters) pieces → CutsInto declared letters (piece ∷ pieces)
  one : (letter : Letter) (letters : List Letter) (pieces : List (Piece Raw)) → HasNoPiece declared (characters_of (letter ∷ letters)) → CutsInto declared letters pieces → CutsInto declared (letter ∷ letters) (alone letter ++ pieces)

-- so many letters in front are cut into these pieces, however the others are cut
pub record IsCutFront (declared : List (List ℕ)) (letters : List Letter) (n : ℕ) (pieces : List (Piece Raw)) : Type 0 where
  pub within : n ≤ length letters
  pub with_others : (others : List (Piece Raw)) → CutsInto declared (drop n letters) others → CutsInto declared letters (pieces ++ others)

-- the two sides of a word: what stands before and behind its `:`, or, where it has none, the word twice
abbrev pub HasSides : List Letter → List Letter → List Letter → Type 0
HasSides word upper lower =
    ((list_any is_colon word ≡ false) × (upper ≡ word) × (lower ≡ word))
    ⊎ ((word ≡ upper ++ Plain 58 ∷ lower) × (list_any is_colon upper ≡ false) × (list_any is_colon lower ≡ false))

-- a word with a second `:`
abbrev pub HasNoSides : List Letter → Type 0
HasNoSides word = (upper lower : List Letter) → HasSides word upper lower → ⊥

-- the word adds this to the two sides of a path
abbrev pub IsForm : List (List ℕ) → List Letter → Form Raw → Type 0
IsForm declared word (Sides upper lower) =
    (up : List Letter) × (low : List Letter) × HasSides word up low × CutsInto declared up upper.items × CutsInto declared low lower.items
IsForm declared word (Pairs e) = ⊥
