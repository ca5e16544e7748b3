-- The words of a line of text: the longest runs of characters that stand between blanks and marks of punctuation.
use Rattle.std.specs.Prelude.{ℕ, ◌++◌, ◌==◌, Bool, not, List, [], ◌∷◌, length, if◌then◌else◌, codes, chars, encode_utf8}
use Rattle.std.specs.List.{filter, list_any}

-- the character is one of these
abbrev pub is_among : List ℕ → ℕ → Bool
is_among ends character = list_any (λ end. end == character) ends

-- the pieces of characters between these, by the bytes of what was read of the first one
abbrev pub pieces_from : List ℕ → List ℕ → List ℕ → List (List ℕ)
pieces_from ends piece [] = piece ∷ []
pieces_from ends piece (c ∷ cs) = if is_among ends c then piece ∷ pieces_from ends [] cs else pieces_from ends (piece ++ encode_utf8 c) cs

-- the pieces of a text between these characters, empty ones too
abbrev pub pieces_of : List ℕ → List ℕ → List (List ℕ)
pieces_of ends text = pieces_from ends [] (chars text)

-- space, tab and marks of punctuation
abbrev pub between_words : List ℕ
between_words = codes " \t.,;:!?()\""

abbrev pub is_some : List ℕ → Bool
is_some text = not (length text == 0)

-- the words of a line
abbrev pub words_of : List ℕ → List (List ℕ)
words_of line = filter is_some (pieces_of between_words line)
