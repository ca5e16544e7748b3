-- The words of a manifest. It has one statement a line. Words are apart by blanks, and `%` takes the next character as it is. A line
-- without words, or whose first word begins with `!`, says nothing. And the form of names of files, and of symbols.
use Rattle.std.specs.Prelude.{◌≡◌, ◌≢◌, ◌<◌, ◌≤◌, ◌+◌, ◌⊎◌, ◌++◌, ◌==◌, ◌&&◌, ◌||◌, ℕ, Bool, true, false, not, cond, List, [], ◌∷◌, length, All, Some, codes, slice_get}
use Rattle.regex_tokens.specs.Reading.{is_flag}

-- the name of the manifest's own file
abbrev pub project_name : List ℕ
project_name = codes "project"

-- what was read of a line or a word, if it is anything
abbrev pub some_of : List ℕ → List (List ℕ)
some_of [] = []
some_of (b ∷ bs) = (b ∷ bs) ∷ []

-- the lines of a text, by what was read of the first one. A last piece without newline is a line unless it is empty
abbrev pub lines_from : List ℕ → List ℕ → List (List ℕ)
lines_from line [] = some_of line
lines_from line (b ∷ bs) = cond (b == 10) (line ∷ lines_from [] bs) (lines_from (line ++ b ∷ []) bs)

abbrev pub lines_of : List ℕ → List (List ℕ)
lines_of text = lines_from [] text

-- space and tab
abbrev pub is_blank : ℕ → Bool
is_blank b = b == 32 || b == 9

-- the words of a line, as they are written, by what was read of the first one, and whether its `%` takes the next byte
abbrev pub words_from : List ℕ → Bool → List ℕ → List (List ℕ)
words_from word taking [] = some_of word
words_from word taking (b ∷ bs) = cond (not taking && is_blank b) (some_of word ++ words_from [] false bs) (words_from (word ++ b ∷ []) (not taking && b == 37) bs)

abbrev pub words_of : List ℕ → List (List ℕ)
words_of line = words_from [] false line

abbrev pub begins_with_mark : List ℕ → Bool
begins_with_mark [] = false
begins_with_mark (b ∷ bs) = b == 33

-- the words of a line that says nothing
abbrev pub is_epsilon : List (List ℕ) → Bool
is_epsilon [] = true
is_epsilon (word ∷ words) = begins_with_mark word

-- the statements of lines, each by its words, with its line, counted from this one
pub record Saying : Type 0 where
  pub line : ℕ
  pub words : List (List ℕ)

abbrev pub saying : ℕ → List (List ℕ) → Saying
saying line words = record { line = line; words = words }

abbrev pub sayings : ℕ → List (List ℕ) → List Saying
sayings n [] = []
sayings n (line ∷ lines) = cond (is_epsilon (words_of line)) (sayings (n + 1) lines) (saying n (words_of line) ∷ sayings (n + 1) lines)

abbrev pub statements_in : List ℕ → List Saying
statements_in text = sayings 1 (lines_of text)

-- the text of a word: each `%` is left out, and what it takes stays
abbrev pub taken_from : Bool → List ℕ → List ℕ
taken_from taking [] = []
taken_from taking (b ∷ bs) = cond (not taking && b == 37) (taken_from true bs) (b ∷ taken_from false bs)

abbrev pub text_of : List ℕ → List ℕ
text_of word = taken_from false word

-- a `%` at the end, or before a tab, takes nothing
abbrev pub takes_nothing : Bool → List ℕ → Bool
takes_nothing taking [] = taking
takes_nothing taking (b ∷ bs) = (taking && b == 9) || takes_nothing (not taking && b == 37) bs

-- a letter, a digit, `_`, `-` or `.`
abbrev pub IsFileByte : ℕ → Type 0
IsFileByte b = ((48 ≤ b) × (b ≤ 57)) ⊎ ((65 ≤ b) × (b ≤ 90)) ⊎ ((97 ≤ b) × (b ≤ 122)) ⊎ (b ≡ 95) ⊎ (b ≡ 45) ⊎ (b ≡ 46)

-- the most bytes of a file's name
abbrev pub most_name_bytes : ℕ
most_name_bytes = 64

-- such bytes, one or more but not too many, the first no `.`, and not the manifest's own name
pub record IsFileName (name : List ℕ) : Type 0 where
  pub some : 0 < length name
  pub short : length name ≤ most_name_bytes
  pub bytes : All IsFileByte name
  pub first : slice_get name 0 ≢ Some 46
  pub other : name ≢ project_name

-- a text that may be a symbol: it isn't empty, and it is no flag
abbrev pub may_be_symbol : List ℕ → Bool
may_be_symbol text = not (length text == 0) && not (is_flag text)

-- a word that stands for a symbol: each `%` takes something, and its text may be one
abbrev pub is_symbol_word : List ℕ → Bool
is_symbol_word word = not (takes_nothing false word) && may_be_symbol (text_of word)
