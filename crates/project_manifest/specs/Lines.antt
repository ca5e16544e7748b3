-- The lines of a manifest, one statement each: that a name is a lexc or twolc file's relation, that a file has definitions, which
-- symbols there are besides, which names must be defined, or which file has the glosses; and the faults of a line.
use Rattle.std.specs.Prelude.{◌≡◌, ◌≢◌, ◌≤◌, ◌⊎◌, ℕ, Bool, true, false, List, [], ◌∷◌, length, map, Contains, IsTrue, codes, Option, None, Some, if◌then◌else◌}
use Rattle.std.specs.List.{flat_map, list_all}
use Rattle.std.specs.Str.{bytes_eq}
use Rattle.regex_ast.specs.declared.fault.Why.{Why}
use Rattle.regex_ast.specs.declared.fault.Why.TheVariants as why
use Rattle.regex_reader.specs.Files.{FaultAt, is_name}
use Rattle.project_manifest.specs.Manifests.{Saying, statements_in, IsFileName, is_symbol_word, text_of}
use Rattle.project_manifest.specs.Rows.{First, Where, places}
use Rattle.project_manifest.specs.declared.keywords.Keyword.{Keyword}
use Rattle.project_manifest.specs.declared.keywords.Keyword.TheVariants.{Lexc, Twolc, Xfst, Alphabet, Require, Gloss}

pub data Line : Type 0 where
  -- a name, and the file that it is the relation of
  lexc_line : List ℕ → List ℕ → Line
  twolc_line : List ℕ → List ℕ → Line
  -- a file
  xfst_line : List ℕ → Line
  gloss_line : List ℕ → Line
  -- the texts of symbols
  alphabet_line : List (List ℕ) → Line
  -- names
  require_line : List (List ℕ) → Line

abbrev pub keyword_of : List ℕ → Option Keyword
keyword_of word =
    if bytes_eq word (codes "lexc") then Some Lexc
    else if bytes_eq word (codes "twolc") then Some Twolc
    else if bytes_eq word (codes "xfst") then Some Xfst
    else if bytes_eq word (codes "alphabet") then Some Alphabet
    else if bytes_eq word (codes "require") then Some Require
    else if bytes_eq word (codes "gloss") then Some Gloss
    else None

-- `lexc NAME FILE`, `twolc NAME FILE`, `xfst FILE`, `gloss FILE`, `alphabet SYM ..` and `require NAME ..`, by the words behind the keyword
abbrev pub said_by : Keyword → List (List ℕ) → Option Line
said_by Lexc (name ∷ file ∷ []) = Some (lexc_line name file)
said_by Twolc (name ∷ file ∷ []) = Some (twolc_line name file)
said_by Xfst (file ∷ []) = Some (xfst_line file)
said_by Gloss (file ∷ []) = Some (gloss_line file)
said_by Alphabet (word ∷ words) = Some (alphabet_line (map text_of (word ∷ words)))
said_by Require (name ∷ names) = Some (require_line (name ∷ names))
said_by _ _ = None

abbrev pub said_behind : Option Keyword → List (List ℕ) → Option Line
said_behind None words = None
said_behind (Some keyword) words = said_by keyword words

-- the line of these words
abbrev pub line_in : List (List ℕ) → Option Line
line_in [] = None
line_in (word ∷ words) = said_behind (keyword_of word) words

-- its names are names, its file a file's name, and the words of its symbols are symbols
abbrev pub IsFine : Line → List (List ℕ) → Type 0
IsFine (lexc_line name file) words = IsTrue (is_name name) × IsFileName file
IsFine (twolc_line name file) words = IsTrue (is_name name) × IsFileName file
IsFine (xfst_line file) words = IsFileName file
IsFine (gloss_line file) words = IsFileName file
IsFine (alphabet_line symbols) words = IsTrue (list_all is_symbol_word words)
IsFine (require_line names) words = IsTrue (list_all is_name names)

-- the words say this
abbrev pub SaysLine : List (List ℕ) → Line → Type 0
SaysLine [] said = ⊥
SaysLine (word ∷ words) said = (line_in (word ∷ words) ≡ Some said) × IsFine said words

-- the file that a line names
abbrev pub file_in : Line → List (List ℕ)
file_in (lexc_line name file) = file ∷ []
file_in (twolc_line name file) = file ∷ []
file_in (xfst_line file) = file ∷ []
file_in (gloss_line file) = file ∷ []
file_in (alphabet_line symbols) = []
file_in (require_line names) = []

abbrev pub symbols_said : Line → List (List ℕ)
symbols_said (alphabet_line symbols) = symbols
symbols_said _ = []

abbrev pub names_required : Line → List (List ℕ)
names_required (require_line names) = names
names_required _ = []

abbrev pub is_gloss : Line → Bool
is_gloss (gloss_line file) = true
is_gloss _ = false

-- a line of the manifest, by its number
pub record Placed : Type 0 where
  pub line : ℕ
  pub said : Line

abbrev pub placed_in : ℕ → Option Line → List Placed
placed_in line None = []
placed_in line (Some said) = record { line = line; said = said } ∷ []

-- the lines of a manifest that say something
abbrev pub lines_in : List Saying → List Placed
lines_in sayings = flat_map (λ s. placed_in s.line (line_in s.words)) sayings

abbrev pub manifest_of : List ℕ → List Placed
manifest_of text = lines_in (statements_in text)

-- the files that lines name, and the further symbols
abbrev pub files_in : List Placed → List (List ℕ)
files_in lines = flat_map (λ l. file_in l.said) lines

abbrev pub symbols_of : List Placed → List (List ℕ)
symbols_of lines = flat_map (λ l. symbols_said l.said) lines

-- the files of glosses that lines name
abbrev pub glosses_said : Line → List (List ℕ)
glosses_said (gloss_line file) = file ∷ []
glosses_said _ = []

abbrev pub gloss_files_in : List Placed → List (List ℕ)
gloss_files_in lines = flat_map (λ l. glosses_said l.said) lines

-- Faults of a line, behind the lines before it.

-- the most files besides the manifest
unfoldable pub most_files : ℕ
most_files = 64

pub data LineRow : Type 0 where
  no_line : LineRow
  named_again : LineRow
  many_files : LineRow

abbrev pub line_rows : List LineRow
line_rows = no_line ∷ named_again ∷ many_files ∷ []

-- its file was named before, or it is a second line of glosses
abbrev pub NamesAgain : List Placed → Line → Type 0
NamesAgain before said =
    ((file : List ℕ) × Contains (file_in said) file × Contains (files_in before) file)
    ⊎ (IsTrue (is_gloss said) × (l : Placed) × Contains before l × IsTrue (is_gloss l.said))

-- it names a file behind so many as there may be
abbrev pub NamesTooMany : List Placed → Line → Type 0
NamesTooMany before said = (file_in said ≢ []) × (most_files ≤ length (files_in before))

-- the words say something of which that is so
abbrev pub SaysSome : List (List ℕ) → (Line → Type 0) → Type 0
SaysSome words P = (said : Line) × SaysLine words said × P said

abbrev pub fault_at : ℕ → Why → FaultAt
fault_at line why = record { line = line; why = why }

abbrev pub LineFault : List Placed → Saying → LineRow → FaultAt → Type 0
LineFault before s no_line found = Where ((said : Line) → SaysLine s.words said → ⊥) (fault_at s.line why.Statement) found
LineFault before s named_again found = Where (SaysSome s.words (NamesAgain before)) (fault_at s.line why.Duplicate) found
LineFault before s many_files found = Where (SaysSome s.words (NamesTooMany before)) (fault_at s.line why.LimitFiles) found

-- the first fault of statements by these rows
abbrev pub SayingsFault : List LineRow → List Saying → FaultAt → Type 0
SayingsFault by sayings found = First (λ place. First (LineFault (lines_in place.before) place.item) by) (places sayings) found

-- the first fault of a manifest's text by these rows
abbrev pub ManifestFault : List LineRow → List ℕ → FaultAt → Type 0
ManifestFault by text found = SayingsFault by (statements_in text) found
