-- The lines of a manifest that say something, as they are read: by their words, and by what they declare.
use Rattle.std.specs.Prelude.{◌≡◌, ◌≢◌, ℕ, List, [], ◌∷◌, map, All, IsTrue, Some, Vec}
use Rattle.std.specs.List.{list_all}
use Rattle.std.specs.Global.{Global}
use Rattle.std.specs.Str.{IsUtf8}
use Rattle.regex_reader.specs.Files.{is_name}
use Rattle.project_manifest.specs.Manifests.{IsFileName, Saying, is_symbol_word}
use Rattle.project_manifest.specs.Lines.{IsFine, Line, Placed, alphabet_line, gloss_line, lexc_line, require_line, said_by, twolc_line, xfst_line}
use Rattle.project_manifest.specs.declared.declarations.Declaration.{Declaration}
use Rattle.project_manifest.specs.declared.declarations.Declaration.TheVariants.{Lexicon, Grammar, Definitions, Symbols, Required, Glosses}
use Rattle.project_manifest.specs.declared.keywords.Keyword.{Keyword}
use Rattle.project_manifest.specs.declared.manifest.ManifestLine.{ManifestLine}
use Rattle.project_manifest.specs.declared.said.Said.{Said}

-- words by their bytes
abbrev pub as_written : List (Vec ℕ Global) → List (List ℕ)
as_written words = map (λ w. w.items) words

abbrev pub saying_of : Said → Saying
saying_of said = record { line = said.line; words = as_written said.words.items }

-- each word is in UTF-8
abbrev pub AreTexts : List (List ℕ) → Type 0
AreTexts words = All IsUtf8 words

-- each word of these lines is
abbrev pub HaveTexts : List Saying → Type 0
HaveTexts said = All (λ (s : Saying). AreTexts s.words) said

-- what is declared says this
abbrev pub line_of : Declaration → Line
line_of (Lexicon name file) = lexc_line name file
line_of (Grammar name file) = twolc_line name file
line_of (Definitions file) = xfst_line file
line_of (Symbols symbols) = alphabet_line symbols.items
line_of (Required names) = require_line names.items
line_of (Glosses file) = gloss_line file

abbrev pub placed_of : ManifestLine → Placed
placed_of l = record { line = l.number; said = line_of l.declares }

-- the words behind a keyword: a file's name
abbrev pub IsFile : List (List ℕ) → List ℕ → Type 0
IsFile words file = (words ≡ file ∷ []) × IsFileName file

-- a name and a file's name
abbrev pub IsNamedFile : List (List ℕ) → List ℕ → List ℕ → Type 0
IsNamedFile words name file = (words ≡ name ∷ file ∷ []) × IsTrue (is_name name) × IsFileName file

-- names, one or more
abbrev pub AreNames : List (List ℕ) → Type 0
AreNames words = (words ≢ []) × IsTrue (list_all is_name words)

-- symbols, one or more
abbrev pub AreSymbols : List (List ℕ) → Type 0
AreSymbols words = (words ≢ []) × IsTrue (list_all is_symbol_word words)

-- behind this keyword the words say this
abbrev pub SaysBy : Keyword → List (List ℕ) → Line → Type 0
SaysBy keyword words said = (said_by keyword words ≡ Some said) × IsFine said words
