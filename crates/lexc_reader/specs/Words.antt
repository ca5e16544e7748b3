-- Words that begin a part of a lexc text.
use Rattle.std.specs.Prelude.{◌≡◌, List, Option, None, Some}
use Rattle.lexc_forms.specs.declared.letters.Letter.{Letter}
use Rattle.lexc_grammar.specs.Files.{spelling, IsNoKeyword}
use Rattle.lexc_grammar.specs.declared.statements.Keyword.{Keyword}

-- the keyword that a word is, or that it is none
abbrev pub IsKeyword : List Letter → Option Keyword → Type 0
IsKeyword letters (Some k) = letters ≡ spelling k
IsKeyword letters None = IsNoKeyword letters
