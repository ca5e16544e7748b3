-- Laws of what a lexc text says.
use Rattle.std.specs.Prelude.{◌≡◌, ℕ, List, Result}
use Rattle.regex_ast.specs.declared.expr.Raw.{Raw}
use Rattle.regex_reader.specs.Files.{FaultAt}
use Rattle.project_meaning.specs.Trees.{Lexicon}
use Rattle.lexc_grammar.specs.Files.{SaysLexicons}

-- a text says one thing only: its lexicons, or one fault
abbrev pub OneReading : Type 0
OneReading = (text : List ℕ) (a b : Result (List (Lexicon Raw)) FaultAt) → SaysLexicons text a → SaysLexicons text b → a ≡ b
