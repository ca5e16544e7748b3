-- Laws of what texts say: wherever names are defined, its bodies are compiled.
use Rattle.std.specs.Prelude.{ℕ, List, Contains, Ok}
use Rattle.fsm_io.specs.Folders.{Files}
use Rattle.regex_ast.specs.declared.expr.Raw.{Raw}
use Rattle.regex_reader.specs.Files.{Statement, ReadsAs as ReadsStatements}
use Rattle.lexc_grammar.specs.Files.{SaysLexicons}
use Rattle.twolc_grammar.specs.Sections.{ReadsAs as ReadsGrammar}
use Rattle.project_meaning.specs.Trees.{Lexicon, Grammar, xfst, lexc, twolc}
use Rattle.project_meaning.specs.Leaves.{resolved}
use Rattle.project_meaning.specs.Projects.{Written}
use Rattle.project_sources.specs.Sources.{Said, FilesSay, resolved_in}
use Rattle.project_sources.specs.Built.{BodyIsBuilt}
use Rattle.project_sources.specs.Laws.{all_readers}

-- the expressions of an xfst text
abbrev pub ExpressionsAreBuilt : Type 0
ExpressionsAreBuilt =
    (text : List ℕ) (statements : List Statement) → ReadsStatements text (Ok statements) → (names : List (List ℕ)) (s : Statement) → Contains statements s → BodyIsBuilt (resolved names (xfst s.term))

-- the lexicons of a lexc text
abbrev pub LexiconsAreBuilt : Type 0
LexiconsAreBuilt = (text : List ℕ) (lexicons : List (Lexicon Raw)) → SaysLexicons text (Ok lexicons) → (names : List (List ℕ)) → BodyIsBuilt (resolved names (lexc lexicons))

-- the grammar of a twolc text
abbrev pub GrammarsAreBuilt : Type 0
GrammarsAreBuilt = (text : List ℕ) (grammar : Grammar Raw) → ReadsGrammar text (Ok grammar) → (names : List (List ℕ)) → BodyIsBuilt (resolved names (twolc grammar))

-- the definitions that files say
abbrev pub BodiesAreBuilt : Type 0
BodiesAreBuilt = (files : Files) (said : Said) → FilesSay all_readers files said → (w : Written) → Contains said.written w → BodyIsBuilt (resolved_in said w).body
