-- Grammars by the numbers of their symbols in a table.
use Rattle.std.specs.Prelude.{◌≡◌, ℕ, List}
use Rattle.grammar_pairs.specs.Mapped.{mapped_grammar}
use Rattle.name_resolution.specs.Numbered.{numbered}
use Rattle.name_resolution.specs.Resolved.{letter_of}
use Rattle.project_meaning.specs.Leaves.{resolved_grammar}
use Rattle.project_meaning.specs.Trees.{Grammar}
use Rattle.regex_ast.specs.declared.expr.Raw.{Raw}

-- a grammar by numbers is the resolved grammar, each leaf by its number
abbrev pub IsResolvedByNumber : Type 0
IsResolvedByNumber = (names table : List (List ℕ)) (grammar : Grammar Raw) → mapped_grammar (letter_of names table) grammar ≡ mapped_grammar (numbered names table) (resolved_grammar grammar)
