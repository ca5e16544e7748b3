-- The forms of expressions and of rules that stand in a twolc text.
use Rattle.std.specs.Prelude.{ℕ, List, Ok}
use Rattle.project_meaning.specs.Trees.{Grammar}
use Rattle.regex_ast.specs.declared.expr.Raw.{Raw}
use Rattle.twolc_grammar.specs.Sections.{ReadsAs}
use Rattle.grammar_pairs.specs.Plain.{IsFormed}

-- the grammar that a text says has these forms
abbrev pub GrammarsAreFormed : Type 0
GrammarsAreFormed = (text : List ℕ) (grammar : Grammar Raw) → ReadsAs text (Ok grammar) → IsFormed grammar
