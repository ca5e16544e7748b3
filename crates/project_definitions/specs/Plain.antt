-- What names stand for in the program, as plain trees.
use Rattle.std.specs.Prelude.{map}
use Rattle.regex_ast.specs.Terms.{term}
use Rattle.project_meaning.specs.Trees.{Body, xfst, lexc, twolc}
use Rattle.grammar_pairs.specs.Plain.{grammar_of}
use Rattle.name_resolution.specs.Plain.{lexicon_of}
use Rattle.project_definitions.specs.declared.definition.Body.{Body as BodyOf}
use Rattle.project_definitions.specs.declared.definition.Body.TheVariants.{Xfst, Lexc, Twolc}

abbrev pub body_of : {A : Type 0} → BodyOf A → Body A
body_of (Xfst e) = xfst (term e)
body_of (Lexc lexicons) = lexc (map lexicon_of lexicons.items)
body_of (Twolc grammar) = twolc (grammar_of grammar)
