-- Tokens that are one expression.
use Rattle.std.specs.Prelude.{◌≡◌, ℕ, suc, List, [], Option, Some, None}
use Rattle.regex_ast.specs.Terms.{Term}
use Rattle.regex_ast.specs.declared.expr.Raw.{Raw}
use Rattle.regex_grammar.specs.Grammar.{Expression, put_expression, expression_term}
use Rattle.regex_tokens.specs.declared.token.Token.{Token}

-- the most brackets that may be open round a token
unfoldable pub most_open : ℕ
most_open = 64

-- a tree, all of its tokens, and what it says
abbrev pub Tree : Type 0
Tree = Expression (suc most_open)

abbrev pub tokens_of : Tree → List Token
tokens_of tree = put_expression (suc most_open) tree []

abbrev pub tree_term : Tree → Term Raw
tree_term tree = expression_term (suc most_open) tree

-- The tokens are those of an expression that says this; or of none.
abbrev pub IsReading : List Token → Option (Term Raw) → Type 0
IsReading tokens (Some t) = (tree : Tree) × (tokens ≡ tokens_of tree) × (tree_term tree ≡ t)
IsReading tokens None = (tree : Tree) → tokens ≡ tokens_of tree → ⊥

-- tokens are read in one way only
abbrev pub OneReading : Type 0
OneReading = (tokens : List Token) (o p : Option (Term Raw)) → IsReading tokens o → IsReading tokens p → o ≡ p
