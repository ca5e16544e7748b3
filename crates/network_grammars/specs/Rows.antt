-- Rows of operands.
use Rattle.regex_ast.specs.declared.expr.Link.{Link, Or, And, Less}

-- the operator is `|`
abbrev pub IsChoice : {A : Type 0} → Link A → Type 0
IsChoice (Or e) = Unit {0}
IsChoice (And e) = ⊥
IsChoice (Less e) = ⊥
