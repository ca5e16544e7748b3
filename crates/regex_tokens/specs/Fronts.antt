-- What tokens begin with.
use Rattle.std.specs.Prelude.{Bool, false, List, [], ◌∷◌, Option, Some, None, if◌then◌else◌}
use denote.Enum.Bare.{sameb}
use Rattle.regex_tokens.specs.contracts.token.Operator.{the_type}
use Rattle.regex_tokens.specs.declared.token.Operator.{Operator}
use Rattle.regex_tokens.specs.declared.token.Token.{Token}
use Rattle.regex_tokens.specs.declared.token.Token.TheVariants.{Operator as operator}

-- whether the token is this operator, which its place among the operators tells
abbrev pub is_operator : Operator → Token → Bool
is_operator o (operator p) = sameb the_type o p
is_operator o _ = false

-- the tokens behind this operator, where they begin with it
abbrev pub after : Operator → List Token → Option (List Token)
after o [] = None
after o (t ∷ rest) = if is_operator o t then Some rest else None
