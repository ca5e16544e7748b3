-- Whole expressions.
use Rattle.std.proofs.Common.{◌≡◌, Option, Some, None, List, [], ◌∷◌, length, ap, arith}
use Rattle.std.specs.Option.{option_and_then}
use Rattle.regex_ast.specs.Terms.{Term}
use Rattle.regex_ast.specs.declared.expr.Raw.{Raw}
use Rattle.regex_grammar.proofs.Whole.{reads}
use Rattle.regex_grammar.specs.Reading.{expression_at, all_read, whole_at}
use Rattle.regex_grammar.specs.Whole.{most_open, IsReading}
use Rattle.regex_tokens.specs.declared.token.Token.{Token}

whole_by : (tokens : List Token) (o : Option (Term Raw × List Token)) → o ≡ expression_at 65 tokens → option_and_then (λ x. all_read x.0 x.1) o ≡ whole_at tokens
unfolding most_open
whole_by tokens o e = ap (option_and_then (λ (x : Term Raw × List Token). all_read x.0 x.1)) e

pub whole_none : (tokens : List Token) → None ≡ expression_at 65 tokens → IsReading tokens None
whole_none tokens e = reads tokens None (whole_by tokens None e)

pub whole_read : (tokens : List Token) (t : Term Raw) (rest : List Token) → Some (t, rest) ≡ expression_at 65 tokens → length rest ≡ 0 → IsReading tokens (Some t)
whole_read tokens t [] e none = reads tokens (Some t) (whole_by tokens (Some (t, [])) e)
whole_read tokens t (a ∷ rest) e none = absurd (omega arith)

pub whole_open : (tokens : List Token) (t : Term Raw) (rest : List Token) → Some (t, rest) ≡ expression_at 65 tokens → (length rest ≡ 0 → ⊥) → IsReading tokens None
whole_open tokens t [] e some = absurd (some (omega arith))
whole_open tokens t (a ∷ rest) e some = reads tokens None (whole_by tokens (Some (t, a ∷ rest)) e)
