-- The tokens of a statement or an entry are read in one way only.
use Rattle.std.proofs.Common.{◌≡◌, true, false, List, Some, sym, ap, ◌∙◌}
use Rattle.std.specs.List.{list_any}
use Rattle.regex_ast.specs.Terms.{Term}
use Rattle.regex_ast.specs.declared.expr.Raw.{Raw}
use Rattle.regex_grammar.specs.Whole.{IsReading}
use Rattle.regex_grammar.proofs.Whole.{one_reading}
use Rattle.regex_tokens.specs.declared.token.Token.{Token}
use Rattle.regex_reader.specs.Tests.{nodes, is_misplaced}

same_some : (t u : Term Raw) → Some t ≡ Some u → t ≡ u
same_some t u e = cc

pub same_term : (tokens : List Token) (t u : Term Raw) → IsReading tokens (Some t) → IsReading tokens (Some u) → t ≡ u
same_term tokens t u a b = same_some t u (one_reading tokens (Some t) (Some u) a b)

true_false : true ≡ false → ⊥
true_false e = absurd cc

-- where an edge is misplaced in what the tokens say, they say nothing else
pub no_other_term : (tokens : List Token) (t : Term Raw) → IsReading tokens (Some t) → list_any is_misplaced (nodes false t) ≡ true → (u : Term Raw) → IsReading tokens (Some u) → list_any is_misplaced (nodes false u) ≡ false → ⊥
no_other_term tokens t reads misplaced u other fine = true_false (sym misplaced ∙ ap (λ v. list_any is_misplaced (nodes false v)) (same_term tokens t u reads other) ∙ fine)
