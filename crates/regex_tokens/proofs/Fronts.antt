-- What the tokens are behind an operator.
use Rattle.std.proofs.Common.{◌≡◌, ◌↔◌, Bool, true, false, cond, Some, None, List, [], ◌∷◌, refl, sym, ap, ◌∙◌, rules}
use denote.Enum.Bare.{sameb, same_true, true_same}
use Rattle.regex_tokens.specs.contracts.token.Operator.{the_type}
use Rattle.regex_tokens.specs.Fronts.{is_operator, after}
use Rattle.regex_tokens.specs.declared.token.Operator.{Operator}
use Rattle.regex_tokens.specs.declared.token.Token.{Token}
use Rattle.regex_tokens.specs.declared.token.Token.TheVariants.{Operator as operator, Quoted as quoted, Braced as braced, Run as run}

pub same_operator : (o p : Operator) → sameb the_type o p ≡ true → o ≡ p
same_operator o p e = same_true the_type (search rules) o p e

is_that : (o : Operator) (t : Token) → is_operator o t ≡ true → t ≡ operator o
is_that o (operator p) e = ap operator (sym (same_operator o p e))
is_that o (quoted cs) e = absurd cc
is_that o (braced cs) e = absurd cc
is_that o (run r) e = absurd cc

passed : (o : Operator) (t : Token) (more rest : List Token) (b : Bool) → is_operator o t ≡ b → cond b (Some more) None ≡ Some rest → t ∷ more ≡ operator o ∷ rest
passed o t more rest true is e = let first : t ≡ operator o = is_that o t is in cc
passed o t more rest false is e = absurd cc

pub after_takes : (o : Operator) (ts rest : List Token) → after o ts ≡ Some rest → ts ≡ operator o ∷ rest
after_takes o [] rest e = absurd cc
after_takes o (t ∷ ts) rest e = passed o t ts rest (is_operator o t) refl e

pub after_again : (o : Operator) (rest : List Token) → after o (operator o ∷ rest) ≡ Some rest
after_again o rest = ap (λ b. cond b (Some rest) None) (true_same the_type o o refl)

-- the tokens behind an operator are those that it stands before
pub after_is : (o : Operator) (ts rest : List Token) → (after o ts ≡ Some rest) ↔ (ts ≡ operator o ∷ rest)
after_is o ts rest = (after_takes o ts rest, λ e. ap (after o) e ∙ after_again o rest)
