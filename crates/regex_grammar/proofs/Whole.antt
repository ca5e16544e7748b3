-- Tokens are read as the expression that they are, in one way only.
use Rattle.std.proofs.Common.{◌≡◌, suc, Option, Some, None, List, [], ◌∷◌, refl, sym, ap, ◌∙◌}
use Rattle.std.specs.Option.{option_and_then}
use Rattle.regex_ast.specs.Terms.{Term}
use Rattle.regex_ast.specs.declared.expr.Raw.{Raw}
use Rattle.regex_tokens.specs.declared.token.Token.{Token}
use Rattle.regex_grammar.specs.Grammar.{put_expression}
use Rattle.regex_grammar.specs.Whole.{most_open, Tree, tokens_of, tree_term, IsReading, OneReading}
use Rattle.regex_grammar.specs.Reading.{expression_at, all_read, whole_at}
use Rattle.regex_grammar.proofs.Cases.{then_some, same_some, either_way}
use Rattle.regex_grammar.proofs.Level10.{expression_exact}

all_found : (tokens : List Token) (u t : Term Raw) (rest : List Token) → all_read u rest ≡ Some t → (tree : Tree) × (tokens ≡ put_expression (suc most_open) tree rest) × (tree_term tree ≡ u) → IsReading tokens (Some t)
all_found tokens u t [] e (tree, spelled, value) = (tree, spelled, value ∙ same_some u t e)
all_found tokens u t (a ∷ rest) e found = absurd cc

-- what is read, the tokens are
pub whole_takes : (tokens : List Token) (t : Term Raw) → whole_at tokens ≡ Some t → IsReading tokens (Some t)
whole_takes tokens t e = then_some _ (expression_at (suc most_open) tokens) t e (λ x first rest. all_found tokens x.0 t x.1 rest ((expression_exact (suc most_open)).takes tokens x first))

-- and what they are is read
pub whole_again : (tree : Tree) → whole_at (tokens_of tree) ≡ Some (tree_term tree)
whole_again tree = ap (option_and_then (λ (x : Term Raw × List Token). all_read x.0 x.1)) ((expression_exact (suc most_open)).again tree [] refl)

reading_of : (tokens : List Token) (o : Option (Term Raw)) → whole_at tokens ≡ o → IsReading tokens o
reading_of tokens (Some t) e = whole_takes tokens t e
reading_of tokens None e = λ tree spelled. let clash : None ≡ Some (tree_term tree) = sym e ∙ ap whole_at spelled ∙ whole_again tree in cc

-- the reader decides
pub is_reading : (tokens : List Token) → IsReading tokens (whole_at tokens)
is_reading tokens = reading_of tokens (whole_at tokens) refl

-- its answer, by any name
pub reads : (tokens : List Token) (o : Option (Term Raw)) → o ≡ whole_at tokens → IsReading tokens o
reads tokens o e = reading_of tokens o (sym e)

reading_some : (tokens : List Token) (t : Term Raw) → (tree : Tree) × (tokens ≡ tokens_of tree) × (tree_term tree ≡ t) → whole_at tokens ≡ Some t
reading_some tokens t (tree, spelled, value) = ap whole_at spelled ∙ whole_again tree ∙ ap Some value

reading_clash : (tokens : List Token) (t : Term Raw) → IsReading tokens None → (tree : Tree) × (tokens ≡ tokens_of tree) × (tree_term tree ≡ t) → ⊥
reading_clash tokens t none (tree, spelled, value) = none tree spelled

pub reading_again : (tokens : List Token) (o : Option (Term Raw)) → IsReading tokens o → whole_at tokens ≡ o
reading_again tokens (Some t) r = reading_some tokens t r
reading_again tokens None r = either_way (whole_at tokens) (λ none. none) (λ t some. absurd (reading_clash tokens t r (whole_takes tokens t some)))

pub one_reading : OneReading
one_reading tokens o p r q = sym (reading_again tokens o r) ∙ reading_again tokens p q

-- the trees that tokens spell say one term
pub one_term : (tokens : List Token) (a b : Tree) → tokens ≡ tokens_of a → tokens ≡ tokens_of b → tree_term a ≡ tree_term b
one_term tokens a b r q = same_some (tree_term a) (tree_term b) (one_reading tokens (Some (tree_term a)) (Some (tree_term b)) (a, r, refl) (b, q, refl))
