-- Words for what the functions of this crate compute on their way to an expression over pairs.
use Rattle.std.specs.Prelude.{◌≡◌, List, ◌∷◌, false, Option, None, Some, map}
use Rattle.std.specs.Option.{option_map, option_and_then}
use Rattle.regex_ast.specs.Terms.{Term, Terms, Links, term, terms_of, links_of, or, and, less}
use Rattle.regex_ast.specs.declared.expr.Expr.{Expr}
use Rattle.regex_ast.specs.declared.expr.Link.{Link, Or, And, Less}
use Rattle.regex_ast.specs.declared.expr.Raw.{Raw}
use Rattle.regex_ast.specs.declared.twolc.PairPart.{PairPart}
use Rattle.regex_grammar.specs.Reading.{whole_at}
use Rattle.expr_leaves.specs.Mapped.{mapped, mapped_each, mapped_links}
use Rattle.project_meaning.specs.Trees.{Part}
use Rattle.twolc_tokens.specs.declared.token.Token.{Token}
use Rattle.twolc_expressions.specs.Views.{part_view}
use Rattle.twolc_grammar.specs.Atoms.{Names}
use Rattle.twolc_grammar.specs.Expressions.{as_xfst, over_pairs, links_over_pairs}

-- an expression over pairs, expressions and operands of a row as plain trees
abbrev pub pair_term : Expr (PairPart Raw) → Term (Part Raw)
pair_term e = mapped part_view (term e)

abbrev pub pair_terms : List (Expr (PairPart Raw)) → Terms (Part Raw)
pair_terms es = mapped_each part_view (terms_of (map term es))

abbrev pub pair_links : List (Link (PairPart Raw)) → Links (Part Raw)
pair_links ls = mapped_links part_view (links_of ls)

-- the expression that the tokens are
abbrev pub expression_in : Names → List Token → Option (Term (Part Raw))
expression_in names tokens = option_and_then (λ xs. option_and_then (over_pairs names) (whole_at xs)) (as_xfst false tokens)

-- what is found where this holds of it, or that it holds of nothing
abbrev pub IsFound : {A : Type 0} → (A → Type 0) → Option A → Type 0
IsFound {A} P None = (x : A) → P x → ⊥
IsFound P (Some x) = P x

-- an operand of a row in front of others
abbrev pub link_before : Link (PairPart Raw) → Links (Part Raw) → Links (Part Raw)
link_before (Or e) rest = or (pair_term e) rest
link_before (And e) rest = and (pair_term e) rest
link_before (Less e) rest = less (pair_term e) rest

abbrev pub links_made : Names → List (Link Raw) → Option (Links (Part Raw))
links_made names ls = links_over_pairs names (links_of ls)

-- an operand of a row over pairs, whatever stands behind it, or that it is none
abbrev pub IsLink : Names → Link Raw → Option (Link (PairPart Raw)) → Type 0
IsLink names x None = (rest : List (Link Raw)) → links_made names (x ∷ rest) ≡ None
IsLink names x (Some y) = (rest : List (Link Raw)) → links_made names (x ∷ rest) ≡ option_map (link_before y) (links_made names rest)
