-- Words for what the functions of this crate compute on their way to a rule.
use Rattle.std.specs.Prelude.{◌≡◌, ℕ, Bool, true, false, not, List, [], ◌∷◌, ◌++◌, Option, None, Some}
use Rattle.std.specs.List.{list_all}
use Rattle.regex_ast.specs.Terms.{Contexts, no_context, between}
use Rattle.regex_ast.specs.declared.expr.Context.{Context}
use Rattle.regex_ast.specs.declared.expr.Raw.{Raw}
use Rattle.regex_ast.specs.declared.twolc.PairPart.{PairPart}
use Rattle.regex_ast.specs.declared.twolc.RuleKind.{RuleKind}
use Rattle.regex_ast.specs.declared.twolc.TwoLevelRule.{TwoLevelRule}
use Rattle.project_meaning.specs.Trees.{Part, Rule}
use Rattle.twolc_expressions.specs.Views.{pair_view}
use Rattle.twolc_expressions.specs.Reading.{pair_term}
use Rattle.twolc_reader.specs.declared.separator.Separator.{Separator}
use Rattle.twolc_reader.specs.declared.separator.Separator.TheVariants.{Underscore as behind_left, Semicolon as behind_right}
use Rattle.twolc_tokens.specs.declared.token.Operator.TheVariants.{Arrow, Semicolon, Underscore}
use Rattle.twolc_tokens.specs.declared.token.Token.{Token}
use Rattle.twolc_tokens.specs.declared.token.Token.TheVariants.{Operator as operator, Quoted as quoted, Atom as atom}

-- a context in front of others, and contexts and a rule as plain trees
abbrev pub context_before : Context (PairPart Raw) → Contexts (Part Raw) → Contexts (Part Raw)
context_before c rest = between (pair_term c.left) (pair_term c.right) rest

abbrev pub context_views : List (Context (PairPart Raw)) → Contexts (Part Raw)
context_views [] = no_context
context_views (c ∷ cs) = context_before c (context_views cs)

abbrev pub rule_view : TwoLevelRule Raw → Rule Raw
rule_view r = record { name = r.name; centre = pair_view r.pair; kind = r.kind; contexts = context_views r.contexts.items }

-- the token that a separator is
abbrev pub sign : Separator → Token
sign behind_left = operator Underscore
sign behind_right = operator Semicolon

abbrev pub is_separator : Separator → Token → Bool
is_separator behind_left (operator Underscore) = true
is_separator behind_right (operator Semicolon) = true
is_separator _ _ = false

-- any other token
abbrev pub is_inner : Separator → Token → Bool
is_inner separator token = not (is_separator separator token)

-- the tokens before and behind the first such separator, or there is none
abbrev pub IsSplit : Separator → List Token → Option (List Token × List Token) → Type 0
IsSplit separator tokens None = list_all (is_inner separator) tokens ≡ true
IsSplit separator tokens (Some x) = (list_all (is_inner separator) x.0 ≡ true) × (tokens ≡ x.0 ++ sign separator ∷ x.1)

-- a quoted text, an atom and the arrow of a kind of rules in front of these, or none
abbrev pub IsQuotedSplit : List Token → Option (List ℕ × List Token) → Type 0
IsQuotedSplit tokens None = (text : List ℕ) (rest : List Token) → tokens ≡ quoted text ∷ rest → ⊥
IsQuotedSplit tokens (Some x) = tokens ≡ quoted x.0 ∷ x.1

abbrev pub IsAtomSplit : List Token → Option (List ℕ × List Token) → Type 0
IsAtomSplit tokens None = (text : List ℕ) (rest : List Token) → tokens ≡ atom text ∷ rest → ⊥
IsAtomSplit tokens (Some x) = tokens ≡ atom x.0 ∷ x.1

abbrev pub IsArrowSplit : List Token → Option (RuleKind × List Token) → Type 0
IsArrowSplit tokens None = (kind : RuleKind) (rest : List Token) → tokens ≡ operator (Arrow kind) ∷ rest → ⊥
IsArrowSplit tokens (Some x) = tokens ≡ operator (Arrow x.0) ∷ x.1
