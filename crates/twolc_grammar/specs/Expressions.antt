-- Expressions over pairs. Their operators and the levels of these are those of xfst expressions, in which each atom stands as
-- one symbol: `\`, the suffixes `*`, `+` and `^n`, the prefixes `~` and `$`, `/`, concatenation, and `|`, `&` and `-`.
use Rattle.std.specs.Prelude.{◌≡◌, ℕ, Bool, true, false, ◌&&◌, ◌||◌, nat_lt, List, [], ◌∷◌, codes, Option, None, Some, cond}
use Rattle.std.specs.List.{list_any}
use Rattle.std.specs.Option.{option_map, option_and_then}
use Rattle.std.specs.Str.{bytes_eq}
use Rattle.regex_ast.specs.Terms.{Term, Terms, Links, empty, any, edge, atom as leaf, group, maybe, not_one, suffixed, prefixed, ignore, concat, chain, no_term, then_term, no_link, or, and, less}
use Rattle.regex_ast.specs.declared.expr.Raw.{Raw}
use Rattle.regex_tokens.specs.declared.token.Operator.{Operator as XfstOperator}
use Rattle.regex_tokens.specs.declared.token.Operator.TheVariants as xfst
use Rattle.regex_tokens.specs.declared.token.Token.{Token as XfstToken}
use Rattle.regex_tokens.specs.declared.token.Token.TheVariants.{Operator as xfst_operator, Quoted as xfst_quoted, Run as xfst_run}
use Rattle.regex_grammar.specs.Grammar.{is_number, number_of}
use Rattle.regex_grammar.specs.Whole.{IsReading}
use Rattle.regex_reader.specs.Limits.{highest_power}
use Rattle.project_meaning.specs.Trees.{Part}
use Rattle.project_meaning.specs.Leaves.{written}
use Rattle.twolc_grammar.specs.Atoms.{Names, is_escaped, part_in}
use Rattle.twolc_tokens.specs.declared.token.Operator.{Operator}
use Rattle.twolc_tokens.specs.declared.token.Operator.TheVariants.{OpenSquare, CloseSquare, OpenRound, CloseRound, Bar, Ampersand, Minus, Tilde, Backslash, Dollar, Star, Plus, Caret, Slash, Question, Edge}
use Rattle.twolc_tokens.specs.declared.token.Token.{Token}
use Rattle.twolc_tokens.specs.declared.token.Token.TheVariants.{Operator as operator, Quoted as quoted, Atom as atom}

-- the operator of xfst, where it is one
abbrev pub in_xfst : Operator → Option XfstOperator
in_xfst OpenSquare = Some xfst.OpenSquare
in_xfst CloseSquare = Some xfst.CloseSquare
in_xfst OpenRound = Some xfst.OpenRound
in_xfst CloseRound = Some xfst.CloseRound
in_xfst Bar = Some xfst.Bar
in_xfst Ampersand = Some xfst.Ampersand
in_xfst Minus = Some xfst.Minus
in_xfst Tilde = Some xfst.Tilde
in_xfst Backslash = Some xfst.Backslash
in_xfst Dollar = Some xfst.Dollar
in_xfst Star = Some xfst.Star
in_xfst Plus = Some xfst.Plus
in_xfst Caret = Some xfst.Caret
in_xfst Slash = Some xfst.Slash
in_xfst Question = Some xfst.Question
in_xfst Edge = Some xfst.Edge
in_xfst _ = None

-- `?:`, `:?` and `?:?`, which are `?`
abbrev pub is_any : List ℕ → Bool
is_any text = list_any (bytes_eq text) (codes "?:" ∷ codes ":?" ∷ codes "?:?" ∷ [])

-- an atom stands as one symbol, or behind `^` as a run, which is the number of a power
abbrev pub as_operand : Bool → List ℕ → XfstToken
as_operand false text = cond (is_any text) (xfst_operator xfst.Question) (xfst_quoted text)
as_operand true text = xfst_run (record { text = text; escaped = is_escaped text })

abbrev pub is_caret : Token → Bool
is_caret (operator Caret) = true
is_caret _ = false

-- a token as one of an xfst expression, where it may stand there; `power` says whether a `^` stands before it
abbrev pub as_token : Bool → Token → Option XfstToken
as_token power (operator o) = option_map xfst_operator (in_xfst o)
as_token power (quoted text) = None
as_token power (atom text) = Some (as_operand power text)

-- the tokens as those of an xfst expression, where all of them may stand there
abbrev pub as_xfst : Bool → List Token → Option (List XfstToken)
as_xfst power [] = Some []
as_xfst power (token ∷ tokens) = option_and_then (λ x. option_map (λ xs. x ∷ xs) (as_xfst (is_caret token) tokens)) (as_token power token)

-- What an xfst expression says over pairs, where each of its leaves is what an atom is. No other form stands in a twolc text.
abbrev mutual
  pub over_pairs : Names → Term Raw → Option (Term (Part Raw))
  over_pairs names empty = Some empty
  over_pairs names any = Some any
  over_pairs names edge = Some edge
  over_pairs names (leaf raw) = option_map leaf (part_in names (written raw))
  over_pairs names (group e) = option_map group (over_pairs names e)
  over_pairs names (maybe e) = option_map maybe (over_pairs names e)
  over_pairs names (not_one n e) = option_map (not_one n) (over_pairs names e)
  over_pairs names (suffixed e suffixes) = option_map (λ t. suffixed t suffixes) (over_pairs names e)
  over_pairs names (prefixed prefixes e) = option_map (prefixed prefixes) (over_pairs names e)
  over_pairs names (ignore es) = option_map ignore (each_over_pairs names es)
  over_pairs names (concat es) = option_map concat (each_over_pairs names es)
  over_pairs names (chain e links) = option_and_then (λ t. option_map (chain t) (links_over_pairs names links)) (over_pairs names e)
  over_pairs names _ = None

  pub each_over_pairs : Names → Terms Raw → Option (Terms (Part Raw))
  each_over_pairs names no_term = Some no_term
  each_over_pairs names (then_term e es) = option_and_then (λ t. option_map (then_term t) (each_over_pairs names es)) (over_pairs names e)

  pub links_over_pairs : Names → Links Raw → Option (Links (Part Raw))
  links_over_pairs names no_link = Some no_link
  links_over_pairs names (or e links) = option_and_then (λ t. option_map (or t) (links_over_pairs names links)) (over_pairs names e)
  links_over_pairs names (and e links) = option_and_then (λ t. option_map (and t) (links_over_pairs names links)) (over_pairs names e)
  links_over_pairs names (less e links) = option_and_then (λ t. option_map (less t) (links_over_pairs names links)) (over_pairs names e)

-- the tokens are an expression that says this where these names are known
abbrev pub IsExpression : Names → List Token → Term (Part Raw) → Type 0
IsExpression names tokens t = (xs : List XfstToken) × (as_xfst false tokens ≡ Some xs) × (s : Term Raw) × IsReading xs (Some s) × (over_pairs names s ≡ Some t)

-- an expression that is left out is the empty string
abbrev pub IsPart : Names → List Token → Term (Part Raw) → Type 0
IsPart names [] t = t ≡ empty
IsPart names (token ∷ tokens) t = IsExpression names (token ∷ tokens) t

abbrev pub is_edge : Token → Bool
is_edge (operator Edge) = true
is_edge _ = false

-- `.#.` stands among the tokens
abbrev pub has_edge : List Token → Bool
has_edge tokens = list_any is_edge tokens

-- a number above the highest
abbrev pub is_high : Token → Bool
is_high (atom digits) = is_number digits && nat_lt highest_power (number_of digits)
is_high _ = false

-- such a number stands behind a `^`; `power` says whether a `^` stands before the tokens
abbrev pub has_high_power : Bool → List Token → Bool
has_high_power power [] = false
has_high_power power (token ∷ tokens) = (power && is_high token) || has_high_power (is_caret token) tokens
