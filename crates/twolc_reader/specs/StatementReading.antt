-- Words for what the functions of this crate compute on their way to a statement.
use Rattle.std.specs.Prelude.{◌≡◌, ℕ, Bool, true, false, List, [], ◌∷◌, ◌++◌, Option, None, Some}
use Rattle.std.specs.Option.{option_map, option_and_then}
use Rattle.regex_ast.specs.declared.expr.Raw.{Raw}
use Rattle.regex_ast.specs.declared.twolc.PairDefine.{PairDefine}
use Rattle.regex_ast.specs.declared.twolc.SetOf.{SetOf}
use Rattle.project_meaning.specs.Trees.{Pair, PairDefinition, Set}
use Rattle.twolc_expressions.specs.Reading.{pair_term}
use Rattle.twolc_grammar.specs.Atoms.{one_symbol_in, symbols_in}
use Rattle.twolc_grammar.specs.Statements.{IsNamed}
use Rattle.twolc_tokens.specs.declared.token.Operator.TheVariants.{Equals, Semicolon}
use Rattle.twolc_tokens.specs.declared.token.Token.{Token}
use Rattle.twolc_tokens.specs.declared.token.Token.TheVariants.{Operator as operator, Atom as atom}

-- a set and a definition as plain trees
abbrev pub set_view : SetOf Raw → Set Raw
set_view s = record { name = s.name; symbols = s.symbols.items }

abbrev pub definition_view : PairDefine Raw → PairDefinition Raw
definition_view d = record { name = d.name; term = pair_term d.expr }

-- what each of these is, or nothing where one of them is nothing
abbrev pub each_found : {A B : Type 0} → (A → Option B) → List A → Option (List B)
each_found of [] = Some []
each_found of (x ∷ xs) = option_and_then (λ y. option_map (λ ys. y ∷ ys) (each_found of xs)) (of x)

-- what a token is that is an atom
abbrev pub of_atom : {B : Type 0} → (List ℕ → Option B) → Token → Option B
of_atom of (atom text) = of text
of_atom of _ = None

abbrev pub pair_in : Token → Option (Pair Raw)
pair_in token = of_atom symbols_in token

abbrev pub symbol_in : Token → Option Raw
symbol_in token = of_atom one_symbol_in token

-- the tokens are these and a `;`, or not
abbrev pub IsEndSplit : List Token → Option (List Token) → Type 0
IsEndSplit tokens None = (front : List Token) → tokens ≡ front ++ operator Semicolon ∷ [] → ⊥
IsEndSplit tokens (Some front) = tokens ≡ front ++ operator Semicolon ∷ []

-- an atom is in front of these, or none
abbrev pub IsAtomSplit : List Token → Option (List ℕ × List Token) → Type 0
IsAtomSplit tokens None = (text : List ℕ) (rest : List Token) → tokens ≡ atom text ∷ rest → ⊥
IsAtomSplit tokens (Some x) = tokens ≡ atom x.0 ∷ x.1

abbrev pub is_equals : Token → Bool
is_equals (operator Equals) = true
is_equals _ = false

-- a `=` is in front of these, or none
abbrev pub IsEqualsSplit : List Token → Option (List Token) → Type 0
IsEqualsSplit tokens None = (rest : List Token) → tokens ≡ operator Equals ∷ rest → ⊥
IsEqualsSplit tokens (Some rest) = tokens ≡ operator Equals ∷ rest

-- a name and `=` are in front of these, or not
abbrev pub IsNameSplit : List Token → Option (List ℕ × List Token) → Type 0
IsNameSplit tokens None = (name : List ℕ) (behind : List Token) → IsNamed tokens name behind → ⊥
IsNameSplit tokens (Some x) = IsNamed tokens x.0 x.1
