-- The alphabet, sets and definitions by their parts.
use Rattle.std.proofs.Common.{◌≡◌, ◌<◌, ◌==◌, ℕ, Bool, true, false, List, [], ◌∷◌, ◌++◌, map, length, Vec, Global, Option, None, Some, Result, Ok, Err, IfOk, refl, sym, ap, subst, ◌∙◌, arith}
use Rattle.std.specs.Option.{option_map}
use Rattle.std.proofs.lemmas.Bool.Decides.{nat_tests}
use Rattle.std.specs.declared.alloc.AllocError.{AllocError}
use Rattle.regex_ast.specs.Terms.{Term}
use Rattle.regex_ast.specs.declared.expr.Expr.{Expr}
use Rattle.regex_ast.specs.declared.expr.Raw.{Raw}
use Rattle.regex_ast.specs.declared.twolc.PairAtom.{PairAtom}
use Rattle.regex_ast.specs.declared.twolc.PairPart.{PairPart}
use Rattle.regex_reader.specs.Files.{is_name}
use Rattle.project_meaning.specs.Trees.{Pair, Part, PairDefinition, Set}
use Rattle.twolc_expressions.specs.Views.{pair_view}
use Rattle.twolc_tokens.specs.declared.token.Operator.TheVariants.{Equals, Semicolon}
use Rattle.twolc_tokens.specs.declared.token.Placed.{Placed}
use Rattle.twolc_tokens.specs.declared.token.Token.{Token}
use Rattle.twolc_tokens.specs.declared.token.Token.TheVariants.{Operator as operator, Atom as atom}
use Rattle.twolc_grammar.specs.Atoms.{Names, no_names, one_symbol_in, symbols_in}
use Rattle.twolc_grammar.specs.Expressions.{IsExpression, has_edge}
use Rattle.twolc_grammar.specs.Sections.{tokens_of}
use Rattle.twolc_grammar.specs.Statements.{IsNamed, IsStatement, alphabet, in_alphabet, in_definitions, in_sets, definition, set}
use Rattle.twolc_expressions.specs.Reading.{IsFound, pair_term}
use Rattle.twolc_reader.specs.StatementReading.{IsAtomSplit, IsEndSplit, IsEqualsSplit, IsNameSplit, each_found, pair_in, symbol_in}
use Rattle.twolc_reader.proofs.Each.{each_again, each_takes, fronts_same, list_found, list_none}

behind_name : (n m : List ℕ) (a b : List Token) → atom n ∷ operator Equals ∷ a ≡ atom m ∷ operator Equals ∷ b → a ≡ b
behind_name n m a b e = cc

behind_same : (tokens : List Token) (n m : List ℕ) (a b : List Token) → IsNamed tokens n a → IsNamed tokens m b → a ≡ b
behind_same tokens n m a b h g = behind_name n m a b (sym h.0 ∙ g.0)

front_same : (tokens : List Token) (n m : List ℕ) (behind front other : List Token) → IsNamed tokens n behind → behind ≡ front ++ operator Semicolon ∷ [] → IsNamed tokens m (other ++ operator Semicolon ∷ []) → front ≡ other
front_same tokens n m behind front other named ended h = fronts_same front other (operator Semicolon) (sym ended ∙ behind_same tokens n m behind (other ++ operator Semicolon ∷ []) named h)

-- Names.

atom_same : (n m : List ℕ) (a b : List Token) → atom n ∷ a ≡ atom m ∷ b → n ≡ m
atom_same n m a b e = let first : atom n ≡ atom m = cc in cc

behind_atom : (n m : List ℕ) (a b : List Token) → atom n ∷ a ≡ atom m ∷ b → a ≡ b
behind_atom n m a b e = cc

pub name_no_atom : (tokens : List Token) → IsAtomSplit tokens None → IsNameSplit tokens None
name_no_atom tokens none = λ name behind h. none name (operator Equals ∷ behind) h.0

module _ (tokens : List Token) (n : List ℕ) (rest : List Token) (first : tokens ≡ atom n ∷ rest) where
  pub name_no_equals : IsEqualsSplit rest None → IsNameSplit tokens None
  name_no_equals none = λ name behind h. none behind (behind_atom n name rest (operator Equals ∷ behind) (sym first ∙ h.0))

  pub name_other : is_name n ≡ false → IsNameSplit tokens None
  name_other no_name = λ name behind h. let clash : false ≡ true = sym no_name ∙ (ap is_name (atom_same n name rest (operator Equals ∷ behind) (sym first ∙ h.0)) ∙ h.1) in cc

  pub name_there : (behind : List Token) → rest ≡ operator Equals ∷ behind → is_name n ≡ true → IsNameSplit tokens (Some (n, behind))
  name_there behind second fine = (first ∙ ap (λ ts. atom n ∷ ts) second, fine)

-- The alphabet.

abbrev pub IsAlphabet : List Token → List (Pair Raw) → Type 0
IsAlphabet tokens pairs = IsStatement no_names in_alphabet tokens (alphabet pairs)

abbrev pub pairs_of : Vec (PairAtom Raw) Global → List (Pair Raw)
pairs_of pairs = map pair_view pairs.items

pub alphabet_none : (tokens : List Token) → IsEndSplit tokens None → IsFound (IsAlphabet tokens) None
alphabet_none tokens none = list_none symbols_in tokens none

pub alphabet_ok : (tokens front : List Token) (r : Result (Option (Vec (PairAtom Raw) Global)) AllocError) → tokens ≡ front ++ operator Semicolon ∷ [] → IfOk r (λ found. option_map pairs_of found ≡ each_found pair_in front) → IfOk r (λ found. IsFound (IsAlphabet tokens) (option_map pairs_of found))
alphabet_ok tokens front (Ok found) split e = list_found symbols_in tokens front (option_map pairs_of found) split e
alphabet_ok tokens front (Err error) split e = e

-- Sets.

abbrev pub IsSet : List Token → Set Raw → Type 0
IsSet tokens s = IsStatement no_names in_sets tokens (set s)

set_fronts : (tokens : List Token) (name : List ℕ) (behind front : List Token) (s : Set Raw) → IsNamed tokens name behind → behind ≡ front ++ operator Semicolon ∷ [] → IsSet tokens s → (atoms : List (List ℕ)) × (front ≡ map atom atoms) × (0 < length atoms) × (map (λ x. Some x) s.symbols ≡ map one_symbol_in atoms)
set_fronts tokens name behind front s named ended (list, atoms, is, listed, some, said) =
    (atoms, front_same tokens name s.name behind front (map atom atoms) named ended (subst (λ ts. IsNamed tokens s.name ts) listed is), some, said)

pub set_unnamed : (tokens : List Token) → IsNameSplit tokens None → IsFound (IsSet tokens) None
set_unnamed tokens none = λ s h. none s.name h.0 h.2

pub set_unended : (tokens : List Token) (name : List ℕ) (behind : List Token) → IsNamed tokens name behind → IsEndSplit behind None → IsFound (IsSet tokens) None
set_unended tokens name behind named none = λ s (list, atoms, is, listed, some, said). none (map atom atoms) (behind_same tokens name s.name behind list named is ∙ listed)

none_many : (atoms : List (List ℕ)) → [] ≡ map atom atoms → 0 < length atoms → ⊥
none_many [] e some = omega (arith, some)
none_many (a ∷ atoms) e some = cc

by_zero : (n : ℕ) → true ≡ (n == 0) → n ≡ 0
by_zero n e = let none : (n == 0) ≡ true = sym e in grind (arith, nat_tests)

no_items : (p : Placed) (ps : List Placed) → true ≡ (length (p ∷ ps) == 0) → ⊥
no_items p ps e = omega (arith, by_zero (length (p ∷ ps)) e)

pub set_empty : (tokens : List Token) (name : List ℕ) (behind : List Token) (front : List Placed) → IsNamed tokens name behind → behind ≡ tokens_of front ++ operator Semicolon ∷ [] → true ≡ (length front == 0) → IsFound (IsSet tokens) None
set_empty tokens name behind [] named ended none = λ s h. let f = set_fronts tokens name behind [] s named ended h in none_many f.0 f.1 f.2
set_empty tokens name behind (p ∷ front) named ended none = absurd (no_items p front none)

abbrev items_of : Vec Raw Global → List Raw
items_of v = v.items

pub set_strange : (tokens : List Token) (name : List ℕ) (behind front : List Token) (o : Option (Vec Raw Global)) → IsNamed tokens name behind → behind ≡ front ++ operator Semicolon ∷ [] → o ≡ None → option_map items_of o ≡ each_found symbol_in front → IsFound (IsSet tokens) None
set_strange tokens name behind front o named ended none made = λ s h.
    let f = set_fronts tokens name behind front s named ended h in
    let clash : None ≡ Some s.symbols = ap (option_map items_of) (sym none) ∙ made ∙ ap (each_found symbol_in) f.1 ∙ each_again one_symbol_in f.0 s.symbols f.3 in cc

many : (front : List Placed) (atoms : List (List ℕ)) → false ≡ (length front == 0) → tokens_of front ≡ map atom atoms → 0 < length atoms
many [] atoms some e = absurd cc
many (p ∷ front) [] some e = absurd cc
many (p ∷ front) (a ∷ atoms) some e = omega arith

pub set_made : (tokens : List Token) (name : List ℕ) (behind : List Token) (front : List Placed) (o : Option (Vec Raw Global)) (symbols : Vec Raw Global) (copy : List ℕ) → IsNamed tokens name behind → behind ≡ tokens_of front ++ operator Semicolon ∷ [] → false ≡ (length front == 0) → o ≡ Some symbols → option_map items_of o ≡ each_found symbol_in (tokens_of front) → copy ≡ name → IsSet tokens (record { name = copy; symbols = symbols.items })
set_made tokens name behind front o symbols copy named ended some is made same =
    let found : Some symbols.items ≡ each_found symbol_in (tokens_of front) = ap (option_map items_of) (sym is) ∙ made in
    let f = each_takes one_symbol_in (tokens_of front) symbols.items (sym found) in
    (behind, f.0, subst (λ n. IsNamed tokens n behind) (sym same) named, ended ∙ ap (λ ts. ts ++ operator Semicolon ∷ []) f.1, many front f.0 some f.1, f.2)

-- Definitions.

abbrev pub IsDefinition : Names → List Token → PairDefinition Raw → Type 0
IsDefinition names tokens d = IsStatement names in_definitions tokens (definition d)

module _ (names : Names) (tokens : List Token) where
  pub unnamed : IsNameSplit tokens None → IsFound (IsDefinition names tokens) None
  unnamed none = λ d h. none d.name (h.0 ++ operator Semicolon ∷ []) h.1

  module _ (name : List ℕ) (behind : List Token) (named : IsNamed tokens name behind) where
    pub unended : IsEndSplit behind None → IsFound (IsDefinition names tokens) None
    unended none = λ d h. none h.0 (behind_same tokens name d.name behind (h.0 ++ operator Semicolon ∷ []) named h.1)

    module _ (front : List Token) (ended : behind ≡ front ++ operator Semicolon ∷ []) where
      pub edged : true ≡ has_edge front → IsFound (IsDefinition names tokens) None
      edged has = λ d h. let same = front_same tokens name d.name behind front h.0 named ended h.1 in let clash : true ≡ false = has ∙ ap has_edge same ∙ h.3 in cc

      pub strange : (o : Option (Expr (PairPart Raw))) → o ≡ None → IsFound (IsExpression names front) (option_map pair_term o) → IsFound (IsDefinition names tokens) None
      strange o is found = let none : IsFound (IsExpression names front) None = subst (λ (x : Option (Expr (PairPart Raw))). IsFound (IsExpression names front) (option_map pair_term x)) is found in λ d h. none d.term (subst (λ ts. IsExpression names ts d.term) (sym (front_same tokens name d.name behind front h.0 named ended h.1)) h.2)

      pub made : (o : Option (Expr (PairPart Raw))) (e : Expr (PairPart Raw)) (copy : List ℕ) → false ≡ has_edge front → o ≡ Some e → IsFound (IsExpression names front) (option_map pair_term o) → copy ≡ name → IsDefinition names tokens (record { name = copy; term = pair_term e })
      made o e copy no_edge is found same =
          let said : IsExpression names front (pair_term e) = subst (λ (x : Option (Expr (PairPart Raw))). IsFound (IsExpression names front) (option_map pair_term x)) is found in
          (front, subst (λ n. IsNamed tokens n (front ++ operator Semicolon ∷ [])) (sym same) (subst (λ ts. IsNamed tokens name ts) ended named), said, sym no_edge)
