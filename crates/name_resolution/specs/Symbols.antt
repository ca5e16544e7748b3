-- The symbols and the expressions that stand in lexicons.
use Rattle.std.specs.Prelude.{◌≡◌, ◌++◌, ℕ, List, [], map}
use Rattle.std.specs.Borrow.{Bor}
use Rattle.std.specs.List.{flat_map}
use Rattle.expr_leaves.specs.Leaves.{leaves_in}
use Rattle.project_meaning.specs.Leaves.{forms_in, leaf_of, resolved, symbol_in, symbol_of, symbols_in}
use Rattle.project_meaning.specs.Trees.{Form, Lexicon, Piece, letter, flag, sides, pairs, lexc}
use Rattle.regex_ast.specs.Terms.{Term, term}
use Rattle.regex_ast.specs.declared.expr.Expr.{Expr}
use Rattle.regex_ast.specs.declared.expr.Raw.{Raw}

-- the symbol that a leaf of an expression is where these names are defined, if it is one
abbrev pub symbol_beside : List (List ℕ) → Raw → List (List ℕ)
symbol_beside names leaf = symbol_in (leaf_of names leaf)

-- the symbol that a piece of a side is, if it is one: no name may stand there
abbrev pub symbols_in_piece : Piece Raw → List (List ℕ)
symbols_in_piece (letter leaf) = symbol_in (symbol_of leaf)
symbols_in_piece (flag f) = []

-- the symbols that stand in a form where these names are defined, each as often as it stands there
abbrev pub symbols_at : List (List ℕ) → Form Raw → List (List ℕ)
symbols_at names (sides upper lower) = flat_map symbols_in_piece upper ++ flat_map symbols_in_piece lower
symbols_at names (pairs e) = flat_map (symbol_beside names) (leaves_in e)

-- the expressions behind references
abbrev pub terms_behind : {A : Type 0} → List (Bor (Expr A)) → List (Term A)
terms_behind found = map (λ e. term e.now) found

-- the symbols that stand in lexicons are those of their forms
abbrev pub SymbolsAreOfForms : Type 0
SymbolsAreOfForms = (names : List (List ℕ)) (lexicons : List (Lexicon Raw)) → symbols_in (resolved names (lexc lexicons)) ≡ flat_map (symbols_at names) (forms_in lexicons)
