-- The bodies that are compiled, by two tests: one of the leaves of expressions, where names may stand, and one of the symbols in braces,
-- on the sides of entries and in grammars, where none may.
use Rattle.std.specs.Prelude.{Bool, true, false, All, IsTrue, [], ◌∷◌}
use Rattle.expr_kinds.specs.Built.{IsBuiltBy}
use Rattle.project_meaning.specs.Trees.{Piece, letter, flag, Form, sides, pairs, Lexicon, Body, xfst, lexc, twolc}
use Rattle.project_meaning.specs.Leaves.{Leaf, symbol, named}
use Rattle.grammar_pairs.specs.Laws.{HasLeaves}

abbrev pub PieceIsBuiltBy : {A : Type 0} → (A → Bool) → Piece A → Type 0
PieceIsBuiltBy is_letter (letter a) = IsTrue (is_letter a)
PieceIsBuiltBy is_letter (flag f) = Unit {0}

module _ {A : Type 0} (is_leaf is_letter : A → Bool) where
  abbrev pub FormIsBuiltBy : Form A → Type 0
  FormIsBuiltBy (sides upper lower) = All (PieceIsBuiltBy is_letter) upper × All (PieceIsBuiltBy is_letter) lower
  FormIsBuiltBy (pairs e) = IsBuiltBy is_leaf is_letter e

  abbrev pub LexiconIsBuiltBy : Lexicon A → Type 0
  LexiconIsBuiltBy lexicon = All (λ entry. FormIsBuiltBy entry.form) lexicon.entries

  -- an expression whose insertions stand alone in their rules, lexicons, or a grammar
  abbrev pub BodyIsBuiltBy : Body A → Type 0
  BodyIsBuiltBy (xfst e) = IsBuiltBy is_leaf is_letter e
  BodyIsBuiltBy (lexc lexicons) = All LexiconIsBuiltBy lexicons
  BodyIsBuiltBy (twolc grammar) = HasLeaves is_letter grammar

-- a leaf that is compiled: a name, or a symbol with a text
abbrev pub is_built_leaf : Leaf → Bool
is_built_leaf (symbol []) = false
is_built_leaf (symbol (b ∷ bs)) = true
is_built_leaf (named text) = true

-- the same in braces and on the sides of entries, where no name stands
abbrev pub is_built_letter : Leaf → Bool
is_built_letter (symbol []) = false
is_built_letter (symbol (b ∷ bs)) = true
is_built_letter (named text) = false

-- a body that is compiled
abbrev pub BodyIsBuilt : Body Leaf → Type 0
BodyIsBuilt body = BodyIsBuiltBy is_built_leaf is_built_letter body
