-- Names in the order in which they came.
use Rattle.std.specs.Prelude.{◌<◌, ◌^◌, ℕ, Bool, true, false, List, [], ◌∷◌, length}
use Rattle.word_relations.specs.Words.{IsDistinct}
use Rattle.project_meaning.specs.Leaves.{Leaf, symbol, named}

-- different names, few enough for their places to be numbers of 32 bits
pub record IsNames (names : List (List ℕ)) : Type 0 where
  pub distinct : IsDistinct names
  pub few : length names < 2 ^ 32

abbrev pub is_named : Leaf → Bool
is_named (named name) = true
is_named (symbol text) = false

-- a symbol with a text
abbrev pub is_symbol_leaf : Leaf → Bool
is_symbol_leaf (symbol []) = false
is_symbol_leaf (symbol (b ∷ bs)) = true
is_symbol_leaf (named name) = false
