-- Leaves of an expression where names are defined: the symbols that they are.
use Rattle.std.proofs.Common.{◌≡◌, ℕ, true, false, List, [], ◌∷◌, refl, sym, ap, ◌∙◌, inl, inr, true≢false}
use Rattle.regex_ast.specs.declared.expr.Raw.{Raw}
use Rattle.project_meaning.specs.Leaves.{Leaf, symbol, named, leaf_of, symbol_in, written}
use Rattle.name_resolution.specs.Names.{is_symbol_leaf}
use Rattle.name_resolution.proofs.GrammarLeaves.{leaf_cases}
use Rattle.name_resolution.specs.Symbols.{symbol_beside}

module _ (names : List (List ℕ)) (leaf : Raw) where
  abbrev text : List ℕ
  text = written leaf

  pub beside_symbol : is_symbol_leaf (leaf_of names leaf) ≡ true → symbol_beside names leaf ≡ text ∷ []
  beside_symbol is =
      elim (leaf_cases names leaf) as (λ _. symbol_beside names leaf ≡ text ∷ []) [
        | inl (name, among) ↦ absurd (true≢false (sym is ∙ ap is_symbol_leaf name))
        | inr same ↦ ap symbol_in same ∙ by text (sym (ap is_symbol_leaf same) ∙ is)
      ]
    where
      by : (t : List ℕ) → is_symbol_leaf (symbol t) ≡ true → symbol_in (symbol t) ≡ t ∷ []
      by [] e = cc
      by (b ∷ bs) e = refl

  pub beside_none : is_symbol_leaf (leaf_of names leaf) ≡ false → symbol_beside names leaf ≡ []
  beside_none is = by (leaf_of names leaf) is
    where
      by : (l : Leaf) → is_symbol_leaf l ≡ false → symbol_in l ≡ []
      by (symbol []) e = refl
      by (symbol (b ∷ bs)) e = cc
      by (named name) e = refl
