-- A leaf's symbol is put into a table where the table has room for it.
use Rattle.std.proofs.Common.{◌≡◌, ℕ, ◌+◌, ◌<◌, ◌≤◌, ◌==◌, true, false, List, [], ◌∷◌, length, refl, sym, ap, ◌∙◌, arith}
use Rattle.std.proofs.lemmas.Bool.Decides.{nat_tests}
use Rattle.regex_ast.specs.declared.expr.Raw.{Raw}
use Rattle.fsm_base.specs.Symbols.{with_text}
use Rattle.project_meaning.specs.Leaves.{leaf_of, symbol, symbol_in, written}
use Rattle.name_resolution.specs.Names.{is_symbol_leaf}
use Rattle.project_sources.specs.Limits.{most_symbols}
use Rattle.project_model.specs.Gathered.{gathered}
use Rattle.name_resolution.specs.Symbols.{symbol_beside}
use Rattle.project_model.proofs.Gathering.{gathered_none, text_added, text_full}
use Rattle.project_model.proofs.Leaves.{beside_none, beside_symbol}

module _ (names : List (List ℕ)) (leaf : Raw) (table : List (List ℕ)) (short : length table ≤ most_symbols + 1) where
  -- a leaf that is no symbol
  pub leaf_passed : is_symbol_leaf (leaf_of names leaf) ≡ false → table ≡ gathered table (symbol_beside names leaf)
  leaf_passed fails = sym (ap (gathered table) (beside_none names leaf fails) ∙ gathered_none table short)

  -- a table without room
  pub leaf_full : is_symbol_leaf (leaf_of names leaf) ≡ true → most_symbols < length table → table ≡ gathered table (symbol_beside names leaf)
  leaf_full passes many = text_full (written leaf) table short many ∙ sym (ap (gathered table) (beside_symbol names leaf passes))

  pub leaf_added : (now : List (List ℕ)) → is_symbol_leaf (leaf_of names leaf) ≡ true → length table ≤ most_symbols → now ≡ with_text (written leaf) table
      → now ≡ gathered table (symbol_beside names leaf)
  leaf_added now passes room now_is = text_added (written leaf) table now room now_is ∙ sym (ap (gathered table) (beside_symbol names leaf passes))

-- A text that is put into a table, where it isn't empty.
filled : (text : List ℕ) → (length text == 0) ≡ false → symbol_in (symbol text) ≡ text ∷ []
filled [] is = let clash : true ≡ false = is in cc
filled (b ∷ bs) is = refl

empty : (text : List ℕ) → (length text == 0) ≡ true → symbol_in (symbol text) ≡ []
empty [] is = refl
empty (b ∷ bs) is = absurd (some (length (b ∷ bs)) (omega arith) is)
  where
    some : (n : ℕ) → 0 < n → (n == 0) ≡ true → ⊥
    some n less same = grind (arith, nat_tests)

module _ (text : List ℕ) (table : List (List ℕ)) (short : length table ≤ most_symbols + 1) where
  pub letter_passed : (length text == 0) ≡ true → table ≡ gathered table (symbol_in (symbol text))
  letter_passed is = sym (ap (gathered table) (empty text is) ∙ gathered_none table short)

  pub letter_full : (length text == 0) ≡ false → most_symbols < length table → table ≡ gathered table (symbol_in (symbol text))
  letter_full is many = text_full text table short many ∙ sym (ap (gathered table) (filled text is))

  pub letter_added : (now : List (List ℕ)) → (length text == 0) ≡ false → length table ≤ most_symbols → now ≡ with_text text table → now ≡ gathered table (symbol_in (symbol text))
  letter_added now is room now_is = text_added text table now room now_is ∙ sym (ap (gathered table) (filled text is))
