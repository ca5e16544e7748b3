-- The symbols that stand in lexicons where names are defined.
use Rattle.std.proofs.Common.{◌≡◌, ℕ, List, [], ◌∷◌, ◌++◌, map, refl, sym, ap, ◌∙◌}
use Rattle.std.proofs.lemmas.List.{map-append}
use Rattle.std.specs.List.{flat_map}
use Rattle.name_resolution.specs.Symbols.{SymbolsAreOfForms, symbol_beside, symbols_at, symbols_in_piece}
use Rattle.name_resolution.proofs.Listed.{listed_is}
use Rattle.name_resolution.proofs.Mapped.{mapped_listed}
use Rattle.project_meaning.specs.Leaves.{Leaf, form_symbols, forms_in, leaf_of, piece_symbols, resolved_entry, resolved_form, resolved_lexicon, resolved_piece, symbol_in, symbol_of}
use Rattle.project_meaning.specs.Trees.{Piece, letter, flag, Form, sides, pairs, Entry, Lexicon}
use Rattle.regex_ast.specs.declared.expr.Raw.{Raw}

module _ (names : List (List ℕ)) where
  forms_of_entries : (all : List (Entry Raw)) → map (λ (e : Entry Leaf). e.form) (map (resolved_entry names) all) ≡ map (resolved_form names) (map (λ (e : Entry Raw). e.form) all)
  forms_of_entries [] = refl
  forms_of_entries (entry ∷ all) = ap (λ (forms : List (Form Leaf)). resolved_form names entry.form ∷ forms) (forms_of_entries all)

  forms : (all : List (Lexicon Raw)) → forms_in (map (resolved_lexicon names) all) ≡ map (resolved_form names) (forms_in all)
  forms [] = refl
  forms (lexicon ∷ all) =
      let own = forms_of_entries lexicon.entries in
      let rest = forms all in
      (λ i. own i ++ rest i) ∙ sym (map-append (resolved_form names) (map (λ (e : Entry Raw). e.form) lexicon.entries) (forms_in all))

  pieces : (all : List (Piece Raw)) → flat_map piece_symbols (map resolved_piece all) ≡ flat_map symbols_in_piece all
  pieces [] = refl
  pieces (letter raw ∷ all) = ap (λ (texts : List (List ℕ)). symbol_in (symbol_of raw) ++ texts) (pieces all)
  pieces (flag f ∷ all) = pieces all

  one_form : (form : Form Raw) → form_symbols (resolved_form names form) ≡ symbols_at names form
  one_form (sides upper lower) =
      let up = pieces upper in
      let low = pieces lower in
      λ i. up i ++ low i
  one_form (pairs e) = mapped_listed symbol_in (leaf_of names) e ∙ listed_is (symbol_beside names) e

  all_forms : (all : List (Form Raw)) → flat_map form_symbols (map (resolved_form names) all) ≡ flat_map (symbols_at names) all
  all_forms [] = refl
  all_forms (form ∷ all) =
      let own = one_form form in
      let rest = all_forms all in
      λ i. own i ++ rest i

pub symbols_of_forms : SymbolsAreOfForms
symbols_of_forms names lexicons = ap (flat_map form_symbols) (forms names lexicons) ∙ all_forms names (forms_in lexicons)
