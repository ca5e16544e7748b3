-- Lexicons where names are defined are those that are written, with other leaves.
use Rattle.std.proofs.Common.{◌≡◌, ℕ, List, [], ◌∷◌, map, refl, ap}
use Rattle.regex_ast.specs.declared.expr.Raw.{Raw}
use Rattle.project_meaning.specs.Trees.{Piece, letter, flag, Form, sides, pairs, Entry, Lexicon}
use Rattle.project_meaning.specs.Leaves.{Leaf, leaf_of, resolved_entry, resolved_form, resolved_lexicon, resolved_piece, symbol_of}
use Rattle.project_meaning.specs.Lexicons.{piece_by}
use Rattle.expr_spelling.specs.LexiconLaws.{ResolvedAreMapped}
use Rattle.expr_spelling.specs.Mapped.{mapped_entry, mapped_form, mapped_lexicon}

-- functions that are the same on each element
same_map : {X Y : Type 0} (f g : X → Y) → ((x : X) → f x ≡ g x) → (xs : List X) → map f xs ≡ map g xs
same_map f g same [] = refl
same_map f g same (x ∷ xs) = λ i. same x i ∷ same_map f g same xs i

same_piece : (piece : Piece Raw) → resolved_piece piece ≡ piece_by symbol_of piece
same_piece (letter raw) = refl
same_piece (flag f) = refl

module _ (names : List (List ℕ)) where
  same_form : (form : Form Raw) → resolved_form names form ≡ mapped_form (leaf_of names) symbol_of form
  same_form (sides upper lower) =
      let up = same_map resolved_piece (piece_by symbol_of) same_piece upper in
      let low = same_map resolved_piece (piece_by symbol_of) same_piece lower in
      λ i. sides (up i) (low i)
  same_form (pairs e) = refl

  same_entry : (entry : Entry Raw) → resolved_entry names entry ≡ mapped_entry (leaf_of names) symbol_of entry
  same_entry entry = ap (λ (form : Form Leaf). record { form = form; next = entry.next }) (same_form entry.form)

  same_lexicon : (lexicon : Lexicon Raw) → resolved_lexicon names lexicon ≡ mapped_lexicon (leaf_of names) symbol_of lexicon
  same_lexicon lexicon =
      ap (λ (entries : List (Entry Leaf)). record { name = lexicon.name; entries = entries }) (same_map (resolved_entry names) (mapped_entry (leaf_of names) symbol_of) same_entry lexicon.entries)

pub resolved_mapped : ResolvedAreMapped
resolved_mapped names lexicons = same_map (resolved_lexicon names) (mapped_lexicon (leaf_of names) symbol_of) (same_lexicon names) lexicons
