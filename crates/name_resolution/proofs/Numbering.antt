-- Lexicons by numbers are the resolved lexicons, each leaf by its number.
use Rattle.std.proofs.Common.{◌≡◌, ℕ, List, [], ◌∷◌, map, refl, sym, ap}
use Rattle.name_resolution.specs.NumberedLexicons.{AreResolvedByNumber, entry_in, form_in, lexicon_in, piece_in}
use Rattle.expr_spelling.specs.Mapped.{mapped_entry, mapped_form, mapped_lexicon}
use Rattle.name_resolution.proofs.Mapped.{mapped_twice}
use Rattle.name_resolution.specs.Numbered.{numbered}
use Rattle.project_meaning.specs.Leaves.{leaf_of, resolved_entry, resolved_form, resolved_lexicon, resolved_piece}
use Rattle.project_meaning.specs.Lexicons.{piece_by}
use Rattle.project_meaning.specs.Trees.{Piece, letter, flag, Form, sides, pairs, Entry, Lexicon}
use Rattle.regex_ast.specs.declared.expr.Atom.{Atom}
use Rattle.regex_ast.specs.declared.expr.Raw.{Raw}

module _ (names table : List (List ℕ)) where
  pieces : (all : List (Piece Raw)) → map (piece_in names table) all ≡ map (piece_by (numbered names table)) (map resolved_piece all)
  pieces [] = refl
  pieces (letter raw ∷ all) = ap (λ (ps : List (Piece Atom)). piece_in names table (letter raw) ∷ ps) (pieces all)
  pieces (flag f ∷ all) = ap (λ (ps : List (Piece Atom)). flag f ∷ ps) (pieces all)

  one_form : (form : Form Raw) → form_in names table form ≡ mapped_form (numbered names table) (numbered names table) (resolved_form names form)
  one_form (sides upper lower) = let up = pieces upper in let low = pieces lower in λ i. sides (up i) (low i)
  one_form (pairs e) = ap pairs (sym (mapped_twice (numbered names table) (leaf_of names) e))

  entries : (all : List (Entry Raw)) → map (entry_in names table) all ≡ map (mapped_entry (numbered names table) (numbered names table)) (map (resolved_entry names) all)
  entries [] = refl
  entries (entry ∷ all) =
      let form = one_form entry.form in
      let rest = entries all in
      λ i. record { form = form i; next = entry.next } ∷ rest i

  lexicons : (all : List (Lexicon Raw)) → map (lexicon_in names table) all ≡ map (mapped_lexicon (numbered names table) (numbered names table)) (map (resolved_lexicon names) all)
  lexicons [] = refl
  lexicons (lexicon ∷ all) =
      let own = entries lexicon.entries in
      let rest = lexicons all in
      λ i. record { name = lexicon.name; entries = own i } ∷ rest i

pub by_number : AreResolvedByNumber
by_number names table all = lexicons names table all
