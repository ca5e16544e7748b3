-- A body that is compiled by the texts of its leaves is so by their numbers, where names have forms.
use Rattle.std.proofs.Common.{◌≡◌, ◌<◌, ℕ, true, List, [], ◌∷◌, length, map, All, Contains, IsTrue, is_some, refl, sym, ap, subst, ◌∙◌, inl, inr, arith}
use Rattle.std.proofs.lemmas.Option.{slice_get-get_or, slice_get_past}
use Rattle.fsm_base.specs.Symbols.{number_of}
use Rattle.regex_ast.specs.declared.expr.Atom.{Atom}
use Rattle.regex_ast.specs.declared.expr.Raw.{Raw}
use Rattle.regex_ast.specs.Terms.{Term}
use Rattle.expr_kinds.specs.Atoms.{is_known_at, is_symbol}
use Rattle.expr_kinds.specs.Built.{IsBuiltBy}
use Rattle.expr_kinds.specs.Forms.{nothing}
use Rattle.expr_kinds.specs.declared.form.Form.{Form as Told}
use Rattle.expr_leaves.specs.Mapped.{mapped}
use Rattle.expr_spelling.specs.Mapped.{mapped_entry, mapped_form, mapped_lexicon}
use Rattle.project_meaning.specs.Lexicons.{piece_by}
use Rattle.project_meaning.specs.Trees.{Piece, letter, flag, Form, sides, pairs, Entry, Lexicon, Body, xfst, lexc, twolc}
use Rattle.project_meaning.specs.Leaves.{Leaf, symbol, named, leaf_of, resolved, resolved_entry, resolved_form, resolved_grammar, resolved_lexicon, resolved_piece, symbol_of, written as text_of}
use Rattle.project_sources.specs.Built.{BodyIsBuilt, BodyIsBuiltBy, FormIsBuiltBy, LexiconIsBuiltBy, PieceIsBuiltBy, is_built_leaf, is_built_letter}
use Rattle.name_resolution.specs.Numbered.{numbered}
use Rattle.name_resolution.specs.Resolved.{atom_of}
use Rattle.project_definitions.specs.Bodies.{mapped_body}
use Rattle.project_definitions.proofs.Numbers.{number_within}
use Rattle.project_definitions.proofs.Bodies.{all_on}
use Rattle.project_definitions.proofs.Replaced.{leaves_there}
use Rattle.name_resolution.proofs.GrammarLeaves.{leaf_cases}
use Rattle.name_resolution.proofs.Mapped.{mapped_twice}
use Rattle.project_definitions.proofs.Mapped.{mapped_built}

module _ (names table : List (List ℕ)) (forms : List Told) (many : length forms ≡ length names) where
  abbrev by_number : Leaf → Atom
  by_number leaf = numbered names table leaf

  name_known : (name : List ℕ) → Contains names name → is_known_at forms (by_number (named name)) ≡ true
  unfolding is_known_at
  name_known name among =
      let within = number_within names name among in
      let inside : number_of name names < length forms = omega (arith, within, many) in
      ap is_some (slice_get-get_or forms (number_of name names) nothing inside)

  symbol_known : (text : List ℕ) → is_known_at forms (by_number (symbol text)) ≡ is_built_leaf (symbol text)
  unfolding is_known_at
  symbol_known [] = ap is_some (slice_get_past forms (length names) (omega (arith, many)))
  symbol_known (b ∷ bs) = refl

  leaf_built : (leaf : Raw) → is_known_at forms (atom_of names table leaf) ≡ is_built_leaf (leaf_of names leaf)
  leaf_built leaf =
      elim (leaf_cases names leaf) as (λ _. is_known_at forms (atom_of names table leaf) ≡ is_built_leaf (leaf_of names leaf)) [
        | inl (is, among) ↦ subst (λ (l : Leaf). is_known_at forms (by_number l) ≡ is_built_leaf l) (sym is) (name_known (text_of leaf) among)
        | inr is ↦ subst (λ (l : Leaf). is_known_at forms (by_number l) ≡ is_built_leaf l) (sym is) (symbol_known (text_of leaf))
      ]

  letter_built : (leaf : Leaf) → is_symbol (by_number leaf) ≡ is_built_letter leaf
  letter_built (symbol []) = refl
  letter_built (symbol (b ∷ bs)) = refl
  letter_built (named name) = refl

  expression_alike : (e : Term Raw) → IsBuiltBy (is_known_at forms) is_symbol (mapped by_number (mapped (leaf_of names) e)) ≡ IsBuiltBy is_built_leaf is_built_letter (mapped (leaf_of names) e)
  expression_alike e =
      ap (IsBuiltBy (is_known_at forms) is_symbol) (mapped_twice by_number (leaf_of names) e)
      ∙ mapped_built (is_known_at forms) is_symbol (atom_of names table) e
      ∙ (λ i. IsBuiltBy (λ leaf. leaf_built leaf i) (λ leaf. letter_built (leaf_of names leaf) i) e)
      ∙ sym (mapped_built is_built_leaf is_built_letter (leaf_of names) e)

  expression_built : (e : Term Raw) → IsBuiltBy is_built_leaf is_built_letter (mapped (leaf_of names) e) → IsBuiltBy (is_known_at forms) is_symbol (mapped by_number (mapped (leaf_of names) e))
  expression_built e h = subst (λ (T : Type 0). T) (sym (expression_alike e)) h

  piece_built : (piece : Piece Raw) → PieceIsBuiltBy is_built_letter (resolved_piece piece) → PieceIsBuiltBy is_symbol (piece_by by_number (resolved_piece piece))
  piece_built (letter leaf) h = subst IsTrue (sym (letter_built (symbol_of leaf))) h
  piece_built (flag f) h = tt

  side_built : (side : List (Piece Raw)) → All (PieceIsBuiltBy is_built_letter) (map resolved_piece side) → All (PieceIsBuiltBy is_symbol) (map (piece_by by_number) (map resolved_piece side))
  side_built = all_on resolved_piece (piece_by by_number) (PieceIsBuiltBy is_built_letter) (PieceIsBuiltBy is_symbol) piece_built

  abbrev ByText : Form Leaf → Type 0
  ByText form = FormIsBuiltBy is_built_leaf is_built_letter form

  abbrev ByNumber : Form Atom → Type 0
  ByNumber form = FormIsBuiltBy (is_known_at forms) is_symbol form

  form_built : (form : Form Raw) → ByText (resolved_form names form) → ByNumber (mapped_form by_number by_number (resolved_form names form))
  form_built (sides upper lower) h = (side_built upper h.0, side_built lower h.1)
  form_built (pairs e) h = expression_built e h

  lexicon_built : (lexicon : Lexicon Raw) → LexiconIsBuiltBy is_built_leaf is_built_letter (resolved_lexicon names lexicon)
      → LexiconIsBuiltBy (is_known_at forms) is_symbol (mapped_lexicon by_number by_number (resolved_lexicon names lexicon))
  lexicon_built lexicon h =
      all_on (resolved_entry names) (mapped_entry by_number by_number) (λ (e : Entry Leaf). ByText e.form) (λ (e : Entry Atom). ByNumber e.form) (λ entry. form_built entry.form) lexicon.entries h

  pub body_built : (body : Body Raw) → BodyIsBuilt (resolved names body) → BodyIsBuiltBy (is_known_at forms) is_symbol (mapped_body (numbered names table) (resolved names body))
  body_built (xfst e) h = expression_built e h
  body_built (lexc lexicons) h =
      all_on (resolved_lexicon names) (mapped_lexicon by_number by_number) (LexiconIsBuiltBy is_built_leaf is_built_letter) (LexiconIsBuiltBy (is_known_at forms) is_symbol) lexicon_built lexicons h
  body_built (twolc grammar) h = leaves_there by_number is_built_letter is_symbol (λ leaf own. subst IsTrue (sym (letter_built leaf)) own) (resolved_grammar grammar) h
