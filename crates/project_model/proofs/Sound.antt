-- Definitions without fault: their symbols stand in the alphabet, and so they do by their numbers.
use Rattle.std.proofs.Common.{◌≡◌, ◌<◌, ℕ, false, List, [], ◌∷◌, length, map, All, Contains, IsTrue, is_some, slice_get, refl, sym, ap, subst, ◌∙◌, inl, inr, arith}
use Rattle.std.proofs.lemmas.List.Elements.{All-nil, All-cons, All-head, All-tail}
use Rattle.std.proofs.lemmas.Option.{slice_get-get_or, slice_get_past}
use Rattle.std.specs.List.{flat_map}
use Rattle.fsm_base.specs.Symbols.{number_of}
use Rattle.fsm_base.specs.declared.letters.Sym.{Sym as Symbol}
use Rattle.regex_ast.specs.declared.expr.Atom.{Atom}
use Rattle.regex_ast.specs.declared.expr.Raw.{Raw}
use Rattle.regex_ast.specs.Terms.{Term}
use Rattle.expr_kinds.specs.Atoms.{is_known_at, is_leaf_at, is_symbol, is_symbol_of, leaves_at}
use Rattle.expr_kinds.specs.Built.{IsBuiltBy}
use Rattle.expr_kinds.specs.Forms.{nothing}
use Rattle.expr_kinds.specs.declared.form.Form.{Form as Told}
use Rattle.expr_leaves.specs.Leaves.{listed}
use Rattle.expr_leaves.specs.Mapped.{mapped}
use Rattle.project_meaning.specs.Trees.{Piece, letter, flag, Form, sides, pairs, Entry, Lexicon, Body, xfst, lexc, twolc}
use Rattle.project_meaning.specs.Leaves.{Leaf, symbol, named, form_symbols, leaf_of, piece_symbols, resolved, resolved_entry, resolved_form, resolved_grammar, resolved_lexicon, resolved_piece, symbol_in, symbol_of, symbols_in, written as text_of}
use Rattle.project_meaning.specs.Lexicons.{piece_by}
use Rattle.expr_spelling.specs.Mapped.{mapped_entry, mapped_form, mapped_lexicon}
use Rattle.project_sources.specs.Built.{BodyIsBuilt, BodyIsBuiltBy, FormIsBuiltBy, LexiconIsBuiltBy, PieceIsBuiltBy}
use Rattle.project_definitions.specs.Bodies.{BodyFitsBy, IsFormed, mapped_body}
use Rattle.project_definitions.specs.Plain.{body_of}
use Rattle.project_definitions.proofs.Bodies.{all_held, all_on, formed_resolved, listed_forms}
use Rattle.project_meaning.specs.Projects.{Definition as Meant, Written, definition_in}
use Rattle.project_definitions.specs.Demands.{DoesMeet}
use Rattle.name_resolution.specs.Numbered.{numbered}
use Rattle.project_model.specs.Numbered.{numbers_in, is_leaf_over, is_symbol_over, IsBodyOver}
use Rattle.project_model.specs.Plans.{IsSoundOver}
use Rattle.name_resolution.specs.Resolved.{atom_of}
use Rattle.project_model.specs.Sound.{IsSound}
use Rattle.project_definitions.specs.Entries.{Entry as Said, entry_of, entry_in}
use Rattle.project_definitions.specs.declared.definition.Definition.{Definition}
use Rattle.project_definitions.specs.declared.demands.Demand.TheVariants as demand
use Rattle.project_model.proofs.Alphabets.{number_any}
use Rattle.project_definitions.proofs.Replaced.{leaves_here, leaves_there}
use Rattle.project_definitions.proofs.Numbers.{number_within}
use Rattle.project_definitions.proofs.Compiled.{body_built}
use Rattle.project_definitions.proofs.Built.{All-front, All-back, built_here, built_there}
use Rattle.name_resolution.proofs.GrammarLeaves.{leaf_cases}
use Rattle.name_resolution.proofs.Mapped.{mapped_twice}
use Rattle.project_definitions.proofs.Mapped.{mapped_built}
use Rattle.name_resolution.proofs.Texts.{any_from_has}

never : IsTrue false → ⊥
never e = cc

module _ (names alphabet table : List (List ℕ)) (forms : List Told) (few : length forms ≡ length names) where
  abbrev numbers : List Symbol
  numbers = numbers_in table alphabet

  -- a leaf that is a symbol is one of an alphabet that has it, and its number is one of the alphabet's
  letter_stands : (leaf : Leaf) → All (Contains alphabet) (symbol_in leaf) → IsTrue (is_symbol (numbered names table leaf)) → IsTrue (is_symbol_over alphabet leaf)
  letter_stands (symbol []) held h = absurd (never h)
  letter_stands (symbol (b ∷ bs)) held h = any_from_has (b ∷ bs) alphabet (All-head (Contains alphabet) (b ∷ bs) [] held)
  letter_stands (named name) held h = absurd (never h)

  stands : (leaf : Leaf) → All (Contains alphabet) (symbol_in leaf) → IsTrue (is_known_at forms (numbered names table leaf)) → IsTrue (is_leaf_over alphabet leaf)
  unfolding is_known_at
  stands (symbol []) held h = absurd (never (sym (ap is_some (slice_get_past forms (length names) (omega (arith, few)))) ∙ h))
  stands (symbol (b ∷ bs)) held h = any_from_has (b ∷ bs) alphabet (All-head (Contains alphabet) (b ∷ bs) [] held)
  stands (named name) held h = refl

  letter_numbered : (leaf : Leaf) → IsTrue (is_symbol_over alphabet leaf) → IsTrue (is_symbol_of numbers (numbered names table leaf))
  letter_numbered (symbol []) h = absurd (never h)
  letter_numbered (symbol (b ∷ bs)) h = number_any table alphabet (b ∷ bs) h
  letter_numbered (named name) h = absurd (never h)

  -- a name has a form at its place
  known : (name : List ℕ) → Contains names name → IsTrue (is_some (slice_get forms (number_of name names)))
  known name among =
      let within = number_within names name among in
      let inside : number_of name names < length forms = omega (arith, within, few) in
      ap is_some (slice_get-get_or forms (number_of name names) nothing inside)

  symbol_numbered : (text : List ℕ) → IsTrue (is_leaf_over alphabet (symbol text)) → IsTrue (is_leaf_at forms numbers (numbered names table (symbol text)))
  symbol_numbered [] h = absurd (never h)
  symbol_numbered (b ∷ bs) h = number_any table alphabet (b ∷ bs) h

  leaf_numbered : (leaf : Raw) → IsTrue (is_leaf_over alphabet (leaf_of names leaf)) → IsTrue (is_leaf_at forms numbers (atom_of names table leaf))
  leaf_numbered leaf h =
      elim (leaf_cases names leaf) as (λ _. IsTrue (is_leaf_at forms numbers (atom_of names table leaf))) [
        | inl (is, among) ↦ subst (λ (l : Leaf). IsTrue (is_leaf_at forms numbers (numbered names table l))) (sym is) (known (text_of leaf) among)
        | inr is ↦
            subst (λ (l : Leaf). IsTrue (is_leaf_at forms numbers (numbered names table l))) (sym is)
            (symbol_numbered (text_of leaf) (subst (λ (l : Leaf). IsTrue (is_leaf_over alphabet l)) is h))
      ]

  -- a form that is compiled by its numbers, and one that is so over the alphabet
  abbrev Asked : Form Atom → Type 0
  Asked form = FormIsBuiltBy (is_known_at forms) is_symbol form

  abbrev IsOver : Form Leaf → Type 0
  IsOver form = FormIsBuiltBy (is_leaf_over alphabet) (is_symbol_over alphabet) form

  abbrev by_number : Leaf → Atom
  by_number leaf = numbered names table leaf

  expression_over : (e : Term Leaf) → All (Contains alphabet) (listed symbol_in e) → IsBuiltBy (is_known_at forms) is_symbol (mapped by_number e) → IsBuiltBy (is_leaf_over alphabet) (is_symbol_over alphabet) e
  expression_over e held built =
      built_here by_number (is_leaf_over alphabet) (is_symbol_over alphabet) (is_known_at forms) is_symbol symbol_in (Contains alphabet) stands letter_stands e held built

  piece_over : (piece : Piece Leaf) → All (Contains alphabet) (piece_symbols piece) → PieceIsBuiltBy is_symbol (piece_by by_number piece) → PieceIsBuiltBy (is_symbol_over alphabet) piece
  piece_over (letter leaf) held built = letter_stands leaf held built
  piece_over (flag f) held built = tt

  side_over : (side : List (Piece Leaf)) → All (Contains alphabet) (flat_map piece_symbols side) → All (PieceIsBuiltBy is_symbol) (map (piece_by by_number) side) → All (PieceIsBuiltBy (is_symbol_over alphabet)) side
  side_over side held built = all_held (piece_by by_number) piece_symbols (Contains alphabet) (PieceIsBuiltBy (is_symbol_over alphabet)) (PieceIsBuiltBy is_symbol) piece_over side held built

  form_over : (form : Form Leaf) → All (Contains alphabet) (form_symbols form) → Asked (mapped_form by_number by_number form) → IsOver form
  form_over (sides upper lower) held built = (
    side_over upper (All-front (Contains alphabet) (flat_map piece_symbols upper) (flat_map piece_symbols lower) held) built.0,
    side_over lower (All-back (Contains alphabet) (flat_map piece_symbols upper) (flat_map piece_symbols lower) held) built.1,
  )
  form_over (pairs e) held built = expression_over e held built

  lexicon_over : (lexicon : Lexicon Leaf) → All (Contains alphabet) (flat_map (λ (e : Entry Leaf). form_symbols e.form) lexicon.entries)
      → LexiconIsBuiltBy (is_known_at forms) is_symbol (mapped_lexicon by_number by_number lexicon) → LexiconIsBuiltBy (is_leaf_over alphabet) (is_symbol_over alphabet) lexicon
  lexicon_over lexicon held built =
      all_held (mapped_entry by_number by_number) (λ (e : Entry Leaf). form_symbols e.form) (Contains alphabet) (λ (e : Entry Leaf). IsOver e.form) (λ (e : Entry Atom). Asked e.form)
      (λ entry. form_over entry.form) lexicon.entries held built

  body_by_number : (body : Body Leaf) → All (Contains alphabet) (symbols_in body) → BodyIsBuiltBy (is_known_at forms) is_symbol (mapped_body by_number body) → IsBodyOver alphabet body
  body_by_number (xfst e) held built = expression_over e held built
  body_by_number (lexc lexicons) held built =
      all_held (mapped_lexicon by_number by_number) (λ (l : Lexicon Leaf). flat_map (λ (e : Entry Leaf). form_symbols e.form) l.entries) (Contains alphabet)
      (LexiconIsBuiltBy (is_leaf_over alphabet) (is_symbol_over alphabet)) (LexiconIsBuiltBy (is_known_at forms) is_symbol) lexicon_over lexicons
      (subst (All (Contains alphabet)) (listed_forms form_symbols lexicons) held) built
  body_by_number (twolc grammar) held built = leaves_here by_number (is_symbol_over alphabet) is_symbol (Contains alphabet) letter_stands grammar held built

  -- what is over the alphabet can be built over its numbers
  abbrev IsThere : Form Atom → Type 0
  IsThere form = FormIsBuiltBy (is_leaf_at forms numbers) (is_symbol_of numbers) form

  expression_there : (e : Term Raw) → IsBuiltBy (is_leaf_over alphabet) (is_symbol_over alphabet) (mapped (leaf_of names) e)
      → IsBuiltBy (is_leaf_at forms numbers) (is_symbol_of numbers) (mapped by_number (mapped (leaf_of names) e))
  expression_there e over =
      let by_text = subst (λ (T : Type 0). T) (mapped_built (is_leaf_over alphabet) (is_symbol_over alphabet) (leaf_of names) e) over in
      subst (IsBuiltBy (is_leaf_at forms numbers) (is_symbol_of numbers)) (sym (mapped_twice (numbered names table) (leaf_of names) e))
      (built_there (atom_of names table) (λ leaf. is_leaf_over alphabet (leaf_of names leaf)) (λ leaf. is_symbol_over alphabet (leaf_of names leaf)) (is_leaf_at forms numbers) (is_symbol_of numbers)
      leaf_numbered (λ leaf h. letter_numbered (leaf_of names leaf) h) e by_text)

  piece_there : (piece : Piece Raw) → PieceIsBuiltBy (is_symbol_over alphabet) (resolved_piece piece) → PieceIsBuiltBy (is_symbol_of numbers) (piece_by by_number (resolved_piece piece))
  piece_there (letter leaf) over = letter_numbered (symbol_of leaf) over
  piece_there (flag f) over = tt

  side_there : (side : List (Piece Raw)) → All (PieceIsBuiltBy (is_symbol_over alphabet)) (map resolved_piece side) → All (PieceIsBuiltBy (is_symbol_of numbers)) (map (piece_by by_number) (map resolved_piece side))
  side_there side over = all_on resolved_piece (piece_by by_number) (PieceIsBuiltBy (is_symbol_over alphabet)) (PieceIsBuiltBy (is_symbol_of numbers)) piece_there side over

  form_there : (form : Form Raw) → IsOver (resolved_form names form) → IsThere (mapped_form by_number by_number (resolved_form names form))
  form_there (sides upper lower) over = (side_there upper over.0, side_there lower over.1)
  form_there (pairs e) over = expression_there e over

  lexicon_there : (lexicon : Lexicon Raw) → LexiconIsBuiltBy (is_leaf_over alphabet) (is_symbol_over alphabet) (resolved_lexicon names lexicon)
      → LexiconIsBuiltBy (is_leaf_at forms numbers) (is_symbol_of numbers) (mapped_lexicon by_number by_number (resolved_lexicon names lexicon))
  lexicon_there lexicon over =
      all_on (resolved_entry names) (mapped_entry by_number by_number) (λ (e : Entry Leaf). IsOver e.form) (λ (e : Entry Atom). IsThere e.form) (λ entry. form_there entry.form) lexicon.entries over

  body_there : (body : Body Raw) → IsBodyOver alphabet (resolved names body) → BodyIsBuiltBy (is_leaf_at forms numbers) (is_symbol_of numbers) (mapped_body by_number (resolved names body))
  body_there (xfst e) over = expression_there e over
  body_there (lexc lexicons) over =
      all_on (resolved_lexicon names) (mapped_lexicon by_number by_number) (LexiconIsBuiltBy (is_leaf_over alphabet) (is_symbol_over alphabet)) (LexiconIsBuiltBy (is_leaf_at forms numbers) (is_symbol_of numbers))
      lexicon_there lexicons over
  body_there (twolc grammar) over = leaves_there by_number (is_symbol_over alphabet) (is_symbol_of numbers) letter_numbered (resolved_grammar grammar) over

  sound_over : (body : Body Raw) (b : Body Atom) → b ≡ mapped_body by_number (resolved names body) → IsFormed body → BodyFitsBy (leaves_at forms) b → IsBodyOver alphabet (resolved names body)
      → IsSound forms numbers b
  sound_over body b is formed fits over = record {
    fits = fits;
    built = subst (BodyIsBuiltBy (is_leaf_at forms numbers) (is_symbol_of numbers)) (sym is) (body_there body over);
    formed = subst (λ (z : Body Atom). IsFormed z) (sym is) (formed_resolved by_number names body formed);
  }

  abbrev Over : Meant → Type 0
  Over d = IsBodyOver alphabet d.body

  abbrev in_symbols : Meant → List (List ℕ)
  in_symbols d = symbols_in d.body

  -- the definitions that were said are over the alphabet
  pub written_over : (written : List Written) → All (Contains alphabet) (flat_map in_symbols (map (definition_in names) written)) → All (λ (w : Written). BodyIsBuilt (resolved names w.body)) written
      → All Over (map (definition_in names) written)
  written_over [] held built = All-nil Over
  written_over (w ∷ written) held built =
      let m = definition_in names w in
      let rest = map (definition_in names) written in
      let here = body_built names table forms few w.body (All-head (λ (x : Written). BodyIsBuilt (resolved names x.body)) w written built) in
      All-cons Over m rest (body_by_number m.body (All-front (Contains alphabet) (in_symbols m) (flat_map in_symbols rest) held) here)
      (written_over written (All-back (Contains alphabet) (in_symbols m) (flat_map in_symbols rest) held) (All-tail (λ (x : Written). BodyIsBuilt (resolved names x.body)) w written built))

  -- and those of a plan are sound over its numbers
  pub sound_definitions : (definitions : List Definition) (written : List Written) → map entry_of definitions ≡ map (entry_in names table) written
      → All (λ (w : Written). IsFormed w.body) written → All (DoesMeet forms demand.Fits) definitions → All Over (map (definition_in names) written)
      → All (IsSoundOver forms (numbers_in table alphabet)) definitions
  sound_definitions [] written are formed fits over = All-nil (IsSoundOver forms (numbers_in table alphabet))
  sound_definitions (d ∷ definitions) [] are formed fits over = let e : entry_of d ∷ map entry_of definitions ≡ [] = are in cc
  sound_definitions (d ∷ definitions) (w ∷ written) are formed fits over =
      let e : entry_of d ∷ map entry_of definitions ≡ entry_in names table w ∷ map (entry_in names table) written = are in
      let head : entry_of d ≡ entry_in names table w = cc in
      let tail : map entry_of definitions ≡ map (entry_in names table) written = cc in
      All-cons (IsSoundOver forms (numbers_in table alphabet)) d definitions
      (sound_over w.body (body_of d.body) (ap (λ (x : Said). x.body) head) (All-head (λ (x : Written). IsFormed x.body) w written formed) (All-head (DoesMeet forms demand.Fits) d definitions fits) (All-head Over (definition_in names w) (map (definition_in names) written) over))
      (sound_definitions definitions written tail (All-tail (λ (x : Written). IsFormed x.body) w written formed) (All-tail (DoesMeet forms demand.Fits) d definitions fits) (All-tail Over (definition_in names w) (map (definition_in names) written) over))
