-- What a body relates over alphabets of the same symbols is the same, where its leaves relate the same words; and over any two
-- alphabets, where it doesn't use them.
use Rattle.std.proofs.Common.{◌≡◌, ℕ, false, List, [], ◌∷◌, Option, None, Some, All}
use Rattle.std.specs.Prelude.{codes}
use Rattle.std.specs.List.{Contains, list_any}
use Rattle.std.proofs.lemmas.Bool.{or_parts}
use Rattle.std.proofs.lemmas.List.Elements.{All-nil, All-cons}
use Rattle.word_relations.specs.Relations.{AreSame}
use Rattle.regex_ast.specs.Terms.{Term}
use Rattle.expr_leaves.specs.Alphabet.{uses_alphabet}
use Rattle.expr_meaning.specs.Meaning.{Relates}
use Rattle.expr_spelling.proofs.Alphabets.{alphabet_free}
use Rattle.expr_spelling.proofs.LexiconAlphabets.{lexicons_free}
use Rattle.project_meaning.specs.Trees.{Piece, Form, sides, pairs, Entry, Lexicon, Body, xfst, lexc, twolc}
use Rattle.project_meaning.specs.Leaves.{Leaf, symbol, named, body_uses_alphabet, expressions_of}
use Rattle.project_meaning.specs.Lexicons.{text_in, FormAdds, IsPath, LexiconsRelate}
use Rattle.project_meaning.specs.Meaning.{Word, stands_for, BodyRelates}
use Rattle.touched_names.proofs.Alike.{same_relation}
use Rattle.touched_names.proofs.Sets.{Same, SamePairs}

-- lexicons over one alphabet, and over another, where each expression relates there what it relates here
module _ {A L : Type 0} (letter_in : A → L) (leaf leaf' : A → List L → List L → Type 0) (alphabet alphabet' : List L) (lexicons : List (Lexicon A))
    (goes : (e : Term A) (u w : List L) → Relates leaf alphabet e u w → Relates leaf' alphabet' e u w) where
  form_goes : (form : Form A) (x y : List (Piece L)) → FormAdds letter_in leaf alphabet lexicons form x y → FormAdds letter_in leaf' alphabet' lexicons form x y
  form_goes (sides upper lower) x y adds = adds
  form_goes (pairs e) x y (u, w, related, is, also) = (u, w, goes e u w related, is, also)

  path_goes : (from : Option (List ℕ)) (path : List (Entry A)) (x y : List (Piece L)) → IsPath letter_in leaf alphabet lexicons from path x y → IsPath letter_in leaf' alphabet' lexicons from path x y
  path_goes None [] x y leads = leads
  path_goes None (entry ∷ path) x y leads = absurd leads
  path_goes (Some name) [] x y leads = absurd leads
  path_goes (Some name) (entry ∷ path) x y (x1, x2, y1, y2, member, adds, rest, e, d) =
      (x1, x2, y1, y2, member, form_goes entry.form x1 y1 adds, path_goes entry.next path x2 y2 rest, e, d)

  words_go : (u w : List L) → LexiconsRelate letter_in leaf alphabet lexicons u w → LexiconsRelate letter_in leaf' alphabet' lexicons u w
  words_go u w (path, x, y, leads, p, q, e, d) = (path, x, y, path_goes (Some (codes "Root")) path x y leads, p, q, e, d)

pub same_leaf : (means means' : List ℕ → Word → Word → Type 0) → ((name : List ℕ) → SamePairs (means name) (means' name)) → (a : Leaf) → SamePairs (stands_for means a) (stands_for means' a)
same_leaf means means' same (symbol text) = record { to = λ u w h. h; back = λ u w h. h }
same_leaf means means' same (named name) = same name

-- names that mean the same, over alphabets of the same symbols
module _ (means means' : List ℕ → Word → Word → Type 0) (alphabet alphabet' : List (List ℕ))
    (same : (name : List ℕ) → SamePairs (means name) (means' name)) (symbols : Same (Contains alphabet) (Contains alphabet')) where
  alike : (e : Term Leaf) → SamePairs (Relates (stands_for means) alphabet e) (Relates (stands_for means') alphabet' e)
  alike e = same_relation (stands_for means) (stands_for means') alphabet alphabet' (same_leaf means means' same) symbols e

  pub alike_body : (body : Body Leaf) → AreSame (BodyRelates means alphabet body) (BodyRelates means' alphabet' body)
  alike_body (xfst e) u w =
      ((alike e).to u w, (alike e).back u w)
  alike_body (lexc lexicons) u w =
      (words_go text_in (stands_for means) (stands_for means') alphabet alphabet' lexicons (λ e. (alike e).to) u w, words_go text_in (stands_for means') (stands_for means) alphabet' alphabet lexicons (λ e. (alike e).back) u w)
  alike_body (twolc grammar) u w = (λ h. h, λ h. h)

-- a body that doesn't use the alphabet
none_uses : (es : List (Term Leaf)) → list_any (λ e. uses_alphabet e) es ≡ false → All (λ (e : Term Leaf). uses_alphabet e ≡ false) es
none_uses [] none = All-nil (λ (e : Term Leaf). uses_alphabet e ≡ false)
none_uses (e ∷ es) none =
    let no = or_parts (uses_alphabet e) (list_any (λ e. uses_alphabet e) es) none in
    All-cons (λ (e : Term Leaf). uses_alphabet e ≡ false) e es no.0 (none_uses es no.1)

pub free_body : (means : List ℕ → Word → Word → Type 0) (alphabet alphabet' : List (List ℕ)) (body : Body Leaf) → body_uses_alphabet body ≡ false
    → AreSame (BodyRelates means alphabet body) (BodyRelates means alphabet' body)
free_body means alphabet alphabet' (xfst e) none =
    let no = or_parts (uses_alphabet e) false none in (alphabet_free (stands_for means) alphabet alphabet' e no.0).1
free_body means alphabet alphabet' (lexc lexicons) none = lexicons_free text_in (stands_for means) alphabet alphabet' lexicons (none_uses (expressions_of (lexc lexicons)) none)
free_body means alphabet alphabet' (twolc grammar) none = λ u w. (λ h. h, λ h. h)
