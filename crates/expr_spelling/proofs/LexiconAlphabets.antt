-- Lexicons in which no expression uses the alphabet relate the same over every one: each path over one is a path over another.
use Rattle.std.proofs.Common.{◌≡◌, ℕ, false, List, [], ◌∷◌, map, Option, None, Some, All}
use Rattle.std.specs.Prelude.{codes}
use Rattle.std.specs.List.{Contains}
use Rattle.std.proofs.lemmas.List.Elements.{All-contains}
use Rattle.word_relations.proofs.Members.{Contains-head, Contains-map}
use Rattle.regex_ast.specs.Terms.{Term}
use Rattle.expr_leaves.specs.Alphabet.{uses_alphabet}
use Rattle.expr_spelling.proofs.Alphabets.{alphabet_free}
use Rattle.project_meaning.specs.Trees.{Piece, Form, sides, pairs, Entry, Lexicon, lexc}
use Rattle.project_meaning.specs.Leaves.{expressions_in, expressions_of, forms_in}
use Rattle.project_meaning.specs.Lexicons.{FormAdds, IsEntryOf, IsPath, LexiconsRelate}
use Rattle.project_meaning.proofs.Places.{in_flat}
use Rattle.expr_spelling.specs.LexiconLaws.{LexiconsNeedNoAlphabet}

module _ {A L : Type 0} (letter_in : A → L) (leaf : A → List L → List L → Type 0) (lexicons : List (Lexicon A)) where
  -- no expression of the lexicons uses the alphabet
  abbrev AreFree : Type 0
  AreFree = All (λ (e : Term A). uses_alphabet e ≡ false) (expressions_of (lexc lexicons))

  abbrev IsFree : Form A → Type 0
  IsFree form = (e : Term A) → Contains (expressions_in form) e → uses_alphabet e ≡ false

  entry_free : AreFree → (name : List ℕ) (entry : Entry A) → IsEntryOf lexicons name entry → IsFree entry.form
  entry_free free name entry (lexicon, among, named, within) e there =
      let forms = λ (x : Lexicon A). map (λ (y : Entry A). y.form) x.entries in
      let held = in_flat forms lexicons lexicon entry.form among (Contains-map (λ (y : Entry A). y.form) lexicon.entries entry within) in
      All-contains (λ (x : Term A). uses_alphabet x ≡ false) (expressions_of (lexc lexicons)) e free (in_flat expressions_in (forms_in lexicons) entry.form e held there)

  module _ (alphabet other : List L) where
    same_form : (form : Form A) → IsFree form → (x y : List (Piece L)) → FormAdds letter_in leaf alphabet lexicons form x y → FormAdds letter_in leaf other lexicons form x y
    same_form (sides upper lower) free x y adds = adds
    same_form (pairs e) free x y (u, w, related, is, also) = (u, w, ((alphabet_free leaf alphabet other e (free e (Contains-head e []))).1 u w).0 related, is, also)

    same_path : AreFree → (from : Option (List ℕ)) (path : List (Entry A)) (x y : List (Piece L))
        → IsPath letter_in leaf alphabet lexicons from path x y → IsPath letter_in leaf other lexicons from path x y
    same_path free None [] x y leads = leads
    same_path free None (entry ∷ path) x y leads = absurd leads
    same_path free (Some name) [] x y leads = absurd leads
    same_path free (Some name) (entry ∷ path) x y (x1, x2, y1, y2, member, adds, rest, e, d) =
        (x1, x2, y1, y2, member, same_form entry.form (entry_free free name entry member) x1 y1 adds, same_path free entry.next path x2 y2 rest, e, d)

    same_words : AreFree → (u w : List L) → LexiconsRelate letter_in leaf alphabet lexicons u w → LexiconsRelate letter_in leaf other lexicons u w
    same_words free u w (path, x, y, leads, p, q, e, d) = (path, x, y, same_path free (Some (codes "Root")) path x y leads, p, q, e, d)

pub lexicons_free : {A L : Type 0} (letter_in : A → L) (leaf : A → List L → List L → Type 0) → LexiconsNeedNoAlphabet letter_in leaf
lexicons_free letter_in leaf alphabet other lexicons free u w =
    (same_words letter_in leaf lexicons alphabet other free u w, same_words letter_in leaf lexicons other alphabet free u w)
