-- Forms and lexicons that are compared part by part.
use Rattle.std.proofs.Common.{◌≡◌, ◌↔◌, Bool, true, false, IsTrue, List, [], ◌∷◌, map, refl, sym, ap, ◌∙◌}
use Rattle.regex_ast.specs.declared.expr.Atom.{Atom}
use Rattle.regex_ast.specs.declared.lexc.Piece.{Piece as PieceOf}
use Rattle.regex_ast.specs.declared.lexc.Form.{Form as FormOf}
use Rattle.regex_ast.specs.declared.lexc.Lexicon.{Lexicon as LexiconOf}
use Rattle.project_meaning.specs.Lexicons.{piece_by}
use Rattle.project_meaning.specs.Trees.{Form, sides, Lexicon}
use Rattle.expr_spelling.specs.Mapped.{mapped_entry, mapped_form}
use Rattle.name_resolution.specs.Plain.{piece_of, form_of, entry_of, lexicon_of}
use Rattle.body_equality.specs.Renumbered.{renumbered}
use Rattle.body_equality.specs.declared.renumbering.Renumbering.{Renumbering}
use Rattle.body_equality.specs.RenumberedLexicons.{renumbered_piece, renumbered_form, renumbered_entry, renumbered_lexicon}

twice : {X Y Z : Type 0} (g : Y → Z) (f : X → Y) (xs : List X) → map g (map f xs) ≡ map (λ x. g (f x)) xs
twice g f [] = refl
twice {Z = Z} g f (x ∷ xs) = ap (λ (z : List Z). g (f x) ∷ z) (twice g f xs)

module _ (numbers : Renumbering) where
  abbrev by : Atom → Atom
  by a = renumbered numbers a

  module _ (other form : FormOf Atom) (ou ol u l : List (PieceOf Atom)) (other_is : form_of other ≡ sides (map piece_of ou) (map piece_of ol)) (form_is : form_of form ≡ sides (map piece_of u) (map piece_of l)) where
    moved : renumbered_form numbers form ≡ sides (map (renumbered_piece numbers) u) (map (renumbered_piece numbers) l)
    moved =
        let p = twice (piece_by by) piece_of u in
        let q = twice (piece_by by) piece_of l in
        ap (mapped_form by by) form_is ∙ (λ i. sides (p i) (q i))

    -- the upper sides are the same
    pub upper_same : map piece_of ou ≡ map (renumbered_piece numbers) u → (r : Bool) → (IsTrue r ↔ (map piece_of ol ≡ map (renumbered_piece numbers) l)) → IsTrue r ↔ (form_of other ≡ renumbered_form numbers form)
    upper_same upper r told = (
      λ yes. let lower = told.0 yes in other_is ∙ (λ i. sides (upper i) (lower i)) ∙ sym moved,
      λ same.
          let both : sides (map piece_of ou) (map piece_of ol) ≡ sides (map (renumbered_piece numbers) u) (map (renumbered_piece numbers) l) = sym other_is ∙ same ∙ moved in
          let lower : map piece_of ol ≡ map (renumbered_piece numbers) l = cc in
          told.1 lower,
    )

    -- they differ
    pub upper_differs : (r : Bool) → r ≡ false → (IsTrue r ↔ (map piece_of ou ≡ map (renumbered_piece numbers) u)) → IsTrue r ↔ (form_of other ≡ renumbered_form numbers form)
    upper_differs r fails told = (
      λ yes. let clash : r ≡ true = yes in cc,
      λ same.
          let both : sides (map piece_of ou) (map piece_of ol) ≡ sides (map (renumbered_piece numbers) u) (map (renumbered_piece numbers) l) = sym other_is ∙ same ∙ moved in
          let upper : map piece_of ou ≡ map (renumbered_piece numbers) u = cc in
          told.1 upper,
    )

  module _ (other lexicon : LexiconOf Atom) where
    entries_moved : map (mapped_entry by by) (map entry_of lexicon.entries.items) ≡ map (renumbered_entry numbers) lexicon.entries.items
    entries_moved = twice (mapped_entry by by) entry_of lexicon.entries.items

    -- the entries are the same
    pub entries_same : map entry_of other.entries.items ≡ map (renumbered_entry numbers) lexicon.entries.items → (r : Bool) → (IsTrue r ↔ (other.name ≡ lexicon.name)) → IsTrue r ↔ (lexicon_of other ≡ renumbered_lexicon numbers lexicon)
    entries_same entries r told = (
      λ yes. let name = told.0 yes in let all = entries ∙ sym entries_moved in λ i. record { name = name i; entries = all i },
      λ same. told.1 (ap (λ (l : Lexicon Atom). l.name) same),
    )

    -- they differ
    pub entries_differ : (r : Bool) → r ≡ false → (IsTrue r ↔ (map entry_of other.entries.items ≡ map (renumbered_entry numbers) lexicon.entries.items)) → IsTrue r ↔ (lexicon_of other ≡ renumbered_lexicon numbers lexicon)
    entries_differ r fails told = (
      λ yes. let clash : r ≡ true = yes in cc,
      λ same. told.1 (ap (λ (l : Lexicon Atom). l.entries) same ∙ entries_moved),
    )
