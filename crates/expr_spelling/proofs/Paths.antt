-- A path through lexicons with some leaves is one through them with others, where what each form adds is so.
use Rattle.std.proofs.Common.{◌≡◌, ℕ, List, [], ◌∷◌, ◌++◌, map, Option, None, Some, All, refl, sym, ap, subst}
use Rattle.std.specs.List.{Contains}
use Rattle.std.proofs.lemmas.List.Elements.{All-contains}
use Rattle.word_relations.proofs.Members.{Contains-map, Contains-map_cases}
use Rattle.project_meaning.specs.Trees.{Piece, Form, Entry, Lexicon}
use Rattle.project_meaning.specs.Lexicons.{FormAdds, IsEntryOf, IsPath}
use Rattle.expr_spelling.specs.Mapped.{mapped_form, mapped_entry, mapped_lexicon}

-- what stands for the leaves and letters of lexicons, and what that relates over an alphabet
pub record Reading (C A L : Type 0) : Type 1 where
  pub leaf : C → A
  pub letter : C → A
  pub letter_in : A → L
  pub relates : A → List L → List L → Type 0
  pub alphabet : List L

-- what a form adds to the two sides, and a path through lexicons, read so
abbrev pub Adds : {C A L : Type 0} → Reading C A L → Form C → List (Piece L) → List (Piece L) → Type 0
Adds r form x y = FormAdds r.letter_in r.relates r.alphabet [] (mapped_form r.leaf r.letter form) x y

abbrev pub Leads : {C A L : Type 0} → Reading C A L → List (Lexicon C) → Option (List ℕ) → List (Entry A) → List (Piece L) → List (Piece L) → Type 0
Leads r lexicons from path x y = IsPath r.letter_in r.relates r.alphabet (map (mapped_lexicon r.leaf r.letter) lexicons) from path x y

-- an entry of lexicons with other leaves is one of theirs, and one of theirs is so with any
pub record Found {C A : Type 0} (leaf letter : C → A) (Built : Form C → Type 0) (lexicons : List (Lexicon C)) (name : List ℕ) (entry : Entry A) : Type 0 where
  pub from : Entry C
  pub member : IsEntryOf lexicons name from
  pub built : Built from.form
  pub is : mapped_entry leaf letter from ≡ entry

module _ {C A : Type 0} (leaf letter : C → A) (lexicons : List (Lexicon C)) where
  pub found : (Built : Form C → Type 0) → All (λ (lexicon : Lexicon C). All (λ (entry : Entry C). Built entry.form) lexicon.entries) lexicons
      → (name : List ℕ) (entry : Entry A) → IsEntryOf (map (mapped_lexicon leaf letter) lexicons) name entry → Found leaf letter Built lexicons name entry
  found Built built name entry (lexicon, among, named, within) =
      let l = Contains-map_cases (mapped_lexicon leaf letter) lexicons lexicon among in
      let e = Contains-map_cases (mapped_entry leaf letter) l.0.entries entry (subst (λ (x : Lexicon A). Contains x.entries entry) (sym l.2) within) in
      let each = All-contains (λ (x : Lexicon C). All (λ (y : Entry C). Built y.form) x.entries) lexicons l.0 built l.1 in
      record {
        from = e.0;
        member = (l.0, l.1, subst (λ (x : Lexicon A). x.name ≡ name) (sym l.2) named, e.1);
        built = All-contains (λ (y : Entry C). Built y.form) l.0.entries e.0 each e.1;
        is = e.2;
      }

  pub placed : (name : List ℕ) (entry : Entry C) → IsEntryOf lexicons name entry → IsEntryOf (map (mapped_lexicon leaf letter) lexicons) name (mapped_entry leaf letter entry)
  placed name entry (lexicon, among, named, within) =
      (mapped_lexicon leaf letter lexicon, Contains-map (mapped_lexicon leaf letter) lexicons lexicon among, named, Contains-map (mapped_entry leaf letter) lexicon.entries entry within)

-- the same sides on both readings: none, and one behind another
pub record AreAlike {L M : Type 0} (Alike : List (Piece L) → List (Piece M) → Type 0) : Type 0 where
  pub none : Alike [] []
  pub joined : (x y : List (Piece L)) (v w : List (Piece M)) → Alike x v → Alike y w → Alike (x ++ y) (v ++ w)

module _ {C A B L M : Type 0} (r : Reading C A L) (s : Reading C B M) (Alike : List (Piece L) → List (Piece M) → Type 0) where
  -- what a form adds on the one reading it adds on the other
  abbrev pub FormGoes : Form C → Type 0
  FormGoes form = (x y : List (Piece L)) → Adds r form x y → (v : List (Piece M)) × (w : List (Piece M)) × Adds s form v w × Alike x v × Alike y w

  module _ (alike : AreAlike Alike) (Built : Form C → Type 0) (forms : (form : Form C) → Built form → FormGoes form)
      (lexicons : List (Lexicon C)) (built : All (λ (lexicon : Lexicon C). All (λ (entry : Entry C). Built entry.form) lexicon.entries) lexicons) where
    pub path_goes : (from : Option (List ℕ)) (path : List (Entry A)) (x y : List (Piece L)) → Leads r lexicons from path x y
        → (p : List (Entry B)) × (v : List (Piece M)) × (w : List (Piece M)) × Leads s lexicons from p v w × Alike x v × Alike y w
    path_goes None [] x y (e, d) =
        ([], [], [], (refl, refl), subst (λ (z : List (Piece L)). Alike z []) (sym e) alike.none, subst (λ (z : List (Piece L)). Alike z []) (sym d) alike.none)
    path_goes None (entry ∷ path) x y h = absurd h
    path_goes (Some name) [] x y h = absurd h
    path_goes (Some name) (entry ∷ path) x y (x1, x2, y1, y2, member, adds, rest, e, d) =
        let f = found r.leaf r.letter lexicons Built built name entry member in
        let other = mapped_entry s.leaf s.letter f.from in
        let a = forms f.from.form f.built x1 y1 (subst (λ (z : Entry A). FormAdds r.letter_in r.relates r.alphabet [] z.form x1 y1) (sym f.is) adds) in
        let b = path_goes entry.next path x2 y2 rest in
        let next : entry.next ≡ f.from.next = ap (λ (z : Entry A). z.next) (sym f.is) in (
          other ∷ b.0,
          a.0 ++ b.1,
          a.1 ++ b.2,
          (a.0, b.1, a.1, b.2, placed s.leaf s.letter lexicons name f.from f.member, a.2, subst (λ (n : Option (List ℕ)). Leads s lexicons n b.0 b.1 b.2) next b.3, refl, refl),
          subst (λ (z : List (Piece L)). Alike z (a.0 ++ b.1)) (sym e) (alike.joined x1 x2 a.0 b.1 a.3 b.4),
          subst (λ (z : List (Piece L)). Alike z (a.1 ++ b.2)) (sym d) (alike.joined y1 y2 a.1 b.2 a.4 b.5),
        )
