-- Bodies by their expressions: what these refer to, whether they are built and of which kind, and with other leaves.
use Rattle.std.proofs.Common.{◌≡◌, ◌<◌, ◌++◌, ℕ, Bool, true, false, cond, nat_lt, List, [], ◌∷◌, map, All, Contains, refl, sym, ap, subst, ◌∙◌, inl, inr, arith}
use Rattle.std.proofs.lemmas.Bool.Decides.{nat_tests}
use Rattle.std.proofs.lemmas.List.{map-append}
use Rattle.std.proofs.lemmas.List.Elements.{All-nil, All-cons, All-head, All-tail, All-append, All-contains, All-contains_itself, All-weaker, Contains-append_cases}
use Rattle.std.specs.List.{flat_map}
use Rattle.word_relations.proofs.Members.{Contains-nil_cases, Contains-cons_cases, Contains-head, Contains-map, Contains-map_cases, Contains-tail}
use Rattle.regex_ast.specs.declared.expr.Atom.{Atom}
use Rattle.regex_ast.specs.declared.expr.Atom.TheVariants.{Sym, Name}
use Rattle.regex_ast.specs.Terms.{Term}
use Rattle.expr_kinds.specs.Built.{IsBuilt, IsBuiltBy}
use Rattle.expr_leaves.specs.Leaves.{leaves_in}
use Rattle.expr_leaves.specs.Mapped.{mapped}
use Rattle.expr_spelling.specs.LexiconLaws.{AreBuilt, FormIsBuilt, PieceIsBuilt}
use Rattle.expr_spelling.specs.Mapped.{mapped_entry, mapped_form, mapped_lexicon}
use Rattle.name_resolution.proofs.Mapped.{mapped_twice}
use Rattle.network_centres.proofs.Mapped.{centres_in-mapped}
use Rattle.project_meaning.specs.Centres.{centres_in}
use Rattle.project_meaning.specs.Trees.{Piece, letter, flag, Form, sides, pairs, Entry, Lexicon, Body, xfst, lexc, twolc}
use Rattle.project_meaning.specs.Leaves.{expressions_in, expressions_of, forms_in}
use Rattle.project_meaning.specs.Lexicons.{piece_by}
use Rattle.project_meaning.proofs.Places.{in_flat}
use Rattle.project_definitions.specs.Referring.{place_in, places_in}
use Rattle.name_resolution.proofs.Listed.{listed_is}
use Rattle.project_sources.specs.Built.{PieceIsBuiltBy, FormIsBuiltBy, LexiconIsBuiltBy, BodyIsBuiltBy}

-- what one of many gives is of one of them
pub flat_cases : {X Y : Type 0} (f : X → List Y) (xs : List X) (y : Y) → Contains (flat_map f xs) y → (x : X) × Contains xs x × Contains (f x) y
flat_cases f [] y at = absurd (Contains-nil_cases y at)
flat_cases {X = X} f (x ∷ xs) y at =
    elim (Contains-append_cases (f x) (flat_map f xs) y at) as (λ _. (z : X) × Contains (x ∷ xs) z × Contains (f z) y) [
      | inl here ↦ (x, Contains-head x xs, here)
      | inr there ↦ (let (z, among, gives) = flat_cases f xs y there in (z, Contains-tail x xs z among, gives))
    ]

-- what holds of each element, where that may be known to be one
all_within : {X : Type 0} (P Q : X → Type 0) (xs : List X) → ((x : X) → Contains xs x → P x → Q x) → All P xs → All Q xs
all_within P Q xs goes h = All-weaker (Contains xs) Q (λ x at. goes x at (All-contains P xs x h at)) xs (All-contains_itself xs)

-- the form of an entry of a lexicon is one of the forms, and so its expressions are among those of the lexicons
form_among : {A : Type 0} (lexicons : List (Lexicon A)) (lexicon : Lexicon A) (entry : Entry A) → Contains lexicons lexicon → Contains lexicon.entries entry → Contains (forms_in lexicons) entry.form
form_among {A} lexicons lexicon entry among within =
    in_flat (λ (l : Lexicon A). map (λ (e : Entry A). e.form) l.entries) lexicons lexicon entry.form among (Contains-map (λ (e : Entry A). e.form) lexicon.entries entry within)

expression_among : {A : Type 0} (lexicons : List (Lexicon A)) (lexicon : Lexicon A) (entry : Entry A) → Contains lexicons lexicon → Contains lexicon.entries entry
    → (e : Term A) → Contains (expressions_in entry.form) e → Contains (expressions_of (lexc lexicons)) e
expression_among lexicons lexicon entry among within e at = in_flat expressions_in (forms_in lexicons) entry.form e (form_among lexicons lexicon entry among within) at

-- names in expressions and the places that these refer to
module _ (n : ℕ) where
  below : (p : ℕ) → p < n → nat_lt p n ≡ true
  below p less = grind (arith, nat_tests)

  place_given : (p : ℕ) → p < n → Contains (place_in n (Name p)) p
  place_given p within = subst (λ (ps : List ℕ). Contains ps p) (sym (ap (λ (b : Bool). cond b (p ∷ []) []) (below p within))) (Contains-head p [])

  pub name_refers : (es : List (Term Atom)) (p : ℕ) → Contains (flat_map leaves_in es) (Name p) → p < n → Contains (flat_map (places_in n) es) p
  name_refers es p stood within =
      let (e, among, leaf) = flat_cases leaves_in es (Name p) stood in
      in_flat (places_in n) es e p among
      (subst (λ (ps : List ℕ). Contains ps p) (sym (listed_is (place_in n) e)) (in_flat (place_in n) (leaves_in e) (Name p) p leaf (place_given p within)))

  is_place : (a : Atom) (q : ℕ) → Contains (place_in n a) q → a ≡ Name q
  is_place (Sym s) q h = absurd (Contains-nil_cases q h)
  is_place (Name p) q h = by (nat_lt p n) h
    where
      by : (b : Bool) → Contains (cond b (p ∷ []) []) q → Name p ≡ Name q
      by true h = elim (Contains-cons_cases p [] q h) as (λ _. Name p ≡ Name q) [
        | inl same ↦ ap (λ (k : ℕ). Name k) same
        | inr none ↦ absurd (Contains-nil_cases q none)
      ]
      by false h = absurd (Contains-nil_cases q h)

  pub referred_name : (es : List (Term Atom)) (q : ℕ) → Contains (flat_map (places_in n) es) q → Contains (flat_map leaves_in es) (Name q)
  referred_name es q h =
      let (e, among, place) = flat_cases (places_in n) es q h in
      let (a, leaf, gives) = flat_cases (place_in n) (leaves_in e) q (subst (λ (ps : List ℕ). Contains ps q) (listed_is (place_in n) e) place) in
      in_flat leaves_in es e (Name q) among (subst (Contains (leaves_in e)) (is_place a q gives) leaf)

-- each expression of a body that is built is built
module _ {A : Type 0} (is_leaf is_letter : A → Bool) where
  abbrev Built : Term A → Type 0
  Built e = IsBuiltBy is_leaf is_letter e

  form_expressions : (form : Form A) → FormIsBuiltBy is_leaf is_letter form → All Built (expressions_in form)
  form_expressions (sides upper lower) h = All-nil Built
  form_expressions (pairs e) h = All-cons Built e [] h (All-nil Built)

  forms_built : (forms : List (Form A)) → All (FormIsBuiltBy is_leaf is_letter) forms → All Built (flat_map expressions_in forms)
  forms_built [] h = All-nil Built
  forms_built (form ∷ forms) h =
      All-append Built (expressions_in form) (flat_map expressions_in forms) (form_expressions form (All-head (FormIsBuiltBy is_leaf is_letter) form forms h))
      (forms_built forms (All-tail (FormIsBuiltBy is_leaf is_letter) form forms h))

  lexicon_forms : (lexicons : List (Lexicon A)) → All (LexiconIsBuiltBy is_leaf is_letter) lexicons → All (FormIsBuiltBy is_leaf is_letter) (forms_in lexicons)
  lexicon_forms lexicons h = All-weaker (Contains (forms_in lexicons)) (FormIsBuiltBy is_leaf is_letter) each (forms_in lexicons) (All-contains_itself (forms_in lexicons))
    where
      each : (form : Form A) → Contains (forms_in lexicons) form → FormIsBuiltBy is_leaf is_letter form
      each form at =
          let (l, among, there) = flat_cases (λ (l : Lexicon A). map (λ (e : Entry A). e.form) l.entries) lexicons form at in
          let (entry, within, is) = Contains-map_cases (λ (e : Entry A). e.form) l.entries form there in
          subst (FormIsBuiltBy is_leaf is_letter) is
          (All-contains (λ (e : Entry A). FormIsBuiltBy is_leaf is_letter e.form) l.entries entry (All-contains (LexiconIsBuiltBy is_leaf is_letter) lexicons l h among) within)

  pub expressions_built : (body : Body A) → BodyIsBuiltBy is_leaf is_letter body → All Built (expressions_of body)
  expressions_built (xfst e) h = All-cons Built e [] h (All-nil Built)
  expressions_built (lexc lexicons) h = forms_built (forms_in lexicons) (lexicon_forms lexicons h)
  expressions_built (twolc grammar) h = All-nil Built

-- a body is built by another test of the leaves of its expressions where these are
module _ {A : Type 0} (spells passes is_letter : A → Bool) where
  pub body_passes : (body : Body A) → BodyIsBuiltBy spells is_letter body → ((e : Term A) → Contains (expressions_of body) e → IsBuiltBy spells is_letter e → IsBuiltBy passes is_letter e)
      → BodyIsBuiltBy passes is_letter body
  body_passes (xfst e) h go = go e (Contains-head e []) h
  body_passes (lexc lexicons) h go = all_within (LexiconIsBuiltBy spells is_letter) (LexiconIsBuiltBy passes is_letter) lexicons lexicon h
    where
      form : (form : Form A) → ((e : Term A) → Contains (expressions_in form) e → IsBuiltBy spells is_letter e → IsBuiltBy passes is_letter e) → FormIsBuiltBy spells is_letter form
          → FormIsBuiltBy passes is_letter form
      form (sides upper lower) go h = h
      form (pairs e) go h = go e (Contains-head e []) h

      lexicon : (l : Lexicon A) → Contains lexicons l → LexiconIsBuiltBy spells is_letter l → LexiconIsBuiltBy passes is_letter l
      lexicon l among built =
          all_within (λ (entry : Entry A). FormIsBuiltBy spells is_letter entry.form) (λ (entry : Entry A). FormIsBuiltBy passes is_letter entry.form) l.entries
          (λ entry within each. form entry.form (λ e at. go e (expression_among lexicons l entry among within e at)) each) built
  body_passes (twolc grammar) h go = h

-- lexicons whose leaves and letters are replaced: they are built where the others are, and their expressions are
module _ {A B : Type 0} (spells : A → Bool) (is_leaf is_letter : B → Bool) (leaf letter_to : A → B) where
  abbrev passes : A → Bool
  passes a = is_letter (letter_to a)

  pieces_built : (pieces : List (Piece A)) → All (PieceIsBuiltBy is_letter) (map (piece_by letter_to) pieces) → All (PieceIsBuilt spells passes) pieces
  pieces_built pieces h =
      All-weaker (Contains pieces) (PieceIsBuilt spells passes)
      (λ piece at. one piece (All-contains (PieceIsBuiltBy is_letter) (map (piece_by letter_to) pieces) (piece_by letter_to piece) h (Contains-map (piece_by letter_to) pieces piece at)))
      pieces (All-contains_itself pieces)
    where
      one : (piece : Piece A) → PieceIsBuiltBy is_letter (piece_by letter_to piece) → PieceIsBuilt spells passes piece
      one (letter a) h = h
      one (flag f) h = tt

  form_built : (form : Form A) → ((e : Term A) → Contains (expressions_in form) e → IsBuilt spells e) → FormIsBuiltBy is_leaf is_letter (mapped_form leaf letter_to form) → FormIsBuilt spells passes form
  form_built (sides upper lower) go h = (pieces_built upper h.0, pieces_built lower h.1)
  form_built (pairs e) go h = go e (Contains-head e [])

  pub lexicons_built : (lexicons : List (Lexicon A)) → ((e : Term A) → Contains (expressions_of (lexc lexicons)) e → IsBuilt spells e)
      → All (LexiconIsBuiltBy is_leaf is_letter) (map (mapped_lexicon leaf letter_to) lexicons) → AreBuilt spells passes lexicons
  lexicons_built lexicons go h =
      All-weaker (Contains lexicons) (λ (l : Lexicon A). All (λ (entry : Entry A). FormIsBuilt spells passes entry.form) l.entries) lexicon lexicons (All-contains_itself lexicons)
    where
      lexicon : (l : Lexicon A) → Contains lexicons l → All (λ (entry : Entry A). FormIsBuilt spells passes entry.form) l.entries
      lexicon l among =
          let to = mapped_lexicon leaf letter_to in
          let entry_to = mapped_entry leaf letter_to in
          let there = All-contains (LexiconIsBuiltBy is_leaf is_letter) (map to lexicons) (to l) h (Contains-map to lexicons l among) in
          All-weaker (Contains l.entries) (λ (entry : Entry A). FormIsBuilt spells passes entry.form)
          (λ entry within.
          form_built entry.form (λ e at. go e (expression_among lexicons l entry among within e at))
          (All-contains (λ (x : Entry B). FormIsBuiltBy is_leaf is_letter x.form) (map entry_to l.entries) (entry_to entry) there (Contains-map entry_to l.entries entry within)))
          l.entries (All-contains_itself l.entries)

-- leaves that are replaced twice
same_map : {X Y Z : Type 0} (f : Y → Z) (g : X → Y) (h : X → Z) → ((x : X) → f (g x) ≡ h x) → (xs : List X) → map f (map g xs) ≡ map h xs
same_map f g h same [] = refl
same_map f g h same (x ∷ xs) = λ i. same x i ∷ same_map f g h same xs i

module _ {A B C : Type 0} (f : B → C) (leaf letter_to : A → B) where
  piece_twice : (piece : Piece A) → piece_by f (piece_by letter_to piece) ≡ piece_by (λ a. f (letter_to a)) piece
  piece_twice (letter a) = refl
  piece_twice (flag x) = refl

  form_twice : (form : Form A) → mapped_form f f (mapped_form leaf letter_to form) ≡ mapped_form (λ a. f (leaf a)) (λ a. f (letter_to a)) form
  form_twice (sides upper lower) =
      let up = same_map (piece_by f) (piece_by letter_to) (piece_by (λ a. f (letter_to a))) piece_twice upper in
      let low = same_map (piece_by f) (piece_by letter_to) (piece_by (λ a. f (letter_to a))) piece_twice lower in
      λ i. sides (up i) (low i)
  form_twice (pairs e) = ap pairs (mapped_twice f leaf e)

  entry_twice : (entry : Entry A) → mapped_entry f f (mapped_entry leaf letter_to entry) ≡ mapped_entry (λ a. f (leaf a)) (λ a. f (letter_to a)) entry
  entry_twice entry = ap (λ (form : Form C). record { form = form; next = entry.next }) (form_twice entry.form)

  lexicon_twice : (lexicon : Lexicon A) → mapped_lexicon f f (mapped_lexicon leaf letter_to lexicon) ≡ mapped_lexicon (λ a. f (leaf a)) (λ a. f (letter_to a)) lexicon
  lexicon_twice lexicon =
      ap (λ (entries : List (Entry C)). record { name = lexicon.name; entries = entries })
      (same_map (mapped_entry f f) (mapped_entry leaf letter_to) (mapped_entry (λ a. f (leaf a)) (λ a. f (letter_to a))) entry_twice lexicon.entries)

  pub lexicons_twice : (lexicons : List (Lexicon A)) → map (mapped_lexicon f f) (map (mapped_lexicon leaf letter_to) lexicons) ≡ map (mapped_lexicon (λ a. f (leaf a)) (λ a. f (letter_to a))) lexicons
  lexicons_twice lexicons = same_map (mapped_lexicon f f) (mapped_lexicon leaf letter_to) (mapped_lexicon (λ a. f (leaf a)) (λ a. f (letter_to a))) lexicon_twice lexicons

  pub expressions_twice : (es : List (Term A)) → map (mapped f) (map (mapped leaf) es) ≡ map (mapped (λ a. f (leaf a))) es
  expressions_twice es = same_map (mapped f) (mapped leaf) (mapped (λ a. f (leaf a))) (mapped_twice f leaf) es

-- the centres of expressions whose leaves are replaced
pub centres_mapped : {A B : Type 0} (f : A → B) (es : List (Term A)) → flat_map (λ e. centres_in e) (map (mapped f) es) ≡ map (mapped f) (flat_map (λ e. centres_in e) es)
centres_mapped f [] = refl
centres_mapped f (e ∷ es) =
    let here = centres_in-mapped f e in
    let rest = centres_mapped f es in
    (λ i. here i ++ rest i) ∙ sym (map-append (mapped f) (centres_in e) (flat_map (λ x. centres_in x) es))
