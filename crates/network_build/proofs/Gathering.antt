-- The symbols among leaves, as more leaves are gone through.
use Rattle.std.proofs.Common.{◌≡◌, ◌↔◌, ◌⊎◌, ◌+◌, ◌++◌, ℕ, List, [], ◌∷◌, Contains, map, take, refl, sym, ap, subst, ◌∙◌, inl, inr, append-nil}
use Rattle.std.specs.Borrow.{Bor}
use Rattle.std.specs.List.{flat_map}
use Rattle.std.proofs.lemmas.List.{map-append}
use Rattle.std.proofs.lemmas.List.Concat.{flat_map-append}
use Rattle.std.proofs.lemmas.List.Elements.{Contains-append_cases, Contains-append_left, Contains-append_right}
use Rattle.word_relations.proofs.Members.{Contains-cons_cases, Contains-head, Contains-nil_cases}
use Rattle.fsm_base.specs.declared.letters.Sym.{Sym as Symbol}
use Rattle.regex_ast.specs.declared.expr.Atom.{Atom}
use Rattle.regex_ast.specs.declared.expr.Atom.TheVariants.{Sym}
use Rattle.regex_ast.specs.declared.lexc.Entry.{Entry as EntryOf}
use Rattle.regex_ast.specs.declared.lexc.Lexicon.{Lexicon as LexiconOf}
use Rattle.regex_ast.specs.declared.lexc.Piece.{Piece as PieceOf}
use Rattle.expr_leaves.specs.Leaves.{seen}
use Rattle.name_resolution.specs.Plain.{entry_of, form_of, lexicon_of, piece_of}
use Rattle.project_meaning.specs.Leaves.{forms_in}
use Rattle.project_meaning.specs.Lexicons.{letters_of}
use Rattle.project_meaning.specs.Trees.{Entry, Form, Lexicon}
use Rattle.network_build.specs.Gathered.{AddsLeaves}
use Rattle.network_build.specs.Networks.{form_leaves}

pub adds_none : (old : List Symbol) → AddsLeaves old old []
adds_none old s = (λ at. inl at, λ h. elim h as (λ _. Contains old s) [ inl at ↦ at | inr none ↦ absurd (Contains-nil_cases (Sym s) none) ])

-- from none on, the symbols are those among the leaves
pub adds_to_none : (old new : List Symbol) (leaves : List Atom) → old ≡ [] → AddsLeaves old new leaves → (s : Symbol) → Contains new s ↔ Contains leaves (Sym s)
adds_to_none old new leaves none added s = (
  λ at. elim ((added s).0 at) as (λ _. Contains leaves (Sym s)) [ inl o ↦ absurd (Contains-nil_cases s (subst (λ (xs : List Symbol). Contains xs s) none o)) | inr l ↦ l ],
  λ at. (added s).1 (inr at),
)

-- one leaf
pub adds_one : (old new : List Symbol) (leaf : Atom) → ((s : Symbol) → Contains new s ↔ (Contains old s ⊎ (leaf ≡ Sym s))) → AddsLeaves old new (leaf ∷ [])
adds_one old new leaf added s = (
  λ at. elim ((added s).0 at) as (λ _. Contains old s ⊎ Contains (leaf ∷ []) (Sym s)) [
    | inl o ↦ inl o
    | inr is ↦ inr (subst (Contains (leaf ∷ [])) is (Contains-head leaf []))
  ],
  λ h. (added s).1 (elim h as (λ _. Contains old s ⊎ (leaf ≡ Sym s)) [
    | inl o ↦ inl o
    | inr at ↦ elim (Contains-cons_cases leaf [] (Sym s) at) as (λ _. Contains old s ⊎ (leaf ≡ Sym s)) [ inl is ↦ inr is | inr none ↦ absurd (Contains-nil_cases (Sym s) none) ]
  ]),
)

-- leaves, and then others
pub adds_both : (old between new : List Symbol) (xs ys : List Atom) → AddsLeaves old between xs → AddsLeaves between new ys → AddsLeaves old new (xs ++ ys)
adds_both old between new xs ys first second s = (
  λ at. elim ((second s).0 at) as (λ _. Contains old s ⊎ Contains (xs ++ ys) (Sym s)) [
    | inl b ↦ elim ((first s).0 b) as (λ _. Contains old s ⊎ Contains (xs ++ ys) (Sym s)) [ inl o ↦ inl o | inr x ↦ inr (Contains-append_left xs ys (Sym s) x) ]
    | inr y ↦ inr (Contains-append_right xs ys (Sym s) y)
  ],
  λ h. elim h as (λ _. Contains new s) [
    | inl o ↦ (second s).1 (inl ((first s).1 (inl o)))
    | inr z ↦ elim (Contains-append_cases xs ys (Sym s) z) as (λ _. Contains new s) [ inl x ↦ (second s).1 (inl ((first s).1 (inr x))) | inr y ↦ (second s).1 (inr y) ]
  ],
)

-- the leaves of many items are those of the front ones, and then those of the others
module _ {X : Type 0} (leaves : List X → List Atom) (joined : (xs ys : List X) → leaves (xs ++ ys) ≡ leaves xs ++ leaves ys) where
  pub adds_more : (first old new : List Symbol) (xs : List X) (i : ℕ) (x : X) → take (i + 1) xs ≡ take i xs ++ x ∷ []
      → AddsLeaves old new (leaves (x ∷ [])) → AddsLeaves first old (leaves (take i xs)) → AddsLeaves first new (leaves (take (i + 1) xs))
  adds_more first old new xs i x front added so_far =
      subst (AddsLeaves first new) (sym (ap leaves front ∙ joined (take i xs) (x ∷ []))) (adds_both first old new (leaves (take i xs)) (leaves (x ∷ [])) so_far added)

pub seen_joined : (xs ys : List (Bor Atom)) → seen (xs ++ ys) ≡ seen xs ++ seen ys
seen_joined xs ys = map-append (λ (x : Bor Atom). x.now) xs ys

-- what is listed of many items, item by item
module _ {X Y Z : Type 0} (list : Y → List Z) (of : X → Y) where
  abbrev pub listed_of : List X → List Z
  listed_of xs = flat_map list (map of xs)

  pub listed_joined : (xs ys : List X) → listed_of (xs ++ ys) ≡ listed_of xs ++ listed_of ys
  listed_joined xs ys = ap (flat_map list) (map-append of xs ys) ∙ flat_map-append list (map of xs) (map of ys)

-- the leaves on a side, of entries and of lexicons
abbrev pub side_leaves : List (PieceOf Atom) → List Atom
side_leaves side = listed_of letters_of piece_of side

pub one_piece : (piece : PieceOf Atom) → letters_of (piece_of piece) ≡ side_leaves (piece ∷ [])
one_piece piece = sym (append-nil (letters_of (piece_of piece)))

abbrev pub entry_form : EntryOf Atom → Form Atom
entry_form entry = form_of entry.form

abbrev pub entries_leaves : List (EntryOf Atom) → List Atom
entries_leaves entries = listed_of form_leaves entry_form entries

pub one_entry : (entry : EntryOf Atom) → form_leaves (form_of entry.form) ≡ entries_leaves (entry ∷ [])
one_entry entry = sym (append-nil (form_leaves (form_of entry.form)))

abbrev lexicon_forms : Lexicon Atom → List (Form Atom)
lexicon_forms lexicon = map (λ (entry : Entry Atom). entry.form) lexicon.entries

abbrev pub lexicons_leaves : List (LexiconOf Atom) → List Atom
lexicons_leaves lexicons = flat_map form_leaves (forms_in (map lexicon_of lexicons))

pub lexicons_joined : (xs ys : List (LexiconOf Atom)) → lexicons_leaves (xs ++ ys) ≡ lexicons_leaves xs ++ lexicons_leaves ys
lexicons_joined xs ys =
    ap (flat_map form_leaves) (listed_joined lexicon_forms lexicon_of xs ys) ∙ flat_map-append form_leaves (forms_in (map lexicon_of xs)) (forms_in (map lexicon_of ys))

forms_of : (entries : List (EntryOf Atom)) → map (λ (e : Entry Atom). e.form) (map entry_of entries) ≡ map entry_form entries
forms_of [] = refl
forms_of (e ∷ entries) = ap (λ (z : List (Form Atom)). entry_form e ∷ z) (forms_of entries)

pub one_lexicon : (lexicon : LexiconOf Atom) → entries_leaves lexicon.entries.items ≡ lexicons_leaves (lexicon ∷ [])
one_lexicon lexicon = sym (ap (flat_map form_leaves) (append-nil (lexicon_forms (lexicon_of lexicon)) ∙ forms_of lexicon.entries.items))
