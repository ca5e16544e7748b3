-- Bodies whose leaves are replaced: their expressions and the forms of their lexicons, and what holds of each.
use Rattle.std.proofs.Common.{◌≡◌, ◌↔◌, ℕ, List, [], ◌∷◌, ◌++◌, map, codes, All, Contains, refl, sym, ap, subst, ◌∙◌}
use Rattle.std.proofs.lemmas.Grind.{flat_map-append}
use Rattle.std.proofs.lemmas.List.{map-append}
use Rattle.std.proofs.lemmas.List.Elements.{All-nil, All-cons, All-head, All-tail, All-append}
use Rattle.std.specs.List.{flat_map}
use Rattle.word_relations.specs.Words.{IsDistinct}
use Rattle.regex_ast.specs.declared.expr.Raw.{Raw}
use Rattle.regex_ast.specs.Terms.{Term}
use Rattle.expr_kinds.specs.Kinds.{Leaves, Fits}
use Rattle.expr_leaves.specs.Leaves.{listed}
use Rattle.expr_leaves.specs.Mapped.{mapped}
use Rattle.grammar_pairs.specs.Plain.{IsFormed as GrammarIsFormed}
use Rattle.grammar_pairs.proofs.Replaced.{resolved_mapped}
use Rattle.project_meaning.specs.Trees.{Form, sides, pairs, Entry, Lexicon, Grammar, Body, xfst, lexc, twolc}
use Rattle.project_meaning.specs.Leaves.{Leaf, expressions_in, expressions_of, form_symbols, forms_in, leaf_of, resolved, resolved_form, resolved_grammar, resolved_lexicon, symbol_in, symbol_of, symbols_in}
use Rattle.expr_spelling.specs.Mapped.{mapped_form}
use Rattle.project_definitions.specs.Bodies.{AreRooted, BodyFitsBy, IsFormed, LexiconFitsBy, mapped_body}
use Rattle.project_definitions.proofs.Built.{All-front, All-back}
use Rattle.project_definitions.proofs.Formed.{formed_mapped}

-- what holds of each item that is mapped once holds of each that is mapped again
pub all_on : {X Y Z : Type 0} (f : X → Y) (g : Y → Z) (P : Y → Type 0) (Q : Z → Type 0) → ((x : X) → P (f x) → Q (g (f x)))
    → (xs : List X) → All P (map f xs) → All Q (map g (map f xs))
all_on f g P Q each [] h = All-nil Q
all_on f g P Q each (x ∷ xs) h =
    All-cons Q (g (f x)) (map g (map f xs)) (each x (All-head P (f x) (map f xs) h)) (all_on f g P Q each xs (All-tail P (f x) (map f xs) h))

-- the same where what is listed of the items has a property
pub all_held : {X Y W : Type 0} (g : X → Y) (of : X → List W) (K : W → Type 0) (P : X → Type 0) (Q : Y → Type 0) → ((x : X) → All K (of x) → Q (g x) → P x)
    → (xs : List X) → All K (flat_map of xs) → All Q (map g xs) → All P xs
all_held g of K P Q each [] held h = All-nil P
all_held g of K P Q each (x ∷ xs) held h =
    All-cons P x xs (each x (All-front K (of x) (flat_map of xs) held) (All-head Q (g x) (map g xs) h))
    (all_held g of K P Q each xs (All-back K (of x) (flat_map of xs) held) (All-tail Q (g x) (map g xs) h))

flat_mapping : {X Y W : Type 0} (of : Y → List W) (f : X → Y) (xs : List X) → flat_map of (map f xs) ≡ flat_map (λ x. of (f x)) xs
flat_mapping of f [] = refl
flat_mapping {W = W} of f (x ∷ xs) = ap (λ (z : List W). of (f x) ++ z) (flat_mapping of f xs)

-- what is listed of the forms of lexicons, lexicon by lexicon
pub listed_forms : {A W : Type 0} (of : Form A → List W) (lexicons : List (Lexicon A)) → flat_map of (forms_in lexicons) ≡ flat_map (λ (l : Lexicon A). flat_map (λ (e : Entry A). of e.form) l.entries) lexicons
listed_forms of [] = refl
listed_forms {A} of (l ∷ lexicons) =
    let here = flat_mapping of (λ (e : Entry A). e.form) l.entries in
    let rest = listed_forms of lexicons in
    flat_map-append of (map (λ (e : Entry A). e.form) l.entries) (forms_in lexicons) ∙ (λ i. here i ++ rest i)

-- Entries whose forms are replaced.
module _ {A B : Type 0} (to : Form A → Form B) where
  abbrev pub entry_to : Entry A → Entry B
  entry_to entry = record { form = to entry.form; next = entry.next }

  abbrev pub lexicon_to : Lexicon A → Lexicon B
  lexicon_to lexicon = record { name = lexicon.name; entries = map entry_to lexicon.entries }

  entries_to : (entries : List (Entry A)) → map (λ (e : Entry B). e.form) (map entry_to entries) ≡ map to (map (λ (e : Entry A). e.form) entries)
  entries_to [] = refl
  entries_to (e ∷ entries) = ap (λ (z : List (Form B)). to e.form ∷ z) (entries_to entries)

  pub forms_to : (lexicons : List (Lexicon A)) → forms_in (map lexicon_to lexicons) ≡ map to (forms_in lexicons)
  forms_to [] = refl
  forms_to (l ∷ lexicons) =
      let here = entries_to l.entries in
      let rest = forms_to lexicons in
      (λ i. here i ++ rest i) ∙ sym (map-append to (map (λ (e : Entry A). e.form) l.entries) (forms_in lexicons))

  pub names_to : (lexicons : List (Lexicon A)) → map (λ (l : Lexicon B). l.name) (map lexicon_to lexicons) ≡ map (λ (l : Lexicon A). l.name) lexicons
  names_to [] = refl
  names_to (l ∷ lexicons) = ap (λ (z : List (List ℕ)). l.name ∷ z) (names_to lexicons)

  pub rooted_to : (lexicons : List (Lexicon A)) → AreRooted lexicons → AreRooted (map lexicon_to lexicons)
  rooted_to lexicons rooted =
      let same = sym (names_to lexicons) in
      record { distinct = subst (λ (z : List (List ℕ)). IsDistinct z) same rooted.distinct; root = subst (λ (z : List (List ℕ)). Contains z (codes "Root")) same rooted.root }

  -- the expressions, where a form's expression is replaced by this
  pub expressions_to : (by : Term A → Term B) → ((form : Form A) → expressions_in (to form) ≡ map by (expressions_in form))
      → (lexicons : List (Lexicon A)) → expressions_of (lexc (map lexicon_to lexicons)) ≡ map by (expressions_of (lexc lexicons))
  expressions_to by each lexicons = ap (λ (z : List (Form B)). flat_map expressions_in z) (forms_to lexicons) ∙ all (forms_in lexicons)
    where
      all : (forms : List (Form A)) → flat_map expressions_in (map to forms) ≡ map by (flat_map expressions_in forms)
      all [] = refl
      all (form ∷ forms) =
          let here = each form in
          let rest = all forms in
          (λ i. here i ++ rest i) ∙ sym (map-append by (expressions_in form) (flat_map expressions_in forms))

form_mapped : {A B : Type 0} (f : A → B) (form : Form A) → expressions_in (mapped_form f f form) ≡ map (mapped f) (expressions_in form)
form_mapped f (sides upper lower) = refl
form_mapped f (pairs e) = refl

pub expressions_mapped : {A B : Type 0} (f : A → B) (body : Body A) → expressions_of (mapped_body f body) ≡ map (mapped f) (expressions_of body)
expressions_mapped f (xfst e) = refl
expressions_mapped f (lexc lexicons) = expressions_to (mapped_form f f) (mapped f) (form_mapped f) lexicons
expressions_mapped f (twolc grammar) = refl

form_resolved : (names : List (List ℕ)) (form : Form Raw) → expressions_in (resolved_form names form) ≡ map (mapped (leaf_of names)) (expressions_in form)
form_resolved names (sides upper lower) = refl
form_resolved names (pairs e) = refl

pub expressions_resolved : (names : List (List ℕ)) (body : Body Raw) → expressions_of (resolved names body) ≡ map (mapped (leaf_of names)) (expressions_of body)
expressions_resolved names (xfst e) = refl
expressions_resolved names (lexc lexicons) = expressions_to (resolved_form names) (mapped (leaf_of names)) (form_resolved names) lexicons
expressions_resolved names (twolc grammar) = refl

-- lexicons keep their names, and grammars their forms
pub formed_resolved : {B : Type 0} (f : Leaf → B) (names : List (List ℕ)) (body : Body Raw) → IsFormed body → IsFormed (mapped_body f (resolved names body))
formed_resolved f names (xfst e) formed = tt
formed_resolved f names (lexc lexicons) formed = rooted_to (mapped_form f f) (map (resolved_lexicon names) lexicons) (rooted_to (resolved_form names) lexicons formed)
formed_resolved f names (twolc grammar) formed = formed_mapped f (resolved_grammar grammar) (subst (λ (g : Grammar Leaf). GrammarIsFormed g) (sym (resolved_mapped grammar)) (formed_mapped symbol_of grammar formed))

-- what holds of the symbols of a body holds of those of its expressions
module _ (K : List ℕ → Type 0) where
  held_forms : (forms : List (Form Leaf)) → All K (flat_map form_symbols forms) → All (λ (e : Term Leaf). All K (listed symbol_in e)) (flat_map expressions_in forms)
  held_forms [] held = All-nil (λ (e : Term Leaf). All K (listed symbol_in e))
  held_forms (sides upper lower ∷ forms) held = held_forms forms (All-back K (form_symbols (sides upper lower)) (flat_map form_symbols forms) held)
  held_forms (pairs e ∷ forms) held =
      All-cons (λ (e : Term Leaf). All K (listed symbol_in e)) e (flat_map expressions_in forms) (All-front K (listed symbol_in e) (flat_map form_symbols forms) held)
      (held_forms forms (All-back K (listed symbol_in e) (flat_map form_symbols forms) held))

  pub held_expressions : (body : Body Leaf) → All K (symbols_in body) → All (λ (e : Term Leaf). All K (listed symbol_in e)) (expressions_of body)
  held_expressions (xfst e) held = All-cons (λ (e : Term Leaf). All K (listed symbol_in e)) e [] held (All-nil (λ (e : Term Leaf). All K (listed symbol_in e)))
  held_expressions (lexc lexicons) held = held_forms (forms_in lexicons) held
  held_expressions (twolc grammar) held = All-nil (λ (e : Term Leaf). All K (listed symbol_in e))

-- lexicons fit where each of their expressions does
module _ {A : Type 0} (leaves : Leaves A) where
  abbrev EntryFits : Entry A → Type 0
  EntryFits entry = All (Fits leaves) (expressions_in entry.form)

  entries_together : (entries : List (Entry A)) → All EntryFits entries → All (Fits leaves) (flat_map (λ (e : Entry A). expressions_in e.form) entries)
  entries_together [] h = All-nil (Fits leaves)
  entries_together (e ∷ entries) h =
      All-append (Fits leaves) (expressions_in e.form) (flat_map (λ (e : Entry A). expressions_in e.form) entries) (All-head EntryFits e entries h) (entries_together entries (All-tail EntryFits e entries h))

  entries_apart : (entries : List (Entry A)) → All (Fits leaves) (flat_map (λ (e : Entry A). expressions_in e.form) entries) → All EntryFits entries
  entries_apart [] h = All-nil EntryFits
  entries_apart (e ∷ entries) h =
      let rest = flat_map (λ (e : Entry A). expressions_in e.form) entries in
      All-cons EntryFits e entries (All-front (Fits leaves) (expressions_in e.form) rest h) (entries_apart entries (All-back (Fits leaves) (expressions_in e.form) rest h))

  abbrev in_entries : Lexicon A → List (Term A)
  in_entries lexicon = flat_map (λ (e : Entry A). expressions_in e.form) lexicon.entries

  lexicons_together : (lexicons : List (Lexicon A)) → All (LexiconFitsBy leaves) lexicons → All (Fits leaves) (flat_map in_entries lexicons)
  lexicons_together [] h = All-nil (Fits leaves)
  lexicons_together (l ∷ lexicons) h =
      All-append (Fits leaves) (in_entries l) (flat_map in_entries lexicons) (entries_together l.entries (All-head (LexiconFitsBy leaves) l lexicons h)) (lexicons_together lexicons (All-tail (LexiconFitsBy leaves) l lexicons h))

  lexicons_apart : (lexicons : List (Lexicon A)) → All (Fits leaves) (flat_map in_entries lexicons) → All (LexiconFitsBy leaves) lexicons
  lexicons_apart [] h = All-nil (LexiconFitsBy leaves)
  lexicons_apart (l ∷ lexicons) h =
      All-cons (LexiconFitsBy leaves) l lexicons (entries_apart l.entries (All-front (Fits leaves) (in_entries l) (flat_map in_entries lexicons) h))
      (lexicons_apart lexicons (All-back (Fits leaves) (in_entries l) (flat_map in_entries lexicons) h))

  pub lexicons_fit : (lexicons : List (Lexicon A)) → All (LexiconFitsBy leaves) lexicons ↔ BodyFitsBy leaves (lexc lexicons)
  lexicons_fit lexicons = (
    λ h. subst (All (Fits leaves)) (sym (listed_forms expressions_in lexicons)) (lexicons_together lexicons h),
    λ h. lexicons_apart lexicons (subst (All (Fits leaves)) (listed_forms expressions_in lexicons) h),
  )
