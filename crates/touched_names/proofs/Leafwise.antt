-- Bodies whose leaves are replaced: by two replacements one after the other, by two that agree on their leaves, and by one that leaves
-- each as it is.
use Rattle.std.proofs.Common.{◌≡◌, ◌↔◌, ◌||◌, Bool, List, [], ◌∷◌, map, IfOk, IsTrue, Result, Ok, Err, refl, sym, ap, subst, ◌∙◌}
use Rattle.std.specs.List.{list_any}
use Rattle.expr_leaves.specs.Alphabet.{uses_alphabet}
use Rattle.expr_leaves.specs.Mapped.{mapped}
use Rattle.body_equality.proofs.Alike.{alike, same}
use Rattle.body_equality.proofs.Uses.{uses_mapped}
use Rattle.regex_ast.specs.Terms.{Term}
use Rattle.regex_ast.specs.declared.expr.Atom.{Atom}
use Rattle.regex_ast.specs.declared.lexc.Lexicon.{Lexicon as LexiconOf}
use Rattle.body_equality.specs.Renumbered.{renumbered}
use Rattle.body_equality.specs.declared.renumbering.Renumbering.{Renumbering}
use Rattle.body_equality.specs.RenumberedLexicons.{renumbered_lexicon}
use Rattle.name_resolution.specs.Plain.{lexicon_of}
use Rattle.name_resolution.proofs.Mapped.{mapped_twice}
use Rattle.project_meaning.specs.Leaves.{expressions_of}
use Rattle.project_meaning.specs.Lexicons.{piece_by}
use Rattle.project_meaning.specs.Trees.{Piece, letter, flag, Form, sides, pairs, Entry, Lexicon, Grammar, Body, xfst, lexc, twolc}
use Rattle.project_sources.specs.Built.{PieceIsBuiltBy, FormIsBuiltBy, LexiconIsBuiltBy, BodyIsBuiltBy}
use Rattle.expr_spelling.specs.Mapped.{mapped_form, mapped_entry, mapped_lexicon}
use Rattle.grammar_pairs.specs.Mapped.{mapped_grammar}
use Rattle.project_definitions.specs.Bodies.{mapped_body}
use Rattle.project_definitions.proofs.Bodies.{expressions_mapped}
use Rattle.project_definitions.proofs.Mapped.{mapped_built}
use Rattle.touched_names.specs.Bodies.{uses_symbols}
use Rattle.touched_names.proofs.Each.{all_under, each, each_same, each_twice}
use Rattle.touched_names.proofs.Grammars.{grammar_alike, grammar_same, grammar_twice, grammar_under}

-- one after the other
module _ {A B C : Type 0} (g : B → C) (f : A → B) where
  abbrev joint : A → C
  joint a = g (f a)

  piece_twice : (p : Piece A) → piece_by g (piece_by f p) ≡ piece_by joint p
  piece_twice (letter a) = refl
  piece_twice (flag x) = refl

  form_twice : (form : Form A) → mapped_form g g (mapped_form f f form) ≡ mapped_form joint joint form
  form_twice (sides upper lower) =
      let p = each_twice (piece_by g) (piece_by f) (piece_by joint) piece_twice upper in
      let q = each_twice (piece_by g) (piece_by f) (piece_by joint) piece_twice lower in
      λ i. sides (p i) (q i)
  form_twice (pairs e) = ap pairs (mapped_twice g f e)

  entry_twice : (entry : Entry A) → mapped_entry g g (mapped_entry f f entry) ≡ mapped_entry joint joint entry
  entry_twice entry = let p = form_twice entry.form in λ i. record { form = p i; next = entry.next }

  lexicon_twice : (l : Lexicon A) → mapped_lexicon g g (mapped_lexicon f f l) ≡ mapped_lexicon joint joint l
  lexicon_twice l = let p = each_twice (mapped_entry g g) (mapped_entry f f) (mapped_entry joint joint) entry_twice l.entries in λ i. record { name = l.name; entries = p i }

  pub body_twice : (b : Body A) → mapped_body g (mapped_body f b) ≡ mapped_body joint b
  body_twice (xfst e) = ap xfst (mapped_twice g f e)
  body_twice (lexc lexicons) = ap lexc (each_twice (mapped_lexicon g g) (mapped_lexicon f f) (mapped_lexicon joint joint) lexicon_twice lexicons)
  body_twice (twolc grammar) = ap twolc (grammar_twice g f grammar)

-- by two that agree
module _ {A B : Type 0} (leaf other : A → Bool) (f g : A → B) (on_leaf : (a : A) → IsTrue (leaf a) → f a ≡ g a) (on_other : (a : A) → IsTrue (other a) → f a ≡ g a) where
  piece_alike : (p : Piece A) → PieceIsBuiltBy other p → piece_by f p ≡ piece_by g p
  piece_alike (letter a) h = ap letter (on_other a h)
  piece_alike (flag x) h = refl

  form_alike : (form : Form A) → FormIsBuiltBy leaf other form → mapped_form f f form ≡ mapped_form g g form
  form_alike (sides upper lower) h =
      let p = each (piece_by f) (piece_by g) (PieceIsBuiltBy other) piece_alike upper h.0 in
      let q = each (piece_by f) (piece_by g) (PieceIsBuiltBy other) piece_alike lower h.1 in
      λ i. sides (p i) (q i)
  form_alike (pairs e) h = ap pairs (alike leaf other f g on_leaf on_other e h)

  entry_alike : (entry : Entry A) → FormIsBuiltBy leaf other entry.form → mapped_entry f f entry ≡ mapped_entry g g entry
  entry_alike entry h = let p = form_alike entry.form h in λ i. record { form = p i; next = entry.next }

  lexicon_alike : (l : Lexicon A) → LexiconIsBuiltBy leaf other l → mapped_lexicon f f l ≡ mapped_lexicon g g l
  lexicon_alike l h =
      let p = each (mapped_entry f f) (mapped_entry g g) (λ (entry : Entry A). FormIsBuiltBy leaf other entry.form) entry_alike l.entries h in
      λ i. record { name = l.name; entries = p i }

  pub body_alike : (b : Body A) → BodyIsBuiltBy leaf other b → mapped_body f b ≡ mapped_body g b
  body_alike (xfst e) h = ap xfst (alike leaf other f g on_leaf on_other e h)
  body_alike (lexc lexicons) h = ap lexc (each (mapped_lexicon f f) (mapped_lexicon g g) (LexiconIsBuiltBy leaf other) lexicon_alike lexicons h)
  body_alike (twolc grammar) h = ap twolc (grammar_alike other f g on_other grammar h)

-- by one that leaves each as it is
module _ {A : Type 0} where
  abbrev id : A → A
  id a = a

  piece_same : (p : Piece A) → piece_by id p ≡ p
  piece_same (letter a) = refl
  piece_same (flag x) = refl

  form_same : (form : Form A) → mapped_form id id form ≡ form
  form_same (sides upper lower) =
      let p = each_same (piece_by id) piece_same upper in
      let q = each_same (piece_by id) piece_same lower in
      λ i. sides (p i) (q i)
  form_same (pairs e) = ap pairs (same e)

  entry_same : (entry : Entry A) → mapped_entry id id entry ≡ entry
  entry_same entry = let p = form_same entry.form in λ i. record { form = p i; next = entry.next }

  lexicon_same : (l : Lexicon A) → mapped_lexicon id id l ≡ l
  lexicon_same l = let p = each_same (mapped_entry id id) entry_same l.entries in λ i. record { name = l.name; entries = p i }

  pub body_same : (leaf other : A → Bool) (b : Body A) → BodyIsBuiltBy leaf other b → mapped_body id b ≡ b
  body_same leaf other (xfst e) h = ap xfst (same e)
  body_same leaf other (lexc lexicons) h = ap lexc (each_same (mapped_lexicon id id) lexicon_same lexicons)
  body_same leaf other (twolc grammar) h = ap twolc (grammar_same grammar)

-- the leaves of a body are such as they become
module _ {A B : Type 0} (leaf other : B → Bool) (f : A → B) where
  piece_under : (p : Piece A) → PieceIsBuiltBy other (piece_by f p) → PieceIsBuiltBy (λ a. other (f a)) p
  piece_under (letter a) h = h
  piece_under (flag x) h = h

  form_under : (form : Form A) → FormIsBuiltBy leaf other (mapped_form f f form) → FormIsBuiltBy (λ a. leaf (f a)) (λ a. other (f a)) form
  form_under (sides upper lower) h = (
    all_under (piece_by f) (PieceIsBuiltBy other) (PieceIsBuiltBy (λ a. other (f a))) piece_under upper h.0,
    all_under (piece_by f) (PieceIsBuiltBy other) (PieceIsBuiltBy (λ a. other (f a))) piece_under lower h.1,
  )
  form_under (pairs e) h = subst (λ (T : Type 0). T) (mapped_built leaf other f e) h

  lexicon_under : (l : Lexicon A) → LexiconIsBuiltBy leaf other (mapped_lexicon f f l) → LexiconIsBuiltBy (λ a. leaf (f a)) (λ a. other (f a)) l
  lexicon_under l h =
      all_under (mapped_entry f f) (λ (entry : Entry B). FormIsBuiltBy leaf other entry.form) (λ (entry : Entry A). FormIsBuiltBy (λ a. leaf (f a)) (λ a. other (f a)) entry.form)
      (λ entry. form_under entry.form) l.entries h

  pub body_under : (b : Body A) → BodyIsBuiltBy leaf other (mapped_body f b) → BodyIsBuiltBy (λ a. leaf (f a)) (λ a. other (f a)) b
  body_under (xfst e) h = subst (λ (T : Type 0). T) (mapped_built leaf other f e) h
  body_under (lexc lexicons) h = all_under (mapped_lexicon f f) (LexiconIsBuiltBy leaf other) (LexiconIsBuiltBy (λ a. leaf (f a)) (λ a. other (f a))) lexicon_under lexicons h
  body_under (twolc grammar) h = grammar_under other f grammar h

-- whether a body uses the alphabet doesn't turn on its leaves
any_mapped : {X Y : Type 0} (f : X → Y) (p : Y → Bool) (q : X → Bool) → ((x : X) → p (f x) ≡ q x) → (xs : List X) → list_any p (map f xs) ≡ list_any q xs
any_mapped f p q agree [] = refl
any_mapped f p q agree (x ∷ xs) = let first = agree x in let rest = any_mapped f p q agree xs in λ i. first i || rest i

pub uses_by_leaves : {A B : Type 0} (f : A → B) (b : Body A) → uses_symbols (mapped_body f b) ≡ uses_symbols b
uses_by_leaves {A} {B} f b =
    ap (list_any (λ (e : Term B). uses_alphabet e)) (expressions_mapped f b)
    ∙ any_mapped (mapped f) (λ e. uses_alphabet e) (λ e. uses_alphabet e) (uses_mapped f) (expressions_of b)

-- lexicons that are compared
pub lexc_same : (numbers : Renumbering) (other body : Body Atom) (os ls : List (LexiconOf Atom)) → other ≡ lexc (map lexicon_of os) → body ≡ lexc (map lexicon_of ls)
    → (r : Bool) → (IsTrue r ↔ (map lexicon_of os ≡ map (renumbered_lexicon numbers) ls)) → IsTrue r ↔ (other ≡ mapped_body (renumbered numbers) body)
lexc_same numbers other body os ls other_is body_is r told = (
  λ yes. other_is ∙ ap lexc (told.0 yes) ∙ sym moved,
  λ is.
      let both : lexc (map lexicon_of os) ≡ lexc (map (renumbered_lexicon numbers) ls) = sym other_is ∙ is ∙ moved in
      let lexicons : map lexicon_of os ≡ map (renumbered_lexicon numbers) ls = cc in
      told.1 lexicons,
)
  where
    moved : mapped_body (renumbered numbers) body ≡ lexc (map (renumbered_lexicon numbers) ls)
    moved =
        ap (mapped_body (renumbered numbers)) body_is
        ∙ ap lexc (each_twice (mapped_lexicon (renumbered numbers) (renumbered numbers)) lexicon_of (renumbered_lexicon numbers) (λ l. refl) ls)

-- grammars that are compared
pub twolc_same : (numbers : Renumbering) (other body : Body Atom) (o g : Grammar Atom) → other ≡ twolc o → body ≡ twolc g
    → (r : Bool) → (IsTrue r ↔ (o ≡ mapped_grammar (renumbered numbers) g)) → IsTrue r ↔ (other ≡ mapped_body (renumbered numbers) body)
twolc_same numbers other body o g other_is body_is r told = (
  λ yes. other_is ∙ ap twolc (told.0 yes) ∙ sym moved,
  λ is.
      let both : twolc o ≡ twolc (mapped_grammar (renumbered numbers) g) = sym other_is ∙ is ∙ moved in
      let grammars : o ≡ mapped_grammar (renumbered numbers) g = cc in
      told.1 grammars,
)
  where
    moved : mapped_body (renumbered numbers) body ≡ twolc (mapped_grammar (renumbered numbers) g)
    moved = ap (mapped_body (renumbered numbers)) body_is

-- what is said of a result is said of another one, where it follows
pub ok_follows : {X E : Type 0} (result : Result X E) (P Q : X → Type 0) → ((x : X) → P x → Q x) → IfOk result P → IfOk result Q
ok_follows (Ok x) P Q follows h = follows x h
ok_follows (Err e) P Q follows h = h
