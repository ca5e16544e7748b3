-- What stands in lexicons, lexicon by lexicon.
use Rattle.std.proofs.Common.{◌≡◌, List, [], ◌∷◌, ◌++◌, map, refl, ap, ◌∙◌}
use Rattle.std.proofs.lemmas.Grind.{flat_map-append}
use Rattle.std.specs.List.{flat_map}
use Rattle.regex_ast.specs.declared.lexc.Entry.{Entry as EntryOf}
use Rattle.regex_ast.specs.declared.lexc.Lexicon.{Lexicon as LexiconOf}
use Rattle.project_meaning.specs.Leaves.{forms_in}
use Rattle.project_meaning.specs.Trees.{Entry, Form}
use Rattle.name_resolution.specs.Plain.{entry_of, form_of, lexicon_of}

forms_of : {A : Type 0} (entries : List (EntryOf A)) → map (λ (e : Entry A). e.form) (map entry_of entries) ≡ map (λ (e : EntryOf A). form_of e.form) entries
forms_of [] = refl
forms_of {A} (e ∷ entries) = ap (λ (z : List (Form A)). form_of e.form ∷ z) (forms_of entries)

-- what is listed of the forms of lexicons is what is listed of the first one's entries, and then of the others
pub one_lexicon : {A W : Type 0} (of : Form A → List W) (l : LexiconOf A) (lexicons : List (LexiconOf A))
    → flat_map of (forms_in (map lexicon_of (l ∷ lexicons))) ≡ flat_map of (map (λ (e : EntryOf A). form_of e.form) l.entries.items) ++ flat_map of (forms_in (map lexicon_of lexicons))
one_lexicon {A} {W} of l lexicons =
    flat_map-append of (map (λ (e : Entry A). e.form) (map entry_of l.entries.items)) (forms_in (map lexicon_of lexicons))
    ∙ ap (λ (z : List (Form A)). flat_map of z ++ flat_map of (forms_in (map lexicon_of lexicons))) (forms_of l.entries.items)
