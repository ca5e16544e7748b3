-- Lexicons as plain trees are what the reader's are without their lines.
use Rattle.std.proofs.Common.{◌≡◌, ℕ, List, [], ◌∷◌, map, Ok, refl}
use Rattle.regex_ast.specs.declared.expr.Raw.{Raw}
use Rattle.regex_ast.specs.declared.lexc.Piece.{Piece as PieceOf}
use Rattle.regex_ast.specs.declared.lexc.Piece.TheVariants.{Symbol as OfSymbol, Flag as OfFlag}
use Rattle.regex_ast.specs.declared.lexc.Form.{Form as FormOf}
use Rattle.regex_ast.specs.declared.lexc.Form.TheVariants.{Sides, Pairs}
use Rattle.regex_ast.specs.declared.lexc.Entry.{Entry as EntryOf}
use Rattle.regex_ast.specs.declared.lexc.Lexicon.{Lexicon as LexiconOf}
use Rattle.lexc_grammar.specs.Files.{ReadsAs, SaysLexicons}
use Rattle.lexc_grammar.specs.Lexicons.{EntryAt, without_lines, entry_of as entry_at, form_of as form_read, lexicon_of as lexicon_at, piece_of as piece_read}
use Rattle.project_meaning.specs.Trees.{sides}
use Rattle.name_resolution.specs.Plain.{entry_of, form_of, lexicon_of, piece_of}

piece_is : (piece : PieceOf Raw) → piece_of piece ≡ piece_read piece
piece_is (OfSymbol leaf) = refl
piece_is (OfFlag f) = refl

side_is : (side : List (PieceOf Raw)) → map piece_of side ≡ map piece_read side
side_is [] = refl
side_is (piece ∷ side) =
    let here = piece_is piece in
    let rest = side_is side in
    λ i. here i ∷ rest i

form_is : (form : FormOf Raw) → form_of form ≡ form_read form
form_is (Sides upper lower) =
    let up = side_is upper.items in
    let low = side_is lower.items in
    λ i. sides (up i) (low i)
form_is (Pairs e) = refl

entries_are : (entries : List (EntryOf Raw)) → map entry_of entries ≡ map (λ (e : EntryAt). e.entry) (map entry_at entries)
entries_are [] = refl
entries_are (e ∷ entries) =
    let form = form_is e.form in
    let here : entry_of e ≡ (entry_at e).entry = λ i. record { form = form i; next = e.next } in
    let rest = entries_are entries in
    λ i. here i ∷ rest i

lexicons_are : (lexicons : List (LexiconOf Raw)) → map lexicon_of lexicons ≡ map without_lines (map lexicon_at lexicons)
lexicons_are [] = refl
lexicons_are (l ∷ lexicons) =
    let entries = entries_are l.entries.items in
    let here : lexicon_of l ≡ without_lines (lexicon_at l) = λ i. record { name = l.name; entries = entries i } in
    let rest = lexicons_are lexicons in
    λ i. here i ∷ rest i

-- what is read of a text is what it says
pub says_lexicons : (text : List ℕ) (lexicons : List (LexiconOf Raw)) → ReadsAs text (Ok (map lexicon_at lexicons)) → SaysLexicons text (Ok (map lexicon_of lexicons))
says_lexicons text lexicons reads = (map lexicon_at lexicons, reads, lexicons_are lexicons)
