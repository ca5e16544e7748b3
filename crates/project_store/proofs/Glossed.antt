-- The cells of words are lawful over the project that a network shows.
use Rattle.std.proofs.Common.{◌≡◌, ◌+◌, ◌-◌, ◌^◌, ◌<◌, ◌++◌, ℕ, List, [], ◌∷◌, length, take, get_or, map, All, codes, Some, None, Result, Ok, Err, IfOk, IsUtf8, sym, ap, subst, ◌∙◌, arith}
use Rattle.std.proofs.lemmas.List.{map-append, take_more}
use Rattle.std.proofs.lemmas.List.Elements.{All-nil, All-push, All-weaker}
use Rattle.word_relations.specs.Answers.{Answers, Found}
use Rattle.word_relations.specs.Words.{IsOver}
use Rattle.fsm_base.specs.Alphabet.{spelled, symbols_of, texts_of}
use Rattle.fsm_base.specs.Cut.{cut}
use Rattle.fsm_base.specs.declared.letters.Sym.{Sym}
use Rattle.lookup.specs.Nets.{NetView}
use Rattle.interlinear.specs.Blocks.{block_of}
use Rattle.interlinear.specs.Glosses.{Entry}
use Rattle.interlinear.specs.Replies.{AreCells, GlossesText, IsCell, analysis_of, gloss_in, in_block, looked_up, no_net, no_symbol}
use Rattle.interlinear.specs.Words.{words_of}
use Rattle.interlinear.specs.declared.columns.Cell.{Cell}
use Rattle.interlinear.proofs.Pieces.{IsWithin, words_within}
use Rattle.lookup_answers.specs.declared.direction.Direction.TheVariants.{Up}
use Rattle.project_meaning.specs.Projects.{Project}
use Rattle.reply_meaning.specs.Replies.{Related, headed}
use Rattle.project_store.specs.Networks.{Shows, TextsTo}
use Rattle.project_store.proofs.Lawful.{answers_same, cut_shown, found_texts}

-- no word of a text has more bytes than it
abbrev pub IsShort : List ℕ → Type 0
IsShort word = length word < 2 ^ 32 - 1

pub words_short : (text : List ℕ) → IsUtf8 text → length text < 2 ^ 32 - 1 → All IsShort (words_of text)
words_short text utf8 short = All-weaker (IsWithin (length text)) IsShort (λ word within. omega (arith, within, short)) (words_of text) (words_within text utf8)

module _ (alphabet : List (Sym × List ℕ)) (name : List ℕ) (net : NetView) (project : Project) (glosses : List Entry) (shown : Shows (record { alphabet = alphabet; name = name; net = Some net; glosses = glosses }) project) (entries : List Entry) where
  -- the cell of a word that was looked up, and of one in which no symbol begins at a place
  pub cell_found : (cell : Cell) (word : List ℕ) (symbols : List Sym) (found : Found) → cell.word ≡ word → cut (texts_of alphabet) word ≡ Ok (spelled alphabet symbols) → IsOver (symbols_of alphabet) symbols
      → Answers (TextsTo Up net alphabet symbols) found → cell.analysis ≡ analysis_of found → cell.gloss ≡ gloss_in entries found → IsCell project entries name cell
  cell_found cell word symbols found same is over answers analysis gloss =
      looked_up (spelled alphabet symbols) found (ap (cut project.alphabet) same ∙ cut_shown alphabet name net project glosses shown word (Ok (spelled alphabet symbols)) is)
      (answers_same (TextsTo Up net alphabet symbols) (Related project Up name (spelled alphabet symbols)) (found_texts alphabet name net project glosses shown Up symbols over) found answers) analysis gloss

  pub cell_stopped : (cell : Cell) (word : List ℕ) (at : ℕ) → cell.word ≡ word → cut (texts_of alphabet) word ≡ Err at → cell.analysis ≡ codes "*symbol" → cell.gloss ≡ codes "*" → IsCell project entries name cell
  cell_stopped cell word at same is analysis gloss = no_symbol at (ap (cut project.alphabet) same ∙ cut_shown alphabet name net project glosses shown word (Err at) is) analysis gloss

  pub text_glossed : (version : ℕ) (text bytes : List ℕ) (cells : List Cell) → AreCells project entries name (words_of text) cells → bytes ≡ block_of version cells → GlossesText project entries version name text bytes
  text_glossed version text bytes cells are is = in_block cells shown.net.defined are is

-- without words
pub no_cells : (project : Project) (entries : List Entry) (name : List ℕ) → AreCells project entries name [] []
no_cells project entries name = record { words_are = λ i. []; each = All-nil (IsCell project entries name) }

-- a loop over words, of which the one at this place has its cell
pub cells_more : (project : Project) (entries : List Entry) (name : List ℕ) (words : List (List ℕ)) (i : ℕ) (x : List ℕ) (cells new : List Cell) (cell : Cell) → i < length words → x ≡ get_or words i x
    → AreCells project entries name (take i words) cells → cell.word ≡ x → IsCell project entries name cell → new ≡ cells ++ cell ∷ [] → AreCells project entries name (take (i + 1) words) new
cells_more project entries name words i x cells new cell below is so_far named here new_is = record {
  words_are =
      ap (map (λ (c : Cell). c.word)) new_is ∙ map-append (λ (c : Cell). c.word) cells (cell ∷ [])
      ∙ ap (λ (z : List (List ℕ)). z ++ cell.word ∷ []) so_far.words_are
      ∙ ap (λ (z : List ℕ). take i words ++ z ∷ []) (named ∙ is)
      ∙ sym (take_more words i x below);
  each = subst (All (IsCell project entries name)) (sym new_is) (All-push (IsCell project entries name) cells cell so_far.each here);
}

-- the name has no network
pub text_netless : (alphabet : List (Sym × List ℕ)) (name : List ℕ) (glosses : List Entry) (project : Project) → Shows (record { alphabet = alphabet; name = name; net = None; glosses = glosses }) project → (entries : List Entry) (version : ℕ) (text bytes : List ℕ)
    → bytes ≡ headed version (codes "net " ++ name) → GlossesText project entries version name text bytes
text_netless alphabet name glosses project shown entries version text bytes is = no_net shown.net is

-- the same of what a call answered
module _ (alphabet : List (Sym × List ℕ)) (name : List ℕ) (net : NetView) (project : Project) (glosses : List Entry) (shown : Shows (record { alphabet = alphabet; name = name; net = Some net; glosses = glosses }) project) (entries : List Entry) where
  pub cell_if_found : {E : Type 0} (r : Result Cell E) (word : List ℕ) (symbols : List Sym) (found : Found) → cut (texts_of alphabet) word ≡ Ok (spelled alphabet symbols) → IsOver (symbols_of alphabet) symbols → Answers (TextsTo Up net alphabet symbols) found
      → IfOk r (λ cell. cell.word ≡ word) → IfOk r (λ cell. cell.analysis ≡ analysis_of found) → IfOk r (λ cell. cell.gloss ≡ gloss_in entries found) → IfOk r (IsCell project entries name)
  cell_if_found (Ok cell) word symbols found is over answers same analysis gloss = cell_found alphabet name net project glosses shown entries cell word symbols found same is over answers analysis gloss
  cell_if_found (Err error) word symbols found is over answers same analysis gloss = tt

  pub cell_if_stopped : {E : Type 0} (r : Result Cell E) (word : List ℕ) (at : ℕ) → cut (texts_of alphabet) word ≡ Err at → IfOk r (λ cell. cell.word ≡ word) → IfOk r (λ cell. cell.analysis ≡ codes "*symbol") → IfOk r (λ cell. cell.gloss ≡ codes "*")
      → IfOk r (IsCell project entries name)
  cell_if_stopped (Ok cell) word at is same analysis gloss = cell_stopped alphabet name net project glosses shown entries cell word at same is analysis gloss
  cell_if_stopped (Err error) word at is same analysis gloss = tt
