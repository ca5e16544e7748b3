-- What lexicons relate doesn't depend on how symbols are written, nor on symbols that they don't use.
use Rattle.std.specs.Prelude.{◌≡◌, ℕ, Bool, false, IsTrue, List, Contains, All, map}
use Rattle.fsm_base.specs.Alphabet.{IsAlphabet, symbols_of, texts_of}
use Rattle.fsm_base.specs.declared.letters.Sym.{Sym}
use Rattle.word_relations.specs.Relations.{AreSame}
use Rattle.regex_ast.specs.declared.expr.Raw.{Raw}
use Rattle.expr_kinds.specs.Built.{IsBuilt}
use Rattle.expr_leaves.specs.Alphabet.{uses_alphabet}
use Rattle.expr_spelling.specs.Laws.{IsSpelled}
use Rattle.project_meaning.specs.Trees.{Piece, letter, flag, Form, sides, pairs, Entry, Lexicon, lexc}
use Rattle.project_meaning.specs.Leaves.{expressions_of, leaf_of, resolved_lexicon, symbol_of}
use Rattle.project_meaning.specs.Lexicons.{LexiconsRelate}
use Rattle.expr_spelling.specs.Mapped.{mapped_lexicon}

-- each leaf of an expression passes the first test, and each letter on a side the second
module _ {C : Type 0} (spells is_letter : C → Bool) where
  abbrev pub PieceIsBuilt : Piece C → Type 0
  PieceIsBuilt (letter leaf) = IsTrue (is_letter leaf)
  PieceIsBuilt (flag f) = Unit {0}

  abbrev pub FormIsBuilt : Form C → Type 0
  FormIsBuilt (sides upper lower) = All PieceIsBuilt upper × All PieceIsBuilt lower
  FormIsBuilt (pairs e) = IsBuilt spells e

  abbrev pub EntriesAreBuilt : List (Entry C) → Type 0
  EntriesAreBuilt entries = All (λ entry. FormIsBuilt entry.form) entries

  abbrev pub AreBuilt : List (Lexicon C) → Type 0
  AreBuilt lexicons = All (λ lexicon. EntriesAreBuilt lexicon.entries) lexicons

-- where each leaf relates the same words in symbols and in texts, and each letter on a side is a symbol with its text, lexicons relate
-- the same. Each leaf as it is written is one leaf in symbols, and one in texts, and so is each letter
abbrev pub LexiconsAreSpelled : {A B : Type 0} → (C : Type 0) → (B → Sym) → (A → List ℕ) → (B → List Sym → List Sym → Type 0) → (A → List (List ℕ) → List (List ℕ) → Type 0) → Type 0
LexiconsAreSpelled {A} {B} C number_in text_in numbered texts =
    (alphabet : List (Sym × List ℕ)) (in_symbols letter_in_symbols : C → B) (in_texts letter_in_texts : C → A) (spells is_letter : C → Bool) → IsAlphabet alphabet
    → ((leaf : C) → IsTrue (spells leaf) → IsSpelled alphabet (numbered (in_symbols leaf)) (texts (in_texts leaf)))
    → ((leaf : C) → IsTrue (is_letter leaf) → Contains alphabet (number_in (letter_in_symbols leaf), text_in (letter_in_texts leaf)))
    → (lexicons : List (Lexicon C)) → AreBuilt spells is_letter lexicons
    → IsSpelled alphabet (LexiconsRelate number_in numbered (symbols_of alphabet) (map (mapped_lexicon in_symbols letter_in_symbols) lexicons))
    (LexiconsRelate text_in texts (texts_of alphabet) (map (mapped_lexicon in_texts letter_in_texts) lexicons))

-- lexicons where names are defined are those that are written, with other leaves: a leaf of an expression may be a name, and a letter
-- on a side is a symbol
abbrev pub ResolvedAreMapped : Type 0
ResolvedAreMapped = (names : List (List ℕ)) (lexicons : List (Lexicon Raw)) → map (resolved_lexicon names) lexicons ≡ map (mapped_lexicon (leaf_of names) symbol_of) lexicons

-- lexicons in which no expression uses the alphabet relate the same over every one
abbrev pub LexiconsNeedNoAlphabet : {A L : Type 0} → (A → L) → (A → List L → List L → Type 0) → Type 0
LexiconsNeedNoAlphabet {A} {L} letter_in leaf =
    (alphabet other : List L) (lexicons : List (Lexicon A)) → All (λ e. uses_alphabet e ≡ false) (expressions_of (lexc lexicons))
    → AreSame (LexiconsRelate letter_in leaf alphabet lexicons) (LexiconsRelate letter_in leaf other lexicons)
