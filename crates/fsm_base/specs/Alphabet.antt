-- An alphabet: its symbols in the order in which they were given, each with its text. The symbols are
-- numbers for the program, and texts in every statement on what a source means.
use Rattle.std.specs.Prelude.{ℕ, ◌==◌, List, [], ◌∷◌, map, All, if◌then◌else◌, slice_index_or}
use Rattle.word_relations.specs.Words.{IsDistinct}
use Rattle.fsm_base.specs.Symbols.{IsSymbol}
use Rattle.fsm_base.specs.declared.letters.Sym.{Sym}

-- the symbols of an alphabet, and their texts
abbrev pub symbols_of : List (Sym × List ℕ) → List Sym
symbols_of alphabet = map (λ entry. entry.0) alphabet

abbrev pub texts_of : List (Sym × List ℕ) → List (List ℕ)
texts_of alphabet = map (λ entry. entry.1) alphabet

-- distinct symbols with distinct texts, and no text is empty
pub record IsAlphabet (alphabet : List (Sym × List ℕ)) : Type 0 where
  pub distinct : IsDistinct (symbols_of alphabet)
  pub apart : IsDistinct (texts_of alphabet)
  pub symbols : All IsSymbol (texts_of alphabet)

-- these symbols, each with its text in the table
abbrev pub listed : List (List ℕ) → List Sym → List (Sym × List ℕ)
listed table symbols = map (λ symbol. (symbol, slice_index_or table symbol.0 [])) symbols

-- the text of a symbol of the alphabet. Other symbols have none, which is empty
abbrev pub text_of : List (Sym × List ℕ) → Sym → List ℕ
text_of [] symbol = []
text_of (entry ∷ alphabet) symbol = if symbol.0 == entry.0.0 then entry.1 else text_of alphabet symbol

-- the symbols of a word as texts
abbrev pub spelled : List (Sym × List ℕ) → List Sym → List (List ℕ)
spelled alphabet word = map (λ symbol. text_of alphabet symbol) word
