-- Languages over the symbols of an alphabet, and the same over their texts.
use Rattle.std.specs.Prelude.{◌≡◌, ◌↔◌, ℕ, List}
use Rattle.fsm_base.specs.Alphabet.{spelled, symbols_of}
use Rattle.fsm_base.specs.declared.letters.Sym.{Sym}
use Rattle.word_relations.specs.Words.{IsOver}

-- a set of words of an alphabet's symbols, and the same of words of their texts
pub record AreSpelled (alphabet : List (Sym × List ℕ)) (P : List Sym → Type 0) (T : List (List ℕ) → Type 0) : Type 0 where
  pub over : (word : List Sym) → P word → IsOver (symbols_of alphabet) word
  pub same : (texts : List (List ℕ)) → T texts ↔ ((word : List Sym) × P word × (texts ≡ spelled alphabet word))
