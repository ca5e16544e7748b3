-- The texts that a look-up answers: those of the words that a network relates to a word (Beesley and Karttunen,
-- Finite State Morphology, 2003, chapter 1, on looking up and looking down).
use Rattle.std.specs.Prelude.{◌≡◌, ◌⊎◌, ℕ, List, Some, Contains}
use Rattle.fsm_base.specs.Alphabet.{spelled, symbols_of}
use Rattle.fsm_base.specs.declared.letters.Sym.{Sym}
use Rattle.fsm_base.specs.declared.letters.Pair.{Pair}
use Rattle.word_relations.specs.Answers.{Texts}
use Rattle.fsa.specs.Automaton.{Automaton, UsesLetter}
use Rattle.fst_flagged.specs.Flagged.{UsesLetters}
use Rattle.lookup_walk.specs.Nets.{NetView, plain, flagged, NetRelates, NetRelatesBy}
use Rattle.lookup_answers.specs.declared.direction.Direction.{Direction}

-- the texts of the upper words of a lower word
abbrev pub UpperTexts : NetView → List (Sym × List ℕ) → List Sym → List ℕ → Type 0
UpperTexts net alphabet lower text = Texts (λ texts. (upper : List Sym) × NetRelates net upper lower × (texts ≡ spelled alphabet upper)) text

-- the texts of the lower words of an upper word
abbrev pub LowerTexts : NetView → List (Sym × List ℕ) → List Sym → List ℕ → Type 0
LowerTexts net alphabet upper text = Texts (λ texts. (lower : List Sym) × NetRelates net upper lower × (texts ≡ spelled alphabet lower)) text

-- these in one way or the other
abbrev pub TextsBy : Direction → NetView → List (Sym × List ℕ) → List Sym → List ℕ → Type 0
TextsBy direction net alphabet word text = Texts (λ texts. (written : List Sym) × NetRelatesBy direction net word written × (texts ≡ spelled alphabet written)) text

-- the symbols of the transducer, on both sides, are of the alphabet
abbrev pub HasSymbolsOf : List (Sym × List ℕ) → Automaton Pair → Type 0
HasSymbolsOf alphabet m =
    (pair : Pair) (symbol : Sym) → UsesLetter m pair → (pair.up ≡ Some symbol) ⊎ (pair.low ≡ Some symbol) → Contains (symbols_of alphabet) symbol

-- the symbols of the network, on both sides, are of the alphabet; conditions are none
abbrev pub IsOverAlphabet : List (Sym × List ℕ) → NetView → Type 0
IsOverAlphabet alphabet (plain m) = HasSymbolsOf alphabet m
IsOverAlphabet alphabet (flagged f) = UsesLetters (symbols_of alphabet) f
