-- Pairs of symbols of an alphabet.
use Rattle.std.specs.Prelude.{◌≡◌, ◌⊎◌, ℕ, List, Some, Contains}
use Rattle.fsm_base.specs.Alphabet.{symbols_of}
use Rattle.fsm_base.specs.declared.letters.Pair.{Pair}
use Rattle.fsm_base.specs.declared.letters.Sym.{Sym}

-- each symbol of the pair is of the alphabet
abbrev pub IsPairOver : List (Sym × List ℕ) → Pair → Type 0
IsPairOver alphabet x = (symbol : Sym) → (x.up ≡ Some symbol) ⊎ (x.low ≡ Some symbol) → Contains (symbols_of alphabet) symbol
