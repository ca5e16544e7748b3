-- How an alphabet is kept.
use Rattle.std.specs.Prelude.{◌≡◌, ◌<◌, ℕ, List, Option, All, length, map}
use Rattle.std.specs.List.Sorted.{IsPermutation}
use Rattle.fsm_base.specs.Alphabet.{IsAlphabet, listed, symbols_of}
use Rattle.fsm_base.specs.Lone.{AreLone}
use Rattle.fsm_base.specs.Sorted.{IsByText, pair_of}
use Rattle.fsm_base.specs.declared.letters.Sym.{Sym}
use Rattle.fsm_base.specs.declared.longest.Entry.{Entry}

-- the symbols, the texts of their table, the symbols with their texts sorted by these, and those that are lone
pub record IsKept (symbols : List Sym) (texts : List (List ℕ)) (sorted : List Entry) (lone : List (Option Sym)) : Type 0 where
  pub formed : IsAlphabet (listed texts symbols)
  pub same_symbols : symbols ≡ symbols_of (listed texts symbols)
  pub within : All (λ symbol. symbol.0 < length texts) symbols
  pub same_entries : IsPermutation (listed texts symbols) (map pair_of sorted)
  pub by_text : IsByText sorted
  pub lone_symbols : AreLone sorted lone
