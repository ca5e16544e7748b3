-- Symbols of one byte that no longer text begins with: there the longest symbol is known by the first byte.
use Rattle.std.specs.Prelude.{◌≡◌, ℕ, List, [], ◌∷◌, Bool, true, Option, Some, Contains, slice_get}
use Rattle.fsm_base.specs.Sorted.{texts_in}
use Rattle.fsm_base.specs.declared.letters.Sym.{Sym}
use Rattle.fsm_base.specs.declared.longest.Entry.{Entry}

-- the text of the symbol is this byte alone, and no longer text begins with the byte
pub record IsLone (entries : List Entry) (byte : ℕ) (symbol : Sym) : Type 0 where
  pub listed : Contains entries (record { text = byte ∷ []; symbol = symbol })
  pub no_longer : (rest : List ℕ) → Contains (texts_in entries) (byte ∷ rest) → rest ≡ []

-- each symbol stands at the place of a byte where it is lone
abbrev pub AreLone : List Entry → List (Option Sym) → Type 0
AreLone entries lone = (byte : ℕ) (symbol : Sym) → slice_get lone byte ≡ Some (Some symbol) → IsLone entries byte symbol

-- the bytes are marked that texts of two bytes or more begin with
abbrev pub MarksLonger : List (List ℕ) → List Bool → Type 0
MarksLonger texts longer = (byte next : ℕ) (rest : List ℕ) → Contains texts (byte ∷ next ∷ rest) → slice_get longer byte ≡ Some true
