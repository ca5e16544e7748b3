-- The symbols of a table whose texts are single bytes.
use Rattle.std.specs.Prelude.{◌≡◌, ℕ, List, [], ◌∷◌, Option, Some, slice_get}
use Rattle.fsm_base.specs.Symbols.{number_of}
use Rattle.fsm_base.specs.declared.letters.Sym.{Sym}

-- each symbol stands at the byte that is its text in the table
abbrev pub AreOfBytes : List (List ℕ) → List (Option Sym) → Type 0
AreOfBytes table symbols = (byte : ℕ) (symbol : Sym) → slice_get symbols byte ≡ Some (Some symbol) → symbol.0 ≡ number_of (byte ∷ []) table
