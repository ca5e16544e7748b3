-- The two sides of an edge's letter, and their texts.
use Rattle.std.specs.Prelude.{⊤, List, ℕ, Option, Some, None}
use Rattle.fsm_base.specs.declared.letters.Sym.{Sym}
use Rattle.fsm_base.specs.declared.letters.Pair.{Pair}

abbrev pub upper_side : Option Pair → Option Sym
upper_side None = None
upper_side (Some pair) = pair.up

abbrev pub lower_side : Option Pair → Option Sym
lower_side None = None
lower_side (Some pair) = pair.low

-- the symbol has the text, or there is neither
abbrev pub HasSide : (Sym → List ℕ → Type 0) → Option Sym → Option (List ℕ) → Type 0
HasSide HasText None None = ⊤
HasSide HasText None (Some text) = ⊥
HasSide HasText (Some symbol) None = ⊥
HasSide HasText (Some symbol) (Some text) = HasText symbol text
