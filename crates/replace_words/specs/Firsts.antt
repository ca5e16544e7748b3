-- Symbols that rules don't tell apart. A function gives for each symbol the first of those like it.
use Rattle.std.specs.Prelude.{◌↔◌, List, map, All, Contains}
use Rattle.fsm_base.specs.declared.letters.Bound.{Bound}
use Rattle.fsm_base.specs.declared.letters.Bound.TheVariants.{Edge, Inner}
use Rattle.fsm_base.specs.declared.letters.Sym.{Sym}
use Rattle.word_relations.specs.Words.{IsOver}
use Rattle.replace_words.specs.declared.marks.Mark.{Mark}
use Rattle.replace_words.specs.declared.marks.Mark.TheVariants.{Copy, Up, Low, Same, Open, Close}
use Rattle.replace_words.specs.Places.{Rules}

-- a mark, and a symbol or the edge, with the first of the symbol's like
abbrev pub first_mark : (Sym → Sym) → Bound Mark → Bound Mark
first_mark first Edge = Edge
first_mark first (Inner (Copy s)) = Inner (Copy (first s))
first_mark first (Inner (Up s)) = Inner (Up (first s))
first_mark first (Inner (Low s)) = Inner (Low (first s))
first_mark first (Inner (Same s)) = Inner (Same (first s))
first_mark first (Inner (Open k)) = Inner (Open k)
first_mark first (Inner (Close k)) = Inner (Close k)

abbrev pub first_bound : (Sym → Sym) → Bound Sym → Bound Sym
first_bound first Edge = Edge
first_bound first (Inner s) = Inner (first s)

-- the symbol is one of these, where there is one
abbrev pub HasSymbolIn : List Sym → Bound Mark → Type 0
HasSymbolIn symbols Edge = Unit {0}
HasSymbolIn symbols (Inner (Copy s)) = Contains symbols s
HasSymbolIn symbols (Inner (Up s)) = Contains symbols s
HasSymbolIn symbols (Inner (Low s)) = Contains symbols s
HasSymbolIn symbols (Inner (Same s)) = Contains symbols s
HasSymbolIn symbols (Inner (Open k)) = Unit {0}
HasSymbolIn symbols (Inner (Close k)) = Unit {0}

abbrev pub IsBoundIn : List Sym → Bound Sym → Type 0
IsBoundIn symbols Edge = Unit {0}
IsBoundIn symbols (Inner s) = Contains symbols s

-- what the place does with words over these symbols, it does with the words of their firsts
pub record ActsByFirsts {P : Type 0} (of : Rules P) (symbols : List Sym) (first : Sym → Sym) (p : P) : Type 0 where
  pub centre : (c : List Sym) → IsOver symbols c → of.centre p c ↔ of.centre p (map first c)
  pub replaces : (c r : List Sym) → IsOver symbols c → IsOver symbols r → of.replaces p c r ↔ of.replaces p (map first c) (map first r)
  pub surrounds : (b c a : List Sym) → IsOver symbols b → IsOver symbols c → IsOver symbols a
      → of.surrounds p b c a ↔ of.surrounds p (map first b) (map first c) (map first a)
  pub left : (x : List (Bound Sym)) → All (IsBoundIn symbols) x → of.left p x ↔ of.left p (map (first_bound first) x)
  pub right : (z : List (Bound Sym)) → All (IsBoundIn symbols) z → of.right p z ↔ of.right p (map (first_bound first) z)
