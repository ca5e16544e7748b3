-- A grammar by the texts of its symbols.
use Rattle.std.specs.Prelude.{◌≡◌, ℕ, List, Contains, Some}
use Rattle.std.specs.Option.{option_map}
use Rattle.fsm_base.specs.declared.letters.Pair.{Pair as Letter}
use Rattle.fsm_base.specs.declared.letters.Sym.{Sym}
use Rattle.regex_ast.specs.declared.expr.Atom.{Atom}
use Rattle.project_meaning.specs.Grammars.{Letter as TextLetter}
use Rattle.project_meaning.specs.Leaves.{Leaf, symbol}
use Rattle.project_meaning.specs.Trees.{Grammar}
use Rattle.grammar_pairs.specs.Mapped.{mapped_grammar}
use Rattle.grammar_pairs.specs.Plain.{symbol_in}

-- the leaf that is the text of a symbol, and the grammar of such leaves
abbrev pub in_text : (Sym → List ℕ) → Atom → Leaf
in_text text leaf = symbol (text (symbol_in leaf))

abbrev pub in_texts : (Sym → List ℕ) → Grammar Atom → Grammar Leaf
in_texts text g = mapped_grammar (in_text text) g

-- the pair of the texts
abbrev pub letter_in : (Sym → List ℕ) → Letter → TextLetter
letter_in text x = record { up = option_map text x.up; low = option_map text x.low }

-- the symbols on both sides of the pair are of the alphabet
pub record IsPairOver (alphabet : List Sym) (x : Letter) : Type 0 where
  pub up : (s : Sym) → x.up ≡ Some s → Contains alphabet s
  pub low : (s : Sym) → x.low ≡ Some s → Contains alphabet s

-- no other symbol has the text of one of the alphabet
abbrev pub HasOwnTexts : List Sym → (Sym → List ℕ) → Type 0
HasOwnTexts alphabet text = (a b : Sym) → Contains alphabet a → text a ≡ text b → a ≡ b
