-- Which pairs an atom may be.
use Rattle.std.specs.Prelude.{◌≡◌, ℕ, List, [], ◌∷◌, Contains, Option, None, Some, slice_get, ⊤}
use Rattle.fsm_base.specs.declared.letters.Pair.{Pair as Letter}
use Rattle.fsm_base.specs.declared.letters.Sym.{Sym}
use Rattle.regex_ast.specs.declared.expr.Atom.{Atom}
use Rattle.project_meaning.specs.Trees.{Side, nothing, anything, one, member, Pair}
use Rattle.grammar_pairs.specs.Plain.{symbol_in}
use Rattle.grammar_pairs.specs.Tables.{HasSymbol}

-- the pair is one of these symbols with itself
abbrev pub IsTwiceOf : List Sym → Letter → Type 0
IsTwiceOf symbols x = (s : Sym) × Contains symbols s × (x ≡ record { up = Some s; low = Some s })

-- the number is that of one of the pairs for which this holds, and the word is such a number alone
abbrev pub IsNumber : List Letter → (Letter → Type 0) → Sym → Type 0
IsNumber pairs P n = (x : Letter) × (slice_get pairs n.0 ≡ Some x) × P x

abbrev pub IsOneOf : List Letter → (Letter → Type 0) → List Sym → Type 0
IsOneOf pairs P u = (n : Sym) × IsNumber pairs P n × (u ≡ n ∷ [])

module _ (sets : List (List ℕ × List Sym)) where
  -- the side may be this symbol, or nothing
  abbrev pub MayBe : Side Atom → Option Sym → Type 0
  MayBe nothing found = found ≡ None
  MayBe anything found = ⊤
  MayBe (one leaf) found = found ≡ Some (symbol_in leaf)
  MayBe (member name) None = ⊥
  MayBe (member name) (Some s) = HasSymbol sets name s

  -- the pair may be this one
  abbrev pub Fits : Pair Atom → Letter → Type 0
  Fits p x = MayBe p.up x.up × MayBe p.low x.low

  -- the pair is a symbol of the set with itself
  abbrev pub IsTwice : List ℕ → Letter → Type 0
  IsTwice name x = (s : Sym) × HasSymbol sets name s × (x ≡ record { up = Some s; low = Some s })
