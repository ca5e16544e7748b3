-- What the tables of a grammar hold: the symbols of sets by their names, and the numbers of pairs.
use Rattle.std.specs.Prelude.{◌≡◌, ◌<◌, ℕ, List, [], ◌∷◌, Contains, Option, None, Some, MatchOption, String, cond, length, map, slice_get}
use Rattle.std.specs.Str.{bytes_eq}
use Rattle.std.specs.String.{string_bytes}
use Rattle.fsm_base.specs.declared.letters.Sym.{Sym}
use Rattle.regex_ast.specs.declared.expr.Atom.{Atom}
use Rattle.project_meaning.specs.Trees.{Set}
use Rattle.grammar_pairs.specs.Plain.{symbol_in}

-- entries by the bytes of their names
abbrev pub named_entries : {Y V : Type 0} → List (String Y × V) → List (List ℕ × V)
named_entries entries = map (λ e. (string_bytes e.0, e.1)) entries

-- what stands under a name in a table, if something does
abbrev pub under : {V : Type 0} → List ℕ → List (List ℕ × V) → Option V
under name [] = None
under name (e ∷ table) = cond (bytes_eq name e.0) (Some e.1) (under name table)

-- the symbols that stand under a name, or none
abbrev pub symbols_under : Option (List Sym) → List Sym
symbols_under None = []
symbols_under (Some symbols) = symbols

-- the symbol stands in a set of this name
abbrev pub IsMember : List (Set Atom) → List ℕ → Sym → Type 0
IsMember sets name s = (set : Set Atom) × Contains sets set × (set.name ≡ name) × Contains (map symbol_in set.symbols) s

-- the table has the symbol under this name
abbrev pub HasSymbol : List (List ℕ × List Sym) → List ℕ → Sym → Type 0
HasSymbol table name s = MatchOption (under name table) ⊥ (λ symbols. Contains symbols s)

-- the symbols are the places of the elements, counted from 0
pub record AreNumbers {X : Type 0} (xs : List X) (numbers : List Sym) : Type 0 where
  pub count : length numbers ≡ length xs
  pub each : (k : ℕ) → k < length xs → slice_get numbers k ≡ Some (record { 0 = k })
