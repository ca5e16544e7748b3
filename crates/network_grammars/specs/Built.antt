-- The scope of a grammar, definition by definition.
use Rattle.std.specs.Prelude.{◌≡◌, ◌↔◌, ℕ, List, [], ◌∷◌, Contains, None, Some, cond, map}
use Rattle.std.specs.Str.{bytes_eq}
use Rattle.fsm_base.specs.declared.letters.Bound.{Bound}
use Rattle.fsm_base.specs.declared.letters.Pair.{Pair as Letter}
use Rattle.fsm_base.specs.declared.letters.Sym.{Sym}
use Rattle.regex_ast.specs.declared.expr.Atom.{Atom}
use Rattle.regex_ast.specs.declared.twolc.Grammar.{Grammar as GrammarOf}
use Rattle.fsa.specs.Automaton.{Automaton}
use Rattle.project_meaning.specs.Trees.{PairDefinition}
use Rattle.grammar_pairs.specs.Feasible.{feasible}
use Rattle.network_grammars.specs.PairMeaning.{HasWordsOf}
use Rattle.grammar_pairs.specs.Plain.{set_of}
use Rattle.grammar_pairs.specs.Tables.{HasSymbol, IsMember, under}
use Rattle.network_grammars.specs.declared.scope.Scope.{Scope}

-- it has the feasible pairs and the sets of the grammar, and no definition
pub record IsBegun (g : GrammarOf Atom) (scope : Scope) : Type 0 where
  pub pairs : (x : Letter) → Contains scope.pairs x ↔ Contains (feasible g) x
  pub sets : (name : List ℕ) (s : Sym) → HasSymbol scope.sets name s ↔ IsMember (map set_of g.sets.items) name s
  pub none : (name : List ℕ) → under name scope.definitions ≡ None

-- the scope with the words of one more definition
pub record IsWith (old : Scope) (name : List ℕ) (m : Automaton (Bound Sym)) (new : Scope) : Type 0 where
  pub pairs : new.pairs ≡ old.pairs
  pub numbers : new.numbers.items ≡ old.numbers.items
  pub sets : new.sets ≡ old.sets
  pub definitions : (other : List ℕ) → under other new.definitions ≡ cond (bytes_eq name other) (Some m) (under other old.definitions)

-- it has the words of these definitions, the nearest first, each built in the scope of those above it
abbrev pub IsBuilt : GrammarOf Atom → List (PairDefinition Atom) → Scope → Type 0
IsBuilt g [] scope = IsBegun g scope
IsBuilt g (d ∷ above) scope = (old : Scope) × (m : Automaton (Bound Sym)) × IsBuilt g above old × HasWordsOf old d.term m × IsWith old d.name m scope
