-- What leaves of expressions over pairs stand for. A pair is one letter: the symbol that has its number.
use Rattle.std.specs.Prelude.{◌≡◌, ◌↔◌, ℕ, List, Option, Some, MatchOption, slice_get}
use Rattle.std.specs.Option.{option_map}
use Rattle.fsm_base.specs.declared.letters.Bound.{Bound}
use Rattle.fsm_base.specs.declared.letters.Bound.TheVariants.{Edge, Inner}
use Rattle.fsm_base.specs.declared.letters.Pair.{Pair as Letter}
use Rattle.fsm_base.specs.declared.letters.Sym.{Sym}
use Rattle.word_relations.specs.Words.{IsDistinct}
use Rattle.regex_ast.specs.Terms.{Term}
use Rattle.regex_ast.specs.declared.expr.Atom.{Atom}
use Rattle.fsa.specs.Automaton.{Automaton}
use Rattle.fsa.specs.Language.{Accepts}
use Rattle.expr_meaning.specs.Meaning.{In}
use Rattle.expr_meaning.specs.Operators.{inner}
use Rattle.network_algebra.specs.Networks.{UsesOnly, all_letters}
use Rattle.project_meaning.specs.Trees.{Part, pair, called}
use Rattle.grammar_pairs.specs.Fitting.{Fits, IsOneOf, IsTwice}
use Rattle.grammar_pairs.specs.Tables.{AreNumbers, under}
use Rattle.network_grammars.specs.declared.scope.Scope.{Scope}

-- what a leaf relates: each pair that it may be to itself; a definition's name the words of its automaton; and a set's name the pairs
-- of its symbols with themselves
abbrev pub stands : Scope → Part Atom → List Sym → List Sym → Type 0
stands scope (pair p) u w = IsOneOf scope.pairs (Fits scope.sets p) u × (u ≡ w)
stands scope (called name) u w = MatchOption (under name scope.definitions) (IsOneOf scope.pairs (IsTwice scope.sets name) u × (u ≡ w)) (λ m. Accepts m (inner u) × (u ≡ w))

-- the pairs differ, they are numbered in their order, and the automata of definitions are over these numbers
pub record IsScope (scope : Scope) : Type 0 where
  pub distinct : IsDistinct scope.pairs
  pub numbers : AreNumbers scope.pairs scope.numbers.items
  pub over : (name : List ℕ) (m : Automaton (Bound Sym)) → under name scope.definitions ≡ Some m → UsesOnly (all_letters scope.numbers.items) m

-- the automaton has the words of the expression
abbrev pub HasWordsOf : Scope → Term (Part Atom) → Automaton (Bound Sym) → Type 0
HasWordsOf scope e m = (w : List (Bound Sym)) → Accepts m w ↔ In (stands scope) scope.numbers.items e w

-- the pair in place of its number; the edge stays
abbrev pub pair_at : List Letter → Bound Sym → Option (Bound Letter)
pair_at pairs Edge = Some Edge
pair_at pairs (Inner n) = option_map Inner (slice_get pairs n.0)
