-- The pairs and the leaves that stand in a grammar.
use Rattle.std.specs.Prelude.{◌≡◌, ◌++◌, List, [], ◌∷◌, map}
use Rattle.std.specs.Borrow.{Bor}
use Rattle.std.specs.List.{flat_map}
use Rattle.expr_leaves.specs.Leaves.{listed, listed_contexts}
use Rattle.grammar_pairs.specs.Plain.{pair_of}
use Rattle.project_meaning.specs.Leaves.{grammar_symbols, resolved_grammar, symbol_in, symbol_of}
use Rattle.project_meaning.specs.Trees.{Side, nothing, anything, one, member, Pair, Part, pair, called, PairDefinition, Rule, Grammar}
use Rattle.regex_ast.specs.declared.expr.Raw.{Raw}
use Rattle.regex_ast.specs.declared.twolc.PairAtom.{PairAtom}

-- the pairs in definitions and rules, in the order of their places
abbrev pub pairs_in_part : {A : Type 0} → Part A → List (Pair A)
pairs_in_part (pair p) = p ∷ []
pairs_in_part (called name) = []

abbrev pub pairs_in_definition : {A : Type 0} → PairDefinition A → List (Pair A)
pairs_in_definition d = listed pairs_in_part d.term

abbrev pub pairs_in_rule : {A : Type 0} → Rule A → List (Pair A)
pairs_in_rule r = r.centre ∷ listed_contexts pairs_in_part r.contexts

abbrev pub pairs_below : {A : Type 0} → Grammar A → List (Pair A)
pairs_below g = flat_map pairs_in_definition g.definitions ++ flat_map pairs_in_rule g.rules

-- the pairs behind references
abbrev pub pairs_behind : {A : Type 0} → List (Bor (PairAtom A)) → List (Pair A)
pairs_behind found = map (λ p. pair_of p.now) found

-- the leaves of a side, of a pair and of a grammar, in the order of their places
abbrev pub leaves_in_side : {A : Type 0} → Side A → List A
leaves_in_side (one leaf) = leaf ∷ []
leaves_in_side nothing = []
leaves_in_side anything = []
leaves_in_side (member set) = []

abbrev pub leaves_in_pair : {A : Type 0} → Pair A → List A
leaves_in_pair p = leaves_in_side p.up ++ leaves_in_side p.low

abbrev pub leaves_in : {A : Type 0} → Grammar A → List A
leaves_in g = flat_map leaves_in_pair g.pairs ++ flat_map (λ s. s.symbols) g.sets ++ flat_map leaves_in_pair (pairs_below g)

-- the symbols that stand in a grammar are those of these leaves
abbrev pub SymbolsAreOfLeaves : Type 0
SymbolsAreOfLeaves = (grammar : Grammar Raw) → grammar_symbols (resolved_grammar grammar) ≡ flat_map (λ raw. symbol_in (symbol_of raw)) (leaves_in grammar)
