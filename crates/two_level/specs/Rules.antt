-- Two-level grammars over pairs of symbols, by the languages of their contexts (Koskenniemi, Two-level Morphology, 1983).
use Rattle.std.specs.Prelude.{◌≡◌, ◌≢◌, List, ◌++◌, Contains, Option, None, Some}
use Rattle.std.specs.Option.{option_to_list}
use Rattle.fsm_base.specs.declared.letters.Sym.{Sym}
use Rattle.fsm_base.specs.declared.letters.Pair.{Pair}
use Rattle.fsm_base.specs.declared.letters.Bound.{Bound}
use Rattle.word_relations.specs.Words.{IsOver}
use Rattle.fsa.specs.Complete.{Complete, Accepts}
use Rattle.fst_algebra.specs.Relation.{uppers, lowers}
use Rattle.regex_ast.specs.declared.twolc.RuleKind.{RuleKind}
use Rattle.expr_meaning.specs.Operators.{inner, HoldsLeft, HoldsRight}
use Rattle.network_algebra.specs.Networks.{all_letters}
use Rattle.project_meaning.specs.TwoLevel.{KeepsBy}
use Rattle.two_level.specs.declared.rule.PairContext.{PairContext}
use Rattle.two_level.specs.declared.rule.LangRule.{LangRule}

-- the letters of a language are among the edge and these pairs
abbrev pub HasLettersOf : List Pair → Complete (Bound Pair) → Type 0
HasLettersOf pairs lang = (x : Bound Pair) → Contains lang.letters x → Contains (all_letters pairs) x

-- a context is over the edge and these pairs
abbrev pub IsContextOver : List Pair → PairContext → Type 0
IsContextOver pairs c = HasLettersOf pairs c.left × HasLettersOf pairs c.right

-- a rule is about one of these pairs, with contexts over them
abbrev pub IsRuleOver : List Pair → LangRule → Type 0
IsRuleOver pairs r = Contains pairs r.pair × ((c : PairContext) → Contains r.contexts.items c → IsContextOver pairs c)

-- one of the contexts holds between the pairs before a place and those behind it
abbrev pub Holds : List PairContext → List Pair → List Pair → Type 0
Holds contexts x z = (c : PairContext) × Contains contexts c × HoldsLeft (Accepts c.left) (inner x) × HoldsRight (Accepts c.right) (inner z)

-- the string keeps a rule of this kind on this pair, with these contexts
abbrev pub KeepsPair : RuleKind → Pair → List PairContext → List Pair → Type 0
KeepsPair kind pair contexts p = KeepsBy (λ x. x.up) (λ x. x.low) (Holds contexts) kind pair p

abbrev pub Keeps : List Pair → LangRule → Type 0
Keeps p r = KeepsPair r.kind r.pair r.contexts.items p

-- the string has only these pairs, and keeps each rule
abbrev pub KeepsAll : List Pair → List LangRule → List Pair → Type 0
KeepsAll pairs rules p = IsOver pairs p × ((r : LangRule) → Contains rules r → Keeps p r)

-- a grammar relates the two sides, without zeros, of each string of feasible pairs that keeps each rule
abbrev pub GrammarRelates : List Pair → List LangRule → List Sym → List Sym → Type 0
GrammarRelates pairs rules u w = (p : List Pair) × KeepsAll pairs rules p × (uppers p ≡ u) × (lowers p ≡ w)

-- what may not stand in a context by `<=`: each other pair with the same upper symbol, and nothing where the pair inserts
abbrev pub IsOther : List Pair → Pair → Option Pair → Type 0
IsOther pairs pair None = pair.up ≡ None
IsOther pairs pair (Some other) = Contains pairs other × (other.up ≡ pair.up) × (other.low ≢ pair.low)

-- at no place of the string for which this holds stands one of these, nothing being a gap between two pairs
abbrev pub StandsNowhere : (Option Pair → Type 0) → (List Pair → List Pair → Type 0) → List Pair → Type 0
StandsNowhere Filling Place p = (x z : List Pair) (filling : Option Pair) → Filling filling → p ≡ x ++ (option_to_list filling ++ z) → Place x z → ⊥
