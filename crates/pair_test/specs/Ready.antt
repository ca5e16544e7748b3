-- Tests that are made of the rules of a grammar.
use Rattle.std.specs.Prelude.{◌≡◌, ◌↔◌, List, [], ◌∷◌, Contains, reverse}
use Rattle.fsm_base.specs.declared.letters.Pair.{Pair}
use Rattle.fsm_base.specs.declared.letters.Bound.{Bound}
use Rattle.word_relations.specs.Words.{IsOver}
use Rattle.fsa.specs.Complete.{Accepts}
use Rattle.expr_meaning.specs.Operators.{HasPrefix, HasSuffix}
use Rattle.two_level.specs.declared.rule.LangRule.{LangRule}
use Rattle.two_level.specs.declared.rule.PairContext.{PairContext}
use Rattle.pair_test.specs.Tests.{placed_letters}
use Rattle.pair_test.specs.declared.ready.ContextTest.{ContextTest}
use Rattle.pair_test.specs.declared.ready.RuleTest.{RuleTest}

-- the elements of two lists, one by one
abbrev pub Pairwise : {A B : Type 0} → (A → B → Type 0) → List A → List B → Type 0
Pairwise R [] [] = Unit {0}
Pairwise R (x ∷ xs) (y ∷ ys) = R x y × Pairwise R xs ys
Pairwise R _ _ = ⊥

-- the languages of a context are over these letters
abbrev pub IsWithin : List (Bound Pair) → PairContext → Type 0
IsWithin letters c = ((x : Bound Pair) → Contains c.left.letters x → Contains letters x) × ((x : Bound Pair) → Contains c.right.letters x → Contains letters x)

-- a context's automata over these letters: of the strings that have an end in the left part, and of those that have, read
-- backwards, a beginning in the right part
pub record IsContextTest (letters : List (Bound Pair)) (c : PairContext) (t : ContextTest) : Type 0 where
  pub before_letters : t.before.letters ≡ letters
  pub behind_letters : t.behind.letters ≡ letters
  pub before : (w : List (Bound Pair)) → IsOver letters w → Accepts t.before w ↔ HasSuffix (Accepts c.left) w
  pub behind : (w : List (Bound Pair)) → IsOver letters w → Accepts t.behind w ↔ HasPrefix (Accepts c.right) (reverse w)

-- the test of a rule
pub record IsRuleTest (letters : List (Bound Pair)) (r : LangRule) (t : RuleTest) : Type 0 where
  pub pair : t.pair ≡ r.pair
  pub kind : t.kind ≡ r.kind
  pub contexts : Pairwise (IsContextTest letters) r.contexts.items t.contexts.items

-- feasible pairs, each once, and the tests of rules on strings of them
pub record TestsView : Type 0 where
  pub pairs : List Pair
  pub rules : List RuleTest

-- the tests of these rules over these pairs
pub record AreTests (pairs : List Pair) (rules : List LangRule) (tests : TestsView) : Type 0 where
  pub pairs_are : (x : Pair) → Contains tests.pairs x ↔ Contains pairs x
  pub rules_are : Pairwise (IsRuleTest (placed_letters tests.pairs)) rules tests.rules

-- all automata are over the pairs
abbrev pub AreOverPairs : TestsView → Type 0
AreOverPairs tests = (t : RuleTest) → Contains tests.rules t → (c : ContextTest) → Contains t.contexts.items c → (c.before.letters ≡ placed_letters tests.pairs) × (c.behind.letters ≡ placed_letters tests.pairs)
