-- A grammar over numbers of symbols, and the same grammar over their texts.
use Rattle.std.specs.Prelude.{◌≡◌, ◌⊎◌, ◌↔◌, ℕ, List, [], ◌∷◌, map, Contains, Some}
use Rattle.std.specs.Option.{option_map}
use Rattle.fsm_base.specs.declared.letters.Sym.{Sym}
use Rattle.fsm_base.specs.declared.letters.Pair.{Pair}
use Rattle.word_relations.specs.Words.{IsOver}
use Rattle.project_meaning.specs.Trees.{Rule, Grammar}
use Rattle.project_meaning.specs.Leaves.{Leaf}
use Rattle.project_meaning.specs.Grammars.{Letter, feasible, written_pair, Holds as HoldsInTexts, GrammarRelates as RelatesTexts}
use Rattle.two_level.specs.Rules.{Holds, IsRuleOver, GrammarRelates}
use Rattle.two_level.specs.declared.rule.LangRule.{LangRule}

-- the pair of the texts
abbrev pub spelled : (Sym → List ℕ) → Pair → Letter
spelled text x = record { up = option_map text x.up; low = option_map text x.low }

-- the symbol stands in one of the pairs
abbrev pub StandsIn : List Pair → Sym → Type 0
StandsIn pairs symbol = (x : Pair) × Contains pairs x × ((x.up ≡ Some symbol) ⊎ (x.low ≡ Some symbol))

-- the rule is of the same kind on the same pair, and its contexts hold in the same places
pub record IsRuleFor (text : Sym → List ℕ) (g : Grammar Leaf) (pairs : List Pair) (r : Rule Leaf) (rule : LangRule) : Type 0 where
  pub kind : rule.kind ≡ r.kind
  pub centre : written_pair r.centre ≡ spelled text rule.pair ∷ []
  pub contexts : (x z : List Pair) → IsOver pairs x → IsOver pairs z → Holds rule.contexts.items x z ↔ HoldsInTexts g r.contexts (map (spelled text) x) (map (spelled text) z)

-- the pairs and rules are those of the grammar, each symbol by its text
pub record StandsFor (text : Sym → List ℕ) (g : Grammar Leaf) (pairs : List Pair) (rules : List LangRule) : Type 0 where
  pub apart : (a b : Sym) → StandsIn pairs a → StandsIn pairs b → text a ≡ text b → a ≡ b
  pub pairs_are : (x : Letter) → Contains (feasible g) x ↔ Contains (map (spelled text) pairs) x
  pub over : (rule : LangRule) → Contains rules rule → IsRuleOver pairs rule
  pub rules_are : (r : Rule Leaf) → Contains g.rules r → (rule : LangRule) × Contains rules rule × IsRuleFor text g pairs r rule
  pub rules_only : (rule : LangRule) → Contains rules rule → (r : Rule Leaf) × Contains g.rules r × IsRuleFor text g pairs r rule

-- what it relates is what the grammar relates, each symbol by its text
abbrev pub GrammarIsSpelled : Type 0
GrammarIsSpelled =
    (text : Sym → List ℕ) (g : Grammar Leaf) (pairs : List Pair) (rules : List LangRule) → StandsFor text g pairs rules → (u w : List (List ℕ))
    → RelatesTexts g u w ↔ ((x : List Sym) × (y : List Sym) × (u ≡ map text x) × (w ≡ map text y) × GrammarRelates pairs rules x y)
