-- The rules of a grammar over numbers of symbols, made ready to be tried, and the grammar in texts whose rules they are.
use Rattle.std.specs.Prelude.{◌≡◌, ◌<◌, ◌^◌, ◌↔◌, ℕ, List, Contains, Some, length, map}
use Rattle.fsm_base.specs.Alphabet.{IsAlphabet, symbols_of, text_of}
use Rattle.fsm_base.specs.declared.letters.Pair.{Pair}
use Rattle.fsm_base.specs.declared.letters.Sym.{Sym}
use Rattle.word_relations.specs.Words.{IsDistinct}
use Rattle.regex_ast.specs.declared.expr.Atom.{Atom}
use Rattle.regex_ast.specs.declared.twolc.Grammar.{Grammar as GrammarOf}
use Rattle.grammar_pairs.specs.Feasible.{feasible}
use Rattle.grammar_pairs.specs.Plain.{grammar_of}
use Rattle.grammar_pairs.specs.Tables.{under}
use Rattle.grammar_pairs.specs.Texts.{IsPairOver, in_texts}
use Rattle.network_grammars.specs.Meaning.{IsOverSymbols}
use Rattle.network_grammars.specs.Rules.{Pairwise}
use Rattle.pair_test.specs.Ready.{AreTests, TestsView}
use Rattle.project_meaning.specs.Leaves.{Leaf}
use Rattle.project_meaning.specs.Projects.{Project}
use Rattle.project_meaning.specs.Trees.{Grammar}
use Rattle.two_level.specs.Rules.{IsRuleOver}
use Rattle.two_level.specs.Spelled.{IsRuleFor, StandsFor}
use Rattle.two_level.specs.declared.rule.LangRule.{LangRule}
use Rattle.pair_lines.specs.Replies.{HasGrammar}
use Rattle.pair_lines.specs.declared.grammar_rules.RulesOf.{RulesOf}

-- the pairs and rules are those of the grammar, each symbol by its text, and the rules in its order
abbrev pub StandInOrder : (Sym → List ℕ) → Grammar Leaf → List Pair → List LangRule → Type 0
StandInOrder text g pairs rules = StandsFor text g pairs rules × Pairwise (IsRuleFor text g pairs) g.rules rules

-- the feasible pairs of a grammar, each once, and its rules over them. They are those of the grammar in texts by the texts of each
-- alphabet that has its symbols
pub record AreRulesOf (grammar : GrammarOf Atom) (made : RulesOf) : Type 0 where
  pub distinct : IsDistinct made.pairs.items
  pub pairs_are : (x : Pair) → Contains made.pairs.items x ↔ Contains (feasible grammar) x
  pub count : length made.rules.items ≡ length grammar.rules.items
  pub over : (rule : LangRule) → Contains made.rules.items rule → IsRuleOver made.pairs.items rule
  pub stand : (alphabet : List (Sym × List ℕ)) → IsAlphabet alphabet → IsOverSymbols (symbols_of alphabet) grammar
      → StandInOrder (text_of alphabet) (in_texts (text_of alphabet) (grammar_of grammar)) made.pairs.items made.rules.items

-- the table has the symbol of each text of an alphabet
abbrev pub HasNumbers : List (Sym × List ℕ) → List (List ℕ × Sym) → Type 0
HasNumbers alphabet table = (text : List ℕ) (s : Sym) → (under text table ≡ Some s) ↔ Contains alphabet (s, text)

-- the rules of a name, ready to be tried: the numbers of texts, the feasible pairs, the tests of the rules, and their names
pub record PairRulesView : Type 0 where
  pub name : List ℕ
  pub numbers : List (List ℕ × Sym)
  pub pairs : List Pair
  pub tests : TestsView
  pub rules : List (List ℕ)

-- the tests are on strings of the pairs, and of as many rules as there are names
pub record AreReady (ready : PairRulesView) : Type 0 where
  pub few : length ready.rules < 2 ^ 32
  pub over : (x : Pair) → Contains ready.pairs x → Contains ready.tests.pairs x
  pub made : (pairs : List Pair) × (rules : List LangRule) × AreTests pairs rules ready.tests × (length rules ≡ length ready.rules)

-- they are the rules of this grammar, by the texts of an alphabet that has its symbols
pub record AreOfGrammar (g : Grammar Leaf) (ready : PairRulesView) : Type 0 where
  pub alphabet : List (Sym × List ℕ)
  pub formed : IsAlphabet alphabet
  pub numbers : HasNumbers alphabet ready.numbers
  pub over : (x : Pair) → Contains ready.pairs x → IsPairOver (symbols_of alphabet) x
  pub pairs : List Pair
  pub pairs_are : (x : Pair) → Contains ready.pairs x ↔ Contains pairs x
  pub rules : List LangRule
  pub tests : AreTests pairs rules ready.tests
  pub stand : StandInOrder (text_of alphabet) g pairs rules
  pub named : ready.rules ≡ map (λ r. r.name) g.rules

-- they are the rules of the name in a project
abbrev pub ShowsRules : PairRulesView → Project → Type 0
ShowsRules ready project = (g : Grammar Leaf) × HasGrammar project ready.name g × AreOfGrammar g ready
