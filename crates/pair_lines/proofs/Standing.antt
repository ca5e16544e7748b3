-- Rules that are ready to be tried are those of the grammar that they are made of.
use Rattle.std.proofs.Common.{◌≡◌, ◌<◌, ◌^◌, ◌↔◌, ℕ, List, [], ◌∷◌, map, length, refl, ap, sym, ◌∙◌}
use Rattle.std.specs.List.{Contains}
use Rattle.std.proofs.lemmas.List.{length-map}
use Rattle.std.proofs.lemmas.List.Elements.{All-contains}
use Rattle.fsm_base.specs.Alphabet.{IsAlphabet, symbols_of, text_of}
use Rattle.fsm_base.specs.declared.letters.Pair.{Pair}
use Rattle.fsm_base.specs.declared.letters.Sym.{Sym}
use Rattle.regex_ast.specs.declared.expr.Atom.{Atom}
use Rattle.regex_ast.specs.declared.twolc.Grammar.{Grammar as GrammarOf}
use Rattle.regex_ast.specs.declared.twolc.TwoLevelRule.{TwoLevelRule}
use Rattle.grammar_pairs.specs.Feasible.{feasible}
use Rattle.grammar_pairs.specs.Mapped.{mapped_rule}
use Rattle.grammar_pairs.specs.Plain.{grammar_of, rule_of}
use Rattle.grammar_pairs.specs.Texts.{IsPairOver, in_text, in_texts}
use Rattle.network_grammars.specs.Meaning.{IsOverSymbols}
use Rattle.pair_test.specs.Ready.{AreTests}
use Rattle.project_meaning.specs.Leaves.{Leaf}
use Rattle.project_meaning.specs.Trees.{Rule}
use Rattle.pair_lines.specs.Ready.{AreOfGrammar, AreReady, AreRulesOf, HasNumbers, PairRulesView}
use Rattle.pair_lines.specs.declared.grammar_rules.RulesOf.{RulesOf}

abbrev pub names_in : GrammarOf Atom → List (List ℕ)
names_in g = map (λ (r : TwoLevelRule Atom). r.name) g.rules.items

-- a rule keeps its name where its symbols are texts
same_names : (text : Sym → List ℕ) (rules : List (TwoLevelRule Atom)) → map (λ (r : TwoLevelRule Atom). r.name) rules ≡ map (λ (r : Rule Leaf). r.name) (map (mapped_rule (in_text text)) (map rule_of rules))
same_names text [] = refl
same_names text (r ∷ rules) = ap (λ (z : List (List ℕ)). r.name ∷ z) (same_names text rules)

module _ (g : GrammarOf Atom) (made : RulesOf) (are : AreRulesOf g made) (ready : PairRulesView) (tests : AreTests made.pairs.items made.rules.items ready.tests) (pairs : (x : Pair) → Contains ready.pairs x ↔ Contains (feasible g) x) (named : ready.rules ≡ names_in g) where
  pub are_ready : length ready.rules < 2 ^ 32 → AreReady ready
  are_ready few = record {
    few = few;
    over = λ x h. (tests.pairs_are x).1 ((are.pairs_are x).1 ((pairs x).0 h));
    made = (made.pairs.items, made.rules.items, tests, are.count ∙ sym (ap (λ (z : List (List ℕ)). length z) named ∙ length-map g.rules.items (λ (r : TwoLevelRule Atom). r.name)));
  }

  pub are_of_grammar : (alphabet : List (Sym × List ℕ)) → IsAlphabet alphabet → HasNumbers alphabet ready.numbers → IsOverSymbols (symbols_of alphabet) g → AreOfGrammar (in_texts (text_of alphabet) (grammar_of g)) ready
  are_of_grammar alphabet formed numbers over = record {
    alphabet = alphabet;
    formed = formed;
    numbers = numbers;
    over = λ x h. All-contains (IsPairOver (symbols_of alphabet)) (feasible g) x over ((pairs x).0 h);
    pairs = made.pairs.items;
    pairs_are = λ x. (λ h. (are.pairs_are x).1 ((pairs x).0 h), λ h. (pairs x).1 ((are.pairs_are x).0 h));
    rules = made.rules.items;
    tests = tests;
    stand = are.stand alphabet formed over;
    named = named ∙ same_names (text_of alphabet) g.rules.items;
  }
