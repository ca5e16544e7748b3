-- The rules that are made of a grammar, in its order.
use Rattle.std.proofs.Common.{◌≡◌, ◌↔◌, ℕ, List, [], ◌∷◌, map, reverse, subst, sym}
use Rattle.std.specs.List.{Contains}
use Rattle.fsm_base.specs.Alphabet.{IsAlphabet, symbols_of, text_of}
use Rattle.fsm_base.specs.declared.letters.Pair.{Pair}
use Rattle.fsm_base.specs.declared.letters.Sym.{Sym}
use Rattle.word_relations.specs.Words.{IsDistinct}
use Rattle.word_relations.proofs.Members.{Contains-head, Contains-tail}
use Rattle.regex_ast.specs.declared.expr.Atom.{Atom}
use Rattle.regex_ast.specs.declared.twolc.Grammar.{Grammar as GrammarOf}
use Rattle.regex_ast.specs.declared.twolc.TwoLevelRule.{TwoLevelRule}
use Rattle.grammar_pairs.specs.Feasible.{feasible}
use Rattle.grammar_pairs.specs.Mapped.{mapped_rule}
use Rattle.grammar_pairs.specs.Plain.{IsFormed, definition_of, grammar_of, rule_of}
use Rattle.grammar_pairs.specs.Texts.{in_text, in_texts}
use Rattle.grammar_pairs.proofs.Spelled.{own_texts}
use Rattle.network_grammars.specs.Built.{IsBuilt}
use Rattle.network_grammars.specs.Meaning.{IsOverSymbols}
use Rattle.network_grammars.specs.PairMeaning.{IsScope}
use Rattle.network_grammars.specs.Rules.{IsRuleOf, Pairwise}
use Rattle.network_grammars.specs.declared.scope.Scope.{Scope}
use Rattle.network_grammars.proofs.Grammared.{begun, rule_for, rule_over, stands_for}
use Rattle.project_meaning.specs.Leaves.{Leaf}
use Rattle.project_meaning.specs.Trees.{Rule}
use Rattle.two_level.specs.Rules.{IsRuleOver}
use Rattle.two_level.specs.Spelled.{IsRuleFor}
use Rattle.two_level.specs.declared.rule.LangRule.{LangRule}
use Rattle.pair_lines.specs.Ready.{AreRulesOf, StandInOrder}
use Rattle.pair_lines.specs.declared.grammar_rules.RulesOf.{RulesOf}
use Rattle.pair_lines.proofs.Verdicts.{pair_length}

module _ (g : GrammarOf Atom) (formed : IsFormed (grammar_of g)) (scope : Scope) (is_scope : IsScope scope) (built : IsBuilt g (reverse (map definition_of g.definitions.items)) scope) (made : RulesOf) (ruled : Pairwise (IsRuleOf scope) g.rules.items made.rules.items)
    (pairs_are : made.pairs.items ≡ scope.pairs) where
  module _ (alphabet : List (Sym × List ℕ)) (named : IsAlphabet alphabet) (over : IsOverSymbols (symbols_of alphabet) g) where
    abbrev IsFor : Rule Leaf → LangRule → Type 0
    IsFor r rule = IsRuleFor (text_of alphabet) (in_texts (text_of alphabet) (grammar_of g)) scope.pairs r rule

    ordered : (rs : List (TwoLevelRule Atom)) (ls : List LangRule) → ((r : TwoLevelRule Atom) → Contains rs r → Contains g.rules.items r) → Pairwise (IsRuleOf scope) rs ls
        → Pairwise IsFor (map (mapped_rule (in_text (text_of alphabet))) (map rule_of rs)) ls
    ordered [] [] among all = tt
    ordered [] (l ∷ ls) among all = absurd all
    ordered (r ∷ rs) [] among all = absurd all
    ordered (r ∷ rs) (l ∷ ls) among (first, rest) = (
      rule_for (text_of alphabet) g formed (symbols_of alphabet) (own_texts alphabet named) scope is_scope built over made.rules.items ruled r l (among r (Contains-head r rs)) first,
      ordered rs ls (λ z h. among z (Contains-tail r rs z h)) rest,
    )

    stand_in_order : StandInOrder (text_of alphabet) (in_texts (text_of alphabet) (grammar_of g)) made.pairs.items made.rules.items
    stand_in_order =
        subst (λ (P : List Pair). StandInOrder (text_of alphabet) (in_texts (text_of alphabet) (grammar_of g)) P made.rules.items) (sym pairs_are) (
          stands_for (text_of alphabet) g formed (symbols_of alphabet) (own_texts alphabet named) scope is_scope built over made.rules.items ruled,
          ordered g.rules.items made.rules.items (λ r h. h) ruled,
        )

  pub rules_are : AreRulesOf g made
  rules_are = record {
    distinct = subst IsDistinct (sym pairs_are) is_scope.distinct;
    pairs_are = subst (λ (P : List Pair). (x : Pair) → Contains P x ↔ Contains (feasible g) x) (sym pairs_are) (begun g (reverse (map definition_of g.definitions.items)) scope built).0;
    count = sym (pair_length (IsRuleOf scope) g.rules.items made.rules.items ruled);
    over = subst (λ (P : List Pair). (rule : LangRule) → Contains made.rules.items rule → IsRuleOver P rule) (sym pairs_are) (rule_over g scope built made.rules.items ruled);
    stand = stand_in_order;
  }
