use Rattle.std.proofs.Common.{List, sym, subst, ◌∙◌}
use Rattle.std.specs.List.{Contains}
use Rattle.fsm_base.specs.declared.letters.Pair.{Pair}
use Rattle.two_level.specs.Rules.{IsRuleOver}
use Rattle.two_level.specs.declared.rule.LangRule.{LangRule}
use Rattle.lookup.specs.Answering.{IsOverAlphabet}
use Rattle.network_trials.proofs.Over.{over_pairs}
use Rattle.network_trials.proofs.grammar_rows.network.Goals as goal

pub returns : goal.returns
returns c =
    let only = rw c.deref-2.ensures.value at c.in_ok-fsa.ensures.pairs in
    subst (IsOverAlphabet c.args.symbols.now.alphabet) (sym c.in_ok-net.ensures) (over_pairs c.args.symbols.now.alphabet c.in_ok-pairs.pairs.items c.in_ok-fsa.fsa c.in_ok-pairs.ensures.over only)

pub grammar-requires-clause-rules : goal.grammar-requires-clause-rules
grammar-requires-clause-rules c r among =
    subst (λ (ps : List Pair). IsRuleOver ps r) (c.deref.ensures.value ∙ sym c.deref-2.ensures.value) (c.in_ok-rules.ensures r (subst (λ (rs : List LangRule). Contains rs r) c.deref-3.ensures.value among))
