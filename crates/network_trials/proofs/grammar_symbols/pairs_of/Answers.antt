use Rattle.std.proofs.Common.{List, sym, subst}
use Rattle.std.specs.List.{Contains}
use Rattle.fsm_base.specs.declared.letters.Pair.{Pair}
use Rattle.word_relations.specs.Words.{IsDistinct}
use Rattle.network_trials.specs.Pairs.{IsPairOver}
use Rattle.network_trials.proofs.Lists.{all_more, distinct_more}
use Rattle.network_trials.proofs.grammar_symbols.pairs_of.Goals as goal

pub pairs-preserved-in-Continue-1 : goal.pairs-preserved-in-Continue-1
pairs-preserved-in-Continue-1 c =
    let alphabet = c.args.symbols.now.alphabet in
    let pair = c.pair_of-pair.result in
    subst (λ (l : List Pair). IsDistinct l × ((x : Pair) → Contains l x → IsPairOver alphabet x)) (sym c.in_ok-push.ensures.items)
    (distinct_more c.pairs.pairs.items pair c.pairs.invariant.0 (λ h. c.is_wanted.ensures.new c.if-is_wanted.true (subst (λ (l : List Pair). Contains l pair) (sym c.deref.ensures.value) h)), all_more (IsPairOver alphabet) c.pairs.pairs.items pair c.pairs.invariant.1 (c.is_wanted.ensures.over c.if-is_wanted.true))
