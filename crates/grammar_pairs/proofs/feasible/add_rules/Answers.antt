use Rattle.std.proofs.Common.{arith}
use Rattle.grammar_pairs.specs.Feasible.{of_rule}
use Rattle.grammar_pairs.proofs.Growing.{row_done, row_more}
use Rattle.grammar_pairs.proofs.feasible.add_rules.Goals as goal

pub rules-preserved : goal.rules-preserved
rules-preserved c =
    row_more of_rule c.args.pairs.now.keys c.rules.pairs.keys c.add_rule.new.pairs.keys c.args.rules.now c.rules.rule-index c.rule-item.result (omega arith) c.rule-item.is c.rules.invariant c.in_ok-add_rule.ensures

pub returns : goal.returns
returns c = row_done of_rule c.args.pairs.now.keys c.rules.pairs.keys c.args.rules.now c.rules.rule-index (omega arith) c.rules.invariant
