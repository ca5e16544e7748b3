use Rattle.std.proofs.Common.{arith}
use Rattle.grammar_pairs.specs.Feasible.{of_definition}
use Rattle.grammar_pairs.proofs.Growing.{row_done, row_more}
use Rattle.grammar_pairs.proofs.feasible.add_definitions.Goals as goal

pub definitions-preserved : goal.definitions-preserved
definitions-preserved c =
    row_more of_definition c.args.pairs.now.keys c.definitions.pairs.keys c.add_expression.new.pairs.keys c.args.definitions.now c.definitions.definition-index c.definition-item.result (omega arith) c.definition-item.is c.definitions.invariant c.in_ok-add_expression.ensures

pub returns : goal.returns
returns c = row_done of_definition c.args.pairs.now.keys c.definitions.pairs.keys c.args.definitions.now c.definitions.definition-index (omega arith) c.definitions.invariant
