use Rattle.std.proofs.lemmas.Result.{on_ok_weaker}
use Rattle.grammar_pairs.specs.Feasible.{of_expression}
use Rattle.grammar_pairs.proofs.Growing.{more_twice}
use Rattle.grammar_pairs.proofs.feasible.add_context.Goals as goal

pub returns : goal.returns
returns c =
    on_ok_weaker c.add_expression-2.result
    (more_twice c.args.pairs.now.keys c.add_expression.new.pairs.keys c.add_expression-2.new.pairs.keys (of_expression c.args.context.now.left) (of_expression c.args.context.now.right) c.in_ok-add_expression.ensures)
    c.add_expression-2.ensures
