use Rattle.std.proofs.Common.{arith}
use Rattle.grammar_pairs.specs.Feasible.{of_context}
use Rattle.grammar_pairs.proofs.Growing.{row_done, row_more}
use Rattle.grammar_pairs.proofs.feasible.add_contexts.Goals as goal

pub contexts-preserved : goal.contexts-preserved
contexts-preserved c =
    row_more of_context c.args.pairs.now.keys c.contexts.pairs.keys c.add_context.new.pairs.keys c.args.contexts.now c.contexts.context-index c.context-item.result (omega arith) c.context-item.is c.contexts.invariant c.in_ok-add_context.ensures

pub returns : goal.returns
returns c = row_done of_context c.args.pairs.now.keys c.contexts.pairs.keys c.args.contexts.now c.contexts.context-index (omega arith) c.contexts.invariant
