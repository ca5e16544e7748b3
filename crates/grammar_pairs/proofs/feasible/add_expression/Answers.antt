use Rattle.std.proofs.Common.{ap, ◌∙◌}
use Rattle.std.proofs.lemmas.Result.{on_ok_weaker}
use Rattle.std.specs.List.{flat_map}
use Rattle.expr_leaves.specs.Leaves.{seen}
use Rattle.grammar_pairs.specs.Feasible.{of_expression, of_part}
use Rattle.grammar_pairs.proofs.Growing.{more_alike}
use Rattle.grammar_pairs.proofs.feasible.add_expression.Goals as goal

pub returns : goal.returns
returns c =
    on_ok_weaker c.add_parts.result
    (more_alike c.args.pairs.now.keys c.add_parts.new.pairs.keys (flat_map of_part (seen c.deref.result.now)) (of_expression c.args.expr.now) (ap (flat_map of_part) (ap seen c.deref.ensures.value ∙ c.in_ok-parts.ensures)))
    c.add_parts.ensures
