use Rattle.std.proofs.Common.{arith}
use Rattle.std.specs.Borrow.{Bor}
use Rattle.std.specs.List.{flat_map}
use Rattle.regex_ast.specs.declared.expr.Atom.{Atom}
use Rattle.regex_ast.specs.declared.twolc.PairPart.{PairPart}
use Rattle.expr_leaves.specs.Leaves.{seen}
use Rattle.grammar_pairs.specs.Feasible.{of_part}
use Rattle.grammar_pairs.proofs.Growing.{more_alike, row_done, row_more, seen_listed}
use Rattle.grammar_pairs.proofs.feasible.add_parts.Goals as goal

pub parts-preserved : goal.parts-preserved
parts-preserved c =
    row_more (λ (b : Bor (PairPart Atom)). of_part b.now) c.args.pairs.now.keys c.parts.pairs.keys c.add_part.new.pairs.keys c.args.parts.now c.parts.part-index c.part-item.result (omega arith) c.part-item.is c.parts.invariant c.in_ok-add_part.ensures

pub returns : goal.returns
returns c =
    more_alike c.args.pairs.now.keys c.parts.pairs.keys (flat_map (λ (b : Bor (PairPart Atom)). of_part b.now) c.args.parts.now) (flat_map of_part (seen c.args.parts.now)) (seen_listed of_part c.args.parts.now)
    (row_done (λ (b : Bor (PairPart Atom)). of_part b.now) c.args.pairs.now.keys c.parts.pairs.keys c.args.parts.now c.parts.part-index (omega arith) c.parts.invariant)
