use Rattle.twolc_expressions.specs.Reading.{link_before, links_made}
use Rattle.twolc_expressions.proofs.Made.{SoFar, each_made, term_before}
use Rattle.twolc_expressions.proofs.over_pairs.+over_pairs.Given as goal

-- what was made, and what is left to make

abbrev pub invariant-each_over_pairs-operands : goal.invariant-each_over_pairs-operands
invariant-each_over_pairs-operands l = SoFar term_before (each_made l.names) l.operands l.operand-index l.found.items

abbrev pub invariant-links_over_pairs-links : goal.invariant-links_over_pairs-links
invariant-links_over_pairs-links l = SoFar link_before (links_made l.names) l.links l.link-index l.found.items
