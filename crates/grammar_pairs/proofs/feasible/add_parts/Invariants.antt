use Rattle.std.proofs.Common.{take}
use Rattle.std.specs.List.{flat_map}
use Rattle.std.specs.Borrow.{Bor}
use Rattle.regex_ast.specs.declared.expr.Atom.{Atom}
use Rattle.regex_ast.specs.declared.twolc.PairPart.{PairPart}
use Rattle.grammar_pairs.specs.Feasible.{of_part}
use Rattle.grammar_pairs.proofs.Growing.{HasMore}
use Rattle.grammar_pairs.proofs.feasible.add_parts.Given as goal

-- the pairs so far
abbrev pub invariant-parts : goal.invariant-parts
invariant-parts l = HasMore l.fn.pairs.keys l.pairs.keys (flat_map (λ (b : Bor (PairPart Atom)). of_part b.now) (take l.part-index l.parts))
