use Rattle.std.proofs.Common.{arith}
use Rattle.grammar_pairs.specs.Feasible.{of_atom}
use Rattle.grammar_pairs.proofs.Growing.{row_done, row_more}
use Rattle.grammar_pairs.proofs.feasible.add_atoms.Goals as goal

pub atoms-preserved : goal.atoms-preserved
atoms-preserved c =
    row_more of_atom c.args.pairs.now.keys c.atoms.pairs.keys c.add_atom.new.pairs.keys c.args.atoms.now c.atoms.atom-index c.atom-item.result (omega arith) c.atom-item.is c.atoms.invariant c.in_ok-add_atom.ensures

pub returns : goal.returns
returns c = row_done of_atom c.args.pairs.now.keys c.atoms.pairs.keys c.args.atoms.now c.atoms.atom-index (omega arith) c.atoms.invariant
