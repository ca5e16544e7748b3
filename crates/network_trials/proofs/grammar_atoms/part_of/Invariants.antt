use Rattle.network_algebra.specs.Networks.{UsesOnly}
use Rattle.network_trials.proofs.grammar_atoms.part_of.Given as goal

abbrev pub invariant-atoms : goal.invariant-atoms
invariant-atoms l = UsesOnly l.letters l.part
