use Rattle.network_algebra.specs.Networks.{UsesOnly}
use Rattle.network_trials.proofs.replace_parts.row_of.Given as goal

abbrev pub invariant-atoms : goal.invariant-atoms
invariant-atoms l = UsesOnly l.letters l.row
