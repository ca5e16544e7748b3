use Rattle.network_algebra.specs.Networks.{UsesOnly}
use Rattle.network_trials.proofs.replace_parts.part_of.Given as goal

abbrev pub invariant-words : goal.invariant-words
invariant-words l = UsesOnly l.letters l.part
