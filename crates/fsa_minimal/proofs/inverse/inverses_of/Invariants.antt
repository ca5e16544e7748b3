use Rattle.fsa_minimal.specs.Inverses.{AreInverses}
use Rattle.fsa_minimal.proofs.inverse.inverses_of.Given as goal

abbrev pub invariant-loop-place : goal.invariant-loop-place
invariant-loop-place g l = AreInverses l.a l.inverses.items
