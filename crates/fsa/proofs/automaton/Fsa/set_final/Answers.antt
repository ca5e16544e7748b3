use Rattle.std.proofs.Common.{arith}
use Rattle.std.proofs.lemmas.List.{length-set}
use Rattle.fsa.proofs.Formed.{IsWellFormed-longer}
use Rattle.fsa.proofs.automaton.Fsa.set_final.Goals as goal

pub invariant_of-self : goal.invariant_of-self
invariant_of-self g c = IsWellFormed-longer _ _ c.self.invariant (simp length-set (omega arith))
