use Rattle.std.proofs.Common.{arith, length-append}
use Rattle.fsa.proofs.Formed.{IsWellFormed-longer}
use Rattle.fsa.proofs.automaton.Fsa.add_state.Goals as goal

pub invariant_of-self-2 : goal.invariant_of-self-2
invariant_of-self-2 g c =
    rw c.in_ok-push.ensures.items (IsWellFormed-longer _ _ c.self.invariant (simp length-append (omega arith)))
