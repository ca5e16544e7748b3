use Rattle.std.proofs.Common.{arith}
use Rattle.fsa.proofs.Arcs.{arcs_letters, arcs_not_epsilon, arcs_language}
use Rattle.fsa.proofs.complete.Dfa.to_fsa.Goals as goal

pub returns-clause-letters : goal.returns-clause-letters
returns-clause-letters g c =
    arcs_letters c.args.self.now c.states-state-end.ensures.complete c.loop-state.fsa c.loop-state.invariant.0 c.loop-state.state (omega arith) c.loop-state.invariant.1

pub returns-clause-epsilon : goal.returns-clause-epsilon
returns-clause-epsilon g c =
    arcs_not_epsilon c.args.self.now c.states-state-end.ensures.complete c.loop-state.fsa c.loop-state.invariant.0 c.loop-state.state (omega arith) c.loop-state.invariant.1

pub returns-clause-language : goal.returns-clause-language
returns-clause-language g c =
    arcs_language c.args.self.now c.states-state-end.ensures.complete c.loop-state.fsa c.loop-state.invariant.0 c.loop-state.state (omega arith) c.loop-state.invariant.1
