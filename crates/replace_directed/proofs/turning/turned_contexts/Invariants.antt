use Rattle.std.proofs.Common.{take}
use Rattle.replace_directed.specs.Turned.{AreMatched, IsTurnedContext}
use Rattle.replace_directed.proofs.turning.turned_contexts.Given as goal

abbrev pub invariant-loop-context : goal.invariant-loop-context
invariant-loop-context l = AreMatched IsTurnedContext (take l.context-index l.contexts) l.turned.items
