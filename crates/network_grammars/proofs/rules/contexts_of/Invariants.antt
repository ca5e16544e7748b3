use Rattle.std.proofs.Common.{take}
use Rattle.network_grammars.specs.Rules.{IsContextOf, Pairwise}
use Rattle.network_grammars.proofs.rules.contexts_of.Given as goal

-- the contexts so far
abbrev pub invariant-contexts : goal.invariant-contexts
invariant-contexts l = Pairwise (IsContextOf l.scope) (take l.context-index l.contexts) l.built.items
