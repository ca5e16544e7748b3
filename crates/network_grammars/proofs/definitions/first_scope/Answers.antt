use Rattle.network_grammars.proofs.Defined.{first_begun, first_scope}
use Rattle.network_grammars.proofs.definitions.first_scope.Goals as goal

pub returns-clause-scope : goal.returns-clause-scope
returns-clause-scope c = first_scope _ c.as_slice.ensures.distinct c.in_ok-numbers.ensures c.new.ensures

pub returns-clause-begun : goal.returns-clause-begun
returns-clause-begun c = first_begun c.args.grammar.now _ c.in_ok-pairs.ensures (rw c.deref.ensures.value at c.in_ok-sets.ensures) c.new.ensures
