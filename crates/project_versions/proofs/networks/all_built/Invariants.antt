use Rattle.std.proofs.Common.{length}
use Rattle.project_store.proofs.Networks.{BuiltSoFar}
use Rattle.project_versions.proofs.networks.all_built.Given as goal

-- the networks so far
abbrev pub invariant-order : goal.invariant-order
invariant-order l = BuiltSoFar l.project l.order (length l.project.definitions) l.initial.built.items l.next-index l.built.items
