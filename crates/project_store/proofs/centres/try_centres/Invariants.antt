use Rattle.std.proofs.Common.{take}
use Rattle.project_store.proofs.Trying.{TriedSoFar}
use Rattle.project_store.proofs.centres.try_centres.Given as goal

-- what came of the definitions so far
abbrev pub invariant-order : goal.invariant-order
invariant-order l = TriedSoFar l.project l.initial.tried.built.items (take l.place-index l.front) l.tried.built.items l.tried.empty.items
