use Rattle.std.proofs.Common.{All, take}
use Rattle.expr_leaves.specs.Leaves.{seen}
use Rattle.project_store.specs.Centres.{HasNoNetwork}
use Rattle.project_store.proofs.centres.lacks_part.Given as goal

-- no leaf so far is without network
abbrev pub invariant-leaves : goal.invariant-leaves
invariant-leaves l = All (λ leaf. HasNoNetwork l.built leaf → ⊥) (seen (take l.leaf-index l.leaf-items))
