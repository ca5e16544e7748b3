use Rattle.std.proofs.Common.{◌≡◌, ◌∷◌, take}
use Rattle.editor_session.specs.Endings.{endings_in, worst}
use Rattle.editor_session.proofs.working.ending_of.Given as goal

-- the worst of the endings so far
abbrev pub invariant-lanes : goal.invariant-lanes
invariant-lanes g l = l.ending ≡ worst (l.fn.editor ∷ endings_in (take l.lane-index l.fn.lanes))
