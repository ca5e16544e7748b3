use Rattle.std.proofs.Common.{◌≡◌, ◌≢◌, ◌<◌, ℕ, Some}
use Rattle.std.specs.List.{slice_get}
use Rattle.lookup.specs.declared.walk.Move.{Move}
use Rattle.lookup.proofs.walk.set_along.Given as goal

abbrev pub invariant-loop-other : goal.invariant-loop-other
invariant-loop-other l = (k : ℕ) (m : Move) → k < l.other-index → slice_get l.moves k ≡ Some m → m.byte ≢ l.byte
