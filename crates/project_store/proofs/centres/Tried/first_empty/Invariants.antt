use Rattle.project_store.specs.Centres.{AreClear}
use Rattle.project_store.proofs.centres.Tried.first_empty.Given as goal

-- no mark so far is set
abbrev pub invariant-marks : goal.invariant-marks
invariant-marks l = AreClear l.place l.self.empty.items
