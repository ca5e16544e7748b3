use Rattle.std.proofs.Common.{◌≡◌, All, take}
use Rattle.project_store.proofs.project.Project.find.Given as goal

-- no definition so far has the name
abbrev pub invariant-definitions : goal.invariant-definitions
invariant-definitions l = All (λ d. d.name ≡ l.name → ⊥) (take l.place l.all)
