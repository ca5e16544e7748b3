use Rattle.std.proofs.Common.{◌≡◌, map, take}
use Rattle.project_store.proofs.project.Project.names.Given as goal

-- the names of the definitions so far
abbrev pub invariant-definitions : goal.invariant-definitions
invariant-definitions l = l.names.items ≡ map (λ d. d.name) (take l.definition-index l.definition-items)
