use Rattle.std.proofs.Common.{◌≡◌, length, map, take}
use Rattle.name_order.specs.Graph.{graph_of}
use Rattle.project_definitions.specs.Plain.{body_of}
use Rattle.project_definitions.specs.Referring.{body_places}
use Rattle.project_definitions.proofs.references.references_of.Given as goal

-- the definitions so far
abbrev pub invariant-definitions : goal.invariant-definitions
invariant-definitions l = graph_of l.references.items ≡ map (λ d. body_places (length l.definitions) (body_of d.body)) (take l.definition-index l.definitions)
