use Rattle.std.proofs.Common.{◌↔◌, drop, length}
use Rattle.std.specs.List.{flat_map}
use Rattle.name_resolution.specs.Symbols.{terms_behind}
use Rattle.project_definitions.specs.Referring.{places_in}
use Rattle.touched_names.specs.Places.{HasMarked}
use Rattle.touched_names.proofs.bodies.one_refers.Given as goal

-- none so far does, so it turns on the others
abbrev pub invariant-exprs : goal.invariant-exprs
invariant-exprs l = HasMarked l.marks (flat_map (places_in (length l.marks)) (terms_behind (drop l.expr-index l.exprs))) ↔ HasMarked l.marks (flat_map (places_in (length l.marks)) (terms_behind l.exprs))
