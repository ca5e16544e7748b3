use Rattle.std.proofs.Common.{◌≡◌, ◌++◌, drop}
use Rattle.std.specs.List.{flat_map}
use Rattle.name_resolution.specs.Symbols.{terms_behind}
use Rattle.project_definitions.specs.Referring.{places_in}
use Rattle.project_definitions.proofs.references.add_places_of_each.Given as goal

-- the places in the other expressions are left
abbrev pub invariant-exprs : goal.invariant-exprs
invariant-exprs l =
    l.places.items ++ flat_map (places_in l.count) (terms_behind (drop l.expr-index l.exprs)) ≡ l.fn.places.items ++ flat_map (places_in l.count) (terms_behind l.exprs)
