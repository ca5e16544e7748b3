-- The names of definitions, by their places.
use Rattle.std.specs.Prelude.{ℕ, List, [], map}
use Rattle.std.specs.List.{slice_index_or}
use Rattle.project_definitions.specs.declared.definition.Definition.{Definition}

abbrev pub name_at : List Definition → ℕ → List ℕ
name_at definitions place = slice_index_or (map (λ d. d.name) definitions) place []
